use Rattle.std.proofs.Common.{◌≡◌, ◌∷◌, set, IfOk, IfErr, subst, inl}
use Rattle.std.proofs.lemmas.Result.{IfOk-weaker}
use Rattle.heap_class.specs.declared.Refusal.TheVariants.{NoPin}
use Rattle.heap_trail.specs.declared.Action.TheVariants.{NextPiece}
use Rattle.heap_trail.specs.declared.Reply.TheVariants.{Part, Refused}
use Rattle.heap_trail.specs.Laws.{IsPieceOfLegal}
use Rattle.heap_trail.specs.Machine.{Machine, MayFail, acted}
use Rattle.heap_trail.specs.OpenPins.{HasGiven}
use Rattle.heap_trail.specs.Records.{past_of, machine_of}
use Rattle.heap_trail.proofs.PinSearch.{slot_found, pin_missing, pin_of_searched_slot_held}
use Rattle.heap_trail.proofs.GivenPieces.{held_pin_can_give, pin_holds_after_answer, given_piece_is_of_legal, pinning_set, piece_missing, piece_answered}
use Rattle.heap_trail.proofs.Machine.piece.Goals as goal

pub next_piece-requires : goal.next_piece-requires
next_piece-requires c =
    let i = c.self.inside in
    let s = c.index_mut.result.now in
    let there = slot_found c.args.pin i.pins.items c.deref.result.now c.slot_of.result c.in-Some.slot s c.deref.ensures.value c.slot_of.ensures c.in-Some.is c.index_mut.ensures.value in
    held_pin_can_give i.ids i.world (past_of i.world i.records.items) i.place s.held
    (pin_of_searched_slot_held i.ids (i.world ∷ past_of i.world i.records.items) i.place i.next i.pins.items c.in-Some.slot s c.self.invariant.1.held there.0)

pub invariant_of-self : goal.invariant_of-self
invariant_of-self c =
    let i = c.self.inside in
    let s = c.index_mut.result.now in
    let t = c.next_piece.new.self in
    let there = slot_found c.args.pin i.pins.items c.deref.result.now c.slot_of.result c.in-Some.slot s c.deref.ensures.value c.slot_of.ensures c.in-Some.is c.index_mut.ensures.value in
    let before = pin_of_searched_slot_held i.ids (i.world ∷ past_of i.world i.records.items) i.place i.next i.pins.items c.in-Some.slot s c.self.invariant.1.held there.0 in
    let after = pin_holds_after_answer i.ids i.world (past_of i.world i.records.items) i.place c.args.time s t c.next_piece.result before c.next_piece.ensures.given c.next_piece.ensures.unchanged in
    (c.self.invariant.0, pinning_set i.ids i.world i.records i.place i.next i.pins.items c.in-Some.slot s t c.self.invariant.1 there.0 c.next_piece.ensures.number after, c.self.invariant.2)

pub returns-in-Some-clause-done : goal.returns-in-Some-clause-done
returns-in-Some-clause-done c =
    let i = c.self.inside in
    let s = c.index_mut.result.now in
    let there = slot_found c.args.pin i.pins.items c.deref.result.now c.slot_of.result c.in-Some.slot s c.deref.ensures.value c.slot_of.ensures c.in-Some.is c.index_mut.ensures.value in
    subst (λ (m : Machine). IfOk c.next_piece.result (λ p. acted m (NextPiece c.args.pin c.args.time) ≡ (machine_of i.ids i.world i.records i.place i.keep i.next (set i.pins.items c.in-Some.slot c.next_piece.new.self), Part p))) c.self.view_is
    (piece_answered i.ids i.world i.records i.place i.keep i.next i.pins.items c.in-Some.slot c.args.pin c.args.time s c.next_piece.new.self c.next_piece.result
    c.self.invariant.1 there c.next_piece.ensures.number c.next_piece.ensures.given c.next_piece.ensures.refused c.next_piece.ensures.unchanged).0

pub returns-in-Some-clause-legal : goal.returns-in-Some-clause-legal
returns-in-Some-clause-legal c =
    let i = c.self.inside in
    let s = c.index_mut.result.now in
    let t = c.next_piece.new.self in
    let past = past_of i.world i.records.items in
    let there = slot_found c.args.pin i.pins.items c.deref.result.now c.slot_of.result c.in-Some.slot s c.deref.ensures.value c.slot_of.ensures c.in-Some.is c.index_mut.ensures.value in
    let held = pin_of_searched_slot_held i.ids (i.world ∷ past) i.place i.next i.pins.items c.in-Some.slot s c.self.invariant.1.held there.0 in
    subst (λ (m : Machine). IfOk c.next_piece.result (λ p. IsPieceOfLegal m.ids c.args.time p)) c.self.view_is
    (IfOk-weaker c.next_piece.result (λ p. HasGiven i.ids i.world c.args.time p s.held t.held) (λ p. IsPieceOfLegal i.ids c.args.time p)
    (λ p given. given_piece_is_of_legal i.ids i.world past i.place c.args.time p s.held t.held held given) c.next_piece.ensures.given)

pub returns-in-Some-clause-refused : goal.returns-in-Some-clause-refused
returns-in-Some-clause-refused c =
    let i = c.self.inside in
    let s = c.index_mut.result.now in
    let there = slot_found c.args.pin i.pins.items c.deref.result.now c.slot_of.result c.in-Some.slot s c.deref.ensures.value c.slot_of.ensures c.in-Some.is c.index_mut.ensures.value in
    subst (λ (m : Machine). IfErr c.next_piece.result (MayFail m (NextPiece c.args.pin c.args.time) (machine_of i.ids i.world i.records i.place i.keep i.next (set i.pins.items c.in-Some.slot c.next_piece.new.self)))) c.self.view_is
    (piece_answered i.ids i.world i.records i.place i.keep i.next i.pins.items c.in-Some.slot c.args.pin c.args.time s c.next_piece.new.self c.next_piece.result
    c.self.invariant.1 there c.next_piece.ensures.number c.next_piece.ensures.given c.next_piece.ensures.refused c.next_piece.ensures.unchanged).1

pub returns-in-None-clause-refused : goal.returns-in-None-clause-refused
returns-in-None-clause-refused c =
    let i = c.self.inside in
    inl (subst (λ (m : Machine). acted m (NextPiece c.args.pin c.args.time) ≡ (m, Refused NoPin)) c.self.view_is
    (piece_missing i.ids i.world i.records i.place i.keep i.next i.pins.items c.args.pin c.args.time (pin_missing i.world i.next c.args.pin i.pins.items c.deref.result.now c.slot_of.result c.deref.ensures.value c.slot_of.ensures c.in-None.is)))
