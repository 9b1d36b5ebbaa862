use Rattle.std.proofs.Common.{◌≡◌, ◌∷◌, Some, IfOk, IfErr, subst}
use Rattle.heap_class.specs.declared.Refusal.TheVariants.{NoPin}
use Rattle.heap_trail.specs.Machine.{Machine}
use Rattle.heap_trail.specs.Pins.{pin_at}
use Rattle.heap_trail.specs.Records.{past_of, machine_of}
use Rattle.heap_trail.specs.Views.{IsViewOf, view_refusal}
use Rattle.heap_trail.proofs.PinSearch.{slot_found, pin_found, pin_missing, pin_of_searched_slot_held}
use Rattle.heap_trail.proofs.GivenPieces.{held_pin_can_give}
use Rattle.heap_trail.proofs.ShownPins.{pin_that_gives_can_show, slot_view_is_pin_view, no_view}
use Rattle.heap_trail.proofs.Machine.pin_view.Goals as goal

pub view-requires : goal.view-requires
view-requires c =
    let i = c.self.inside in
    let s = c.index.result.now in
    let past = past_of i.world i.records.items in
    let there = slot_found c.args.pin i.pins.items c.deref.result.now c.slot_of.result c.in-Some.slot s c.deref.ensures.value c.slot_of.ensures c.in-Some.is c.index.ensures in
    pin_that_gives_can_show i.ids i.world s.held (held_pin_can_give i.ids i.world past i.place s.held
    (pin_of_searched_slot_held i.ids (i.world ∷ past) i.place i.next i.pins.items c.in-Some.slot s c.self.invariant.1.held there.0))

pub returns-in-Some-clause-view : goal.returns-in-Some-clause-view
returns-in-Some-clause-view c =
    let i = c.self.inside in
    let s = c.index.result.now in
    let there = slot_found c.args.pin i.pins.items c.deref.result.now c.slot_of.result c.in-Some.slot s c.deref.ensures.value c.slot_of.ensures c.in-Some.is c.index.ensures in
    subst (λ (m : Machine). IfOk c.view.result (λ v. IsViewOf m c.args.pin v)) c.self.view_is
    (slot_view_is_pin_view (machine_of i.ids i.world i.records i.place i.keep i.next i.pins.items) s c.args.pin c.view.result
    (pin_found i.ids (i.world ∷ past_of i.world i.records.items) i.place i.next i.world i.pins.items c.in-Some.slot s c.self.invariant.1.held there.0) there.1 c.view.ensures.view c.view.ensures.refused).0

pub returns-in-Some-clause-refused : goal.returns-in-Some-clause-refused
returns-in-Some-clause-refused c =
    let i = c.self.inside in
    let s = c.index.result.now in
    let there = slot_found c.args.pin i.pins.items c.deref.result.now c.slot_of.result c.in-Some.slot s c.deref.ensures.value c.slot_of.ensures c.in-Some.is c.index.ensures in
    subst (λ (m : Machine). IfErr c.view.result (λ e. view_refusal (pin_at c.args.pin m.pins) ≡ Some e)) c.self.view_is
    (slot_view_is_pin_view (machine_of i.ids i.world i.records i.place i.keep i.next i.pins.items) s c.args.pin c.view.result
    (pin_found i.ids (i.world ∷ past_of i.world i.records.items) i.place i.next i.world i.pins.items c.in-Some.slot s c.self.invariant.1.held there.0) there.1 c.view.ensures.view c.view.ensures.refused).1

pub returns-in-None-clause-refused : goal.returns-in-None-clause-refused
unfolding view_refusal
returns-in-None-clause-refused c =
    let i = c.self.inside in
    let m : Machine = machine_of i.ids i.world i.records i.place i.keep i.next i.pins.items in
    subst (λ (m : Machine). view_refusal (pin_at c.args.pin m.pins) ≡ Some NoPin) c.self.view_is
    (no_view m c.args.pin (pin_missing i.world i.next c.args.pin i.pins.items c.deref.result.now c.slot_of.result c.deref.ensures.value c.slot_of.ensures c.in-None.is))
