-- What a pin gives to all callers together is the text of its state.
use Rattle.std.proofs.Common.{◌≡◌, ℕ, Bool, true, false, List, [], ◌∷◌, ◌++◌, map, append-nil, refl, sym, ap, ◌∙◌, subst, Option}
use Rattle.std.specs.Prelude.{◌==◌, ◌&&◌, ◌||◌, ◌-◌, if◌then◌else◌}
use Rattle.std.specs.List.{list_any}
use Rattle.std.proofs.lemmas.List.Folds.{list_any-append}
use Rattle.heap_class.specs.declared.IdSize.{IdSize}
use Rattle.heap_class.specs.declared.Refusal.TheVariants.{NoMemory}
use Rattle.heap_world.specs.Limits.{HeapSettings}
use Rattle.hprof_text.specs.declared.Piece.{Piece}
use Rattle.hprof_text.specs.Segments.{dump_text}
use Rattle.heap_trail.specs.Images.{image_of}
use Rattle.heap_trail.specs.declared.Action.{Action}
use Rattle.heap_trail.specs.declared.Action.TheVariants.{Step, Rewind, OpenPin, NextPiece, ClosePin}
use Rattle.heap_trail.specs.declared.Reply.{Reply}
use Rattle.heap_trail.specs.declared.Reply.TheVariants.{Answered, Place, Pinned, Part, Closed, Refused}
use Rattle.heap_trail.specs.Trail.{Trail, state_ago}
use Rattle.heap_trail.specs.Pins.{AreNumbered}
use Rattle.heap_trail.specs.Machine.{Machine, Allocation, Granted, Denied, LosesPins, MayReply, acted, acted_under, may_overwrite, opening_machine, replies_of}
use Rattle.heap_trail.specs.Laws.{AskAt, AsksAt, piece_given, last_given, bytes_given, gave_last}
use Rattle.heap_trail.proofs.ByTrail.{dumps_leave}
use Rattle.heap_trail.proofs.GivenText.{gives_text}
use Rattle.heap_trail.proofs.OpenedPins.{opens_pin}
use Rattle.dump_pump.specs.Pumps.{joined}
use Rattle.heap_lock.specs.Calls.{Call}
use Rattle.heap_lock.specs.Laws.{piece_replied, pieces_given, CallsAskAt, GiveText}
use Rattle.heap_lock.proofs.CallLists.{Leads, calls_split_at_middle_machine, first_call_leads_to_middle}
use Rattle.heap_lock.proofs.NumberedPins.{numbered_after, opening_numbered}
use Rattle.heap_lock.proofs.CallTrails.{trail_of_first_calls}
use Rattle.dump_pump.proofs.JoinedPieces.{joined_bytes_of_two_lists}

-- ---- one call

bool_or_false_is_itself : (b : Bool) → (b || false) ≡ b
bool_or_false_is_itself true = refl
bool_or_false_is_itself false = refl

bytes_given_by_one_reply : (pin n time : ℕ) (p : Piece) → piece_given pin (NextPiece n time) (Part p) ≡ joined (piece_replied pin (NextPiece n time, Part p))
unfolding piece_given piece_replied
bytes_given_by_one_reply pin n time p = go (n == pin)
  where
    go : (b : Bool) → (if b then p.bytes else []) ≡ joined (if b then p ∷ [] else [])
    go true = sym (append-nil p.bytes)
    go false = refl

last_piece_of_one_reply : (pin n time : ℕ) (p : Piece) → last_given pin (NextPiece n time) (Part p) ≡ list_any (λ (q : Piece). q.last) (piece_replied pin (NextPiece n time, Part p))
unfolding last_given piece_replied
last_piece_of_one_reply pin n time p = go (n == pin)
  where
    go : (b : Bool) → (b && p.last) ≡ list_any (λ (q : Piece). q.last) (if b then p ∷ [] else [])
    go true = sym (bool_or_false_is_itself p.last)
    go false = refl

abbrev CallGivesPinBytes : ℕ → Action → Reply → Type 0
CallGivesPinBytes pin a r = (piece_given pin a r ≡ joined (piece_replied pin (a, r))) × (last_given pin a r ≡ list_any (λ (q : Piece). q.last) (piece_replied pin (a, r)))

asked_piece_gives_its_bytes : (pin n time : ℕ) (r : Reply) → CallGivesPinBytes pin (NextPiece n time) r
unfolding piece_given last_given piece_replied
asked_piece_gives_its_bytes pin n time (Part p) = (bytes_given_by_one_reply pin n time p, last_piece_of_one_reply pin n time p)
asked_piece_gives_its_bytes pin n time (Answered a) = (refl, refl)
asked_piece_gives_its_bytes pin n time (Place p) = (refl, refl)
asked_piece_gives_its_bytes pin n time (Pinned p a) = (refl, refl)
asked_piece_gives_its_bytes pin n time Closed = (refl, refl)
asked_piece_gives_its_bytes pin n time (Refused e) = (refl, refl)

each_call_gives_its_bytes : (pin : ℕ) (a : Action) (r : Reply) → CallGivesPinBytes pin a r
unfolding piece_given last_given piece_replied
each_call_gives_its_bytes pin (NextPiece n time) r = asked_piece_gives_its_bytes pin n time r
each_call_gives_its_bytes pin (Step e) r = (refl, refl)
each_call_gives_its_bytes pin (Rewind n) r = (refl, refl)
each_call_gives_its_bytes pin (OpenPin at) r = (refl, refl)
each_call_gives_its_bytes pin (ClosePin n) r = (refl, refl)

-- ---- all calls

abbrev CallsGivePinBytes : ℕ → Machine → List (Action × Allocation) → List Call → Type 0
CallsGivePinBytes pin m paired cs = (bytes_given pin m paired ≡ joined (pieces_given pin cs)) × (gave_last pin m paired ≡ list_any (λ (q : Piece). q.last) (pieces_given pin cs))

all_calls_give_their_bytes : (pin : ℕ) (m : Machine) (paired : List (Action × Allocation)) (cs : List Call) → map (λ a. a.0) paired ≡ map (λ (c : Call). c.0) cs → map (λ (c : Call). c.1) cs ≡ replies_of m paired → CallsGivePinBytes pin m paired cs
unfolding bytes_given gave_last pieces_given replies_of
all_calls_give_their_bytes pin m [] [] actions replies = (refl, refl)
all_calls_give_their_bytes pin m [] (c ∷ cs) actions replies = absurd (cc actions)
all_calls_give_their_bytes pin m (x ∷ paired) [] actions replies = absurd (cc actions)
all_calls_give_their_bytes pin m (x ∷ paired) (c ∷ cs) actions replies =
    let first : x.0 ≡ c.0 = cc actions in
    let rest : map (λ a. a.0) paired ≡ map (λ (y : Call). y.0) cs = cc actions in
    let reply : c.1 ≡ (acted_under m x).1 = cc replies in
    let later : map (λ (y : Call). y.1) cs ≡ replies_of (acted_under m x).0 paired = cc replies in
    let more = all_calls_give_their_bytes pin (acted_under m x).0 paired cs rest later in
    let one = subst (λ (y : Action × Reply). (piece_given pin y.0 y.1 ≡ joined (piece_replied pin c)) × (last_given pin y.0 y.1 ≡ list_any (λ (q : Piece). q.last) (piece_replied pin c))) (λ i. (sym first i, reply i)) (each_call_gives_its_bytes pin c.0 c.1) in (
      (λ i. one.0 i ++ more.0 i) ∙ sym (joined_bytes_of_two_lists (piece_replied pin c) (pieces_given pin cs)),
      (λ i. one.1 i || more.1 i) ∙ sym (list_any-append (λ (q : Piece). q.last) (piece_replied pin c) (pieces_given pin cs)),
    )

paired_actions_ask_at_time : (pin time : ℕ) (paired : List (Action × Allocation)) (cs : List Call) → map (λ a. a.0) paired ≡ map (λ (c : Call). c.0) cs → CallsAskAt pin time cs → AskAt pin time paired
paired_actions_ask_at_time pin time [] cs actions asks = tt
paired_actions_ask_at_time pin time (x ∷ paired) [] actions asks = absurd (cc actions)
paired_actions_ask_at_time pin time (x ∷ paired) (c ∷ cs) actions asks =
    let first : x.0 ≡ c.0 = cc actions in
    let rest : map (λ a. a.0) paired ≡ map (λ (y : Call). y.0) cs = cc actions in
    (subst (AsksAt pin time) (sym first) asks.0, paired_actions_ask_at_time pin time paired cs rest asks.1)

-- ---- the opening

pinned_reply_of_plain_opening : (k l : Machine) (at : Option ℕ) (pin place : ℕ) → MayReply k (OpenPin at) l (Pinned pin place) → acted k (OpenPin at) ≡ (l, Pinned pin place)
unfolding acted_under may_overwrite
pinned_reply_of_plain_opening k l at pin place (Granted, stands, is) = is
pinned_reply_of_plain_opening k l at pin place (Denied, stands, is) = absurd (clash (ap (λ (x : Machine × Reply). x.1) is))
  where
    clash : Refused NoMemory ≡ Pinned pin place → ⊥
    clash e = cc
pinned_reply_of_plain_opening k l at pin place (LosesPins pins, stands, is) = absurd (clash stands.0)
  where
    clash : false ≡ true → ⊥
    clash e = cc

led_pins_stay_numbered : (m n : Machine) (cs : List Call) → AreNumbered m.pins → Leads m cs n → AreNumbered n.pins
led_pins_stay_numbered m n cs h l = subst (λ (x : Machine). AreNumbered x.pins) (sym l.4) (numbered_after m l.0 h)

abbrev GivenPiecesBeginDump : HeapSettings → IdSize → Trail → ℕ → ℕ → ℕ → List Call → Type 0
GivenPiecesBeginDump config ids t pin place time after =
    (rest : List ℕ) × (joined (pieces_given pin after) ++ rest ≡ dump_text ids (image_of (state_ago (t.place - place) t)) time)
    × (list_any (λ (q : Piece). q.last) (pieces_given pin after) ≡ true → rest ≡ [])

pub given_pieces_tell_dump : (config : HeapSettings) (before after : List Call) (at : Option ℕ) (pin place time : ℕ) → GiveText config before at pin place after time
given_pieces_tell_dump config before after at pin place time legal asks =
    let start = opening_machine config.limits config.ids config.regions config.mutators config.keep in
    let opening_call : Call = (OpenPin at, Pinned pin place) in
    let s = calls_split_at_middle_machine start legal.0 before (opening_call ∷ after) legal.2.leads in
    let h = first_call_leads_to_middle s.0 legal.0 opening_call after s.2 in
    let by = trail_of_first_calls config s.0 legal.0 legal.1 before (opening_call ∷ after) s.1 legal.2 legal.3 in
    let numbered = led_pins_stay_numbered start s.0 before (opening_numbered config.limits config.ids config.regions config.mutators config.keep) s.1 in
    let opens = opens_pin s.0 numbered at h.0 pin place (pinned_reply_of_plain_opening s.0 h.0 at pin place h.1) in
    let ids = (dumps_leave s.0 h.0 (OpenPin at) h.1.0 (Pinned pin place) refl h.1.2).2 ∙ by.1 in
    let told = gives_text h.0 h.2.0 pin time place (image_of (state_ago (s.0.trail.place - place) s.0.trail)) opens.2 opens.1 (paired_actions_ask_at_time pin time h.2.0 after h.2.1 asks) in
    let all = all_calls_give_their_bytes pin h.0 h.2.0 after h.2.1 h.2.3 in
    let text : GivenPiecesBeginDump config h.0.ids s.0.trail pin place time after = (told.0, ap (λ l. l ++ told.0) (sym all.0) ∙ told.1, λ last. told.2 (all.1 ∙ last)) in
    subst (λ (x : IdSize × Trail). GivenPiecesBeginDump config x.0 x.1 pin place time after) (λ i. (ids i, by.0 i)) text
