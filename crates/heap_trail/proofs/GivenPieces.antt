-- A piece of a pin's dump.
use Rattle.std.proofs.Common.{◌≡◌, ◌⊎◌, ℕ, zero, suc, ◌+◌, ◌-◌, ◌<◌, Bool, true, false, List, [], ◌∷◌, length, map, set, get_or, Some, None, Result, Ok, Err, IfOk, IfErr, refl, sym, ap, subst, ◌∙◌, arith, inl, inr, length-set}
use Rattle.std.specs.Prelude.{nat_lt, ◌==◌, OnErr, if◌then◌else◌}
use Rattle.std.proofs.lemmas.Bool.{ne_eqb, eq-eqb}
use Rattle.std.proofs.lemmas.List.{set-get_or}
use Rattle.std.proofs.Math.Seq.{map-set_same}
use Rattle.circular_buffer.specs.Buffer.{Buffer}
use Rattle.heap_class.specs.declared.IdSize.{IdSize}
use Rattle.heap_class.specs.declared.ObjRef.{ObjRef}
use Rattle.heap_class.specs.declared.Refusal.{Refusal}
use Rattle.heap_class.specs.declared.Refusal.TheVariants.{NoMemory, NoPin}
use Rattle.heap_world.specs.State.{HeapState}
use Rattle.heap_step.specs.declared.Undo.{Undo}
use Rattle.hprof_text.specs.declared.Cursor.{Cursor}
use Rattle.hprof_text.specs.declared.Piece.{Piece}
use Rattle.hprof_text.specs.Image.{Image}
use Rattle.hprof_text.specs.Segments.{pieces_of, piece_of}
use Rattle.heap_pins.specs.Images.{image_of}
use Rattle.heap_pins.specs.Pin.{PinContents, places_seen, pin_image}
use Rattle.heap_pins.specs.Shows.{ShowsState, Holds}
use Rattle.heap_pins.proofs.HeldPins.{property_of_first_state, held_image, held_places}
use Rattle.heap_trail.specs.declared.Action.TheVariants.{NextPiece}
use Rattle.heap_trail.specs.declared.Reply.TheVariants.{Part, Refused}
use Rattle.heap_trail.specs.declared.held.Held.{Held}
use Rattle.heap_trail.specs.declared.held.Held.TheVariants.{Kept, Lost}
use Rattle.heap_trail.specs.declared.held.NumberedPin.{NumberedPin}
use Rattle.heap_trail.specs.Laws.{IsPieceOfLegal}
use Rattle.heap_trail.specs.Pins.{PinState, if_kept, each_kept, with_piece_given, pin_at}
use Rattle.heap_trail.specs.Pins.{Kept as KeptState, Gone}
use Rattle.heap_trail.specs.Machine.{Machine, Denied, MayFail, MayStand, acted, after_piece, counted, may_grow, is_accepted}
use Rattle.heap_trail.specs.OpenPins.{state_of, pins_of, IsGivenOf, IsGiven, HoldsAt, CanGive, given_after, HasGiven, RefusesPiece, AreAbove, AreHeld}
use Rattle.heap_trail.specs.Records.{past_of, IsPinning, machine_of, machine_with}
use Rattle.heap_trail.proofs.PinSearch.{seen, IsThere, number_of_slot_is_above, pin_found}

-- ---- one pin

-- what is given of the dump of its state is given of what it shows
pub held_pin_can_give : (ids : IdSize) (w : HeapState) (past : List HeapState) (place : ℕ) (h : Held) → HoldsAt ids (w ∷ past) place h → CanGive ids w h
held_pin_can_give ids w past place (Kept at pin cursor given) h = (
  (h.0, h.2.pin, property_of_first_state (ShowsState pin h.0) (place - at) w past h.2.shows),
  subst (λ (i : Image). IsGivenOf ids i (places_seen pin w.regions) cursor given) (sym (held_image pin h.0 (place - at) w past h.2))
      (subst (λ (l : List ObjRef). IsGivenOf ids (image_of h.0) l cursor given) (sym (held_places pin h.0 (place - at) w past h.2)) h.3),
)
held_pin_can_give ids w past place (Lost at cause) h = tt

pin_gives_what_it_shows : (ids : IdSize) (w : HeapState) (past : List HeapState) (place : ℕ) (u : HeapState) (at : ℕ) (pin : PinContents) (cursor : Cursor) (given : ℕ) → Holds pin u (place - at) (w ∷ past) → IsGivenOf ids (pin_image pin w) (places_seen pin w.regions) cursor given → IsGiven ids u cursor given
pin_gives_what_it_shows ids w past place u at pin cursor given h g =
    subst (λ (l : List ObjRef). IsGivenOf ids (image_of u) l cursor given) (held_places pin u (place - at) w past h)
    (subst (λ (i : Image). IsGivenOf ids i (places_seen pin w.regions) cursor given) (held_image pin u (place - at) w past h) g)

pin_holds_after_given_piece : (ids : IdSize) (w : HeapState) (past : List HeapState) (place time : ℕ) (piece : Piece) (h new : Held) → HoldsAt ids (w ∷ past) place h → HasGiven ids w time piece h new → HoldsAt ids (w ∷ past) place new
pin_holds_after_given_piece ids w past place time piece (Kept at pin cursor given) new h g =
    let more = given_after given (length (pieces_of ids (pin_image pin w) time)) in
    subst (HoldsAt ids (w ∷ past) place) (sym g.2) (h.0, h.1, h.2, pin_gives_what_it_shows ids w past place h.0 at pin g.1 more h.2 g.3)
pin_holds_after_given_piece ids w past place time piece (Lost at cause) new h g = absurd g

-- what a pin gives is of the dump of its state, which is legal
pub given_piece_is_of_legal : (ids : IdSize) (w : HeapState) (past : List HeapState) (place time : ℕ) (piece : Piece) (h new : Held) → HoldsAt ids (w ∷ past) place h → HasGiven ids w time piece h new → IsPieceOfLegal ids time piece
given_piece_is_of_legal ids w past place time piece (Kept at pin cursor given) new h g =
    (h.0, h.2.pin.legal, given, g.0 ∙ ap (λ (i : Image). piece_of ids i time given) (held_image pin h.0 (place - at) w past h.2))
given_piece_is_of_legal ids w past place time piece (Lost at cause) new h g = absurd g

-- a pin that gave a piece, or none
pub pin_holds_after_answer : (ids : IdSize) (w : HeapState) (past : List HeapState) (place time : ℕ) (s t : NumberedPin) (r : Result Piece Refusal) → HoldsAt ids (w ∷ past) place s.held → IfOk r (λ p. HasGiven ids w time p s.held t.held) → OnErr r (t ≡ s) → HoldsAt ids (w ∷ past) place t.held
pin_holds_after_answer ids w past place time s t (Ok p) h given same = pin_holds_after_given_piece ids w past place time p s.held t.held h given
pin_holds_after_answer ids w past place time s t (Err e) h given same = subst (λ (x : NumberedPin). HoldsAt ids (w ∷ past) place x.held) (sym same) h

-- ---- all pins, with another in this one's place

numbers_above_after_set : (n i : ℕ) (ss : List NumberedPin) (t : NumberedPin) → AreAbove n ss → n < t.number → AreAbove n (set ss i t)
numbers_above_after_set n i [] t a lt = tt
numbers_above_after_set n zero (s ∷ ss) t a lt = (lt, a.1)
numbers_above_after_set n (suc i) (s ∷ ss) t a lt = (a.0, numbers_above_after_set n i ss t a.1 lt)

pins_held_after_set : (ids : IdSize) (states : List HeapState) (place next : ℕ) (ss : List NumberedPin) (i : ℕ) (s t : NumberedPin) → AreHeld ids states place next ss → i < length ss → s ≡ get_or ss i s → t.number ≡ s.number → HoldsAt ids states place t.held → AreHeld ids states place next (set ss i t)
pins_held_after_set ids states place next [] i s t h lt here same holds = tt
pins_held_after_set ids states place next (x ∷ ss) zero s t h lt here same holds =
    let e : t.number ≡ x.number = same ∙ ap (λ (y : NumberedPin). y.number) here in
    (holds, subst (λ n. n < next) (sym e) h.1, subst (λ n. AreAbove n ss) (sym e) h.2, h.3)
pins_held_after_set ids states place next (x ∷ ss) (suc i) s t h lt here same holds =
    let above : x.number < s.number = number_of_slot_is_above x.number ss i s h.2 (omega (arith, lt)) here in
    (h.0, h.1, numbers_above_after_set x.number i ss t h.2 (omega (arith, above, same)), pins_held_after_set ids states place next ss i s t h.3 (omega (arith, lt)) here same holds)

pub pinning_set : (ids : IdSize) (w : HeapState) (ring : Buffer Undo) (place next : ℕ) (ss : List NumberedPin) (i : ℕ) (s t : NumberedPin) → IsPinning ids w ring place next ss → IsThere ss i s → t.number ≡ s.number → HoldsAt ids (w ∷ past_of w ring.items) place t.held → IsPinning ids w ring place next (set ss i t)
pinning_set ids w ring place next ss i s t p there same holds = record {
  held = pins_held_after_set ids (w ∷ past_of w ring.items) place next ss i s t p.held there.within there.here same holds;
  few = omega (arith, p.few, length-set ss i t);
  numbered = p.numbered;
}

-- ---- what the model sees

-- one piece more of the pin with this number
abbrev state_with_one_piece_more : ℕ → ℕ × PinState → ℕ × PinState
state_with_one_piece_more pin e = (e.0, if_kept (λ place image given. KeptState place image (if e.0 == pin then given + 1 else given)) e.1)

other_pin : (pin number : ℕ) (x : PinState) → (number == pin) ≡ false → state_with_one_piece_more pin (number, x) ≡ (number, x)
unfolding if_kept
other_pin pin number (KeptState place image given) e = rw e refl
other_pin pin number (Gone place cause) e = refl

pins_above_give_nothing : (w : HeapState) (pin : ℕ) (ss : List NumberedPin) → AreAbove pin ss → map {B = ℕ × PinState} (state_with_one_piece_more pin) (map {B = ℕ × PinState} (seen w) ss) ≡ map {B = ℕ × PinState} (seen w) ss
pins_above_give_nothing w pin [] a = refl
pins_above_give_nothing w pin (s ∷ ss) a =
    let e : (s.number == pin) ≡ false = ne_eqb s.number pin (λ q. let z : s.number ≡ pin = q in omega (arith, z, a.0)) in
    λ j. other_pin pin s.number (state_of w s.held) e j ∷ pins_above_give_nothing w pin ss a.1 j

pins_seen_with_piece_more : (ids : IdSize) (states : List HeapState) (place next : ℕ) (w : HeapState) (ss : List NumberedPin) (i : ℕ) (s t : NumberedPin) → AreHeld ids states place next ss → i < length ss → s ≡ get_or ss i s → seen w t ≡ state_with_one_piece_more s.number (seen w s)
    → map {B = ℕ × PinState} (seen w) (set ss i t) ≡ map {B = ℕ × PinState} (state_with_one_piece_more s.number) (map {B = ℕ × PinState} (seen w) ss)
pins_seen_with_piece_more ids states place next w [] i s t h lt here e = refl
pins_seen_with_piece_more ids states place next w (x ∷ ss) zero s t h lt here e =
    let tail : map {B = ℕ × PinState} (state_with_one_piece_more s.number) (map {B = ℕ × PinState} (seen w) ss) ≡ map {B = ℕ × PinState} (seen w) ss
    = pins_above_give_nothing w s.number ss (subst (λ (y : NumberedPin). AreAbove y.number ss) (sym here) h.2) in
    λ j. (e ∙ ap (λ (y : NumberedPin). state_with_one_piece_more s.number (seen w y)) here) j ∷ sym tail j
pins_seen_with_piece_more ids states place next w (x ∷ ss) (suc i) s t h lt here e =
    let above : x.number < s.number = number_of_slot_is_above x.number ss i s h.2 (omega (arith, lt)) here in
    let ne : (x.number == s.number) ≡ false = ne_eqb x.number s.number (λ q. let z : x.number ≡ s.number = q in omega (arith, z, above)) in
    λ j. sym (other_pin s.number x.number (state_of w x.held) ne) j ∷ pins_seen_with_piece_more ids states place next w ss i s t h.3 (omega (arith, lt)) here e j

-- the pins with this one's next piece given, and counted unless it is past the last
pins_given : (ids : IdSize) (states : List HeapState) (place next : ℕ) (w : HeapState) (ss : List NumberedPin) (i : ℕ) (s t : NumberedPin) → AreHeld ids states place next ss → IsThere ss i s → seen w t ≡ state_with_one_piece_more s.number (seen w s) → pins_of w next (set ss i t) ≡ with_piece_given s.number (pins_of w next ss)
unfolding pins_of with_piece_given each_kept
pins_given ids states place next w ss i s t h there e = ap (λ l. record { next = next; open_pins = l }) (pins_seen_with_piece_more ids states place next w ss i s t h there.within there.here e)

pins_same : (w : HeapState) (next : ℕ) (ss : List NumberedPin) (i : ℕ) (s t : NumberedPin) → IsThere ss i s → seen w t ≡ seen w s → pins_of w next (set ss i t) ≡ pins_of w next ss
unfolding pins_of
pins_same w next ss i s t there e = ap (λ l. record { next = next; open_pins = l }) (map-set_same (seen w) ss i t s (e ∙ ap (seen w) there.here))

-- ---- the machine

pin_seen_after_counted_piece : (w : HeapState) (s t : NumberedPin) (at : ℕ) (pin : PinContents) (cursor next : Cursor) (given : ℕ) → t.number ≡ s.number → s.held ≡ Kept at pin cursor given → t.held ≡ Kept at pin next (given + 1) → seen w t ≡ state_with_one_piece_more s.number (seen w s)
unfolding state_of if_kept
pin_seen_after_counted_piece w s t at pin cursor next given same was is =
    let e : (s.number == s.number) ≡ true = eq-eqb s.number s.number refl in
    (λ j. (same j, state_of w (is j)))
    ∙ ap (λ b. (s.number, KeptState at (pin_image pin w) (if b then given + 1 else given))) (sym e)
    ∙ ap (λ h. state_with_one_piece_more s.number (s.number, state_of w h)) (sym was)

pin_seen_after_uncounted_piece : (w : HeapState) (s t : NumberedPin) (at : ℕ) (pin : PinContents) (cursor next : Cursor) (given : ℕ) → t.number ≡ s.number → s.held ≡ Kept at pin cursor given → t.held ≡ Kept at pin next given → seen w t ≡ seen w s
unfolding state_of
pin_seen_after_uncounted_piece w s t at pin cursor next given same was is = (λ j. (same j, state_of w (is j))) ∙ ap (λ h. (s.number, state_of w h)) (sym was)

piece_done : (ids : IdSize) (w : HeapState) (ring : Buffer Undo) (place keep next : ℕ) (ss : List NumberedPin) (i time : ℕ) (s t : NumberedPin) (piece : Piece) → IsPinning ids w ring place next ss → IsThere ss i s → t.number ≡ s.number → HasGiven ids w time piece s.held t.held
    → acted (machine_of ids w ring place keep next ss) (NextPiece s.number time) ≡ (machine_of ids w ring place keep next (set ss i t), Part piece)
unfolding acted after_piece counted state_of given_after
piece_done ids w ring place keep next ss i time s t piece p there same given =
    ap (after_piece s.number time (machine_of ids w ring place keep next ss)) (pin_found ids (w ∷ past_of w ring.items) place next w ss i s p.held there) ∙ go s.held refl given
  where
    m : Machine
    m = machine_of ids w ring place keep next ss

    go : (h : Held) → s.held ≡ h → HasGiven ids w time piece h t.held → after_piece s.number time m (Some (state_of w h)) ≡ (machine_of ids w ring place keep next (set ss i t), Part piece)
    go (Kept at pin cursor given) was g = λ j. (count (nat_lt given (length (pieces_of ids (pin_image pin w) time))) g.2 j, Part (sym g.0 j))
      where
        count : (b : Bool) → t.held ≡ Kept at pin g.1 (if b then given + 1 else given) → counted b s.number m ≡ machine_of ids w ring place keep next (set ss i t)
        count true is = ap (machine_with ids w ring place keep) (sym (pins_given ids (w ∷ past_of w ring.items) place next w ss i s t p.held there (pin_seen_after_counted_piece w s t at pin cursor g.1 given same was is)))
        count false is = ap (machine_with ids w ring place keep) (sym (pins_same w next ss i s t there (pin_seen_after_uncounted_piece w s t at pin cursor g.1 given same was is)))
    go (Lost place cause) was g = absurd g

pub piece_missing : (ids : IdSize) (w : HeapState) (ring : Buffer Undo) (place keep next : ℕ) (ss : List NumberedPin) (pin time : ℕ) → pin_at pin (pins_of w next ss) ≡ None
    → acted (machine_of ids w ring place keep next ss) (NextPiece pin time) ≡ (machine_of ids w ring place keep next ss, Refused NoPin)
unfolding acted after_piece
piece_missing ids w ring place keep next ss pin time none = ap (after_piece pin time (machine_of ids w ring place keep next ss)) none

-- a pin that is lost refuses, and so does one whose allocation fails
pub piece_of_pin_is_refused : (ids : IdSize) (w : HeapState) (ring : Buffer Undo) (place keep next : ℕ) (ss : List NumberedPin) (i time : ℕ) (s : NumberedPin) (e : Refusal) → IsPinning ids w ring place next ss → IsThere ss i s → RefusesPiece s.held e
    → (acted (machine_of ids w ring place keep next ss) (NextPiece s.number time) ≡ (machine_of ids w ring place keep next ss, Refused e)) ⊎ (MayStand (machine_of ids w ring place keep next ss) (NextPiece s.number time, Denied) × (e ≡ NoMemory))
unfolding acted after_piece state_of may_grow is_accepted
piece_of_pin_is_refused ids w ring place keep next ss i time s e p there may =
    subst (λ x. (after_piece s.number time m x ≡ (m, Refused e)) ⊎ (((may_grow (NextPiece s.number time) m ≡ true) × (is_accepted (after_piece s.number time m x).1 ≡ true)) × (e ≡ NoMemory)))
    (sym (pin_found ids (w ∷ past_of w ring.items) place next w ss i s p.held there)) (go s.held may)
  where
    m : Machine
    m = machine_of ids w ring place keep next ss

    go : (h : Held) → RefusesPiece h e → (after_piece s.number time m (Some (state_of w h)) ≡ (m, Refused e)) ⊎ (((may_grow (NextPiece s.number time) m ≡ true) × (is_accepted (after_piece s.number time m (Some (state_of w h))).1 ≡ true)) × (e ≡ NoMemory))
    go (Kept at pin cursor given) k = inr ((refl, refl), k)
    go (Lost place cause) k = inl (ap (λ x. (m, Refused x)) (sym k))

piece_not_given : (ids : IdSize) (w : HeapState) (ring : Buffer Undo) (place keep next : ℕ) (ss : List NumberedPin) (i time : ℕ) (s t : NumberedPin) (r : Result Piece Refusal) → IsPinning ids w ring place next ss → IsThere ss i s → IfErr r (λ e. RefusesPiece s.held e) → OnErr r (t ≡ s)
    → IfErr r (λ e. (acted (machine_of ids w ring place keep next ss) (NextPiece s.number time) ≡ (machine_of ids w ring place keep next (set ss i t), Refused e)) ⊎ (MayStand (machine_of ids w ring place keep next ss) (NextPiece s.number time, Denied) × (e ≡ NoMemory)))
piece_not_given ids w ring place keep next ss i time s t (Ok piece) p there may same = tt
piece_not_given ids w ring place keep next ss i time s t (Err e) p there may same =
    let m : Machine = machine_of ids w ring place keep next ss in
    subst (λ l. (acted m (NextPiece s.number time) ≡ (machine_of ids w ring place keep next l, Refused e)) ⊎ (MayStand m (NextPiece s.number time, Denied) × (e ≡ NoMemory)))
    (sym (ap (set ss i) (same ∙ there.here) ∙ set-get_or ss i s)) (piece_of_pin_is_refused ids w ring place keep next ss i time s e p there may)

-- what a slot's piece says, or its refusal, of the pin with the slot's number
pub piece_answered : (ids : IdSize) (w : HeapState) (ring : Buffer Undo) (place keep next : ℕ) (ss : List NumberedPin) (i pin time : ℕ) (s t : NumberedPin) (r : Result Piece Refusal) → IsPinning ids w ring place next ss → IsThere ss i s × (s.number ≡ pin) → t.number ≡ s.number
    → IfOk r (λ p. HasGiven ids w time p s.held t.held) → IfErr r (λ e. RefusesPiece s.held e) → OnErr r (t ≡ s) → let m : Machine = machine_of ids w ring place keep next ss in let n : Machine = machine_of ids w ring place keep next (set ss i t) in
    IfOk r (λ p. acted m (NextPiece pin time) ≡ (n, Part p)) × IfErr r (λ e. MayFail m (NextPiece pin time) n e)
piece_answered ids w ring place keep next ss i pin time s t r p there same given refused kept =
    subst (λ k. IfOk r (λ p. acted m (NextPiece k time) ≡ (n, Part p)) × IfErr r (λ e. MayFail m (NextPiece k time) n e)) there.1 (go r given refused kept)
  where
    m : Machine
    m = machine_of ids w ring place keep next ss

    n : Machine
    n = machine_of ids w ring place keep next (set ss i t)

    go : (r : Result Piece Refusal) → IfOk r (λ p. HasGiven ids w time p s.held t.held) → IfErr r (λ e. RefusesPiece s.held e) → OnErr r (t ≡ s) → IfOk r (λ p. acted m (NextPiece s.number time) ≡ (n, Part p)) × IfErr r (λ e. MayFail m (NextPiece s.number time) n e)
    go (Ok piece) given refused kept = (piece_done ids w ring place keep next ss i time s t piece p there.0 same given, tt)
    go (Err e) given refused kept = (tt, piece_not_given ids w ring place keep next ss i time s t (Err e) p there.0 refused kept)
