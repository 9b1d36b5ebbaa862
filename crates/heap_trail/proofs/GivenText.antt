-- What a pin gives in a list of actions, whatever else is done, is a beginning of the text of its image.
use Rattle.std.proofs.Common.{◌≡◌, ◌≢◌, ◌⊎◌, ℕ, zero, suc, ◌+◌, ◌<◌, ◌≤◌, Bool, true, false, cond, List, [], ◌∷◌, ◌++◌, length, drop, map, refl, sym, ap, subst, ◌∙◌, arith, Option, Some, None, Result, Ok, Err, append_assoc}
use Rattle.std.specs.Prelude.{nat_le, nat_lt, not, unwrap_or, slice_get, find, option_map, ◌==◌, ◌&&◌, ◌||◌, if◌then◌else◌}
use Rattle.std.specs.List.{concat, list_any}
use mathlib.Core.Logic.{inl, inr}
use Rattle.std.proofs.lemmas.Bool.{eqb-true, eq-eqb, ne_eqb, ltb-true, ltb-false, leb-true}
use Rattle.heap_world.proofs.ChangedLookups.{same_or_not}
use Rattle.heap_class.specs.declared.LostCause.{LostCause}
use Rattle.heap_class.specs.declared.LostCause.TheVariants.{Rewound, Memory}
use Rattle.heap_class.specs.declared.Refusal.{Refusal}
use Rattle.heap_class.specs.declared.Refusal.TheVariants.{NoMemory}
use Rattle.heap_world.specs.State.{HeapState}
use Rattle.heap_step.specs.declared.Answer.{Answer}
use Rattle.heap_step.specs.declared.Event.{Event}
use Rattle.heap_step.specs.Apply.{applied}
use Rattle.hprof_text.specs.Image.{Image}
use Rattle.hprof_text.specs.declared.Piece.{Piece}
use Rattle.hprof_text.specs.Segments.{pieces_of, piece_of, nth_piece}
use Rattle.hprof_text.proofs.JoinedPieces.{pieces_join_to_dump}
use Rattle.heap_trail.specs.declared.Action.{Action}
use Rattle.heap_trail.specs.declared.Action.TheVariants.{Step, Rewind, OpenPin, NextPiece, ClosePin}
use Rattle.heap_trail.specs.declared.Reply.{Reply}
use Rattle.heap_trail.specs.declared.Reply.TheVariants.{Answered, Place, Pinned, Part, Closed, Refused}
use Rattle.heap_trail.specs.Limits.{last_place}
use Rattle.heap_trail.specs.Trail.{rewind_refusal}
use Rattle.heap_trail.specs.Pins.{Pins, PinState, Kept, Gone, pin_at, open_refusal, with_pin, without_pin, if_kept, each_kept, with_piece_given, after_rewind, with_lost}
use Rattle.heap_trail.specs.Machine.{Machine, Allocation, Granted, Denied, LosesPins, after_result, after_step_at, unless, after_rewind_by, after_open, counted, after_piece, after_close, acted, acted_under}
use Rattle.heap_trail.specs.Laws.{AsksAt, AskAt, piece_given, last_given, bytes_given, gave_last, GivesText}
use Rattle.heap_trail.proofs.Images.{Left, other_pin_left_by_closing, closed_pin_not_left, pins_same_after_step}

-- ---- pieces from one on

next_piece_and_rest_joined : (ps : List (List ℕ)) (g : ℕ) → g < length ps → unwrap_or (slice_get ps g) [] ++ concat (drop (suc g) ps) ≡ concat (drop g ps)
next_piece_and_rest_joined [] g lt = absurd (omega (arith, lt))
next_piece_and_rest_joined (x ∷ xs) zero lt = refl
next_piece_and_rest_joined (x ∷ xs) (suc g) lt = next_piece_and_rest_joined xs g (omega (arith, lt))

pub no_pieces_left_to_drop : (ps : List (List ℕ)) (g : ℕ) → length ps ≤ g → drop g ps ≡ []
no_pieces_left_to_drop [] zero le = refl
no_pieces_left_to_drop [] (suc g) le = refl
no_pieces_left_to_drop (x ∷ xs) zero le = absurd (omega (arith, le))
no_pieces_left_to_drop (x ∷ xs) (suc g) le = no_pieces_left_to_drop xs g (omega (arith, le))

no_piece_past_the_last : (ps : List (List ℕ)) (g : ℕ) → length ps ≤ g → unwrap_or (slice_get ps g) [] ≡ []
no_piece_past_the_last [] g le = refl
no_piece_past_the_last (x ∷ xs) zero le = absurd (omega (arith, le))
no_piece_past_the_last (x ∷ xs) (suc g) le = no_piece_past_the_last xs g (omega (arith, le))

nothing_follows_in_empty_join : (xs ys : List ℕ) → xs ++ ys ≡ [] → ys ≡ []
nothing_follows_in_empty_join [] ys e = e
nothing_follows_in_empty_join (x ∷ xs) ys e = absurd (clash e)
  where
    clash : x ∷ (xs ++ ys) ≡ [] → ⊥
    clash e = cc

-- ---- a pin after a change of all

changed_pin_found_in_list : (f : ℕ → ℕ → Image → ℕ → PinState) (pin : ℕ) (xs : List (ℕ × PinState))
    → option_map (λ (e : ℕ × PinState). e.1) (find (λ e. e.0 == pin) (map {B = ℕ × PinState} (λ e. (e.0, if_kept (f e.0) e.1)) xs)) ≡ option_map (if_kept (f pin)) (option_map (λ (e : ℕ × PinState). e.1) (find (λ e. e.0 == pin) xs))
changed_pin_found_in_list f pin [] = refl
changed_pin_found_in_list f pin (x ∷ xs) = go (x.0 == pin) refl (changed_pin_found_in_list f pin xs)
  where
    go : (b : Bool) → (x.0 == pin) ≡ b
        → option_map (λ (e : ℕ × PinState). e.1) (find (λ e. e.0 == pin) (map {B = ℕ × PinState} (λ e. (e.0, if_kept (f e.0) e.1)) xs)) ≡ option_map (if_kept (f pin)) (option_map (λ (e : ℕ × PinState). e.1) (find (λ e. e.0 == pin) xs))
        → option_map (λ (e : ℕ × PinState). e.1) (cond b (Some (x.0, if_kept (f x.0) x.1)) (find (λ e. e.0 == pin) (map {B = ℕ × PinState} (λ e. (e.0, if_kept (f e.0) e.1)) xs))) ≡ option_map (if_kept (f pin)) (option_map (λ (e : ℕ × PinState). e.1) (cond b (Some x) (find (λ e. e.0 == pin) xs)))
    go true e rest = ap (λ n. Some (if_kept (f n) x.1)) (eqb-true x.0 pin e)
    go false e rest = rest

pub changed_pin_by_number : (f : ℕ → ℕ → Image → ℕ → PinState) (pin : ℕ) (ps : Pins) → pin_at pin (each_kept f ps) ≡ option_map (if_kept (f pin)) (pin_at pin ps)
unfolding pin_at each_kept
changed_pin_by_number f pin ps = changed_pin_found_in_list f pin ps.open_pins

pin_found_beside_opened_one : (pin : ℕ) (xs : List (ℕ × PinState)) (y : ℕ × PinState) → y.0 ≢ pin → option_map (λ (e : ℕ × PinState). e.1) (find (λ e. e.0 == pin) (xs ++ y ∷ [])) ≡ option_map (λ (e : ℕ × PinState). e.1) (find (λ e. e.0 == pin) xs)
pin_found_beside_opened_one pin [] y ne = go (y.0 == pin) refl
  where
    go : (b : Bool) → (y.0 == pin) ≡ b → option_map (λ (e : ℕ × PinState). e.1) (cond b (Some y) None) ≡ None
    go true e = absurd (ne (eqb-true y.0 pin e))
    go false e = refl
pin_found_beside_opened_one pin (x ∷ xs) y ne = go (x.0 == pin) (pin_found_beside_opened_one pin xs y ne)
  where
    go : (b : Bool) → option_map (λ (e : ℕ × PinState). e.1) (find (λ e. e.0 == pin) (xs ++ y ∷ [])) ≡ option_map (λ (e : ℕ × PinState). e.1) (find (λ e. e.0 == pin) xs)
        → option_map (λ (e : ℕ × PinState). e.1) (cond b (Some x) (find (λ e. e.0 == pin) (xs ++ y ∷ []))) ≡ option_map (λ (e : ℕ × PinState). e.1) (cond b (Some x) (find (λ e. e.0 == pin) xs))
    go true rest = refl
    go false rest = rest

-- ---- a pin is as it was, or it is no longer kept

abbrev pub NotKept : Option PinState → Type 0
NotKept x = (p : ℕ) (i : Image) (g : ℕ) → x ≡ Some (Kept p i g) → ⊥

abbrev Fate : Option PinState → Option PinState → Type 0
Fate x y = (y ≡ x) ⊎ NotKept y

gone_not_kept : (at : ℕ) (cause : LostCause) → NotKept (Some (Gone at cause))
gone_not_kept at cause p i g e = cc

none_not_kept : NotKept None
none_not_kept p i g e = cc

lost_fate : (h : ℕ → Bool) (cause : LostCause) (x : Option PinState) → Fate x (option_map (if_kept (λ place image given. if h place then Gone place cause else Kept place image given)) x)
unfolding if_kept
lost_fate h cause None = inl refl
lost_fate h cause (Some (Gone at c)) = inl refl
lost_fate h cause (Some (Kept p i g)) = go (h p)
  where
    go : (b : Bool) → Fate (Some (Kept p i g)) (Some (if b then Gone p cause else Kept p i g))
    go true = inr (gone_not_kept p cause)
    go false = inl refl

rewound_fate : (to pin : ℕ) (ps : Pins) → Fate (pin_at pin ps) (pin_at pin (after_rewind to ps))
unfolding after_rewind
rewound_fate to pin ps =
    let f : ℕ → ℕ → Image → ℕ → PinState = λ number place image given. if nat_lt to place then Gone place Rewound else Kept place image given in
    subst (Fate (pin_at pin ps)) (sym (changed_pin_by_number f pin ps)) (lost_fate (nat_lt to) Rewound (pin_at pin ps))

lost_pins_fate : (pins : List ℕ) (pin : ℕ) (ps : Pins) → Fate (pin_at pin ps) (pin_at pin (with_lost pins ps))
unfolding with_lost
lost_pins_fate pins pin ps =
    let f : ℕ → ℕ → Image → ℕ → PinState = λ number place image given. if list_any (λ n. n == number) pins then Gone place Memory else Kept place image given in
    subst (Fate (pin_at pin ps)) (sym (changed_pin_by_number f pin ps)) (lost_fate (λ place. list_any (λ n. n == pin) pins) Memory (pin_at pin ps))

piece_count_of_pin_raised : ℕ → ℕ → ℕ → Image → ℕ → PinState
piece_count_of_pin_raised of number place image given = Kept place image (if number == of then given + 1 else given)

piece_counts_of_others_stay : (of pin : ℕ) → pin ≢ of → (x : Option PinState) → option_map (if_kept (piece_count_of_pin_raised of pin)) x ≡ x
unfolding if_kept piece_count_of_pin_raised
piece_counts_of_others_stay of pin ne None = refl
piece_counts_of_others_stay of pin ne (Some (Gone at c)) = refl
piece_counts_of_others_stay of pin ne (Some (Kept p i g)) = ap (λ (b : Bool). Some (Kept p i (if b then g + 1 else g))) (ne_eqb pin of ne)

piece_count_of_own_rises : (pin p : ℕ) (i : Image) (g : ℕ) → option_map (if_kept (piece_count_of_pin_raised pin pin)) (Some (Kept p i g)) ≡ Some (Kept p i (g + 1))
unfolding if_kept piece_count_of_pin_raised
piece_count_of_own_rises pin p i g = ap (λ (b : Bool). Some (Kept p i (if b then g + 1 else g))) (eq-eqb pin pin refl)

pin_after_its_count : (of pin : ℕ) (ps : Pins) → pin_at pin (with_piece_given of ps) ≡ option_map (if_kept (piece_count_of_pin_raised of pin)) (pin_at pin ps)
unfolding with_piece_given piece_count_of_pin_raised
pin_after_its_count of pin ps = changed_pin_by_number (piece_count_of_pin_raised of) pin ps

closed_fate : (of pin : ℕ) (ps : Pins) → Fate (pin_at pin ps) (pin_at pin (without_pin of ps))
unfolding pin_at without_pin
closed_fate of pin ps = go (same_or_not pin of)
  where
    go : (pin ≡ of) ⊎ (pin ≢ of) → Fate (option_map (λ (e : ℕ × PinState). e.1) (find (λ e. e.0 == pin) ps.open_pins)) (option_map (λ (e : ℕ × PinState). e.1) (Left of pin ps.open_pins))
    go (inl e) = inr (subst (λ n. NotKept (option_map (λ (e : ℕ × PinState). e.1) (Left of n ps.open_pins))) (sym e) (subst (λ l. NotKept (option_map (λ (e : ℕ × PinState). e.1) l)) (sym (closed_pin_not_left of ps.open_pins)) none_not_kept))
    go (inr ne) = inl (ap (option_map (λ (e : ℕ × PinState). e.1)) (other_pin_left_by_closing of pin ps.open_pins ne))

-- ---- what no action changes, and numbers rise

pub record Goes (m n : Machine) : Type 0 where
  pub ids : n.ids ≡ m.ids
  pub next : m.pins.next ≤ n.pins.next

equal_pins_and_ids_go : (m n : Machine) → n.ids ≡ m.ids → n.pins ≡ m.pins → Goes m n
equal_pins_and_ids_go m n i p = record { ids = i; next = subst (λ (q : Pins). m.pins.next ≤ q.next) (sym p) (omega arith) }

ids_stay_after_result : (e : Event) (m : Machine) (r : Result (HeapState × Answer) Refusal) → (after_result e m r).0.ids ≡ m.ids
unfolding after_result
ids_stay_after_result e m (Ok r) = refl
ids_stay_after_result e m (Err r) = refl

ids_stay_after_step : (m : Machine) (e : Event) (b : Bool) → (after_step_at b e m).0.ids ≡ m.ids
unfolding after_step_at
ids_stay_after_step m e true = refl
ids_stay_after_step m e false = ids_stay_after_result e m (applied e m.trail.current)

rewind_goes : (m : Machine) (n : ℕ) (r : Option Refusal) → Goes m (unless r (after_rewind_by n) m).0
unfolding unless after_rewind_by after_rewind each_kept
rewind_goes m n None = record { ids = refl; next = omega arith }
rewind_goes m n (Some r) = record { ids = refl; next = omega arith }

opening_a_pin_goes : (m : Machine) (at : ℕ) (r : Option Refusal) → Goes m (unless r (after_open at) m).0
unfolding unless after_open with_pin
opening_a_pin_goes m at None = record { ids = refl; next = omega arith }
opening_a_pin_goes m at (Some r) = record { ids = refl; next = omega arith }

counting_a_piece_goes : (m : Machine) (pin : ℕ) (b : Bool) → Goes m (counted b pin m)
unfolding counted with_piece_given each_kept
counting_a_piece_goes m pin true = record { ids = refl; next = omega arith }
counting_a_piece_goes m pin false = record { ids = refl; next = omega arith }

piece_goes : (m : Machine) (pin time : ℕ) (s : Option PinState) → Goes m (after_piece pin time m s).0
unfolding after_piece
piece_goes m pin time None = record { ids = refl; next = omega arith }
piece_goes m pin time (Some (Gone place cause)) = record { ids = refl; next = omega arith }
piece_goes m pin time (Some (Kept p i g)) = counting_a_piece_goes m pin (nat_lt g (length (pieces_of m.ids i time)))

close_goes : (m : Machine) (pin : ℕ) (s : Option PinState) → Goes m (after_close pin m s).0
unfolding after_close without_pin
close_goes m pin None = record { ids = refl; next = omega arith }
close_goes m pin (Some s) = record { ids = refl; next = omega arith }

acted_goes : (m : Machine) (a : Action) → Goes m (acted m a).0
unfolding acted
acted_goes m (Step e) = equal_pins_and_ids_go m (after_step_at (nat_le last_place m.trail.place) e m).0 (ids_stay_after_step m e (nat_le last_place m.trail.place)) (pins_same_after_step m e (nat_le last_place m.trail.place))
acted_goes m (Rewind n) = rewind_goes m n (rewind_refusal n m.trail)
acted_goes m (OpenPin at) = opening_a_pin_goes m (unwrap_or at m.trail.place) (open_refusal (unwrap_or at m.trail.place) m.trail m.pins)
acted_goes m (NextPiece pin time) = piece_goes m pin time (pin_at pin m.pins)
acted_goes m (ClosePin pin) = close_goes m pin (pin_at pin m.pins)

goes_under_allocation : (m : Machine) (a : Action) (k : Allocation) → Goes m (acted_under m (a, k)).0
unfolding acted_under with_lost each_kept
goes_under_allocation m a Granted = acted_goes m a
goes_under_allocation m a Denied = record { ids = refl; next = omega arith }
goes_under_allocation m a (LosesPins pins) = record { ids = (acted_goes m a).ids; next = (acted_goes m a).next }

-- ---- an action that asks for no piece of the pin

abbrev IsOther : ℕ → Action → Type 0
IsOther pin (NextPiece n t) = n ≢ pin
IsOther pin (Step e) = Unit {0}
IsOther pin (Rewind n) = Unit {0}
IsOther pin (OpenPin at) = Unit {0}
IsOther pin (ClosePin n) = Unit {0}

rewind_fate : (m : Machine) (n pin : ℕ) (r : Option Refusal) → Fate (pin_at pin m.pins) (pin_at pin (unless r (after_rewind_by n) m).0.pins)
unfolding unless after_rewind_by
rewind_fate m n pin None = rewound_fate _ pin m.pins
rewind_fate m n pin (Some r) = inl refl

open_fate : (m : Machine) (at pin : ℕ) → pin < m.pins.next → (r : Option Refusal) → Fate (pin_at pin m.pins) (pin_at pin (unless r (after_open at) m).0.pins)
unfolding unless after_open with_pin pin_at
open_fate m at pin lt None = inl (pin_found_beside_opened_one pin m.pins.open_pins _ (λ e. omega (arith, lt, e)))
open_fate m at pin lt (Some r) = inl refl

counted_fate : (m : Machine) (of pin : ℕ) → of ≢ pin → (b : Bool) → Fate (pin_at pin m.pins) (pin_at pin (counted b of m).pins)
unfolding counted
counted_fate m of pin ne true = inl (pin_after_its_count of pin m.pins ∙ piece_counts_of_others_stay of pin (λ e. ne (sym e)) (pin_at pin m.pins))
counted_fate m of pin ne false = inl refl

piece_fate : (m : Machine) (of time pin : ℕ) → of ≢ pin → (s : Option PinState) → Fate (pin_at pin m.pins) (pin_at pin (after_piece of time m s).0.pins)
unfolding after_piece
piece_fate m of time pin ne None = inl refl
piece_fate m of time pin ne (Some (Gone place cause)) = inl refl
piece_fate m of time pin ne (Some (Kept p i g)) = counted_fate m of pin ne (nat_lt g (length (pieces_of m.ids i time)))

close_fate : (m : Machine) (of pin : ℕ) (s : Option PinState) → Fate (pin_at pin m.pins) (pin_at pin (after_close of m s).0.pins)
unfolding after_close
close_fate m of pin None = inl refl
close_fate m of pin (Some s) = closed_fate of pin m.pins

acted_fate : (m : Machine) (a : Action) (pin : ℕ) → pin < m.pins.next → IsOther pin a → Fate (pin_at pin m.pins) (pin_at pin (acted m a).0.pins)
unfolding acted
acted_fate m (Step e) pin lt o = inl (ap (pin_at pin) (pins_same_after_step m e (nat_le last_place m.trail.place)))
acted_fate m (Rewind n) pin lt o = rewind_fate m n pin (rewind_refusal n m.trail)
acted_fate m (OpenPin at) pin lt o = open_fate m (unwrap_or at m.trail.place) pin lt (open_refusal (unwrap_or at m.trail.place) m.trail m.pins)
acted_fate m (NextPiece of time) pin lt o = piece_fate m of time pin o (pin_at of m.pins)
acted_fate m (ClosePin of) pin lt o = close_fate m of pin (pin_at of m.pins)

-- two changes
then_fate : (x y z : Option PinState) → Fate x y → Fate y z → Fate x z
then_fate x y z (inl e) (inl d) = inl (d ∙ e)
then_fate x y z (inr n) (inl d) = inr (subst NotKept (sym d) n)
then_fate x y z f (inr n) = inr n

fate_under_allocation : (m : Machine) (a : Action) (k : Allocation) (pin : ℕ) → pin < m.pins.next → IsOther pin a → Fate (pin_at pin m.pins) (pin_at pin (acted_under m (a, k)).0.pins)
unfolding acted_under
fate_under_allocation m a Granted pin lt o = acted_fate m a pin lt o
fate_under_allocation m a Denied pin lt o = inl refl
fate_under_allocation m a (LosesPins pins) pin lt o = then_fate _ _ _ (acted_fate m a pin lt o) (lost_pins_fate pins pin (acted m a).0.pins)

piece_of_other_gives_nothing : (pin n t : ℕ) (r : Reply) → n ≢ pin → (piece_given pin (NextPiece n t) r ≡ []) × (last_given pin (NextPiece n t) r ≡ false)
unfolding piece_given last_given
piece_of_other_gives_nothing pin n t (Part p) o = (ap (λ (b : Bool). if b then p.bytes else []) (ne_eqb n pin o), ap (λ (b : Bool). b && p.last) (ne_eqb n pin o))
piece_of_other_gives_nothing pin n t (Answered a) o = (refl, refl)
piece_of_other_gives_nothing pin n t (Place p) o = (refl, refl)
piece_of_other_gives_nothing pin n t (Pinned p a) o = (refl, refl)
piece_of_other_gives_nothing pin n t Closed o = (refl, refl)
piece_of_other_gives_nothing pin n t (Refused e) o = (refl, refl)

other_action_gives_nothing : (pin : ℕ) (a : Action) (r : Reply) → IsOther pin a → (piece_given pin a r ≡ []) × (last_given pin a r ≡ false)
unfolding piece_given last_given
other_action_gives_nothing pin (NextPiece n t) r o = piece_of_other_gives_nothing pin n t r o
other_action_gives_nothing pin (Step e) r o = (refl, refl)
other_action_gives_nothing pin (Rewind n) r o = (refl, refl)
other_action_gives_nothing pin (OpenPin at) r o = (refl, refl)
other_action_gives_nothing pin (ClosePin n) r o = (refl, refl)

-- ---- one action of a list

-- the pin is kept with g pieces given; then it gives a piece or none
pub record Moves (pin time : ℕ) (m : Machine) (a : Action × Allocation) (place : ℕ) (image : Image) (g : ℕ) : Type 0 where
  pub given : ℕ
  pub after : (pin_at pin (acted_under m a).0.pins ≡ Some (Kept place image given)) ⊎ NotKept (pin_at pin (acted_under m a).0.pins)
  pub bytes : piece_given pin a.0 (acted_under m a).1 ++ concat (drop given (pieces_of m.ids image time)) ≡ concat (drop g (pieces_of m.ids image time))
  pub last : last_given pin a.0 (acted_under m a).1 ≡ true → concat (drop given (pieces_of m.ids image time)) ≡ []

no_truth : {A : Type 0} (b : Bool) → b ≡ false → b ≡ true → A
no_truth b f t = absurd (clash (sym f ∙ t))
  where
    clash : false ≡ true → ⊥
    clash e = cc

kept_or_not : (x y : Option PinState) (place : ℕ) (image : Image) (g : ℕ) → Fate x y → x ≡ Some (Kept place image g) → (y ≡ Some (Kept place image g)) ⊎ NotKept y
kept_or_not x y place image g (inl e) here = inl (e ∙ here)
kept_or_not x y place image g (inr n) here = inr n

other_action_moves_the_pin : (pin time : ℕ) (m : Machine) (a : Action) (k : Allocation) (place : ℕ) (image : Image) (g : ℕ) → pin < m.pins.next → IsOther pin a → pin_at pin m.pins ≡ Some (Kept place image g) → Moves pin time m (a, k) place image g
other_action_moves_the_pin pin time m a k place image g lt o here =
    let n = other_action_gives_nothing pin a (acted_under m (a, k)).1 o in
    record {
      given = g;
      after = kept_or_not _ _ place image g (fate_under_allocation m a k pin lt o) here;
      bytes = ap (λ l. l ++ concat (drop g (pieces_of m.ids image time))) n.0;
      last = no_truth _ n.1;
    }

-- the next piece of the pin itself, as the pin stands
abbrev Piecewise : ℕ → ℕ → Machine → Machine × Reply → ℕ → Image → ℕ → Type 0
Piecewise pin time m r place image g =
    (given : ℕ) × (pin_at pin r.0.pins ≡ Some (Kept place image given))
    × (piece_given pin (NextPiece pin time) r.1 ++ concat (drop given (pieces_of m.ids image time)) ≡ concat (drop g (pieces_of m.ids image time)))
    × (last_given pin (NextPiece pin time) r.1 ≡ true → concat (drop given (pieces_of m.ids image time)) ≡ [])

-- of a piece that was replied
bytes_given_by_own_piece : (pin time : ℕ) (p : Piece) → (piece_given pin (NextPiece pin time) (Part p) ≡ p.bytes) × (last_given pin (NextPiece pin time) (Part p) ≡ p.last)
unfolding piece_given last_given
bytes_given_by_own_piece pin time p = (ap (λ (b : Bool). if b then p.bytes else []) (eq-eqb pin pin refl), ap (λ (b : Bool). b && p.last) (eq-eqb pin pin refl))

counted_piece : (pin time : ℕ) (m : Machine) (place : ℕ) (image : Image) (g : ℕ) → pin_at pin m.pins ≡ Some (Kept place image g)
    → (b : Bool) → nat_lt g (length (pieces_of m.ids image time)) ≡ b → Piecewise pin time m (counted b pin m, Part (piece_of m.ids image time g)) place image g
unfolding counted piece_of nth_piece
counted_piece pin time m place image g here true lt =
    let ps = pieces_of m.ids image time in
    let o = bytes_given_by_own_piece pin time (piece_of m.ids image time g) in
    let s : suc g ≡ g + 1 = omega arith in (
      g + 1,
      pin_after_its_count pin pin m.pins ∙ ap (option_map (if_kept (piece_count_of_pin_raised pin pin))) here ∙ piece_count_of_own_rises pin place image g,
      ap (λ l. l ++ concat (drop (g + 1) ps)) o.0 ∙ subst (λ n. unwrap_or (slice_get ps g) [] ++ concat (drop n ps) ≡ concat (drop g ps)) s (next_piece_and_rest_joined ps g (ltb-true g (length ps) lt)),
      λ e. ap concat (no_pieces_left_to_drop ps (g + 1) (leb-true (length ps) (g + 1) (sym o.1 ∙ e))),
    )
counted_piece pin time m place image g here false le =
    let ps = pieces_of m.ids image time in
    let o = bytes_given_by_own_piece pin time (piece_of m.ids image time g) in
    let past : length ps ≤ g = ltb-false g (length ps) le in (
      g,
      here,
      ap (λ l. l ++ concat (drop g ps)) (o.0 ∙ no_piece_past_the_last ps g past),
      λ e. ap concat (no_pieces_left_to_drop ps g past),
    )

own_piece_is_next_piece : (pin time : ℕ) (m : Machine) (place : ℕ) (image : Image) (g : ℕ) → pin_at pin m.pins ≡ Some (Kept place image g) → Piecewise pin time m (acted m (NextPiece pin time)) place image g
unfolding acted after_piece
own_piece_is_next_piece pin time m place image g here =
    subst (λ s. Piecewise pin time m (after_piece pin time m s) place image g) (sym here)
    (counted_piece pin time m place image g here (nat_lt g (length (pieces_of m.ids image time))) refl)

own_piece_moves_the_pin : (pin time : ℕ) (m : Machine) (k : Allocation) (place : ℕ) (image : Image) (g : ℕ) → pin_at pin m.pins ≡ Some (Kept place image g) → Moves pin time m (NextPiece pin time, k) place image g
unfolding acted_under piece_given last_given
own_piece_moves_the_pin pin time m Granted place image g here =
    let o = own_piece_is_next_piece pin time m place image g here in
    record { given = o.0; after = inl o.1; bytes = o.2; last = o.3 }
own_piece_moves_the_pin pin time m Denied place image g here =
    record { given = g; after = inl here; bytes = refl; last = no_truth _ refl }
own_piece_moves_the_pin pin time m (LosesPins pins) place image g here =
    let o = own_piece_is_next_piece pin time m place image g here in
    let f : Fate (pin_at pin (acted m (NextPiece pin time)).0.pins) (pin_at pin (with_lost pins (acted m (NextPiece pin time)).0.pins)) = lost_pins_fate pins pin (acted m (NextPiece pin time)).0.pins in
    record { given = o.0; after = kept_or_not _ _ place image o.0 f o.1; bytes = o.2; last = o.3 }

pub each_action_moves_the_pin : (pin time : ℕ) (m : Machine) (a : Action) (k : Allocation) (place : ℕ) (image : Image) (g : ℕ) → pin < m.pins.next → AsksAt pin time a → pin_at pin m.pins ≡ Some (Kept place image g) → Moves pin time m (a, k) place image g
each_action_moves_the_pin pin time m (NextPiece n t) k place image g lt asks here = go (same_or_not n pin)
  where
    go : (n ≡ pin) ⊎ (n ≢ pin) → Moves pin time m (NextPiece n t, k) place image g
    go (inl e) = subst (λ n. Moves pin time m (NextPiece n t, k) place image g) (sym e) (subst (λ t. Moves pin time m (NextPiece pin t, k) place image g) (sym (asks e)) (own_piece_moves_the_pin pin time m k place image g here))
    go (inr ne) = other_action_moves_the_pin pin time m (NextPiece n t) k place image g lt ne here
each_action_moves_the_pin pin time m (Step e) k place image g lt asks here = other_action_moves_the_pin pin time m (Step e) k place image g lt tt here
each_action_moves_the_pin pin time m (Rewind n) k place image g lt asks here = other_action_moves_the_pin pin time m (Rewind n) k place image g lt tt here
each_action_moves_the_pin pin time m (OpenPin at) k place image g lt asks here = other_action_moves_the_pin pin time m (OpenPin at) k place image g lt tt here
each_action_moves_the_pin pin time m (ClosePin n) k place image g lt asks here = other_action_moves_the_pin pin time m (ClosePin n) k place image g lt tt here

-- ---- a pin that isn't kept gives nothing any more

pub record Silent (pin : ℕ) (m : Machine) (a : Action × Allocation) : Type 0 where
  pub bytes : piece_given pin a.0 (acted_under m a).1 ≡ []
  pub last : last_given pin a.0 (acted_under m a).1 ≡ false
  pub after : NotKept (pin_at pin (acted_under m a).0.pins)

pin_not_kept_stays_so : (x y : Option PinState) → NotKept x → Fate x y → NotKept y
pin_not_kept_stays_so x y n (inl e) = subst NotKept (sym e) n
pin_not_kept_stays_so x y n (inr d) = d

other_action_is_silent : (pin : ℕ) (m : Machine) (a : Action) (k : Allocation) → pin < m.pins.next → IsOther pin a → NotKept (pin_at pin m.pins) → Silent pin m (a, k)
other_action_is_silent pin m a k lt o n =
    let g = other_action_gives_nothing pin a (acted_under m (a, k)).1 o in
    record { bytes = g.0; last = g.1; after = pin_not_kept_stays_so _ _ n (fate_under_allocation m a k pin lt o) }

abbrev Refuses : ℕ → ℕ → Machine → Machine × Reply → Type 0
Refuses pin time m r = (r.0 ≡ m) × (e : Refusal) × (r.1 ≡ Refused e)

piece_of_unkept_is_refused : (pin time : ℕ) (m : Machine) (s : Option PinState) → NotKept s → Refuses pin time m (after_piece pin time m s)
unfolding after_piece
piece_of_unkept_is_refused pin time m None n = (refl, _, refl)
piece_of_unkept_is_refused pin time m (Some (Gone place cause)) n = (refl, _, refl)
piece_of_unkept_is_refused pin time m (Some (Kept p i g)) n = absurd (n p i g refl)

refused_piece_gives_nothing : (pin time : ℕ) (r : Reply) (e : Refusal) → r ≡ Refused e → (piece_given pin (NextPiece pin time) r ≡ []) × (last_given pin (NextPiece pin time) r ≡ false)
unfolding piece_given last_given
refused_piece_gives_nothing pin time r e is = (ap (piece_given pin (NextPiece pin time)) is, ap (last_given pin (NextPiece pin time)) is)

own_acted : (pin time : ℕ) (m : Machine) → NotKept (pin_at pin m.pins) → Refuses pin time m (acted m (NextPiece pin time))
unfolding acted
own_acted pin time m n = piece_of_unkept_is_refused pin time m (pin_at pin m.pins) n

own_piece_unkept_is_silent : (pin time : ℕ) (m : Machine) (k : Allocation) → NotKept (pin_at pin m.pins) → Silent pin m (NextPiece pin time, k)
unfolding acted_under
own_piece_unkept_is_silent pin time m Granted n =
    let r = own_acted pin time m n in
    let g = refused_piece_gives_nothing pin time (acted m (NextPiece pin time)).1 r.1 r.2 in
    record { bytes = g.0; last = g.1; after = subst (λ (x : Machine). NotKept (pin_at pin x.pins)) (sym r.0) n }
own_piece_unkept_is_silent pin time m Denied n =
    let g = refused_piece_gives_nothing pin time (Refused NoMemory) NoMemory refl in
    record { bytes = g.0; last = g.1; after = n }
own_piece_unkept_is_silent pin time m (LosesPins pins) n =
    let r = own_acted pin time m n in
    let g = refused_piece_gives_nothing pin time (acted m (NextPiece pin time)).1 r.1 r.2 in
    record { bytes = g.0; last = g.1; after = pin_not_kept_stays_so _ _ (subst (λ (x : Machine). NotKept (pin_at pin x.pins)) (sym r.0) n) (lost_pins_fate pins pin (acted m (NextPiece pin time)).0.pins) }

pub action_on_unkept_is_silent : (pin : ℕ) (m : Machine) (a : Action) (k : Allocation) → pin < m.pins.next → NotKept (pin_at pin m.pins) → Silent pin m (a, k)
action_on_unkept_is_silent pin m (NextPiece n t) k lt not = go (same_or_not n pin)
  where
    go : (n ≡ pin) ⊎ (n ≢ pin) → Silent pin m (NextPiece n t, k)
    go (inl e) = subst (λ n. Silent pin m (NextPiece n t, k)) (sym e) (own_piece_unkept_is_silent pin t m k not)
    go (inr ne) = other_action_is_silent pin m (NextPiece n t) k lt ne not
action_on_unkept_is_silent pin m (Step e) k lt not = other_action_is_silent pin m (Step e) k lt tt not
action_on_unkept_is_silent pin m (Rewind n) k lt not = other_action_is_silent pin m (Rewind n) k lt tt not
action_on_unkept_is_silent pin m (OpenPin at) k lt not = other_action_is_silent pin m (OpenPin at) k lt tt not
action_on_unkept_is_silent pin m (ClosePin n) k lt not = other_action_is_silent pin m (ClosePin n) k lt tt not

-- ---- a list of actions

pub next_number_stays_above_pin : (pin : ℕ) (m : Machine) (a : Action) (k : Allocation) → pin < m.pins.next → pin < (acted_under m (a, k)).0.pins.next
next_number_stays_above_pin pin m a k lt = omega (arith, lt, (goes_under_allocation m a k).next)

actions_on_unkept_are_silent : (pin : ℕ) (m : Machine) (actions : List (Action × Allocation)) → pin < m.pins.next → NotKept (pin_at pin m.pins) → (bytes_given pin m actions ≡ []) × (gave_last pin m actions ≡ false)
unfolding bytes_given gave_last
actions_on_unkept_are_silent pin m [] lt not = (refl, refl)
actions_on_unkept_are_silent pin m ((a, k) ∷ more) lt not =
    let s = action_on_unkept_is_silent pin m a k lt not in
    let rest = actions_on_unkept_are_silent pin (acted_under m (a, k)).0 more (next_number_stays_above_pin pin m a k lt) s.after in (
      ap (λ l. l ++ bytes_given pin (acted_under m (a, k)).0 more) s.bytes ∙ rest.0,
      ap (λ b. b || gave_last pin (acted_under m (a, k)).0 more) s.last ∙ rest.1,
    )

-- what is given from piece g on
abbrev GivesFrom : ℕ → ℕ → Machine → List (Action × Allocation) → List (List ℕ) → ℕ → Type 0
GivesFrom pin time m actions pieces g = (rest : List ℕ) × (bytes_given pin m actions ++ rest ≡ concat (drop g pieces)) × (gave_last pin m actions ≡ true → rest ≡ [])

pub one_of_true_or : (b c : Bool) → (b || c) ≡ true → (b ≡ true) ⊎ (c ≡ true)
one_of_true_or true c e = inl refl
one_of_true_or false c e = inr e

actions_give_pieces_from : (pin time : ℕ) (m : Machine) (actions : List (Action × Allocation)) (place : ℕ) (image : Image) (g : ℕ) → pin < m.pins.next → AskAt pin time actions → pin_at pin m.pins ≡ Some (Kept place image g)
    → GivesFrom pin time m actions (pieces_of m.ids image time) g
unfolding bytes_given gave_last
actions_give_pieces_from pin time m [] place image g lt asks here = (concat (drop g (pieces_of m.ids image time)), refl, no_truth _ refl)
actions_give_pieces_from pin time m ((a, k) ∷ more) place image g lt asks here = go (λ h kept. actions_give_pieces_from pin time (acted_under m (a, k)).0 more place image h (next_number_stays_above_pin pin m a k lt) asks.1 kept) (each_action_moves_the_pin pin time m a k place image g lt asks.0 here).after
  where
    s : Moves pin time m (a, k) place image g
    s = each_action_moves_the_pin pin time m a k place image g lt asks.0 here

    n : Machine
    n = (acted_under m (a, k)).0

    ps : List (List ℕ)
    ps = pieces_of m.ids image time

    joined : GivesFrom pin time n more ps s.given → GivesFrom pin time m ((a, k) ∷ more) ps g
    joined r = (
      r.0,
      append_assoc (piece_given pin a (acted_under m (a, k)).1) (bytes_given pin n more) r.0 ∙ ap (λ l. piece_given pin a (acted_under m (a, k)).1 ++ l) r.1 ∙ s.bytes,
      λ e. ends (one_of_true_or (last_given pin a (acted_under m (a, k)).1) (gave_last pin n more) e),
    )
      where
        ends : (last_given pin a (acted_under m (a, k)).1 ≡ true) ⊎ (gave_last pin n more ≡ true) → r.0 ≡ []
        ends (inl e) = nothing_follows_in_empty_join (bytes_given pin n more) r.0 (r.1 ∙ s.last e)
        ends (inr e) = r.2 e

    go : ((h : ℕ) → pin_at pin n.pins ≡ Some (Kept place image h) → GivesFrom pin time n more (pieces_of n.ids image time) h)
        → (pin_at pin n.pins ≡ Some (Kept place image s.given)) ⊎ NotKept (pin_at pin n.pins) → GivesFrom pin time m ((a, k) ∷ more) ps g
    go more_given (inl kept) = joined (subst (λ i. GivesFrom pin time n more (pieces_of i image time) s.given) (goes_under_allocation m a k).ids (more_given s.given kept))
    go more_given (inr not) =
        let q = actions_on_unkept_are_silent pin n more (next_number_stays_above_pin pin m a k lt) not in
        joined (concat (drop s.given ps), ap (λ l. l ++ concat (drop s.given ps)) q.0, no_truth _ q.1)

pub gives_text : (m : Machine) (actions : List (Action × Allocation)) (pin time : ℕ) → GivesText m actions pin time
gives_text m actions pin time place image here lt asks =
    let r = actions_give_pieces_from pin time m actions place image 0 lt asks here in
    (r.0, r.1 ∙ pieces_join_to_dump m.ids image time, r.2)
