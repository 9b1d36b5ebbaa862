-- Each step keeps the rule of a start.
use Rattle.std.proofs.Common.{◌≡◌, ◌≢◌, ℕ, zero, suc, ◌≤◌, ◌==◌, Bool, true, false, List, [], ◌∷◌, ◌++◌, length, set, Option, Some, None, refl, sym, ap, ◌∙◌, subst, ne_eqb, inl, inr, ⊎_elim, arith}
use Rattle.std.specs.Prelude.{◌⊎◌, slice_index, slice_set, IfSome}
use mathlib.Core.Option.{none, some, some-ne-none, some-injective}
use prog.Atomic.{either}
use lib.ListN.{get_elem?}
use Rattle.atomic_table.specs.Table.{State, keeps, step, Allows, Splits, Joins}
use Rattle.atomic_table.proofs.Lists.{at_set}
use Rattle.dump_pipe.specs.declared.start_side.StartSide.{StartSide}
use Rattle.dump_pipe.specs.declared.start_side.StartSide.TheVariants.{Begins, Waits, Both, Spent}
use Rattle.dump_pipe.specs.Starts.{FitsTold, SitsAtStart, IsStart, may_begin, has_begun, WasToldBy, Agree, WereCompared}

abbrev StartIsKept : State (Unit {0}) StartSide → Type 0
StartIsKept s = IsStart s.words s.views

start_word_set : (ws : List ℕ) (x : ℕ) → length ws ≡ 1 → (slice_index (slice_set ws 0 x) 0 ≡ x) × (length (slice_set ws 0 x) ≡ 1)
start_word_set [] x e = absurd (omega arith)
start_word_set (a ∷ []) x e = (refl, refl)
start_word_set (a ∷ b ∷ ws) x e = absurd (omega arith)

-- a step by which one seat gets another side, and the others sit well at the new word
start_rule_kept_by_seat : (words : List ℕ) (views : List StartSide) (id x : ℕ) (w : StartSide) (u : IsStart words views) → x ≤ 2 → SitsAtStart u.beginner u.waiter x id w
    → ((seat : ℕ) (v : StartSide) → seat ≢ id → SitsAtStart u.beginner u.waiter (slice_index words 0) seat v → SitsAtStart u.beginner u.waiter x seat v) → IsStart (slice_set words 0 x) (set views id w)
start_rule_kept_by_seat words views id x w u small mine others =
    let k = start_word_set words x u.one in record {
      beginner = u.beginner;
      waiter = u.waiter;
      one = k.1;
      word = omega (arith, k.0, small);
      seats = λ seat v e. subst (λ (y : ℕ). SitsAtStart u.beginner u.waiter y seat v) (sym k.0) (⊎_elim
          (λ (t : (seat ≡ id) × (w ≡ v)). subst (λ (z : ℕ × StartSide). SitsAtStart u.beginner u.waiter x z.0 z.1) (λ i. (sym t.0 i, t.1 i)) mine)
          (λ (t : (seat ≢ id) × (get_elem? views seat ≡ some v)). others seat v t.0 (u.seats seat v t.1))
          (at_set views id seat w v e));
    }

-- the step of the seat that begins
begun_word_fits_beginner : (w : ℕ) → w ≤ 2 → (either (w == 0) 1 w ≤ 2) × FitsTold 1 (either (w == 0) 1 w) (Some (may_begin w))
begun_word_fits_beginner zero h = (omega arith, refl)
begun_word_fits_beginner (suc zero) h = (omega arith, refl)
begun_word_fits_beginner (suc (suc zero)) h = (omega arith, refl)
begun_word_fits_beginner (suc (suc (suc n))) h = absurd (omega arith)

begun_word_fits_waiter : (w : ℕ) (y : Option Bool) → FitsTold 2 w y → FitsTold 2 (either (w == 0) 1 w) y
begun_word_fits_waiter zero None h = λ e. absurd (omega arith)
begun_word_fits_waiter zero (Some true) h = absurd (omega arith)
begun_word_fits_waiter zero (Some false) h = absurd (omega arith)
begun_word_fits_waiter (suc n) y h = subst (λ b. FitsTold 2 (either b 1 (suc n)) y) (sym (ne_eqb (suc n) 0 (λ e. absurd (omega arith)))) h

begun_word_leaves_others : (beginner waiter w seat : ℕ) (v : StartSide) → seat ≢ beginner → SitsAtStart beginner waiter w seat v → SitsAtStart beginner waiter (either (w == 0) 1 w) seat v
begun_word_leaves_others beginner waiter w seat (Begins x) ne h = absurd (ne h.0)
begun_word_leaves_others beginner waiter w seat (Waits y) ne h = (h.0, begun_word_fits_waiter w y h.1)
begun_word_leaves_others beginner waiter w seat (Both x y) ne h = absurd (ne h.0)
begun_word_leaves_others beginner waiter w seat Spent ne h = h

beginner_is_told_the_same : (w : ℕ) (x : Option Bool) → FitsTold 1 w x → IfSome x (λ b. b ≡ may_begin w)
beginner_is_told_the_same w None h = tt
beginner_is_told_the_same w (Some true) h = ap may_begin (sym h)
beginner_is_told_the_same w (Some false) h = ap may_begin (sym h)

begin_seat_begins : (slots id : ℕ) (x : Option Bool) → Allows StartIsKept slots id (Begins x, []) 0 (λ n. either (n == 0) 1 n) (λ found n. WasToldBy Begins (may_begin found) (Begins x, []) n)
begin_seat_begins slots id x s h len at small =
    let w = slice_index s.words 0 in
    let mine = h.seats id (Begins x) at in
    let c = begun_word_fits_beginner w h.word in (
      Begins (Some (may_begin w)),
      keeps,
      tt,
      start_rule_kept_by_seat s.words s.views id (either (w == 0) 1 w) (Begins (Some (may_begin w))) h c.0 (mine.0, c.1) (λ seat v ne. begun_word_leaves_others h.beginner h.waiter w seat v (λ e. ne (e ∙ sym mine.0))),
      (refl, beginner_is_told_the_same w x mine.1),
    )

pub begin_side_begins : (slots id : ℕ) (x : Option Bool) (m : StartSide × List (ℕ × Unit {0})) → m ≡ (Begins x, []) → Allows StartIsKept slots id m 0 (λ n. either (n == 0) 1 n) (λ found n. WasToldBy Begins (may_begin found) m n)
begin_side_begins slots id x m is = subst (λ (u : StartSide × List (ℕ × Unit {0})). Allows StartIsKept slots id u 0 (λ n. either (n == 0) 1 n) (λ found n. WasToldBy Begins (may_begin found) u n)) (sym is) (begin_seat_begins slots id x)

-- the step of the seat that waits
given_up_word_fits_waiter : (w : ℕ) → w ≤ 2 → (either (w == 0) 2 w ≤ 2) × FitsTold 2 (either (w == 0) 2 w) (Some (has_begun w))
given_up_word_fits_waiter zero h = (omega arith, refl)
given_up_word_fits_waiter (suc zero) h = (omega arith, refl)
given_up_word_fits_waiter (suc (suc zero)) h = (omega arith, refl)
given_up_word_fits_waiter (suc (suc (suc n))) h = absurd (omega arith)

given_up_word_fits_beginner : (w : ℕ) (x : Option Bool) → FitsTold 1 w x → FitsTold 1 (either (w == 0) 2 w) x
given_up_word_fits_beginner zero None h = λ e. absurd (omega arith)
given_up_word_fits_beginner zero (Some true) h = absurd (omega arith)
given_up_word_fits_beginner zero (Some false) h = absurd (omega arith)
given_up_word_fits_beginner (suc n) x h = subst (λ b. FitsTold 1 (either b 2 (suc n)) x) (sym (ne_eqb (suc n) 0 (λ e. absurd (omega arith)))) h

given_up_word_leaves_others : (beginner waiter w seat : ℕ) (v : StartSide) → seat ≢ waiter → SitsAtStart beginner waiter w seat v → SitsAtStart beginner waiter (either (w == 0) 2 w) seat v
given_up_word_leaves_others beginner waiter w seat (Begins x) ne h = (h.0, given_up_word_fits_beginner w x h.1)
given_up_word_leaves_others beginner waiter w seat (Waits y) ne h = absurd (ne h.0)
given_up_word_leaves_others beginner waiter w seat (Both x y) ne h = absurd (ne h.1)
given_up_word_leaves_others beginner waiter w seat Spent ne h = h

waiter_is_told_the_same : (w : ℕ) (y : Option Bool) → FitsTold 2 w y → IfSome y (λ b. b ≡ has_begun w)
waiter_is_told_the_same w None h = tt
waiter_is_told_the_same w (Some true) h = ap has_begun (sym h)
waiter_is_told_the_same w (Some false) h = ap has_begun (sym h)

wait_seat_gives_up : (slots id : ℕ) (y : Option Bool) → Allows StartIsKept slots id (Waits y, []) 0 (λ n. either (n == 0) 2 n) (λ found n. WasToldBy Waits (has_begun found) (Waits y, []) n)
wait_seat_gives_up slots id y s h len at small =
    let w = slice_index s.words 0 in
    let mine = h.seats id (Waits y) at in
    let c = given_up_word_fits_waiter w h.word in (
      Waits (Some (has_begun w)),
      keeps,
      tt,
      start_rule_kept_by_seat s.words s.views id (either (w == 0) 2 w) (Waits (Some (has_begun w))) h c.0 (mine.0, c.1) (λ seat v ne. given_up_word_leaves_others h.beginner h.waiter w seat v (λ e. ne (e ∙ sym mine.0))),
      (refl, waiter_is_told_the_same w y mine.1),
    )

pub wait_side_gives_up : (slots id : ℕ) (y : Option Bool) (m : StartSide × List (ℕ × Unit {0})) → m ≡ (Waits y, []) → Allows StartIsKept slots id m 0 (λ n. either (n == 0) 2 n) (λ found n. WasToldBy Waits (has_begun found) m n)
wait_side_gives_up slots id y m is = subst (λ (u : StartSide × List (ℕ × Unit {0})). Allows StartIsKept slots id u 0 (λ n. either (n == 0) 2 n) (λ found n. WasToldBy Waits (has_begun found) u n)) (sym is) (wait_seat_gives_up slots id y)

-- the step by which both seats compare
told_sides_agree : (w : ℕ) (x y : Option Bool) → FitsTold 1 w x → FitsTold 2 w y → Agree x y
told_sides_agree w None None h k = tt
told_sides_agree w None (Some true) h k = absurd (h k)
told_sides_agree w None (Some false) h k = refl
told_sides_agree w (Some true) None h k = refl
told_sides_agree w (Some false) None h k = absurd (k h)
told_sides_agree w (Some true) (Some true) h k = refl
told_sides_agree w (Some true) (Some false) h k = absurd (omega arith)
told_sides_agree w (Some false) (Some true) h k = absurd (omega arith)
told_sides_agree w (Some false) (Some false) h k = refl

both_seat_compares : (slots id : ℕ) (x y : Option Bool) → Allows StartIsKept slots id (Both x y, []) 0 (λ n. n) (WereCompared (step slots 0 0 0 none) (Both x y, []))
both_seat_compares slots id x y s h len at small =
    let w = slice_index s.words 0 in
    let mine = h.seats id (Both x y) at in (
      Both x y,
      keeps,
      tt,
      start_rule_kept_by_seat s.words s.views id w (Both x y) h h.word mine (λ seat v ne t. t),
      told_sides_agree w x y mine.2 mine.3,
    )

pub both_side_compares : (slots id : ℕ) (x y : Option Bool) (m : StartSide × List (ℕ × Unit {0})) → m ≡ (Both x y, []) → Allows StartIsKept slots id m 0 (λ n. n) (WereCompared (step slots 0 0 0 none) m)
both_side_compares slots id x y m is = subst (λ (u : StartSide × List (ℕ × Unit {0})). Allows StartIsKept slots id u 0 (λ n. n) (WereCompared (step slots 0 0 0 none) u)) (sym is) (both_seat_compares slots id x y)

-- a seat that neither begins nor waits sits well whichever does
free_seat_sits_on : (beginner waiter waiter' w seat : ℕ) (v : StartSide) → seat ≢ beginner → seat ≢ waiter → SitsAtStart beginner waiter w seat v → SitsAtStart beginner waiter' w seat v
free_seat_sits_on beginner waiter waiter' w seat (Begins x) ne ne' h = h
free_seat_sits_on beginner waiter waiter' w seat (Waits y) ne ne' h = absurd (ne' h.0)
free_seat_sits_on beginner waiter waiter' w seat (Both x y) ne ne' h = absurd (ne h.0)
free_seat_sits_on beginner waiter waiter' w seat Spent ne ne' h = h

begin_and_wait_seats_join : (id other : ℕ) (x y : Option Bool) → Joins StartIsKept id (Begins x) other (Waits y) (Both x y) Spent
begin_and_wait_seats_join id other x y s h at ne there =
    let w = slice_index s.words 0 in
    let m = Both x y in
    let was : get_elem? s.views other ≡ some (Waits y) = ⊎_elim (λ (t : (other ≡ id) × (m ≡ Waits y)). absurd (ne t.0)) (λ (t : (other ≢ id) × (get_elem? s.views other ≡ some (Waits y))). t.1) (at_set s.views id other m (Waits y) there) in
    let mine = h.seats id (Begins x) at in
    let theirs = h.seats other (Waits y) was in
    let met = set s.views id m in record {
      beginner = h.beginner;
      waiter = h.beginner;
      one = h.one;
      word = h.word;
      seats = λ seat v e. ⊎_elim
          (λ (t : (seat ≡ other) × (Spent ≡ v)). subst (SitsAtStart h.beginner h.beginner w seat) t.1 tt)
          (λ (t : (seat ≢ other) × (get_elem? met seat ≡ some v)). ⊎_elim
          (λ (k : (seat ≡ id) × (m ≡ v)). subst (λ (z : ℕ × StartSide). SitsAtStart h.beginner h.beginner w z.0 z.1) (λ i. (sym k.0 i, k.1 i)) (mine.0, mine.0, mine.1, theirs.1))
          (λ (k : (seat ≢ id) × (get_elem? s.views seat ≡ some v)). free_seat_sits_on h.beginner h.waiter h.beginner w seat v (λ z. k.0 (z ∙ sym mine.0)) (λ z. t.0 (z ∙ sym theirs.0)) (h.seats seat v k.1))
          (at_set s.views id seat m v t.1))
          (at_set met other seat Spent v e);
    }

pub begin_and_wait_sides_join : (id other : ℕ) (v w : StartSide) (x y : Option Bool) → v ≡ Begins x → w ≡ Waits y → Joins StartIsKept id v other w (Both x y) Spent
begin_and_wait_sides_join id other v w x y is is' = subst (λ (u : StartSide × StartSide). Joins StartIsKept id u.0 other u.1 (Both x y) Spent) (λ i. (sym is i, sym is' i)) (begin_and_wait_seats_join id other x y)

-- a seat of a longer list is one of the list, or the last
seat_of_longer_list : (l : List StartSide) (a b : StartSide) (j : ℕ) → get_elem? (l ++ a ∷ []) j ≡ some b → (get_elem? l j ≡ some b) ⊎ ((j ≡ length l) × (a ≡ b))
seat_of_longer_list [] a b zero e = inr (refl, some-injective a b e)
seat_of_longer_list [] a b (suc j) e = absurd (some-ne-none b (sym e))
seat_of_longer_list (x ∷ xs) a b zero e = inl e
seat_of_longer_list (x ∷ xs) a b (suc j) e = ⊎_elim (λ (t : get_elem? xs j ≡ some b). inl t) (λ (t : (j ≡ length xs) × (a ≡ b)). inr (ap suc t.0, t.1)) (seat_of_longer_list xs a b j e)

whole_seat_parts : (id : ℕ) → Splits StartIsKept id (Both None None) (Begins None) (Waits None)
whole_seat_parts id s h at =
    let w = slice_index s.words 0 in
    let mine = h.seats id (Both None None) at in
    let left = set s.views id (Begins None) in record {
      beginner = h.beginner;
      waiter = length left;
      one = h.one;
      word = h.word;
      seats = λ seat v e. ⊎_elim
          (λ (t : get_elem? left seat ≡ some v). ⊎_elim
          (λ (k : (seat ≡ id) × (Begins None ≡ v)). subst (λ (z : ℕ × StartSide). SitsAtStart h.beginner (length left) w z.0 z.1) (λ i. (sym k.0 i, k.1 i)) (mine.0, mine.2))
          (λ (k : (seat ≢ id) × (get_elem? s.views seat ≡ some v)). free_seat_sits_on h.beginner h.waiter (length left) w seat v (λ z. k.0 (z ∙ sym mine.0)) (λ z. k.0 (z ∙ sym mine.1)) (h.seats seat v k.1))
          (at_set s.views id seat (Begins None) v t))
          (λ (t : (seat ≡ length left) × (Waits None ≡ v)). subst (SitsAtStart h.beginner (length left) w seat) t.1 (t.0, mine.3))
          (seat_of_longer_list left (Waits None) v seat e);
    }

pub whole_side_parts : (id : ℕ) (m : StartSide × List (ℕ × Unit {0})) → m ≡ (Both None None, []) → Splits StartIsKept id m.0 (Begins None) (Waits None)
whole_side_parts id m is = subst (λ (u : StartSide × List (ℕ × Unit {0})). Splits StartIsKept id u.0 (Begins None) (Waits None)) (sym is) (whole_seat_parts id)

new_start_seat_sits : (seat : ℕ) (v : StartSide) → get_elem? (Both None None ∷ []) seat ≡ some v → SitsAtStart 0 0 0 seat v
new_start_seat_sits zero v e = subst (SitsAtStart 0 0 0 0) (some-injective _ _ e) (refl, refl, (λ z. absurd (omega arith)), λ z. absurd (omega arith))
new_start_seat_sits (suc n) v e = absurd (some-ne-none v (sym e))

pub new_start_is_a_start : IsStart (0 ∷ []) (Both None None ∷ [])
new_start_is_a_start = record { beginner = 0; waiter = 0; one = refl; word = omega arith; seats = new_start_seat_sits }
