-- Each step keeps the one ledger.
use Rattle.std.proofs.Common.{◌≡◌, ◌≢◌, ℕ, zero, suc, List, [], ◌∷◌, ◌++◌, set, refl, sym, ap, ◌∙◌, subst, ⊎_elim, append_assoc, append-nil}
use mathlib.Core.Option.{some, some-ne-none, some-injective}
use mathlib.Core.List.{IsPrefix}
use lib.ListN.{get_elem?}
use Rattle.atomic_table.specs.Table.{State, keeps, Allows, Splits, Joins}
use Rattle.atomic_table.proofs.Lists.{at_set, at_snoc}
use Rattle.heap_lock.specs.declared.ledger_side.LedgerSide.{LedgerSide}
use Rattle.heap_lock.specs.declared.ledger_side.LedgerSide.TheVariants.{Full, Seen, Both, NoCalls}
use Rattle.heap_lock.specs.Calls.{Call}
use Rattle.heap_lock.specs.LedgerSides.{calls_of, full_of, seen_of, both_sides, IsLedgerSide, IsOneLedger, Added, Compared}

abbrev LedgerIsKept : State (Unit {0}) LedgerSide → Type 0
LedgerIsKept s = IsOneLedger s.views

-- a side of another seat fits the ledger with more calls, whichever seat is its own then
other_seat_fits_longer_ledger : (own : ℕ) (all more : List Call) (seat : ℕ) (v : LedgerSide) → seat ≢ own → IsLedgerSide own all seat v → IsLedgerSide own (all ++ more) seat v
other_seat_fits_longer_ledger own all more seat (Full xs) ne h = absurd (ne h.0)
other_seat_fits_longer_ledger own all more seat (Seen ys) ne h = (h.0 ++ more, sym (append_assoc ys h.0 more) ∙ ap (λ l. l ++ more) h.1)
other_seat_fits_longer_ledger own all more seat (Both xs ys) ne h = absurd (ne h.0)
other_seat_fits_longer_ledger own all more seat NoCalls ne h = tt

pub full_side_begins_ledger : IsOneLedger (Full [] ∷ [])
full_side_begins_ledger = (0, [], one)
  where
    one : (seat : ℕ) (v : LedgerSide) → get_elem? (Full [] ∷ []) seat ≡ some v → IsLedgerSide 0 [] seat v
    one zero v e = subst (IsLedgerSide 0 [] 0) (some-injective _ _ e) (refl, refl)
    one (suc n) v e = absurd (some-ne-none v (sym e))

-- the own side becomes another one that fits
own_side_changed_with_calls : (views : List LedgerSide) (own : ℕ) (all more : List Call) (w : LedgerSide) → ((seat : ℕ) (v : LedgerSide) → get_elem? views seat ≡ some v → IsLedgerSide own all seat v) → IsLedgerSide own (all ++ more) own w
    → (seat : ℕ) (v : LedgerSide) → get_elem? (set views own w) seat ≡ some v → IsLedgerSide own (all ++ more) seat v
own_side_changed_with_calls views own all more w each mine seat v e = ⊎_elim
    (λ (t : (seat ≡ own) × (w ≡ v)). subst (λ (x : ℕ × LedgerSide). IsLedgerSide own (all ++ more) x.0 x.1) (λ i. (sym t.0 i, t.1 i)) mine)
    (λ (t : (seat ≢ own) × (get_elem? views seat ≡ some v)). other_seat_fits_longer_ledger own all more seat v t.0 (each seat v t.1))
    (at_set views own seat w v e)

ledger_with_no_calls_more : (own : ℕ) (all : List Call) (views : List LedgerSide) → ((seat : ℕ) (v : LedgerSide) → get_elem? views seat ≡ some v → IsLedgerSide own (all ++ []) seat v) → (seat : ℕ) (v : LedgerSide) → get_elem? views seat ≡ some v → IsLedgerSide own all seat v
ledger_with_no_calls_more own all views each = subst (λ l. (seat : ℕ) (v : LedgerSide) → get_elem? views seat ≡ some v → IsLedgerSide own l seat v) (append-nil all) each

own_side_changed_without_calls : (views : List LedgerSide) (own : ℕ) (all : List Call) (w : LedgerSide) → ((seat : ℕ) (v : LedgerSide) → get_elem? views seat ≡ some v → IsLedgerSide own all seat v) → IsLedgerSide own all own w
    → (seat : ℕ) (v : LedgerSide) → get_elem? (set views own w) seat ≡ some v → IsLedgerSide own all seat v
own_side_changed_without_calls views own all w each mine = ledger_with_no_calls_more own all (set views own w) (own_side_changed_with_calls views own all [] w each (subst (λ l. IsLedgerSide own l own w) (sym (append-nil all)) mine))

full_side_splits_off_seen : (id : ℕ) (xs : List Call) → Splits LedgerIsKept id (Full xs) (Full xs) (Seen xs)
full_side_splits_off_seen id xs s h at =
    let mine = h.2 id (Full xs) at in
    let here : h.0 ≡ id = sym mine.0 in
    let each = own_side_changed_without_calls s.views h.0 h.1 (Full xs) h.2 (refl, mine.1) in (
      h.0,
      h.1,
      λ seat v e. ⊎_elim
          (λ was. subst (λ (n : ℕ). get_elem? (set s.views n (Full xs)) seat ≡ some v → IsLedgerSide h.0 h.1 seat v) here (each seat v) was)
          (λ (is : Seen xs ≡ v). subst (IsLedgerSide h.0 h.1 seat) is ([], append-nil xs ∙ mine.1))
          (at_snoc (set s.views id (Full xs)) (Seen xs) v seat e),
    )

full_side_joins_seen : (id other : ℕ) (xs ys : List Call) → Joins LedgerIsKept id (Full xs) other (Seen ys) (Both xs ys) NoCalls
full_side_joins_seen id other xs ys s h at apart there =
    let mine = h.2 id (Full xs) at in
    let w = Both xs ys in
    let theirs = ⊎_elim
    (λ (t : (other ≡ id) × (w ≡ Seen ys)). absurd (apart t.0))
    (λ (t : (other ≢ id) × (get_elem? s.views other ≡ some (Seen ys))). h.2 other (Seen ys) t.1)
    (at_set s.views id other w (Seen ys) there)
    in
    let each = own_side_changed_without_calls s.views h.0 h.1 w h.2 (refl, mine.1, theirs) in
    let each' = subst (λ (n : ℕ). (seat : ℕ) (v : LedgerSide) → get_elem? (set s.views n w) seat ≡ some v → IsLedgerSide h.0 h.1 seat v) (sym mine.0) each in (
      h.0,
      h.1,
      λ seat v e. ⊎_elim
          (λ (t : (seat ≡ other) × (NoCalls ≡ v)). subst (IsLedgerSide h.0 h.1 seat) t.1 tt)
          (λ (t : (seat ≢ other) × (get_elem? (set s.views id w) seat ≡ some v)). each' seat v t.1)
          (at_set (set s.views id w) other seat NoCalls v e),
    )

full_side_adds_call : (slots id : ℕ) (xs : List Call) (call : Call) → Allows LedgerIsKept slots id (Full xs, []) 0 (λ n. n) (λ found n. Added call (Full xs, []) n)
full_side_adds_call slots id xs call s h len at small =
    let mine = h.2 id (Full xs) at in
    let w = Full (xs ++ call ∷ []) in
    let each = own_side_changed_with_calls s.views h.0 h.1 (call ∷ []) w h.2 (refl, ap (λ l. l ++ call ∷ []) mine.1) in (
      w,
      keeps,
      tt,
      (h.0, h.1 ++ call ∷ [], subst (λ (n : ℕ). (seat : ℕ) (v : LedgerSide) → get_elem? (set s.views n w) seat ≡ some v → IsLedgerSide h.0 (h.1 ++ call ∷ []) seat v) (sym mine.0) each),
      (refl, refl),
    )

both_sides_compare_calls : (slots id : ℕ) (xs ys : List Call) → Allows LedgerIsKept slots id (Both xs ys, []) 0 (λ n. n) (λ found n. Compared (Both xs ys, []) n)
both_sides_compare_calls slots id xs ys s h len at small =
    let mine = h.2 id (Both xs ys) at in
    let w = Full xs in
    let each = own_side_changed_without_calls s.views h.0 h.1 w h.2 (refl, mine.1) in (
      w,
      keeps,
      tt,
      (h.0, h.1, subst (λ (n : ℕ). (seat : ℕ) (v : LedgerSide) → get_elem? (set s.views n w) seat ≡ some v → IsLedgerSide h.0 h.1 seat v) (sym mine.0) each),
      ((subst (λ l. IsPrefix ys l) (sym mine.1) mine.2, refl), refl),
    )

-- the steps, at sides that are known
pub side_splits_if_full : (id : ℕ) (v : LedgerSide) (xs : List Call) → v ≡ Full xs → Splits LedgerIsKept id v (full_of v) (seen_of v)
side_splits_if_full id v xs is = subst (λ (u : LedgerSide). Splits LedgerIsKept id u (full_of u) (seen_of u)) (sym is) (full_side_splits_off_seen id xs)

pub sides_join_if_full_and_seen : (id other : ℕ) (v w : LedgerSide) (xs ys : List Call) → v ≡ Full xs → w ≡ Seen ys → Joins LedgerIsKept id v other w (both_sides v w) NoCalls
sides_join_if_full_and_seen id other v w xs ys is is' = subst (λ (u : LedgerSide). Joins LedgerIsKept id u other w (both_sides u w) NoCalls) (sym is) (subst (λ (u : LedgerSide). Joins LedgerIsKept id (Full xs) other u (both_sides (Full xs) u) NoCalls) (sym is') (full_side_joins_seen id other xs ys))

pub side_adds_call_if_full : (slots id : ℕ) (m : LedgerSide × List (ℕ × Unit {0})) (xs : List Call) (call : Call) → m ≡ (Full xs, []) → Allows LedgerIsKept slots id m 0 (λ n. n) (λ found n. Added call m n)
side_adds_call_if_full slots id m xs call is = subst (λ (u : LedgerSide × List (ℕ × Unit {0})). Allows LedgerIsKept slots id u 0 (λ n. n) (λ found n. Added call u n)) (sym is) (full_side_adds_call slots id xs call)

pub side_compares_if_both : (slots id : ℕ) (m : LedgerSide × List (ℕ × Unit {0})) (xs ys : List Call) → m ≡ (Both xs ys, []) → Allows LedgerIsKept slots id m 0 (λ n. n) (λ found n. Compared m n)
side_compares_if_both slots id m xs ys is = subst (λ (u : LedgerSide × List (ℕ × Unit {0})). Allows LedgerIsKept slots id u 0 (λ n. n) (λ found n. Compared u n)) (sym is) (both_sides_compare_calls slots id xs ys)

-- what the steps tell, at sides that are known
pub added_side_has_call : (call : Call) (m n : LedgerSide × List (ℕ × Unit {0})) (xs : List Call) → m ≡ (Full xs, []) → Added call m n → n ≡ (Full (xs ++ call ∷ []), [])
added_side_has_call call m n xs is told =
    let t = subst (λ (u : LedgerSide × List (ℕ × Unit {0})). Added call u n) is told in λ k. (t.0 k, t.1 k)

pub compared_side_is_prefix : (m n : LedgerSide × List (ℕ × Unit {0})) (xs ys : List Call) → m ≡ (Both xs ys, []) → Compared m n → IsPrefix ys xs × (n ≡ (Full xs, []))
compared_side_is_prefix m n xs ys is told =
    let t = subst (λ (u : LedgerSide × List (ℕ × Unit {0})). Compared u n) is told in (t.0.0, λ k. (t.0.1 k, t.1 k))

pub sole_ledger_sides_equal : (views : List LedgerSide) (v w : LedgerSide) → views ≡ v ∷ [] → views ≡ w ∷ [] → v ≡ w
sole_ledger_sides_equal views v w p q = cc (p, q)

-- both sides joined, where the second is known
pub both_side_of_known_second : (m : LedgerSide × List (ℕ × Unit {0})) (xs ys : List Call) (w : LedgerSide) (held : List (ℕ × Unit {0})) → w ≡ Seen ys → held ≡ [] → m ≡ (Both xs (calls_of w), held) → m ≡ (Both xs ys, [])
both_side_of_known_second m xs ys w held seen none joined = joined ∙ (λ k. (Both xs (calls_of (seen k)), none k))
