-- The slots of each class in a table are few.
use Rattle.std.proofs.Common.{◌≡◌, ℕ, zero, suc, ◌≤◌, false, List, [], ◌∷◌, ◌++◌, length, sym, subst, arith}
use Rattle.std.specs.Prelude.{slice_get, unwrap_or, nat_lt}
use Rattle.heap_class.specs.declared.Kind.{Kind}
use Rattle.heap_class.specs.Limits.{slot_limit}
use Rattle.heap_class.specs.Classes.{Class, slots_under, slot_table_after, slots_of, class_refusal, IsClassTable}
use Rattle.heap_class.proofs.Refusals.{no_refusal_test_holds}
use Rattle.heap_class.proofs.Slots.{table_more}

-- each of the lists has few items
abbrev AreFew : List (List Kind) → Type 0
AreFew xss = (k : ℕ) → length (unwrap_or (slice_get xss k) []) ≤ slot_limit

one_more_short_slot_list : (xss : List (List Kind)) (xs : List Kind) → AreFew xss → length xs ≤ slot_limit → AreFew (xss ++ xs ∷ [])
one_more_short_slot_list [] xs h e zero = e
one_more_short_slot_list [] xs h e (suc k) = omega arith
one_more_short_slot_list (ys ∷ yss) xs h e zero = h 0
one_more_short_slot_list (ys ∷ yss) xs h e (suc k) = one_more_short_slot_list yss xs (λ j. h (suc j)) e k

slot_tables_stay_short : (before cs : List Class) → AreFew (slot_table_after [] before) → IsClassTable before cs → AreFew (slot_table_after (slot_table_after [] before) cs)
unfolding slot_table_after class_refusal
slot_tables_stay_short before [] h t = h
slot_tables_stay_short before (c ∷ cs) h t =
    let e : nat_lt slot_limit (length (slots_under (slot_table_after [] before) c)) ≡ false = (no_refusal_test_holds _ t.0).1.1.1.1.0 in
    let n : length (slots_under (slot_table_after [] before) c) ≤ slot_limit = grind (arith, e) in
    let more : AreFew (slot_table_after [] before ++ slots_under (slot_table_after [] before) c ∷ []) = one_more_short_slot_list (slot_table_after [] before) (slots_under (slot_table_after [] before) c) h n in
    subst (λ l. AreFew (slot_table_after l cs)) (table_more [] before c) (slot_tables_stay_short (before ++ c ∷ []) cs (subst AreFew (sym (table_more [] before c)) more) t.2)

-- no class of a table has more slots than there may be
pub slots_few : (classes : List Class) → IsClassTable [] classes → (k : ℕ) → length (slots_of classes k) ≤ slot_limit
unfolding slots_of slot_table_after
slots_few classes t = slot_tables_stay_short [] classes (λ k. omega arith) t
