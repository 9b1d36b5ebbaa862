-- A further class changes nothing of those before it.
use Rattle.std.proofs.Common.{◌≡◌, ℕ, zero, suc, ◌+◌, ◌<◌, Bool, true, false, not, List, [], ◌∷◌, ◌++◌, length, refl, sym, ap, subst, ◌∙◌, Option, None, arith, append_assoc, length-append}
use Rattle.std.proofs.lemmas.List.{append-nil}
use Rattle.std.specs.Prelude.{slice_get, unwrap_or}
use Rattle.std.specs.Option.{option_map_or}
use Rattle.heap_class.specs.declared.Kind.{Kind}
use Rattle.heap_class.specs.Limits.{widest_classes}
use Rattle.heap_class.specs.Classes.{Class, slots_under, slot_table_after, slots_of, is_instance_class, is_array_class, class_refusal, IsClassTable}

pub get_append : {A : Type 0} (xs ys : List A) (i : ℕ) → i < length xs → slice_get (xs ++ ys) i ≡ slice_get xs i
get_append [] ys i h = absurd (omega (arith, h))
get_append (x ∷ xs) ys zero h = refl
get_append (x ∷ xs) ys (suc i) h = get_append xs ys i (omega (arith, h))

pub table_more : (above : List (List Kind)) (cs : List Class) (c : Class) → slot_table_after above (cs ++ c ∷ []) ≡ slot_table_after above cs ++ slots_under (slot_table_after above cs) c ∷ []
unfolding slot_table_after
table_more above [] c = refl
table_more above (d ∷ cs) c = table_more (above ++ slots_under above d ∷ []) cs c

pub table_length : (above : List (List Kind)) (cs : List Class) → length (slot_table_after above cs) ≡ length above + length cs
unfolding slot_table_after
table_length above [] = omega arith
table_length above (d ∷ cs) = table_length (above ++ slots_under above d ∷ []) cs ∙ omega (arith, length-append above (slots_under above d ∷ []))

-- the slots of a class are as they were
pub slots_stay_with_one_class_more : (cs : List Class) (c : Class) (k : ℕ) → k < length cs → slots_of (cs ++ c ∷ []) k ≡ slots_of cs k
unfolding slots_of
slots_stay_with_one_class_more cs c k h =
    ap (λ t. unwrap_or (slice_get t k) []) (table_more [] cs c)
    ∙ ap (λ p. unwrap_or p []) (get_append (slot_table_after [] cs) (slots_under (slot_table_after [] cs) c ∷ []) k (omega (arith, h, table_length [] cs)))

pub class_found_is_in_table : (cs : List Class) (k : ℕ) (f : Class → Bool) → option_map_or f (slice_get cs k) false ≡ true → k < length cs
class_found_is_in_table [] k f h = cc
class_found_is_in_table (c ∷ cs) zero f h = omega arith
class_found_is_in_table (c ∷ cs) (suc k) f h = let r : k < length cs = class_found_is_in_table cs k f h in omega (arith, r)

pub instance_class_is_in_table : (cs : List Class) (k : ℕ) → is_instance_class cs k ≡ true → k < length cs
unfolding is_instance_class
instance_class_is_in_table cs k h = class_found_is_in_table cs k (λ c. not c.is_array) h

pub instance_more : (cs : List Class) (c : Class) (k : ℕ) → is_instance_class cs k ≡ true → is_instance_class (cs ++ c ∷ []) k ≡ true
unfolding is_instance_class
instance_more cs c k h = ap (λ (p : Option Class). option_map_or (λ (c : Class). not c.is_array) p false) (get_append cs (c ∷ []) k (class_found_is_in_table cs k (λ c. not c.is_array) h)) ∙ h

pub array_more : (cs : List Class) (c : Class) (k : ℕ) → is_array_class cs k ≡ true → is_array_class (cs ++ c ∷ []) k ≡ true
unfolding is_array_class
array_more cs c k h = ap (λ (p : Option Class). option_map_or (λ (c : Class). c.is_array) p false) (get_append cs (c ∷ []) k (class_found_is_in_table cs k (λ c. c.is_array) h)) ∙ h

-- a class that isn't refused goes on with the table
pub classes_more : (before cs : List Class) (c : Class) → IsClassTable before cs → class_refusal widest_classes (before ++ cs) c ≡ None → (c.is_array ≡ true → (c.sup ≡ None) × (c.fields ≡ [])) → IsClassTable before (cs ++ c ∷ [])
classes_more before [] c t r a = (subst (λ l. class_refusal widest_classes l c ≡ None) (append-nil before) r, a, tt)
classes_more before (d ∷ cs) c t r a = (t.0, t.1, classes_more (before ++ d ∷ []) cs c t.2 (subst (λ l. class_refusal widest_classes l c ≡ None) (sym (append_assoc before (d ∷ []) cs)) r) a)
