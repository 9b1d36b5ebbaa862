-- What a table of classes has at most.
use Rattle.std.proofs.Common.{◌≡◌, ℕ, ◌+◌, ◌*◌, ◌<◌, ◌≤◌, Bool, true, not, ◌&&◌, List, [], ◌∷◌, ◌++◌, length, refl, subst, arith, length-append, Option, Some, None}
use Rattle.std.specs.Prelude.{nat_le, flat_map, All}
use Rattle.std.specs.Option.{option_map_or}
use Rattle.std.specs.List.{list_all}
use Rattle.std.specs.Str.{bytes_eq}
use Rattle.std.proofs.lemmas.Bool.{and_parts, not-false, leb-true}
use Rattle.std.proofs.lemmas.List.{length-map}
use Rattle.std.proofs.lemmas.List.Elements.{All-nil, All-cons, All-head, All-tail, All-append, All-filter}
use Rattle.std.proofs.lemmas.List.Sums.{length-filter, count_by-le-length}
use Rattle.heap_class.specs.declared.Field.{Field}
use Rattle.heap_class.specs.Limits.{name_limit, slot_limit, widest_classes}
use Rattle.heap_class.specs.Classes.{Class, first_uses, name_table, names_in, is_name, is_instance_class, class_refusal, IsClassTable}
use Rattle.heap_class.proofs.Refusals.{no_refusal_test_holds}
use Rattle.heap_class.proofs.Slots.{instance_class_is_in_table}
use Rattle.heap_class.proofs.Definitions.{super_stands, slots_fit}

-- ---- each class

abbrev pub IsShort : List ℕ → Type 0
IsShort n = length n ≤ name_limit

legal_names_are_short : (ns : List (List ℕ)) → list_all (is_name widest_classes) ns ≡ true → All IsShort ns
unfolding is_name
legal_names_are_short [] h = All-nil IsShort
legal_names_are_short (n ∷ ns) h =
    let p = and_parts (is_name widest_classes n) (list_all (is_name widest_classes) ns) h in
    let q = and_parts (nat_le 1 (length n) && nat_le (length n) name_limit) _ p.0 in
    let r = and_parts (nat_le 1 (length n)) (nat_le (length n) name_limit) q.0 in
    All-cons IsShort n ns (leb-true (length n) name_limit r.1) (legal_names_are_short ns p.1)

-- short names, few fields, and a super that is one of n classes
pub record IsSmall (n : ℕ) (c : Class) : Type 0 where
  pub names : All IsShort (names_in c)
  pub fields : length c.fields ≤ slot_limit
  pub sup : (s : ℕ) → c.sup ≡ Some s → s < n

super_class_number_within : (before : List Class) (sup : Option ℕ) → option_map_or (is_instance_class before) sup true ≡ true → (s : ℕ) → sup ≡ Some s → s < length before
super_class_number_within before sup h s e = instance_class_is_in_table before s (subst (λ o. option_map_or (is_instance_class before) o true ≡ true) e h)

legal_class_number_is_small : (before : List Class) (c : Class) (n : ℕ) → length before ≤ n → class_refusal widest_classes before c ≡ None → IsSmall n c
unfolding class_refusal
legal_class_number_is_small before c n l h =
    let f = slots_fit before c _ h refl in
    record {
      names = legal_names_are_short (names_in c) (not-false (list_all (is_name widest_classes) (names_in c)) (no_refusal_test_holds _ h).1.1.0);
      fields = omega (arith, f);
      sup = λ s e. let w : s < length before = super_class_number_within before c.sup (super_stands before c h) s e in omega (arith, w, l);
    }

class_table_numbers_are_small : (before cs : List Class) (n : ℕ) → length before + length cs ≤ n → IsClassTable before cs → All (IsSmall n) cs
class_table_numbers_are_small before [] n l t = All-nil (IsSmall n)
class_table_numbers_are_small before (c ∷ cs) n l t = All-cons (IsSmall n) c cs (legal_class_number_is_small before c n (omega (arith, l)) t.0) (class_table_numbers_are_small (before ++ c ∷ []) cs n (omega (arith, l, length-append before (c ∷ []))) t.2)

-- each class of a table is small
pub classes_small : (classes : List Class) → IsClassTable [] classes → All (IsSmall (length classes)) classes
classes_small classes t = class_table_numbers_are_small [] classes (length classes) (omega arith) t

-- ---- names

first_uses_no_more_than_names : (xs : List (List ℕ)) → length (first_uses xs) ≤ length xs
unfolding first_uses
first_uses_no_more_than_names [] = omega arith
first_uses_no_more_than_names (x ∷ xs) =
    let p : List ℕ → Bool = λ y. not (bytes_eq x y) in
    omega (arith, length-filter p (first_uses xs), count_by-le-length p (first_uses xs), first_uses_no_more_than_names xs)

first_uses_keep_property : (P : List ℕ → Type 0) (xs : List (List ℕ)) → All P xs → All P (first_uses xs)
unfolding first_uses
first_uses_keep_property P [] h = h
first_uses_keep_property P (x ∷ xs) h = All-cons P x _ (All-head P x xs h) (All-filter (λ y. not (bytes_eq x y)) P (first_uses xs) (first_uses_keep_property P xs (All-tail P x xs h)))

class_names_short_and_few : (n : ℕ) (cs : List Class) → All (IsSmall n) cs → All IsShort (flat_map names_in cs) × (length (flat_map names_in cs) ≤ 65 * length cs)
unfolding names_in
class_names_short_and_few n [] h = (All-nil IsShort, omega arith)
class_names_short_and_few n (c ∷ cs) h =
    let own : IsSmall n c = All-head (IsSmall n) c cs h in
    let rest = class_names_short_and_few n cs (All-tail (IsSmall n) c cs h) in (
      All-append IsShort (names_in c) (flat_map names_in cs) own.names rest.0,
      omega (arith, rest.1, own.fields, length-append (names_in c) (flat_map names_in cs), length-map c.fields (λ (f : Field). f.name)),
    )

-- names are short, and there are at most 65 for each class
pub name_table_is_short : (classes : List Class) → IsClassTable [] classes → All IsShort (name_table classes)
unfolding name_table
name_table_is_short classes t = first_uses_keep_property IsShort (flat_map names_in classes) (class_names_short_and_few (length classes) classes (classes_small classes t)).0

pub table_names_few : (classes : List Class) → IsClassTable [] classes → length (name_table classes) ≤ 65 * length classes
unfolding name_table
table_names_few classes t = omega (arith, first_uses_no_more_than_names (flat_map names_in classes), (class_names_short_and_few (length classes) classes (classes_small classes t)).1)
