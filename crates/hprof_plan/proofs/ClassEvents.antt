-- The events of classes that a heap takes have lines.
use Rattle.std.proofs.Common.{◌≡◌, ℕ, ◌<◌, ◌≤◌, ◌^◌, Bool, true, false, not, ◌&&◌, ◌||◌, List, [], ◌∷◌, ◌++◌, length, map, Option, Some, None, refl, sym, ap, subst, ◌∙◌, append_assoc, arith, inl, inr, true≢false}
use Rattle.std.specs.Prelude.{codes, ◌==◌, nat_le}
use Rattle.std.specs.Char.{is_ascii_alphanumeric, is_ascii_graphic}
use Rattle.std.specs.List.{list_any, list_all, AllByRecursion}
use Rattle.std.specs.Option.{option_map_or}
use Rattle.std.proofs.lemmas.Bool.{ne_eqb, eqb-true, and_parts, and_from, or_cases, not-true, not-false, not_from_false, or_parts, leb-true, le-leb}
use Rattle.std.proofs.lemmas.List.{append-nil}
use Rattle.std.proofs.lemmas.List.Concat.{flat_map-cons}
use Rattle.heap_class.specs.declared.ClassLimits.{ClassLimits}
use Rattle.heap_class.specs.declared.Field.{Field}
use Rattle.heap_class.specs.Classes.{Class, is_name, is_name_byte, names_in, class_refusal, is_instance_class, array_class, instance_class}
use Rattle.heap_class.proofs.Refusals.{no_refusal_test_holds}
use Rattle.heap_class.proofs.Slots.{instance_class_is_in_table}
use Rattle.session_lines.specs.EventLines.{line_of}
use Rattle.session_lines.specs.Laws.{is_sign, IsWord, IsFieldWord, IsLongOrNone, HasLine}
use Rattle.hprof_plan.specs.Accepted.{class_event, class_lines, AreAccepted}

-- ---- bytes

abbrev Signed : ℕ → Type 0
Signed b = (is_sign b ≡ true) × (not (b == 58) ≡ true)

plain_byte_is_signed : (b : ℕ) → 33 ≤ b → b ≤ 126 → (b ≡ 58 → ⊥) → Signed b
plain_byte_is_signed b low high other = (and_from _ _ (le-leb 33 b low) (le-leb b 126 high), not_from_false _ (ne_eqb b 58 other))

abbrev in_range : ℕ → ℕ → ℕ → Bool
in_range low high b = nat_le low b && nat_le b high

range_has_bounds : (low high b : ℕ) → in_range low high b ≡ true → (low ≤ b) × (b ≤ high)
range_has_bounds low high b h = let both = and_parts (nat_le low b) (nat_le b high) h in (leb-true low b both.0, leb-true b high both.1)

of_graphic : (b : ℕ) → (in_range 33 126 b && not (b == 58 || false)) ≡ true → Signed b
of_graphic b h =
    let both = and_parts (in_range 33 126 b) _ h in
    let range = range_has_bounds 33 126 b both.0 in
    (both.0, not_from_false _ (or_parts (b == 58) false (not-true _ both.1)).0)

of_alphanumeric : (b : ℕ) → ((in_range 48 57 b || in_range 65 90 b) || in_range 97 122 b) ≡ true → Signed b
of_alphanumeric b h = elim (or_cases (in_range 48 57 b || in_range 65 90 b) (in_range 97 122 b) h) [
  | inl p ↦ elim (or_cases (in_range 48 57 b) (in_range 65 90 b) p) [
    | inl q ↦ (let r = range_has_bounds 48 57 b q in plain_byte_is_signed b (omega (arith, r.0)) (omega (arith, r.1)) (λ e. omega (arith, r.1, e)))
    | inr q ↦ (let r = range_has_bounds 65 90 b q in plain_byte_is_signed b (omega (arith, r.0)) (omega (arith, r.1)) (λ e. omega (arith, r.0, e)))
  ]
  | inr p ↦ (let r = range_has_bounds 97 122 b p in plain_byte_is_signed b (omega (arith, r.0)) (omega (arith, r.1)) (λ e. omega (arith, r.0, e)))
]

of_listed : (b : ℕ) (cs : List ℕ) → AllByRecursion Signed cs → list_any (λ c. b == c) cs ≡ true → Signed b
of_listed b [] all h = absurd (true≢false (sym h))
of_listed b (c ∷ cs) all h = elim (or_cases (b == c) (list_any (λ c. b == c) cs) h) [
  | inl p ↦ subst Signed (sym (eqb-true b c p)) all.0
  | inr p ↦ of_listed b cs all.1 p
]

byte_signed : (any_sign : Bool) (b : ℕ) → is_name_byte any_sign b ≡ true → Signed b
unfolding is_name_byte
byte_signed any_sign b h = elim (or_cases (any_sign && (is_ascii_graphic b && not (list_any (λ c. b == c) (codes ":")))) (is_ascii_alphanumeric b || list_any (λ c. b == c) (codes "_$/[;.")) h) [
  | inl p ↦ of_graphic b (and_parts any_sign _ p).1
  | inr p ↦ elim (or_cases (is_ascii_alphanumeric b) (list_any (λ c. b == c) (codes "_$/[;.")) p) [
    | inl q ↦ of_alphanumeric b q
    | inr q ↦ of_listed b (codes "_$/[;.") ((refl, refl), ((refl, refl), ((refl, refl), ((refl, refl), ((refl, refl), ((refl, refl), tt)))))) q
  ]
]

-- ---- names

abbrev IsPlainWord : List ℕ → Type 0
IsPlainWord n = IsWord n × (list_all (λ b. not (b == 58)) n ≡ true)

bytes_signed : (any_sign : Bool) (n : List ℕ) → list_all (is_name_byte any_sign) n ≡ true → (list_all is_sign n ≡ true) × (list_all (λ b. not (b == 58)) n ≡ true)
bytes_signed any_sign [] h = (refl, refl)
bytes_signed any_sign (b ∷ n) h =
    let both = and_parts (is_name_byte any_sign b) _ h in
    let first = byte_signed any_sign b both.0 in
    let others = bytes_signed any_sign n both.1 in
    (and_from _ _ first.0 others.0, and_from _ _ first.1 others.1)

name_word : (limits : ClassLimits) (n : List ℕ) → is_name limits n ≡ true → IsPlainWord n
unfolding is_name
name_word limits n h =
    let parts = and_parts (nat_le 1 (length n) && nat_le (length n) limits.name_bytes) _ h in
    let sized = and_parts (nat_le 1 (length n)) (nat_le (length n) limits.name_bytes) parts.0 in
    let bytes = bytes_signed limits.any_sign n parts.1 in
    ((omega (arith, leb-true 1 (length n) sized.0), bytes.0), bytes.1)

fields_words : (limits : ClassLimits) (fs : List Field) → list_all (is_name limits) (map (λ (f : Field). f.name) fs) ≡ true → AllByRecursion IsFieldWord fs
fields_words limits [] h = tt
fields_words limits (f ∷ fs) h =
    let both = and_parts (is_name limits f.name) _ h in
    (name_word limits f.name both.0, fields_words limits fs both.1)

-- ---- classes

super_long : (classes : List Class) (sup : Option ℕ) → length classes < 2 ^ 64 → option_map_or (is_instance_class classes) sup true ≡ true → IsLongOrNone sup
super_long classes None few h = tt
super_long classes (Some k) few h = let w = instance_class_is_in_table classes k h in omega (arith, few, w)

names_valid : (limits : ClassLimits) (classes : List Class) (c : Class) → class_refusal limits classes c ≡ None → list_all (is_name limits) (c.name ∷ map (λ (f : Field). f.name) c.fields) ≡ true
unfolding class_refusal names_in
names_valid limits classes c h = not-false _ (no_refusal_test_holds _ h).1.1.0

super_valid : (limits : ClassLimits) (classes : List Class) (c : Class) → class_refusal limits classes c ≡ None → option_map_or (is_instance_class classes) c.sup true ≡ true
unfolding class_refusal
super_valid limits classes c h = not-false _ (no_refusal_test_holds _ h).0

pub class_has_line : (limits : ClassLimits) (classes : List Class) (name : List ℕ) (sup : Option ℕ) (fields : List Field) → length classes < 2 ^ 64
    → class_refusal limits classes (instance_class name sup fields) ≡ None → HasLine (class_event (instance_class name sup fields))
class_has_line limits classes name sup fields few h =
    let names = and_parts (is_name limits name) _ (names_valid limits classes (instance_class name sup fields) h) in
    ((name_word limits name names.0).0, super_long classes sup few (super_valid limits classes (instance_class name sup fields) h), fields_words limits fields names.1)

pub array_has_line : (limits : ClassLimits) (classes : List Class) (name : List ℕ) → class_refusal limits classes (array_class name) ≡ None → HasLine (class_event (array_class name))
array_has_line limits classes name h =
    let names = and_parts (is_name limits name) _ (names_valid limits classes (array_class name) h) in
    (name_word limits name names.0).0

-- ---- one more

pub accepted_more : (limits : ClassLimits) (before cs : List Class) (c : Class) → AreAccepted limits before cs → class_refusal limits (before ++ cs) c ≡ None → AreAccepted limits before (cs ++ c ∷ [])
accepted_more limits before [] c all last = (subst (λ (l : List Class). class_refusal limits l c ≡ None) (append-nil before) last, tt)
accepted_more limits before (d ∷ cs) c all last =
    (all.0, accepted_more limits (before ++ d ∷ []) cs c all.1 (subst (λ (l : List Class). class_refusal limits l c ≡ None) (sym (append_assoc before (d ∷ []) cs)) last))

abbrev of_class : Class → List ℕ
of_class c = line_of (class_event c)

pub lines_more : (cs : List Class) (c : Class) → class_lines (cs ++ c ∷ []) ≡ class_lines cs ++ line_of (class_event c)
lines_more [] c = flat_map-cons of_class c [] ∙ append-nil (of_class c)
lines_more (x ∷ cs) c =
    flat_map-cons of_class x (cs ++ c ∷ [])
    ∙ ap (λ (t : List ℕ). of_class x ++ t) (lines_more cs c)
    ∙ sym (append_assoc (of_class x) (class_lines cs) (of_class c))
    ∙ ap (λ (t : List ℕ). t ++ of_class c) (sym (flat_map-cons of_class x cs))
