-- The values of an object are of different slots.
use Rattle.std.proofs.Common.{◌≡◌, ℕ, zero, suc, ◌+◌, ◌<◌, ◌≤◌, false, List, [], ◌∷◌, ◌++◌, length, drop, refl, sym, subst, Option, Some, None, inl, inr, arith}
use Rattle.std.specs.Prelude.{min, nat_eq}
use Rattle.std.specs.List.{list_any}
use Rattle.std.specs.Option.{option_map_or}
use Rattle.std.proofs.lemmas.Bool.{cases_lt, lt-ltb, le-ltb, ne_eqb, or_from}
use Rattle.heap_class.specs.declared.IdSize.{IdSize}
use Rattle.heap_class.specs.declared.Kind.{Kind}
use Rattle.heap_class.specs.Classes.{Class, fields_of, slots_of, sup_of}
use Rattle.heap_class.specs.Kinds.{width_of}
use Rattle.indexmap.specs.IndexMap.{index_of}
use Rattle.hprof_reader.specs.declared.fields.StaticField.{StaticField}
use Rattle.hprof_reader.specs.SubRecords.{Sub, root, class, instance, array, prim}
use Rattle.hprof_plan.specs.declared.planning.Plan.{Plan}
use Rattle.hprof_lines.specs.declared.values.SlotValue.{SlotValue}
use Rattle.hprof_lines.specs.Slots.{base_of, instance_values, kinds_of, object_values, values_up}
use Rattle.hprof_lines.specs.Values.{after_fields, elements_from, fields_from, statics_from, value_at, value_if}
use Rattle.hprof_heap.proofs.Words.{AreApart, is_of}

-- the slots rise, from `low` on
abbrev pub AreRising : ℕ → ℕ → List SlotValue → Type 0
AreRising low high [] = low ≤ high
AreRising low high (v ∷ values) = (low ≤ v.slot) × AreRising (v.slot + 1) high values

no_slot_below_rising : (low high slot : ℕ) (values : List SlotValue) → slot < low → AreRising low high values → list_any (is_of slot) values ≡ false
no_slot_below_rising low high slot [] l r = refl
no_slot_below_rising low high slot (v ∷ values) l r = or_from (is_of slot v) (list_any (is_of slot) values) (ne_eqb v.slot slot (λ e. omega (arith, l, r.0, e))) (no_slot_below_rising (v.slot + 1) high slot values (omega (arith, l, r.0)) r.1)

pub rising_are_apart : (low high : ℕ) (values : List SlotValue) → AreRising low high values → AreApart values
rising_are_apart low high [] r = tt
rising_are_apart low high (v ∷ values) r = (no_slot_below_rising (v.slot + 1) high v.slot values (omega arith) r.1, rising_are_apart (v.slot + 1) high values r.1)

lower_rising : (low lower high : ℕ) (values : List SlotValue) → lower ≤ low → AreRising low high values → AreRising lower high values
lower_rising low lower high [] l r = omega (arith, l, r)
lower_rising low lower high (v ∷ values) l r = (omega (arith, l, r.0), r.1)

higher_rising : (low high higher : ℕ) (values : List SlotValue) → high ≤ higher → AreRising low high values → AreRising low higher values
higher_rising low high higher [] l r = omega (arith, l, r)
higher_rising low high higher (v ∷ values) l r = (r.0, higher_rising (v.slot + 1) high higher values l r.1)

both_rising : (low middle high : ℕ) (xs ys : List SlotValue) → AreRising low middle xs → AreRising middle high ys → AreRising low high (xs ++ ys)
both_rising low middle high [] ys a b = lower_rising middle low high ys a b
both_rising low middle high (v ∷ xs) ys a b = (a.0, both_rising (v.slot + 1) middle high xs ys a.1 b)

-- ---- arrays and static fields

elements_rise : (ids : IdSize) (kind : Kind) (n at : ℕ) (bytes : List ℕ) → AreRising at (at + n) (elements_from ids kind n at bytes)
unfolding elements_from
elements_rise ids kind zero at bytes = omega arith
elements_rise ids kind (suc n) at bytes = (omega arith, subst (λ h. AreRising (at + 1) h (elements_from ids kind n (at + 1) (drop (width_of ids kind) bytes))) (omega arith) (elements_rise ids kind n (at + 1) (drop (width_of ids kind) bytes)))

pub statics_rise : (at : ℕ) (fields : List StaticField) → AreRising at (at + length fields) (statics_from at fields)
unfolding statics_from
statics_rise at [] = omega arith
statics_rise at (f ∷ fields) = (omega arith, subst (λ h. AreRising (at + 1) h (statics_from (at + 1) fields)) (omega arith) (statics_rise (at + 1) fields))

-- ---- instances

fields_rise : (ids : IdSize) (kept base i low : ℕ) (kinds : List Kind) (bytes : List ℕ) → low ≤ base + i → low ≤ base + kept → AreRising low (base + kept) (fields_from ids kept base i kinds bytes)
unfolding fields_from
fields_rise ids kept base i low [] bytes l k = k
fields_rise ids kept base i low (kind ∷ kinds) bytes l k = elim (cases_lt i kept) [
  | inl less ↦ subst (λ b. AreRising low (base + kept) (value_if b (value_at ids kind (base + i) bytes) ++ fields_from ids kept base (i + 1) kinds (drop (width_of ids kind) bytes))) (sym (lt-ltb i kept less))
      (l, fields_rise ids kept base (i + 1) (base + i + 1) kinds (drop (width_of ids kind) bytes) (omega arith) (omega (arith, less)))
  | inr past ↦ subst (λ b. AreRising low (base + kept) (value_if b (value_at ids kind (base + i) bytes) ++ fields_from ids kept base (i + 1) kinds (drop (width_of ids kind) bytes))) (sym (le-ltb i kept past))
      (fields_rise ids kept base (i + 1) low kinds (drop (width_of ids kind) bytes) (omega (arith, l)) k)
]

-- each class has its own fields, and then the slots of its super
abbrev pub HaveSlots : List Class → Type 0
HaveSlots classes = (k : ℕ) → length (slots_of classes k) ≡ length (fields_of classes k) + option_map_or (λ s. length (slots_of classes s)) (sup_of classes k) 0

-- the first slot of the fields of the class at which values go on
abbrev first_slot_at : Plan → ℕ → Option ℕ → ℕ
first_slot_at p c None = length (slots_of p.classes c)
first_slot_at p c (Some k) = base_of p c k

-- an instance of class c has the slots of the class at which values go on
abbrev Covers : Plan → ℕ → Option ℕ → Type 0
Covers p c None = Unit {0}
Covers p c (Some k) = length (slots_of p.classes k) ≤ length (slots_of p.classes c)

start_is_within : (p : Plan) (c : ℕ) (at : Option ℕ) → first_slot_at p c at ≤ length (slots_of p.classes c)
start_is_within p c None = omega arith
start_is_within p c (Some k) = omega arith

-- the super's fields come after those of the class
super_is_covered : (p : Plan) (c k : ℕ) (at : Option ℕ) → length (slots_of p.classes k) ≡ length (fields_of p.classes k) + option_map_or (λ s. length (slots_of p.classes s)) at 0 → Covers p c (Some k)
    → Covers p c at × (base_of p c k + length (fields_of p.classes k) ≤ first_slot_at p c at)
super_is_covered p c k None e l = (tt, omega (arith, e, l))
super_is_covered p c k (Some s) e l = (omega (arith, e, l), omega (arith, e, l))

values_rise : (p : Plan) (ids : IdSize) (c n : ℕ) (at : Option ℕ) (bytes : List ℕ) → HaveSlots p.classes → Covers p c at → AreRising (first_slot_at p c at) (length (slots_of p.classes c)) (values_up p ids c n at bytes)
unfolding values_up
values_rise p ids c zero at bytes h l = start_is_within p c at
values_rise p ids c (suc n) None bytes h l = omega arith
values_rise p ids c (suc n) (Some k) bytes h l =
    let s = super_is_covered p c k (sup_of p.classes k) (h k) l in
    both_rising (base_of p c k) (first_slot_at p c (sup_of p.classes k)) (length (slots_of p.classes c)) (fields_from ids (length (fields_of p.classes k)) (base_of p c k) 0 (kinds_of p k) bytes)
    (values_up p ids c n (sup_of p.classes k) (after_fields ids (kinds_of p k) bytes))
    (higher_rising (base_of p c k) (base_of p c k + length (fields_of p.classes k)) (first_slot_at p c (sup_of p.classes k)) (fields_from ids (length (fields_of p.classes k)) (base_of p c k) 0 (kinds_of p k) bytes) s.1
    (fields_rise ids (length (fields_of p.classes k)) (base_of p c k) 0 (base_of p c k) (kinds_of p k) bytes (omega arith) (omega arith)))
    (values_rise p ids c n (sup_of p.classes k) (after_fields ids (kinds_of p k) bytes) h s.0)

by_class : (p : Plan) (ids : IdSize) (bytes : List ℕ) (o : Option ℕ) → HaveSlots p.classes → AreApart (option_map_or (λ c. instance_values p ids c bytes) o [])
by_class p ids bytes None h = tt
by_class p ids bytes (Some c) h = rising_are_apart (base_of p c c) (length (slots_of p.classes c)) (instance_values p ids c bytes) (values_rise p ids c (length p.classes) (Some c) bytes h (omega arith))

pub values_are_apart : (p : Plan) (ids : IdSize) (s : Sub) → HaveSlots p.classes → AreApart (object_values p ids s)
unfolding object_values
values_are_apart p ids (root tag x more) h = tt
values_are_apart p ids (class c) h = tt
values_are_apart p ids (instance x trace k bytes) h = by_class p ids bytes (index_of nat_eq p.kinds k) h
values_are_apart p ids (array x trace count k bytes) h = rising_are_apart 0 (0 + min count p.elements) (elements_from ids Kind.Object (min count p.elements) 0 bytes) (elements_rise ids Kind.Object (min count p.elements) 0 bytes)
values_are_apart p ids (prim x trace count kind bytes) h = rising_are_apart 0 (0 + min count p.elements) (elements_from ids kind (min count p.elements) 0 bytes) (elements_rise ids kind (min count p.elements) 0 bytes)
