-- The values of instances fit the slots of their classes.
use Rattle.std.proofs.Common.{◌≡◌, ℕ, zero, suc, ◌+◌, ◌<◌, List, [], ◌∷◌, ◌++◌, length, map, drop, refl, sym, ap, subst, ◌∙◌, append_assoc, Option, Some, None, inl, inr, arith, length-append}
use Rattle.std.specs.Prelude.{slice_get}
use Rattle.std.specs.Option.{option_map_or}
use Rattle.std.proofs.lemmas.Bool.{cases_lt, lt-ltb, le-ltb}
use Rattle.std.proofs.lemmas.List.{length-map}
use Rattle.heap_class.specs.declared.Field.{Field}
use Rattle.heap_class.specs.declared.IdSize.{IdSize}
use Rattle.heap_class.specs.declared.Kind.{Kind}
use Rattle.heap_class.specs.declared.ObjKind.TheVariants.{Instance}
use Rattle.heap_class.specs.Classes.{Class, fields_of, slot_kinds_of, slots_of, sup_of}
use Rattle.heap_class.specs.Kinds.{width_of}
use Rattle.heap_class.proofs.Slots.{get_append}
use Rattle.hprof_plan.specs.declared.planning.Plan.{Plan}
use Rattle.hprof_lines.specs.declared.values.SlotValue.{SlotValue}
use Rattle.hprof_lines.specs.Slots.{base_of, instance_values, kinds_of, values_up}
use Rattle.hprof_lines.specs.Values.{after_fields, fields_from, value_at, value_if}
use Rattle.hprof_heap.proofs.Premises.{AreBytes}
use Rattle.hprof_heap.proofs.MakingRuns.{FitSlots}
use Rattle.hprof_heap.proofs.ClassSlots.{HaveSlotLists}
use Rattle.hprof_heap.proofs.PlannedClasses.{HasFirstKinds}
use Rattle.hprof_heap.proofs.ToldNumbers.{item_behind_first_list}
use Rattle.hprof_heap.proofs.ValueRanges.{left_bytes_are_bytes, taken_value_fits}

fit_twice : (classes : List Class) (c n : ℕ) (xs ys : List SlotValue) → FitSlots classes (Instance c) n xs → FitSlots classes (Instance c) n ys → FitSlots classes (Instance c) n (xs ++ ys)
fit_twice classes c n [] ys a b = b
fit_twice classes c n (x ∷ xs) ys a b = (a.0, fit_twice classes c n xs ys a.1 b)

bytes_after : (ids : IdSize) (kinds : List Kind) (bytes : List ℕ) → AreBytes bytes → AreBytes (after_fields ids kinds bytes)
unfolding after_fields
bytes_after ids [] bytes h = h
bytes_after ids (kind ∷ kinds) bytes h = bytes_after ids kinds (drop (width_of ids kind) bytes) (left_bytes_are_bytes (width_of ids kind) bytes h)

-- the slots of a class from `base` on are these
abbrev HasSlotsFrom : List Class → ℕ → ℕ → List Kind → Type 0
HasSlotsFrom classes c base kinds = (i : ℕ) (k : Kind) → slice_get kinds i ≡ Some k → slice_get (slots_of classes c) (base + i) ≡ Some k

-- fields whose kinds are those of the slots fit
fields_fit : (classes : List Class) (c n : ℕ) (ids : IdSize) (kept base i : ℕ) (kinds : List Kind) (bytes : List ℕ) → ((j : ℕ) (k : Kind) → i + j < kept → slice_get kinds j ≡ Some k → slice_get (slots_of classes c) (base + (i + j)) ≡ Some k)
    → AreBytes bytes → FitSlots classes (Instance c) n (fields_from ids kept base i kinds bytes)
unfolding fields_from slot_kinds_of
fields_fit classes c n ids kept base i [] bytes slots h = tt
fields_fit classes c n ids kept base i (kind ∷ kinds) bytes slots h =
    let rest = fields_fit classes c n ids kept base (i + 1) kinds (drop (width_of ids kind) bytes)
    (λ j k l e. subst (λ m. slice_get (slots_of classes c) (base + m) ≡ Some k) (omega arith) (slots (suc j) k (omega (arith, l)) e)) (left_bytes_are_bytes (width_of ids kind) bytes h) in
    elim (cases_lt i kept) [
      | inl less ↦ subst (λ b. FitSlots classes (Instance c) n (value_if b (value_at ids kind (base + i) bytes) ++ fields_from ids kept base (i + 1) kinds (drop (width_of ids kind) bytes))) (sym (lt-ltb i kept less))
          (record { slot = subst (λ m. slice_get (slots_of classes c) (base + m) ≡ Some kind) (omega arith) (slots 0 kind (omega (arith, less)) refl); range = λ r d. taken_value_fits ids kind bytes (λ q. h) r }, rest)
      | inr past ↦ subst (λ b. FitSlots classes (Instance c) n (value_if b (value_at ids kind (base + i) bytes) ++ fields_from ids kept base (i + 1) kinds (drop (width_of ids kind) bytes))) (sym (le-ltb i kept past)) rest
    ]

-- ---- the classes of an instance

-- the slots of class c end with those of the class at which values go on
abbrev EndsWith : Plan → ℕ → Option ℕ → Type 0
EndsWith p c None = Unit {0}
EndsWith p c (Some k) = (front : List Kind) × (slots_of p.classes c ≡ front ++ slots_of p.classes k) × (length front ≡ base_of p c k)

-- classes of the dump have first kinds
abbrev pub AllHaveFirstKinds : Plan → Type 0
AllHaveFirstKinds p = (k : ℕ) → k < length p.kinds.entries → HasFirstKinds p k

-- a super comes before its class
abbrev pub SupersComeBefore : Plan → Type 0
SupersComeBefore p = (k s : ℕ) → sup_of p.classes k ≡ Some s → s < k

abbrev IsOfDump : Plan → Option ℕ → Type 0
IsOfDump p None = Unit {0}
IsOfDump p (Some k) = k < length p.kinds.entries

super_is_of_dump : (p : Plan) (k : ℕ) (sup : Option ℕ) → SupersComeBefore p → sup_of p.classes k ≡ sup → k < length p.kinds.entries → IsOfDump p sup
super_is_of_dump p k None before e l = tt
super_is_of_dump p k (Some s) before e l = let less : s < k = before k s e in omega (arith, less, l)

ends_with_super : (p : Plan) (c k : ℕ) (at : Option ℕ) → slots_of p.classes k ≡ map (λ (f : Field). f.kind) (fields_of p.classes k) ++ option_map_or (slots_of p.classes) at [] → EndsWith p c (Some k) → EndsWith p c at
ends_with_super p c k None e h = tt
ends_with_super p c k (Some s) e h = (front, whole, counted)
  where
    own : List Kind
    own = map (λ (f : Field). f.kind) (fields_of p.classes k)

    front : List Kind
    front = h.0 ++ map (λ (f : Field). f.kind) (fields_of p.classes k)

    whole : slots_of p.classes c ≡ (h.0 ++ map (λ (f : Field). f.kind) (fields_of p.classes k)) ++ slots_of p.classes s
    whole = h.1 ∙ ap (λ ks. h.0 ++ ks) e ∙ sym (append_assoc h.0 own (slots_of p.classes s))

    counted : length (h.0 ++ map (λ (f : Field). f.kind) (fields_of p.classes k)) ≡ base_of p c s
    counted = omega (arith, ap length whole, length-append front (slots_of p.classes s))

-- the slots from the base of class k on are those of its fields
slots_of_fields : (p : Plan) (c k : ℕ) (rest : List Kind) → slots_of p.classes k ≡ map (λ (f : Field). f.kind) (fields_of p.classes k) ++ rest → HasFirstKinds p k → EndsWith p c (Some k)
    → (j : ℕ) (kind : Kind) → 0 + j < length (fields_of p.classes k) → slice_get (kinds_of p k) j ≡ Some kind → slice_get (slots_of p.classes c) (base_of p c k + (0 + j)) ≡ Some kind
slots_of_fields p c k rest e first h j kind l found =
    ap (λ ks. slice_get ks (base_of p c k + (0 + j))) h.1 ∙ ap (slice_get (h.0 ++ slots_of p.classes k)) place ∙ item_behind_first_list h.0 (slots_of p.classes k) j ∙ ap (λ ks. slice_get ks j) e
    ∙ get_append own rest j within ∙ sym (get_append own first.rest j within) ∙ sym (ap (λ ks. slice_get ks j) first.kinds) ∙ found
  where
    own : List Kind
    own = map (λ (f : Field). f.kind) (fields_of p.classes k)

    place : base_of p c k + (0 + j) ≡ length h.0 + j
    place = omega (arith, h.2)

    within : j < length (map (λ (f : Field). f.kind) (fields_of p.classes k))
    within = omega (arith, l, length-map (fields_of p.classes k) (λ (f : Field). f.kind))

values_fit : (p : Plan) (ids : IdSize) (c m n : ℕ) (at : Option ℕ) (bytes : List ℕ) → HaveSlotLists p.classes → AllHaveFirstKinds p → SupersComeBefore p → EndsWith p c at → IsOfDump p at → AreBytes bytes → FitSlots p.classes (Instance c) m (values_up p ids c n at bytes)
unfolding values_up
values_fit p ids c m zero at bytes h first before ends of b = tt
values_fit p ids c m (suc n) None bytes h first before ends of b = tt
values_fit p ids c m (suc n) (Some k) bytes h first before ends of b =
    fit_twice p.classes c m (fields_from ids (length (fields_of p.classes k)) (base_of p c k) 0 (kinds_of p k) bytes) (values_up p ids c n (sup_of p.classes k) (after_fields ids (kinds_of p k) bytes))
    (fields_fit p.classes c m ids (length (fields_of p.classes k)) (base_of p c k) 0 (kinds_of p k) bytes (slots_of_fields p c k (option_map_or (slots_of p.classes) (sup_of p.classes k) []) (h k) (first k of) ends) b)
    (values_fit p ids c m n (sup_of p.classes k) (after_fields ids (kinds_of p k) bytes) h first before (ends_with_super p c k (sup_of p.classes k) (h k) ends) (super_is_of_dump p k (sup_of p.classes k) before refl of) (bytes_after ids (kinds_of p k) bytes b))

pub instance_fits : (p : Plan) (ids : IdSize) (c m : ℕ) (bytes : List ℕ) → HaveSlotLists p.classes → AllHaveFirstKinds p → SupersComeBefore p → c < length p.kinds.entries → AreBytes bytes → FitSlots p.classes (Instance c) m (instance_values p ids c bytes)
instance_fits p ids c m bytes h first before l b = values_fit p ids c m (length p.classes) (Some c) bytes h first before ([], refl, omega arith) l b
