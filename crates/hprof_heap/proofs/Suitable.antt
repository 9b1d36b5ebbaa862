-- The objects of a dump fit the classes of its plan.
use Rattle.std.proofs.Common.{◌≡◌, ℕ, zero, suc, ◌+◌, ◌^◌, ◌<◌, ◌≤◌, Bool, true, false, List, [], ◌∷◌, ◌++◌, length, map, refl, sym, ap, subst, ◌∙◌, Option, Some, None, Result, Ok, Err, arith}
use Rattle.std.specs.Prelude.{min, nat_eq, nat_lt, option_and_then, slice_get, if◌then◌else◌}
use Rattle.std.specs.Map.{keys_of}
use Rattle.std.specs.Option.{option_map_or}
use Rattle.std.specs.Result.{result_ok}
use Rattle.std.proofs.lemmas.List.{append-nil, length-map}
use Rattle.std.proofs.lemmas.List.Quantifiers.{position-Some}
use Rattle.heap_class.specs.declared.Field.{Field}
use Rattle.heap_class.specs.declared.IdSize.{IdSize}
use Rattle.heap_class.specs.declared.Kind.{Kind}
use Rattle.heap_class.specs.declared.ObjKind.TheVariants.{Instance, Array, Prim}
use Rattle.heap_class.specs.Classes.{Class, fields_of, is_array_class, is_instance_class, slot_kinds_of, slots_of}
use Rattle.heap_class.specs.Kinds.{is_reference, width_of}
use Rattle.indexmap.specs.IndexMap.{index_of}
use Rattle.hprof_reader.specs.declared.fault.Fault.{Fault}
use Rattle.hprof_reader.specs.declared.fields.StaticField.{StaticField}
use Rattle.hprof_reader.specs.Fields.{StaticTold, static_field_parts, static_field_text, static_told}
use Rattle.hprof_reader.specs.SubRecords.{Sub, root, class, instance, array, prim}
use Rattle.hprof_reader.proofs.ReadFields.{static_field_reader}
use Rattle.hprof_session.specs.Walks.{ItemTold, record_told, sub_told}
use Rattle.hprof_plan.specs.Fields.{each_read, first_and, static_fields, static_parts}
use Rattle.hprof_plan.specs.declared.planning.Plan.{Plan}
use Rattle.hprof_plan.specs.declared.planning.Statics.{Statics}
use Rattle.hprof_lines.specs.Objects.{ObjectsTold}
use Rattle.hprof_lines.specs.Passes.{is_turn}
use Rattle.hprof_lines.specs.Slots.{instance_values, object_values}
use Rattle.hprof_lines.specs.Values.{statics_from}
use Rattle.hprof_heap.proofs.Premises.{AreBytes, AreItemsOfBytes, AreSubBytes}
use Rattle.hprof_heap.specs.ToldObjects.{ObjectTold, array_told, instance_told, numbered_told, object_told, objects_of_dump, statics_told, told_from}
use Rattle.hprof_heap.specs.ToldObjects.{static_told as object_of_statics}
use Rattle.hprof_heap.proofs.MakingRuns.{FitSlots, MayAllBeTold, MayBeTold}
use Rattle.hprof_heap.proofs.ClassSlots.{HaveSlotLists}
use Rattle.hprof_heap.proofs.PlannedClasses.{IsStaticClass}
use Rattle.hprof_heap.proofs.InstanceRanges.{AllHaveFirstKinds, SupersComeBefore, instance_fits}
use Rattle.hprof_heap.proofs.ToldNumbers.{AreSlotsOf}
use Rattle.hprof_heap.proofs.ValueRanges.{bytes_behind, bytes_before, prims_fit, references_fit, value_fits}

-- what is known of the classes of a plan
pub record IsSound (p : Plan) : Type 0 where
  pub slots : HaveSlotLists p.classes
  pub first : AllHaveFirstKinds p
  pub supers : SupersComeBefore p

-- ---- objects of records

told_if : (classes : List Class) (most : ℕ) (slots : ℕ → ℕ) (b : Bool) (t u : ObjectTold) → (b ≡ true → MayBeTold classes most slots t) → (if b then Some t else None) ≡ Some u → MayBeTold classes most slots u
told_if classes most slots true t u m e = subst (MayBeTold classes most slots) (some_is_one u e) (m refl)
  where
    some_is_one : (u : ObjectTold) → Some t ≡ Some u → t ≡ u
    some_is_one u e = cc
told_if classes most slots false t u m e = let z : None ≡ Some u = e in cc

told_unless : (classes : List Class) (most : ℕ) (slots : ℕ → ℕ) (b : Bool) (t u : ObjectTold) → (b ≡ false → MayBeTold classes most slots t) → (if b then None else Some t) ≡ Some u → MayBeTold classes most slots u
told_unless classes most slots false t u m e = told_if classes most slots true t u (λ f. m refl) e
told_unless classes most slots true t u m e = let z : None ≡ Some u = e in cc

told_by_number : (classes : List Class) (most : ℕ) (slots : ℕ → ℕ) (g : ℕ → Option ObjectTold) (u : ObjectTold) (o : Option ℕ) → ((c : ℕ) → o ≡ Some c → g c ≡ Some u → MayBeTold classes most slots u) → option_and_then g o ≡ Some u → MayBeTold classes most slots u
told_by_number classes most slots g u None m e = let z : None ≡ Some u = e in cc
told_by_number classes most slots g u (Some c) m e = m c refl e

number_is_of_dump : (p : Plan) (k c : ℕ) → index_of nat_eq p.kinds k ≡ Some c → c < length p.kinds.entries
number_is_of_dump p k c e = let f = position-Some (nat_eq k) (keys_of p.kinds.entries) c 0 e in omega (arith, f.0, length-map p.kinds.entries (λ e. e.0))

values_of_instance : (p : Plan) (ids : IdSize) (k c : ℕ) (bytes : List ℕ) → index_of nat_eq p.kinds k ≡ Some c → option_map_or (λ c. instance_values p ids c bytes) (index_of nat_eq p.kinds k) [] ≡ instance_values p ids c bytes
values_of_instance p ids k c bytes e = ap (λ o. option_map_or (λ c. instance_values p ids c bytes) o []) e

object_may_be_told : (most : ℕ) (slots : ℕ → ℕ) (p : Plan) (ids : IdSize) (s : Sub) (t : ObjectTold) → IsSound p → AreSlotsOf slots p → p.elements ≤ most → AreSubBytes s → object_told p ids s ≡ Some t → MayBeTold p.classes most slots t
unfolding object_told object_values
object_may_be_told most slots p ids (root tag x more) t sound a m b e = let z : None ≡ Some t = e in cc
object_may_be_told most slots p ids (class c) t sound a m b e = let z : None ≡ Some t = e in cc
object_may_be_told most slots p ids (instance x trace k bytes) t sound a m b e =
    let values = object_values p ids (instance x trace k bytes) in
    told_by_number p.classes most slots (instance_told p values) t (index_of nat_eq p.kinds k)
    (λ c f. told_if p.classes most slots (is_instance_class p.classes c) (record { kind = Instance c; slots = length (slots_of p.classes c); values = values }) t
    (λ is. record {
      sized = a c;
      may = is;
      fit = subst (FitSlots p.classes (Instance c) (length (slots_of p.classes c))) (sym (values_of_instance p ids k c bytes f)) (instance_fits p ids c (length (slots_of p.classes c)) bytes sound.slots sound.first sound.supers (number_is_of_dump p k c f) b);
    })) e
object_may_be_told most slots p ids (array x trace count k bytes) t sound a m b e =
    let values = object_values p ids (array x trace count k bytes) in
    told_by_number p.classes most slots (array_told p count values) t (index_of nat_eq p.kinds k)
    (λ c f. told_if p.classes most slots (is_array_class p.classes c) (record { kind = Array c; slots = min count p.elements; values = values }) t
    (λ is. record { sized = tt; may = (is, omega (arith, m)); fit = references_fit p.classes c (min count p.elements) ids bytes })) e
object_may_be_told most slots p ids (prim x trace count kind bytes) t sound a m b e =
    told_unless p.classes most slots (is_reference kind) (record { kind = Prim kind; slots = min count p.elements; values = object_values p ids (prim x trace count kind bytes) }) t
    (λ is. record { sized = tt; may = (is, omega (arith, m)); fit = prims_fit p.classes kind (min count p.elements) ids bytes b }) e

place_may_be_told : (most : ℕ) (slots : ℕ → ℕ) (o : ObjectsTold) (i : ℕ) (s : Sub) (t : ObjectTold) → IsSound o.plan → AreSlotsOf slots o.plan → o.plan.elements ≤ most → AreSubBytes s → numbered_told o i s ≡ Some t → MayBeTold o.plan.classes most slots t
place_may_be_told most slots o i s t sound a m b = go (nat_lt (length o.statics + i) (2 ^ 22))
  where
    go : (c : Bool) → (if c then object_told o.plan o.ids s else None) ≡ Some t → MayBeTold o.plan.classes most slots t
    go true e = object_may_be_told most slots o.plan o.ids s t sound a m b e
    go false e = let z : None ≡ Some t = e in cc

pub records_may_be_told : (most : ℕ) (slots : ℕ → ℕ) (o : ObjectsTold) (i : ℕ) (items : List ItemTold) → IsSound o.plan → AreSlotsOf slots o.plan → o.plan.elements ≤ most → AreItemsOfBytes items → MayAllBeTold o.plan.classes most slots (told_from o i items)
unfolding told_from
records_may_be_told most slots o i [] sound a m b = tt
records_may_be_told most slots o i (record_told r ∷ items) sound a m b = records_may_be_told most slots o i items sound a m b.1
records_may_be_told most slots o i (sub_told s ∷ items) sound a m b = go (is_turn o.objects i s) (records_may_be_told most slots o i items sound a m b.1) (records_may_be_told most slots o (i + 1) items sound a m b.1)
  where
    go : (c : Bool) → MayAllBeTold o.plan.classes most slots (told_from o i items) → MayAllBeTold o.plan.classes most slots (told_from o (i + 1) items)
        → MayAllBeTold o.plan.classes most slots ((if c then numbered_told o i s ∷ [] else []) ++ told_from o (if c then i + 1 else i) items)
    go true e f = ((λ t. place_may_be_told most slots o i s t sound a m b.0), f)
    go false e f = e

-- ---- objects of static fields

-- the value of a static field is as wide as its kind at most, and has bytes
pub record IsValueOfBytes (ids : IdSize) (f : StaticTold) : Type 0 where
  pub few : length f.value ≤ width_of ids f.kind
  pub bytes : AreBytes f.value

abbrev pub AreValuesOfBytes : IdSize → List StaticTold → Type 0
AreValuesOfBytes ids [] = Unit {0}
AreValuesOfBytes ids (f ∷ fields) = IsValueOfBytes ids f × AreValuesOfBytes ids fields

-- what is read from bytes
value_is_read : (ids : IdSize) (bytes : List ℕ) (f : StaticTold) (rest : List ℕ) → AreBytes bytes → static_field_parts ids bytes ≡ Ok (f, rest) → IsValueOfBytes ids f × AreBytes rest
value_is_read ids bytes f rest b e =
    let r = (static_field_reader ids).takes bytes (f, rest) b e in
    (record { few = omega (arith, r.2.1); bytes = value_behind f rest (subst AreBytes r.0 b) }, r.1)
  where
    value_behind : (f : StaticTold) (rest : List ℕ) → AreBytes (static_field_text ids f ++ rest) → AreBytes f.value
    value_behind f rest h = bytes_behind _ f.value (bytes_before (static_field_text ids f) rest h)

pub fields_are_read : (ids : IdSize) (n : ℕ) (bytes : List ℕ) → AreBytes bytes → AreValuesOfBytes ids (static_fields ids n bytes)
unfolding each_read
fields_are_read ids zero bytes b = tt
fields_are_read ids (suc n) bytes b = go (static_field_parts ids bytes) refl (fields_are_read ids n)
  where
    go : (r : Result (StaticTold × List ℕ) Fault) → static_field_parts ids bytes ≡ r → ((more : List ℕ) → AreBytes more → AreValuesOfBytes ids (static_fields ids n more)) → AreValuesOfBytes ids (first_and (each_read (static_parts ids) n) (result_ok r))
    go (Err d) e rest = tt
    go (Ok x) e rest = let v = value_is_read ids bytes x.0 x.1 b e in (v.0, rest x.1 v.1)

-- values of static fields fit slots of their kinds
statics_fit : (classes : List Class) (c n : ℕ) (ids : IdSize) (at : ℕ) (fields : List StaticField) → ((j : ℕ) (k : Kind) → slice_get (map (λ (f : StaticField). f.kind) fields) j ≡ Some k → slice_get (slots_of classes c) (at + j) ≡ Some k)
    → AreValuesOfBytes ids (map static_told fields) → FitSlots classes (Instance c) n (statics_from at fields)
unfolding statics_from slot_kinds_of
statics_fit classes c n ids at [] kinds b = tt
statics_fit classes c n ids at (f ∷ fields) kinds b = (
  record { slot = subst (λ m. slice_get (slots_of classes c) m ≡ Some f.kind) (omega arith) (kinds 0 f.kind refl); range = λ r d. value_fits ids f.kind f.value.now b.0.bytes b.0.few r },
  statics_fit classes c n ids (at + 1) fields (λ j k e. subst (λ m. slice_get (slots_of classes c) m ≡ Some k) (omega arith) (kinds (suc j) k e)) b.1,
)

kinds_are_told : (fields : List StaticField) → map (λ (s : StaticTold). s.kind) (map static_told fields) ≡ map (λ (f : StaticField). f.kind) fields
kinds_are_told [] = refl
kinds_are_told (f ∷ fields) = ap (λ ks. f.kind ∷ ks) (kinds_are_told fields)

static_may_be_told : (most : ℕ) (slots : ℕ → ℕ) (p : Plan) (ids : IdSize) (n : ℕ) (s : Statics) → HaveSlotLists p.classes → AreSlotsOf slots p → IsStaticClass p (length p.kinds.entries + n) (map (λ (f : StaticTold). f.kind) (map static_told s.fields.items))
    → AreValuesOfBytes ids (map static_told s.fields.items) → MayBeTold p.classes most slots (object_of_statics p n s)
static_may_be_told most slots p ids n s h a c b = record {
  sized = a (length p.kinds.entries + n);
  may = c.instance;
  fit = statics_fit p.classes (length p.kinds.entries + n) (length (slots_of p.classes (length p.kinds.entries + n))) ids 0 s.fields.items (λ j k e. ap (λ ks. slice_get ks (0 + j)) slots_are ∙ ap (slice_get (map (λ (f : StaticField). f.kind) s.fields.items)) (omega arith) ∙ e) b;
}
  where
    slots_are : slots_of p.classes (length p.kinds.entries + n) ≡ map (λ (f : StaticField). f.kind) s.fields.items
    slots_are =
        h (length p.kinds.entries + n) ∙ ap (λ o. map (λ (f : Field). f.kind) (fields_of p.classes (length p.kinds.entries + n)) ++ option_map_or (slots_of p.classes) o []) c.sup
        ∙ append-nil (map (λ (f : Field). f.kind) (fields_of p.classes (length p.kinds.entries + n))) ∙ c.fields ∙ kinds_are_told s.fields.items

-- each class of static fields is as said
abbrev pub AreStaticClasses : Plan → IdSize → ℕ → List Statics → Type 0
AreStaticClasses p ids n [] = Unit {0}
AreStaticClasses p ids n (s ∷ statics) =
    (IsStaticClass p (length p.kinds.entries + n) (map (λ (f : StaticTold). f.kind) (map static_told s.fields.items)) × AreValuesOfBytes ids (map static_told s.fields.items)) × AreStaticClasses p ids (n + 1) statics

statics_may_be_told : (most : ℕ) (slots : ℕ → ℕ) (p : Plan) (ids : IdSize) (n : ℕ) (statics : List Statics) → HaveSlotLists p.classes → AreSlotsOf slots p → AreStaticClasses p ids n statics → MayAllBeTold p.classes most slots (statics_told p n statics)
unfolding statics_told
statics_may_be_told most slots p ids n [] h a c = tt
statics_may_be_told most slots p ids n (s ∷ statics) h a c = (
  (λ t e. subst (MayBeTold p.classes most slots) (some_is_one t e) (static_may_be_told most slots p ids n s h a c.0.0 c.0.1)),
  statics_may_be_told most slots p ids (n + 1) statics h a c.1,
)
  where
    some_is_one : (t : ObjectTold) → Some (object_of_statics p n s) ≡ Some t → object_of_statics p n s ≡ t
    some_is_one t e = cc

may_both_be_told : (classes : List Class) (most : ℕ) (slots : ℕ → ℕ) (xs ys : List (Option ObjectTold)) → MayAllBeTold classes most slots xs → MayAllBeTold classes most slots ys → MayAllBeTold classes most slots (xs ++ ys)
may_both_be_told classes most slots [] ys a b = b
may_both_be_told classes most slots (x ∷ xs) ys a b = (a.0, may_both_be_told classes most slots xs ys a.1 b)

pub objects_may_be_told : (most : ℕ) (slots : ℕ → ℕ) (o : ObjectsTold) (items : List ItemTold) → IsSound o.plan → AreSlotsOf slots o.plan → o.plan.elements ≤ most → AreStaticClasses o.plan o.ids 0 o.plan.statics.items → AreItemsOfBytes items
    → MayAllBeTold o.plan.classes most slots (objects_of_dump o items)
objects_may_be_told most slots o items sound a m c b = may_both_be_told o.plan.classes most slots (statics_told o.plan 0 o.plan.statics.items) (told_from o 0 items)
    (statics_may_be_told most slots o.plan o.ids 0 o.plan.statics.items sound.slots a c) (records_may_be_told most slots o 0 items sound a m b)
