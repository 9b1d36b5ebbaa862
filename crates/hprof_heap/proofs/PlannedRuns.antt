-- The objects of a dump fit the classes of its plan: from what a walk finds, and its plan.
use Rattle.std.proofs.Common.{◌≡◌, ◌≤◌, ℕ, zero, suc, ◌+◌, ◌-◌, Bool, true, false, List, [], ◌∷◌, length, map, take, refl, sym, ap, subst, ◌∙◌, Option, Some, None, cond, arith}
use Rattle.std.specs.Prelude.{filter, min, nat_eq, slice_get, if◌then◌else◌}
use Rattle.std.specs.List.{filter_map, list_any}
use Rattle.std.specs.Map.{keys_of, lookup}
use Rattle.std.specs.Option.{option_map_or}
use Rattle.heap_class.specs.declared.ClassLimits.{ClassLimits}
use Rattle.heap_class.specs.declared.IdSize.{IdSize}
use Rattle.heap_class.specs.Classes.{IsClassTable, slots_of}
use Rattle.heap_world.specs.State.{HeapState}
use Rattle.indexmap.specs.IndexMap.{insert_entry, insert_all as insert_entries}
use Rattle.hprof_reader.specs.Fields.{StaticTold, static_told}
use Rattle.hprof_reader.specs.SubRecords.{ClassTold, root, class, instance, array, prim}
use Rattle.hprof_session.specs.Walks.{ItemTold, record_told, sub_told}
use Rattle.hprof_plan.specs.Fields.{static_fields}
use Rattle.hprof_plan.specs.Finds.{HasTables}
use Rattle.hprof_plan.specs.Items.{class_entry}
use Rattle.hprof_plan.specs.Plans.{IsPlan, planned_ids, planned_statics}
use Rattle.hprof_plan.specs.SessionClasses.{class_at, names_object, statics_in, with_objects}
use Rattle.hprof_plan.specs.Tables.{classes_told}
use Rattle.hprof_plan.specs.declared.dump.Found.{Found}
use Rattle.hprof_plan.specs.declared.planning.Plan.{Plan}
use Rattle.hprof_plan.specs.declared.planning.Statics.{Statics}
use Rattle.hprof_lines.specs.Sessions.{all_events, told_objects}
use Rattle.hprof_heap.specs.TakenEvents.{AreTakenUnlessFull}
use Rattle.hprof_heap.proofs.Premises.{AreBytes, AreItemsOfBytes, IsBare}
use Rattle.hprof_heap.specs.ToldObjects.{objects_of_dump}
use Rattle.hprof_heap.proofs.Simulation.{slots_in}
use Rattle.hprof_heap.proofs.MakingRuns.{MayAllBeTold}
use Rattle.hprof_heap.proofs.ClassSlots.{super_comes_before, table_has_slot_lists, table_has_slots}
use Rattle.hprof_heap.proofs.PlannedClasses.{IsCounted, dump_class_at, item_of_map, plan_is_counted, root_classes_are_arrays, static_class_at}
use Rattle.hprof_heap.proofs.Suitable.{AreStaticClasses, AreValuesOfBytes, IsSound, fields_are_read, objects_may_be_told}
use Rattle.hprof_heap.proofs.StaticNumbers.{statics_are_numbered}
use Rattle.hprof_heap.proofs.ToldNumbers.{AreSlotsOf, objects_are_fine}
use Rattle.hprof_heap.proofs.WholeRuns.{AreSuitable, suitable_session_is_taken}

-- P holds of each
abbrev EachHas : {A : Type 0} → (A → Type 0) → List A → Type 0
EachHas P [] = Unit {0}
EachHas P (x ∷ xs) = P x × EachHas P xs

each_taken : {A : Type 0} (P : A → Type 0) (n : ℕ) (xs : List A) → EachHas P xs → EachHas P (take n xs)
each_taken P zero xs a = tt
each_taken P (suc n) [] a = tt
each_taken P (suc n) (x ∷ xs) a = (a.0, each_taken P n xs a.1)

each_filtered : {A : Type 0} (P : A → Type 0) (test : A → Bool) (xs : List A) → EachHas P xs → EachHas P (filter test xs)
each_filtered P test [] a = tt
each_filtered P test (x ∷ xs) a = go (test x) (each_filtered P test xs a.1)
  where
    go : (b : Bool) → EachHas P (filter test xs) → EachHas P (cond b (x ∷ filter test xs) (filter test xs))
    go true rest = (a.0, rest)
    go false rest = rest

each_mapped : {A B : Type 0} (P : B → Type 0) (f : A → B) → ((x : A) → P (f x)) → (xs : List A) → EachHas P (map f xs)
each_mapped P f h [] = tt
each_mapped P f h (x ∷ xs) = (h x, each_mapped P f h xs)

each_at : {A : Type 0} (P : A → Type 0) (xs : List A) (i : ℕ) (x : A) → EachHas P xs → slice_get xs i ≡ Some x → P x
each_at P [] i x a e = let z : None ≡ Some x = e in cc
each_at P (y ∷ xs) zero x a e = subst P (some_is_one e) a.0
  where
    some_is_one : Some y ≡ Some x → y ≡ x
    some_is_one e = cc
each_at P (y ∷ xs) (suc i) x a e = each_at P xs i x a.1 e

-- ---- the tables of classes

-- the bytes of the static fields of a class
abbrev HasStaticBytes : ℕ × ClassTold → Type 0
HasStaticBytes e = AreBytes e.1.statics.bytes

each_inserted : (es : List (ℕ × ClassTold)) (k : ℕ) (v : ClassTold) → EachHas HasStaticBytes es → AreBytes v.statics.bytes → EachHas HasStaticBytes (insert_entry nat_eq es k v)
each_inserted [] k v a b = (b, tt)
each_inserted (e ∷ es) k v a b = go (nat_eq k e.0) (each_inserted es k v a.1 b)
  where
    go : (c : Bool) → EachHas HasStaticBytes (insert_entry nat_eq es k v) → EachHas HasStaticBytes (if c then (e.0, v) ∷ es else e ∷ insert_entry nat_eq es k v)
    go true rest = (b, a.1)
    go false rest = (a.0, rest)

all_inserted : (es more : List (ℕ × ClassTold)) → EachHas HasStaticBytes es → EachHas HasStaticBytes more → EachHas HasStaticBytes (insert_entries nat_eq es more)
all_inserted es [] a b = a
all_inserted es (m ∷ more) a b = all_inserted (insert_entry nat_eq es m.0 m.1) more (each_inserted es m.0 m.1 a b.0) b.1

entries_of_items : (items : List ItemTold) → AreItemsOfBytes items → EachHas HasStaticBytes (filter_map class_entry items)
entries_of_items [] b = tt
entries_of_items (record_told r ∷ items) b = entries_of_items items b.1
entries_of_items (sub_told (root tag x more) ∷ items) b = entries_of_items items b.1
entries_of_items (sub_told (class c) ∷ items) b = (b.0, entries_of_items items b.1)
entries_of_items (sub_told (instance x trace k bytes) ∷ items) b = entries_of_items items b.1
entries_of_items (sub_told (array x trace count k bytes) ∷ items) b = entries_of_items items b.1
entries_of_items (sub_told (prim x trace count kind bytes) ∷ items) b = entries_of_items items b.1

found_has_bytes : (es : List (ℕ × ClassTold)) (id : ℕ) (c : ClassTold) → EachHas HasStaticBytes es → lookup (nat_eq id) es ≡ Some c → AreBytes c.statics.bytes
found_has_bytes [] id c a e = let z : None ≡ Some c = e in cc
found_has_bytes (x ∷ es) id c a e = go (nat_eq id x.0) e (found_has_bytes es id c a.1)
  where
    some_is_one : Some x.1 ≡ Some c → x.1 ≡ c
    some_is_one f = cc

    go : (b : Bool) → cond b (Some x.1) (lookup (nat_eq id) es) ≡ Some c → (lookup (nat_eq id) es ≡ Some c → AreBytes c.statics.bytes) → AreBytes c.statics.bytes
    go true f rest = subst (λ (d : ClassTold). AreBytes d.statics.bytes) (some_is_one f) a.0
    go false f rest = rest f

-- the static fields of a class have values of bytes
statics_of_bytes : (size : IdSize) (f : Found) (items : List ItemTold) (id : ℕ) → HasTables size items f → AreItemsOfBytes items → AreValuesOfBytes size (statics_in f id)
statics_of_bytes size f items id tables b = go (class_at f id) refl
  where
    entries : EachHas HasStaticBytes (classes_told f.classes.entries)
    entries = subst (λ (es : List (ℕ × ClassTold)). EachHas HasStaticBytes es) (sym tables.classes) (all_inserted [] (filter_map class_entry items) tt (entries_of_items items b))

    go : (o : Option ClassTold) → class_at f id ≡ o → AreValuesOfBytes size (option_map_or (λ c. static_fields f.ids (min c.statics.count 64) c.statics.bytes) o [])
    go None e = tt
    go (Some c) e = subst (λ s. AreValuesOfBytes size (static_fields s (min c.statics.count 64) c.statics.bytes)) (sym tables.ids)
        (fields_are_read size (min c.statics.count 64) c.statics.bytes (found_has_bytes (classes_told f.classes.entries) id c entries e))

-- static fields of values of bytes
abbrev HasValuesOfBytes : IdSize → ℕ × List StaticTold → Type 0
HasValuesOfBytes size e = AreValuesOfBytes size e.1

planned_of_bytes : (limits : ClassLimits) (size : IdSize) (f : Found) (items : List ItemTold) → HasTables size items f → AreItemsOfBytes items → EachHas (HasValuesOfBytes size) (planned_statics limits f)
unfolding with_objects
planned_of_bytes limits size f items tables b =
    each_taken (HasValuesOfBytes size) (limits.classes - 10 - length (planned_ids limits f)) (with_objects f (keys_of (classes_told f.classes.entries)))
    (each_filtered (HasValuesOfBytes size) (λ (e : ℕ × List StaticTold). list_any (names_object f) e.1) (map (λ id. (id, statics_in f id)) (keys_of (classes_told f.classes.entries)))
    (each_mapped (HasValuesOfBytes size) (λ id. (id, statics_in f id)) (λ id. statics_of_bytes size f items id tables b) (keys_of (classes_told f.classes.entries))))

-- ---- the classes of static fields

-- what is planned for an object of static fields
abbrev entry_of : Statics → ℕ × List StaticTold
entry_of s = (s.id, map static_told s.fields.items)

static_classes_are : (limits : ClassLimits) (size : IdSize) (f : Found) (p : Plan) (n : ℕ) (statics : List Statics) → IsCounted limits f p → EachHas (HasValuesOfBytes size) (planned_statics limits f)
    → ((i : ℕ) (s : Statics) → slice_get statics i ≡ Some s → slice_get (planned_statics limits f) (n + i) ≡ Some (entry_of s)) → AreStaticClasses p size n statics
static_classes_are limits size f p n [] c b at = tt
static_classes_are limits size f p n (s ∷ statics) c b at = (
  (static_class_at limits f p n (entry_of s) c here, each_at (HasValuesOfBytes size) (planned_statics limits f) n (entry_of s) b here),
  static_classes_are limits size f p (n + 1) statics c b (λ i t e. ap (slice_get (planned_statics limits f)) (omega arith) ∙ at (suc i) t e),
)
  where
    here : slice_get (planned_statics limits f) n ≡ Some (entry_of s)
    here = ap (slice_get (planned_statics limits f)) (omega arith) ∙ at 0 s refl

plan_has_static_classes : (limits : ClassLimits) (most : ℕ) (size : IdSize) (f : Found) (p : Plan) (items : List ItemTold) → HasTables size items f → AreItemsOfBytes items → IsPlan limits most f p → AreStaticClasses p size 0 p.statics.items
plan_has_static_classes limits most size f p items tables b plan =
    static_classes_are limits size f p 0 p.statics.items (plan_is_counted limits most f p plan) (planned_of_bytes limits size f items tables b)
    (λ i s e. ap (λ es. slice_get es (0 + i)) (sym plan.statics) ∙ ap (slice_get (map entry_of p.statics.items)) (omega arith) ∙ item_of_map entry_of p.statics.items i s e)

-- ---- the whole

plan_is_sound : (limits : ClassLimits) (most : ℕ) (f : Found) (p : Plan) → IsPlan limits most f p → IsClassTable [] p.classes → IsSound p
plan_is_sound limits most f p plan table = record {
  slots = table_has_slot_lists p.classes table;
  first = λ k l. dump_class_at limits most f p k plan (plan_is_counted limits most f p plan) l;
  supers = super_comes_before p.classes table;
}

pub found_is_taken_unless_full : (limits : ClassLimits) (most : ℕ) (f : Found) (p : Plan) (size : IdSize) (items : List ItemTold) (w : HeapState) → HasTables size items f → AreItemsOfBytes items → IsPlan limits most f p → IsBare w → w.classes ≡ p.classes
    → most ≤ w.limits.elements → 1024 ≤ w.limits.elements → AreTakenUnlessFull (all_events (told_objects p size f.objects.keys items) items f.roots.items) w
found_is_taken_unless_full limits most f p size items w tables bytes plan bare classes room arrays =
    let o = told_objects p size f.objects.keys items in
    let table = subst (λ cs. IsClassTable [] cs) classes bare.legal.classes in
    let numbered = statics_are_numbered limits most f p size items tables plan table in
    let slots_are : AreSlotsOf (slots_in w) p = λ c. ap (λ cs. length (slots_of cs c)) classes in
    let roots = root_classes_are_arrays limits f p (plan_is_counted limits most f p plan) in
    let may : MayAllBeTold p.classes w.limits.elements (slots_in w) (objects_of_dump o items) = objects_may_be_told w.limits.elements (slots_in w) o items (plan_is_sound limits most f p plan table) slots_are
    (omega (arith, plan.elements, room)) (plan_has_static_classes limits most size f p items tables bytes plan) bytes in
    suitable_session_is_taken o items f.roots.items w numbered refl
    (objects_are_fine (slots_in w) o items slots_are (table_has_slots p.classes table) numbered) bare
    (subst (λ cs. AreSuitable cs w.limits.elements (slots_in w) o items) (sym classes) (record { objects = may; top = roots.0; kinds = roots.1; room = arrays }))
