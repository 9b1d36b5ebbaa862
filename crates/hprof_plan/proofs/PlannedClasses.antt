-- The classes of a session, as its plan says.
use Rattle.std.proofs.Common.{◌≡◌, ℕ, ◌+◌, ◌-◌, ◌<◌, ◌≤◌, Bool, true, false, cond, ◌&&◌, ◌||◌, List, [], ◌∷◌, ◌++◌, length, map, min, take, slice_get, position, Option, Some, None, refl, sym, ap, ◌∙◌, append_assoc, arith}
use Rattle.std.specs.Prelude.{filter, fold, nat_eq, nat_lt, option_and_then}
use Rattle.std.specs.Global.{Vec}
use Rattle.std.specs.List.{list_any}
use Rattle.std.specs.Map.{keys_of, values_of}
use Rattle.std.specs.Option.{option_map_or}
use Rattle.std.proofs.Math.Bool.{and-false}
use Rattle.std.proofs.Math.Seq.{take-nil}
use Rattle.std.proofs.lemmas.Bool.{le-ltb, lt-ltb, ltb-false, ltb-true}
use Rattle.std.proofs.lemmas.List.{append-nil, length-append, length-map, map-append, take_all, take_min}
use Rattle.std.proofs.lemmas.List.Elements.{filter-append}
use Rattle.std.proofs.lemmas.List.Sums.{fold-append}
use Rattle.std.proofs.lemmas.Map.Entries.{length-keys_of}
use Rattle.heap_class.specs.declared.ClassLimits.{ClassLimits}
use Rattle.heap_class.specs.declared.Field.{Field}
use Rattle.heap_class.specs.declared.Kind.{Kind}
use Rattle.heap_class.specs.Classes.{Class, array_class, instance_class}
use Rattle.hprof_reader.specs.declared.fields.OwnField.{OwnField}
use Rattle.hprof_reader.specs.declared.fields.StaticField.{StaticField}
use Rattle.hprof_reader.specs.Fields.{StaticTold, static_told}
use Rattle.hprof_reader.specs.SubRecords.{ClassTold}
use Rattle.hprof_plan.specs.Accepted.{next_name}
use Rattle.hprof_plan.specs.ClassFields.{own_named}
use Rattle.hprof_plan.specs.Defined.{AreDefined}
use Rattle.hprof_plan.specs.Fields.{own_fields, static_fields}
use Rattle.hprof_plan.specs.Plans.{IsPlanned, kinds_told, planned_classes, planned_ids, planned_statics, statics_told}
use Rattle.hprof_plan.specs.SessionClasses.{and_arrays, and_statics, root_names, class_after, class_at, dump_classes, field_room, fields_in, instance_after, instance_number, is_array_in, kinds_in, name_in, names_object, static_class, static_if, statics_in, super_after, with_objects}
use Rattle.hprof_plan.specs.Tables.{classes_told, names_told}
use Rattle.hprof_plan.specs.declared.dump.Found.{Found}
use Rattle.hprof_plan.specs.declared.dump_classes.Planned.{Planned}
use Rattle.hprof_plan.specs.declared.planning.Statics.{Statics}
use Rattle.hprof_plan.proofs.DefinedClasses.{few_and}
use Rattle.hprof_plan.proofs.Numbering.{first_and_one, first_are_full, one_taken}

pub ids_and : (old new : List (ℕ × Vec Kind)) (id : ℕ) (kinds : Vec Kind) → new ≡ old ++ (id, kinds) ∷ [] → keys_of new ≡ keys_of old ++ id ∷ []
ids_and old new id kinds entries = ap keys_of entries ∙ map-append (λ (e : ℕ × Vec Kind). e.0) old ((id, kinds) ∷ [])

-- the first of some fields, as many as there is room for, are kept
pub kept_are : (kept count n m : ℕ) (own all : List OwnField) → kept ≡ min n count → count ≡ length own → n ≡ m → own ≡ all → take kept own ≡ take m all
kept_are kept count n m own all is counted same e =
    ap (λ (k : ℕ). take k own) (is ∙ ap (min n) counted) ∙ take_min n own ∙ ap (λ (k : ℕ). take k own) same ∙ ap (take m) e

pub told_and_one : (statics : List Statics) (s : Statics) → statics_told (statics ++ s ∷ []) ≡ statics_told statics ++ (s.id, map static_told s.fields.items) ∷ []
told_and_one statics s = map-append (λ (x : Statics). (x.id, map static_told x.fields.items)) statics (s ∷ [])

pub statics_as_many : (statics : List Statics) → length (statics_told statics) ≡ length statics
statics_as_many statics = length-map statics (λ (s : Statics). (s.id, map static_told s.fields.items))

-- ---- what a dump says of a class

module _ (f : Found) where
  pub kinds_are : (id : ℕ) (d : ClassTold) → is_array_in f id ≡ false → class_at f id ≡ Some d
      → map (λ (g : OwnField). g.kind) (own_fields f.ids d.fields.count d.fields.bytes) ≡ kinds_in f id
  unfolding kinds_in
  kinds_are id d instance at =
      sym (ap (λ (o : Option ClassTold). map (λ (g : OwnField). g.kind) (option_map_or (λ (c : ClassTold). own_fields f.ids c.fields.count c.fields.bytes) o [])) at)
      ∙ sym (ap (λ (b : Bool). cond b [] (map (λ (g : OwnField). g.kind) (fields_in f id))) instance)

  pub no_kinds : (id : ℕ) → is_array_in f id ≡ true → [] ≡ kinds_in f id
  unfolding kinds_in
  no_kinds id array = sym (ap (λ (b : Bool). cond b [] (map (λ (g : OwnField). g.kind) (fields_in f id))) array)

  pub class_statics : (id : ℕ) (d : ClassTold) → class_at f id ≡ Some d → static_fields f.ids (min d.statics.count 64) d.statics.bytes ≡ statics_in f id
  class_statics id d at = sym (ap (λ (o : Option ClassTold). option_map_or (λ (c : ClassTold). static_fields f.ids (min c.statics.count 64) c.statics.bytes) o []) at)

  pub no_class_no_statics : (id : ℕ) → class_at f id ≡ None → [] ≡ statics_in f id
  no_class_no_statics id at = sym (ap (λ (o : Option ClassTold). option_map_or (λ (c : ClassTold). static_fields f.ids (min c.statics.count 64) c.statics.bytes) o []) at)

  any_mapped : (xs : List StaticField) → list_any (names_object f) (map static_told xs) ≡ list_any (λ (s : StaticField). names_object f (static_told s)) xs
  any_mapped [] = refl
  any_mapped (x ∷ xs) = ap (λ (b : Bool). names_object f (static_told x) || b) (any_mapped xs)

  pub any_told : (id : ℕ) (fields : List StaticField) → map static_told fields ≡ statics_in f id
      → list_any (names_object f) (statics_in f id) ≡ list_any (λ (s : StaticField). names_object f (static_told s)) fields
  any_told id fields e = sym (ap (list_any (names_object f)) e) ∙ any_mapped fields

  abbrev names_any : ℕ × List StaticTold → Bool
  names_any e = list_any (names_object f) e.1

  abbrev pub its_statics : ℕ → ℕ × List StaticTold
  its_statics id = (id, statics_in f id)

  with_objects_and : (dump : List ℕ) (id : ℕ) → with_objects f (dump ++ id ∷ []) ≡ with_objects f dump ++ cond (names_any (its_statics id)) (its_statics id ∷ []) []
  unfolding with_objects
  with_objects_and dump id =
      ap (filter names_any) (map-append its_statics dump (id ∷ []))
      ∙ filter-append names_any (map its_statics dump) (its_statics id ∷ [])

  one_more : (n room count : ℕ) (all : List (ℕ × List StaticTold)) (x : ℕ × List StaticTold) → n + count ≡ room + length (take n all) → (b : Bool)
      → take n all ++ cond (b && nat_lt count room) (x ∷ []) [] ≡ take n (all ++ cond b (x ∷ []) [])
  one_more n room count all x sizes false = append-nil (take n all) ∙ ap (take n) (sym (append-nil all))
  one_more n room count all x sizes true = by (nat_lt count room) refl
    where
      by : (b : Bool) → nat_lt count room ≡ b → take n all ++ cond b (x ∷ []) [] ≡ take n (all ++ x ∷ [])
      by true h = sym (first_and_one n all x (omega (arith, sizes, ltb-true count room h)))
      by false h = append-nil (take n all) ∙ sym (first_are_full n all x (omega (arith, sizes, ltb-false count room h)))

  abbrev chosen : Bool → ℕ → List (ℕ × List StaticTold)
  chosen b id = cond b (its_statics id ∷ []) []

  pub none_named : (room : ℕ) (classes : List Class) (id : ℕ) → list_any (names_object f) (statics_in f id) ≡ false → static_if room f classes (its_statics id) ≡ []
  none_named room classes id none = ap (λ (b : Bool). chosen (b && nat_lt (length classes) room) id) none

  pub no_room_left : (room : ℕ) (classes : List Class) (id : ℕ) → room ≤ length classes → static_if room f classes (its_statics id) ≡ []
  no_room_left room classes id full =
      ap (λ (b : Bool). chosen (list_any (names_object f) (statics_in f id) && b) id) (le-ltb (length classes) room full)
      ∙ ap (λ (b : Bool). chosen b id) (and-false (list_any (names_object f) (statics_in f id)))

  pub one_static : (room : ℕ) (classes : List Class) (id : ℕ) → list_any (names_object f) (statics_in f id) ≡ true → length classes < room
      → static_if room f classes (its_statics id) ≡ its_statics id ∷ []
  one_static room classes id named few =
      ap (λ (b : Bool). chosen (b && nat_lt (length classes) room) id) named ∙ ap (λ (b : Bool). chosen b id) (lt-ltb (length classes) room few)

-- ---- classes of roots

module _ (limits : ClassLimits) where
  pub arrays_none : (classes : List Class) → and_arrays limits classes [] ≡ classes
  unfolding and_arrays
  arrays_none classes = refl

  pub arrays_and : (classes : List Class) (names : List (List ℕ)) (n : List ℕ) → and_arrays limits classes (names ++ n ∷ [])
      ≡ and_arrays limits classes names ++ array_class (next_name limits (and_arrays limits classes names) n) ∷ []
  unfolding and_arrays
  arrays_and classes names n = fold-append (λ (done : List Class) (x : List ℕ). done ++ array_class (next_name limits done x) ∷ []) classes names (n ∷ [])

  pub next_array : (old classes new : List Class) (names : List (List ℕ)) (k : ℕ) (n : List ℕ) → slice_get names k ≡ Some n → classes ≡ and_arrays limits old (take k names)
      → new ≡ classes ++ array_class (next_name limits classes n) ∷ [] → new ≡ and_arrays limits old (take (k + 1) names)
  next_array old classes new names k n at so_far more =
      more ∙ ap (λ (cs : List Class). cs ++ array_class (next_name limits cs n) ∷ []) so_far
      ∙ sym (arrays_and old (take k names) n) ∙ ap (and_arrays limits old) (sym (one_taken names k n (sym at)))

-- ---- classes, one after another

module _ (limits : ClassLimits) (f : Found) where
  -- ---- classes of the dump

  abbrev and_class : List (ℕ × Class) → ℕ → List (ℕ × Class)
  and_class done id = done ++ (id, class_after limits f done id) ∷ []

  pub dump_classes_and : (ids : List ℕ) (id : ℕ) → dump_classes limits f (ids ++ id ∷ []) ≡ and_class (dump_classes limits f ids) id
  unfolding dump_classes
  dump_classes_and ids id = fold-append and_class [] ids (id ∷ [])

  keys_from : (done : List (ℕ × Class)) (ids : List ℕ) → keys_of (fold and_class done ids) ≡ keys_of done ++ ids
  keys_from done [] = sym (append-nil (keys_of done))
  keys_from done (id ∷ ids) =
      keys_from (and_class done id) ids
      ∙ ap (λ (ks : List ℕ). ks ++ ids) (map-append (λ (e : ℕ × Class). e.0) done ((id, class_after limits f done id) ∷ []))
      ∙ append_assoc (keys_of done) (id ∷ []) ids

  keys_are : (ids : List ℕ) → keys_of (dump_classes limits f ids) ≡ ids
  unfolding dump_classes
  keys_are ids = keys_from [] ids

  abbrev picked : List (ℕ × Class) → ℕ → Bool → Class
  picked done id b =
      cond b (array_class (next_name limits (values_of done) (name_in f id))) (instance_after limits f (values_of done) (super_after f done id) id)

  pub array_is : (ids : List ℕ) (id : ℕ) (classes : List Class) → classes ≡ values_of (dump_classes limits f ids) → is_array_in f id ≡ true
      → array_class (next_name limits classes (name_in f id)) ≡ class_after limits f (dump_classes limits f ids) id
  unfolding class_after
  array_is ids id classes so_far array =
      ap (λ (cs : List Class). array_class (next_name limits cs (name_in f id))) so_far ∙ sym (ap (picked (dump_classes limits f ids) id) array)

  pub instance_is : (ids : List ℕ) (id : ℕ) (classes : List Class) (d : ClassTold) (sup : Option ℕ) (fields : List Field)
      → classes ≡ values_of (dump_classes limits f ids) → is_array_in f id ≡ false → class_at f id ≡ Some d
      → sup ≡ option_and_then (instance_number classes) (position (nat_eq d.head.super_id) ids)
      → fields ≡ own_named limits (names_told f.names.entries) (take (field_room classes sup) (own_fields f.ids d.fields.count d.fields.bytes))
      → instance_class (next_name limits classes (name_in f id)) sup fields ≡ class_after limits f (dump_classes limits f ids) id
  unfolding class_after
  instance_is ids id classes d sup fields so_far instance at sup_is fields_are =
      let done = dump_classes limits f ids in
      let sup_after : sup ≡ super_after f done id =
      sup_is ∙ ap (λ (cs : List Class). option_and_then (instance_number cs) (position (nat_eq d.head.super_id) ids)) so_far
      ∙ ap (λ (ks : List ℕ). option_and_then (instance_number (values_of done)) (position (nat_eq d.head.super_id) ks)) (sym (keys_are ids))
      ∙ sym (ap (λ (o : Option ClassTold). option_and_then (λ (c : ClassTold). option_and_then (instance_number (values_of done)) (position (nat_eq c.head.super_id) (keys_of done))) o) at) in
      let fields_at : own_fields f.ids d.fields.count d.fields.bytes ≡ fields_in f id =
      sym (ap (λ (o : Option ClassTold). option_map_or (λ (c : ClassTold). own_fields f.ids c.fields.count c.fields.bytes) o []) at) in
      ap (instance_class (next_name limits classes (name_in f id)) sup) (fields_are ∙ ap (λ own. own_named limits (names_told f.names.entries) (take (field_room classes sup) own)) fields_at)
      ∙ ap (λ (cs : List Class). instance_after limits f cs sup id) so_far
      ∙ ap (λ (s : Option ℕ). instance_after limits f (values_of done) s id) sup_after
      ∙ sym (ap (picked done id) instance)

  pub none_planned : (room : ℕ) (p : Planned) → AreDefined limits p.defined → p.defined.classes ≡ [] → p.kinds.entries ≡ [] → IsPlanned limits room f p
  unfolding dump_classes
  none_planned room p defined none empty = record {
    defined = defined;
    classes = none ∙ sym (ap (λ (es : List (ℕ × Vec Kind)). values_of (dump_classes limits f (keys_of es))) empty);
    kinds = ap kinds_told empty ∙ sym (ap (λ (es : List (ℕ × Vec Kind)). map (λ (k : ℕ). (k, kinds_in f k)) (keys_of es)) empty);
    counted = ap length empty ∙ sym (ap length none);
    few = omega (arith, ap length none);
  }

  pub planned_and : (room : ℕ) (old new : Planned) (id : ℕ) (c : Class) (kinds : Vec Kind) → IsPlanned limits room f old → AreDefined limits new.defined
      → new.defined.classes ≡ old.defined.classes ++ c ∷ [] → c ≡ class_after limits f (dump_classes limits f (keys_of old.kinds.entries)) id
      → new.kinds.entries ≡ old.kinds.entries ++ (id, kinds) ∷ [] → kinds.items ≡ kinds_in f id → length old.defined.classes < room
      → IsPlanned limits room f new
  planned_and room old new id c kinds state defined classes is entries items few =
      let ids = keys_of old.kinds.entries in
      let more_ids = ids_and old.kinds.entries new.kinds.entries id kinds entries in
      let told : ℕ → ℕ × List Kind = λ k. (k, kinds_in f k) in
      record {
        defined = defined;
        classes =
            classes ∙ ap (λ (cs : List Class). cs ++ c ∷ []) state.classes
            ∙ ap (λ (d : Class). values_of (dump_classes limits f ids) ++ d ∷ []) is
            ∙ sym (map-append (λ (e : ℕ × Class). e.1) (dump_classes limits f ids) ((id, class_after limits f (dump_classes limits f ids) id) ∷ []))
            ∙ ap values_of (sym (dump_classes_and ids id))
            ∙ ap (λ (l : List ℕ). values_of (dump_classes limits f l)) (sym more_ids);
        kinds =
            ap kinds_told entries
            ∙ map-append (λ (e : ℕ × Vec Kind). (e.0, e.1.items)) old.kinds.entries ((id, kinds) ∷ [])
            ∙ ap (λ (t : List (ℕ × List Kind)). t ++ (id, kinds.items) ∷ []) state.kinds
            ∙ ap (λ (k : List Kind). map told ids ++ (id, k) ∷ []) items
            ∙ sym (map-append told ids (id ∷ []))
            ∙ ap (map told) (sym more_ids);
        counted = omega (arith, ap length entries, length-append old.kinds.entries ((id, kinds) ∷ []), state.counted, ap length classes, length-append old.defined.classes (c ∷ []));
        few = few_and old.defined.classes new.defined.classes c room few classes;
      }

  -- ---- classes of static fields

  abbrev and_static : List Class → ℕ × List StaticTold → List Class
  and_static done e = done ++ static_class limits f done e ∷ []

  statics_then : (classes : List Class) (xs ys : List (ℕ × List StaticTold)) → and_statics limits f classes (xs ++ ys) ≡ and_statics limits f (and_statics limits f classes xs) ys
  unfolding and_statics
  statics_then classes xs ys = fold-append and_static classes xs ys

  length-and_statics : (classes : List Class) (xs : List (ℕ × List StaticTold)) → length (and_statics limits f classes xs) ≡ length classes + length xs
  unfolding and_statics
  length-and_statics classes [] = omega arith
  length-and_statics classes (x ∷ xs) = length-and_statics (and_static classes x) xs ∙ omega (arith, length-append classes (static_class limits f classes x ∷ []))

  -- the classes of static fields of the first i classes of the dump, as far as there is room
  pub record AreStatics (room : ℕ) (dump : List ℕ) (old : List Class) (i : ℕ) (classes : List Class) (statics : List (ℕ × List StaticTold)) : Type 0 where
    pub so_far : statics ≡ take (room - length old) (with_objects f (take i dump))
    pub classes_are : classes ≡ and_statics limits f old statics

  pub statics_none : (room : ℕ) (dump : List ℕ) (old : List Class) → AreStatics room dump old 0 old []
  unfolding with_objects and_statics
  statics_none room dump old = record { so_far = sym (take-nil (room - length old)); classes_are = refl }

  pub statics_counted : (room : ℕ) (dump : List ℕ) (old : List Class) (i : ℕ) (classes : List Class) (statics : List (ℕ × List StaticTold))
      → AreStatics room dump old i classes statics → length classes ≡ length old + length statics
  statics_counted room dump old i classes statics are = ap length are.classes_are ∙ length-and_statics old statics

  pub statics_all : (room : ℕ) (dump : List ℕ) (old : List Class) (i : ℕ) (classes : List Class) (statics : List (ℕ × List StaticTold)) → length dump ≤ i
      → AreStatics room dump old i classes statics → statics ≡ take (room - length old) (with_objects f dump)
  statics_all room dump old i classes statics all are =
      are.so_far ∙ ap (λ (d : List ℕ). take (room - length old) (with_objects f d)) (take_all i dump all)

  pub statics_and : (room : ℕ) (dump : List ℕ) (old : List Class) (i : ℕ) (classes new : List Class) (statics more : List (ℕ × List StaticTold)) (id : ℕ)
      → length old ≤ room → AreStatics room dump old i classes statics → slice_get dump i ≡ Some id
      → more ≡ statics ++ static_if room f classes (its_statics f id) → new ≡ and_statics limits f classes (static_if room f classes (its_statics f id))
      → AreStatics room dump old (i + 1) new more
  statics_and room dump old i classes new statics more id few are at more_is new_is =
      let n = room - length old in
      let all = with_objects f (take i dump) in
      let next = static_if room f classes (its_statics f id) in
      let sizes : n + length classes ≡ room + length (take n all) = omega (arith, few, ap length are.classes_are, length-and_statics old statics, ap length are.so_far) in
      record {
        so_far =
            more_is ∙ ap (λ (s : List (ℕ × List StaticTold)). s ++ next) are.so_far
            ∙ one_more f n room (length classes) all (its_statics f id) sizes (names_any f (its_statics f id))
            ∙ ap (take n) (sym (with_objects_and f (take i dump) id))
            ∙ ap (λ (d : List ℕ). take n (with_objects f d)) (sym (one_taken dump i id (sym at)));
        classes_are =
            new_is ∙ ap (λ (cs : List Class). and_statics limits f cs next) are.classes_are
            ∙ sym (statics_then old statics next) ∙ ap (and_statics limits f old) (sym more_is);
      }

  pub statics_none_more : (classes : List Class) → and_statics limits f classes [] ≡ classes
  unfolding and_statics
  statics_none_more classes = refl

  pub statics_one_more : (classes : List Class) (e : ℕ × List StaticTold) → and_statics limits f classes (e ∷ []) ≡ classes ++ static_class limits f classes e ∷ []
  unfolding and_statics
  statics_one_more classes e = refl

  -- ---- the plan

  module _ (p : Planned) (planned : IsPlanned limits (limits.classes - 10) f p) (ids : keys_of p.kinds.entries ≡ planned_ids limits f) where
    as_many_numbered : length p.defined.classes ≡ length (planned_ids limits f)
    as_many_numbered = sym planned.counted ∙ sym (length-keys_of p.kinds.entries) ∙ ap length ids

    pub kinds_as_planned : kinds_told p.kinds.entries ≡ map (λ (id : ℕ). (id, kinds_in f id)) (planned_ids limits f)
    kinds_as_planned = planned.kinds ∙ ap (map (λ (id : ℕ). (id, kinds_in f id))) ids

    pub statics_as_planned : (statics : List (ℕ × List StaticTold))
        → statics ≡ take (limits.classes - 10 - length p.defined.classes) (with_objects f (keys_of (classes_told f.classes.entries)))
        → statics ≡ planned_statics limits f
    statics_as_planned statics are =
        are ∙ ap (λ (n : ℕ). take (limits.classes - 10 - n) (with_objects f (keys_of (classes_told f.classes.entries)))) as_many_numbered

    pub classes_as_planned : (statics : List (ℕ × List StaticTold)) (with_them all : List Class) → statics ≡ planned_statics limits f
        → with_them ≡ and_statics limits f p.defined.classes statics → all ≡ and_arrays limits with_them root_names → all ≡ planned_classes limits f
    classes_as_planned statics with_them all are them whole =
        whole
        ∙ ap (λ (cs : List Class). and_arrays limits cs root_names)
        (them
        ∙ ap (λ (cs : List Class). and_statics limits f cs statics) (planned.classes ∙ ap (λ (l : List ℕ). values_of (dump_classes limits f l)) ids)
        ∙ ap (and_statics limits f (values_of (dump_classes limits f (planned_ids limits f)))) are)
