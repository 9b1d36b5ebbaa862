-- The classes of a plan by their numbers: those of the dump, those of static fields, and those of roots.
use Rattle.std.proofs.Common.{◌≡◌, ℕ, zero, suc, ◌+◌, ◌<◌, ◌≤◌, Bool, true, false, List, [], ◌∷◌, ◌++◌, length, map, take, refl, sym, ap, subst, ◌∙◌, append_assoc, Option, Some, None, arith, length-append}
use Rattle.std.specs.Prelude.{fold, not, slice_get, if◌then◌else◌}
use Rattle.std.specs.Global.{Vec}
use Rattle.std.specs.Map.{values_of}
use Rattle.std.specs.Option.{option_map_or}
use Rattle.std.proofs.lemmas.Option.{slice_get_within}
use Rattle.std.proofs.lemmas.List.{append-nil, length-map, map-append}
use Rattle.heap_class.specs.declared.ClassLimits.{ClassLimits}
use Rattle.heap_class.specs.declared.Field.{Field}
use Rattle.heap_class.specs.declared.Kind.{Kind}
use Rattle.heap_class.specs.Classes.{Class, array_class, fields_of, is_array_class, is_instance_class, sup_of}
use Rattle.heap_class.proofs.Slots.{get_append}
use Rattle.hprof_reader.specs.declared.fields.OwnField.{OwnField}
use Rattle.hprof_reader.specs.Fields.{StaticTold, static_told}
use Rattle.hprof_plan.specs.Accepted.{next_name}
use Rattle.hprof_plan.specs.ClassFields.{add_field, name_at, own_named, static_named}
use Rattle.hprof_plan.specs.Names.{given_name}
use Rattle.hprof_plan.specs.Plans.{IsPlan, kinds_told, planned_classes, planned_ids, planned_statics}
use Rattle.hprof_plan.specs.SessionClasses.{and_arrays, and_statics, class_after, dump_classes, field_room, fields_in, instance_after, is_array_in, kinds_in, name_in, root_names, static_class, super_after}
use Rattle.hprof_plan.specs.Tables.{names_told}
use Rattle.hprof_plan.specs.declared.dump.Found.{Found}
use Rattle.hprof_plan.specs.declared.planning.Plan.{Plan}
use Rattle.hprof_lines.specs.Slots.{kinds_of}
use Rattle.hprof_lines.specs.Sessions.{root_tags}
use Rattle.hprof_heap.proofs.RootRuns.{AreArrayClasses}
use Rattle.hprof_heap.proofs.ToldNumbers.{item_behind_first_list}

-- ---- lists that grow

-- what is added for each of these, by what is there so far
abbrev pub added_in_turn : {A B : Type 0} → (List B → A → B) → List B → List A → List B
added_in_turn f done [] = []
added_in_turn f done (x ∷ xs) = f done x ∷ added_in_turn f (done ++ f done x ∷ []) xs

fold_adds : {A B : Type 0} (f : List B → A → B) (done : List B) (xs : List A) → fold (λ done x. done ++ f done x ∷ []) done xs ≡ done ++ added_in_turn f done xs
fold_adds f done [] = sym (append-nil done)
fold_adds f done (x ∷ xs) = fold_adds f (done ++ f done x ∷ []) xs ∙ append_assoc done (f done x ∷ []) (added_in_turn f (done ++ f done x ∷ []) xs)

as_many_added : {A B : Type 0} (f : List B → A → B) (done : List B) (xs : List A) → length (added_in_turn f done xs) ≡ length xs
as_many_added f done [] = refl
as_many_added f done (x ∷ xs) = ap suc (as_many_added f (done ++ f done x ∷ []) xs)

added_at : {A B : Type 0} (f : List B → A → B) (done : List B) (xs : List A) (j : ℕ) (x : A) → slice_get xs j ≡ Some x → (before : List B) × (slice_get (added_in_turn f done xs) j ≡ Some (f before x))
added_at f done [] j x e = let z : None ≡ Some x = e in cc
added_at f done (y ∷ xs) zero x e = (done, ap (λ z. Some (f done z)) (some_is_one e))
  where
    some_is_one : Some y ≡ Some x → y ≡ x
    some_is_one e = cc
added_at f done (y ∷ xs) (suc j) x e = added_at f (done ++ f done y ∷ []) xs j x e

item_within : {A : Type 0} (xs : List A) (j : ℕ) → j < length xs → (x : A) × (slice_get xs j ≡ Some x)
item_within [] j l = absurd (omega (arith, l))
item_within (x ∷ xs) zero l = (x, refl)
item_within (x ∷ xs) (suc j) l = item_within xs j (omega (arith, l))

pub item_of_map : {A B : Type 0} (f : A → B) (xs : List A) (j : ℕ) (x : A) → slice_get xs j ≡ Some x → slice_get (map f xs) j ≡ Some (f x)
item_of_map f [] j x e = let z : None ≡ Some x = e in cc
item_of_map f (y ∷ xs) zero x e = ap (λ z. Some (f z)) (some_is_one e)
  where
    some_is_one : Some y ≡ Some x → y ≡ x
    some_is_one e = cc
item_of_map f (y ∷ xs) (suc j) x e = item_of_map f xs j x e

some_pair : (a b : ℕ × List Kind) → Some a ≡ Some b → a ≡ b
some_pair a b e = cc

-- ---- the three parts

-- the classes of the dump
abbrev pub dump_part : ClassLimits → Found → List Class
dump_part limits f = values_of (dump_classes limits f (planned_ids limits f))

-- and those of static fields
abbrev pub static_part : ClassLimits → Found → List Class
static_part limits f = added_in_turn (static_class limits f) (dump_part limits f) (planned_statics limits f)

-- and those of roots
abbrev pub root_part : ClassLimits → Found → List Class
root_part limits f = added_in_turn (λ (done : List Class) (n : List ℕ). array_class (next_name limits done n)) (dump_part limits f ++ static_part limits f) root_names

classes_in_parts : (limits : ClassLimits) (f : Found) → planned_classes limits f ≡ (dump_part limits f ++ static_part limits f) ++ root_part limits f
unfolding and_arrays and_statics
classes_in_parts limits f =
    ap (λ (cs : List Class). fold (λ done n. done ++ array_class (next_name limits done n) ∷ []) cs root_names) (fold_adds (static_class limits f) (dump_part limits f) (planned_statics limits f))
    ∙ fold_adds (λ (done : List Class) (n : List ℕ). array_class (next_name limits done n)) (dump_part limits f ++ static_part limits f) root_names

-- a class of the dump, with its id
abbrev pub dump_entry : ClassLimits → Found → List (ℕ × Class) → ℕ → ℕ × Class
dump_entry limits f done id = (id, class_after limits f done id)

pub dump_is_added : (limits : ClassLimits) (f : Found) (ids : List ℕ) → dump_classes limits f ids ≡ added_in_turn (dump_entry limits f) [] ids
unfolding dump_classes
dump_is_added limits f ids = fold_adds (dump_entry limits f) [] ids

dump_part_length : (limits : ClassLimits) (f : Found) → length (dump_part limits f) ≡ length (planned_ids limits f)
dump_part_length limits f = length-map (dump_classes limits f (planned_ids limits f)) (λ e. e.1) ∙ ap length (dump_is_added limits f (planned_ids limits f)) ∙ as_many_added (dump_entry limits f) [] (planned_ids limits f)

-- what a plan says of numbers
pub record IsCounted (limits : ClassLimits) (f : Found) (p : Plan) : Type 0 where
  pub classes : p.classes ≡ (dump_part limits f ++ static_part limits f) ++ root_part limits f
  pub of_dump : length (dump_part limits f) ≡ length p.kinds.entries
  pub of_statics : length (static_part limits f) ≡ length p.statics.items
  pub roots : p.roots ≡ length (dump_part limits f ++ static_part limits f)

pub plan_is_counted : (limits : ClassLimits) (most : ℕ) (f : Found) (p : Plan) → IsPlan limits most f p → IsCounted limits f p
plan_is_counted limits most f p plan = record {
  classes = plan.classes ∙ classes_in_parts limits f;
  of_dump = of_dump;
  of_statics = of_statics;
  roots = sym plan.placed ∙ sym (length-append (dump_part limits f) (static_part limits f) ∙ ap (λ n. n + length (static_part limits f)) of_dump ∙ ap (λ n. length p.kinds.entries + n) of_statics);
}
  where
    of_dump : length (dump_part limits f) ≡ length p.kinds.entries
    of_dump =
        dump_part_length limits f ∙ sym (length-map (planned_ids limits f) (λ id. (id, kinds_in f id))) ∙ sym (ap length plan.kinds) ∙ length-map p.kinds.entries (λ e. (e.0, e.1.items))

    of_statics : length (static_part limits f) ≡ length p.statics.items
    of_statics = as_many_added (static_class limits f) (dump_part limits f) (planned_statics limits f) ∙ sym (ap length plan.statics) ∙ length-map p.statics.items (λ s. (s.id, map static_told s.fields.items))

-- ---- the classes of roots

root_class_at : (limits : ClassLimits) (f : Found) (p : Plan) (j : ℕ) → IsCounted limits f p → j < 10 → is_array_class p.classes (p.roots + j) ≡ true
unfolding is_array_class
root_class_at limits f p j c l =
    let name = item_within root_names j l in
    let at = added_at (λ (done : List Class) (n : List ℕ). array_class (next_name limits done n)) (dump_part limits f ++ static_part limits f) root_names j name.0 name.1 in
    ap (λ o. option_map_or (λ (d : Class). d.is_array) o false)
    (ap (λ cs. slice_get cs (p.roots + j)) c.classes ∙ ap (slice_get ((dump_part limits f ++ static_part limits f) ++ root_part limits f)) (ap (λ n. n + j) c.roots) ∙ item_behind_first_list (dump_part limits f ++ static_part limits f) (root_part limits f) j ∙ at.1)

kinds_of_roots : (limits : ClassLimits) (f : Found) (p : Plan) (j : ℕ) (tags : List ℕ) → IsCounted limits f p → j + length tags ≤ 10 → AreArrayClasses p.classes (p.roots + j) tags
kinds_of_roots limits f p j [] c l = tt
kinds_of_roots limits f p j (tag ∷ tags) c l =
    (root_class_at limits f p j c (omega (arith, l)), subst (λ k. AreArrayClasses p.classes k tags) (omega arith) (kinds_of_roots limits f p (j + 1) tags c (omega (arith, l))))

pub root_classes_are_arrays : (limits : ClassLimits) (f : Found) (p : Plan) → IsCounted limits f p → (is_array_class p.classes p.roots ≡ true) × AreArrayClasses p.classes (p.roots + 1) root_tags
root_classes_are_arrays limits f p c = (subst (λ k. is_array_class p.classes k ≡ true) (omega arith) (root_class_at limits f p 0 c (omega arith)), kinds_of_roots limits f p 1 root_tags c (omega arith))

-- ---- fields

kinds_of_more : (done : List Field) (g : Field) → map (λ (f : Field). f.kind) (done ++ g ∷ []) ≡ map (λ (f : Field). f.kind) done ++ g.kind ∷ []
kinds_of_more [] g = refl
kinds_of_more (d ∷ done) g = ap (λ ks. d.kind ∷ ks) (kinds_of_more done g)

field_kinds : (limits : ClassLimits) (done : List Field) (name : List ℕ) (kind : Kind) → map (λ (f : Field). f.kind) (add_field limits done name kind) ≡ map (λ (f : Field). f.kind) done ++ kind ∷ []
unfolding add_field
field_kinds limits done name kind = kinds_of_more done (record { name = given_name limits (map (λ (f : Field). f.name) done) (length done) name; kind = kind })

-- fields that are added one after another have the kinds that they are given
kinds_of_added : {A : Type 0} (limits : ClassLimits) (name : A → List ℕ) (kind : A → Kind) (done : List Field) (xs : List A)
    → map (λ (f : Field). f.kind) (fold (λ (done : List Field) (x : A). add_field limits done (name x) (kind x)) done xs) ≡ map (λ (f : Field). f.kind) done ++ map kind xs
kinds_of_added limits name kind done [] = sym (append-nil (map (λ (f : Field). f.kind) done))
kinds_of_added limits name kind done (x ∷ xs) =
    kinds_of_added limits name kind (add_field limits done (name x) (kind x)) xs
    ∙ ap (λ ks. ks ++ map kind xs) (field_kinds limits done (name x) (kind x))
    ∙ append_assoc (map (λ (f : Field). f.kind) done) (kind x ∷ []) (map kind xs)

own_kinds : (limits : ClassLimits) (names : List (ℕ × List ℕ)) (own : List OwnField) → map (λ (f : Field). f.kind) (own_named limits names own) ≡ map (λ (f : OwnField). f.kind) own
own_kinds limits names own = kinds_of_added limits (λ (f : OwnField). name_at names f.name) (λ (f : OwnField). f.kind) [] own

static_kinds : (limits : ClassLimits) (names : List (ℕ × List ℕ)) (statics : List StaticTold) → map (λ (f : Field). f.kind) (static_named limits names statics) ≡ map (λ (f : StaticTold). f.kind) statics
static_kinds limits names statics = kinds_of_added limits (λ (f : StaticTold). name_at names f.name) (λ (f : StaticTold). f.kind) [] statics

-- ---- a class of static fields

-- the class of the object of static fields with this number: it has those fields, and no super
pub record IsStaticClass (p : Plan) (k : ℕ) (kinds : List Kind) : Type 0 where
  pub instance : is_instance_class p.classes k ≡ true
  pub fields : map (λ (f : Field). f.kind) (fields_of p.classes k) ≡ kinds
  pub sup : sup_of p.classes k ≡ None

pub static_class_at : (limits : ClassLimits) (f : Found) (p : Plan) (n : ℕ) (e : ℕ × List StaticTold) → IsCounted limits f p → slice_get (planned_statics limits f) n ≡ Some e
    → IsStaticClass p (length p.kinds.entries + n) (map (λ (s : StaticTold). s.kind) e.1)
unfolding is_instance_class fields_of sup_of
static_class_at limits f p n e c found = record {
  instance = ap (λ o. option_map_or (λ (d : Class). not d.is_array) o false) here;
  fields = ap (λ o. map (λ (f : Field). f.kind) (option_map_or (λ (d : Class). d.fields) o [])) here ∙ static_kinds limits (names_told f.names.entries) e.1;
  sup = ap (λ o. option_map_or (λ (d : Class). d.sup) o None) here;
}
  where
    at : (before : List Class) × (slice_get (static_part limits f) n ≡ Some (static_class limits f before e))
    at = added_at (static_class limits f) (dump_part limits f) (planned_statics limits f) n e found

    few : n < length (static_part limits f)
    few = slice_get_within (static_part limits f) n (static_class limits f at.0 e) at.1

    here : slice_get p.classes (length p.kinds.entries + n) ≡ Some (static_class limits f at.0 e)
    here =
        ap (λ cs. slice_get cs (length p.kinds.entries + n)) c.classes
        ∙ get_append (dump_part limits f ++ static_part limits f) (root_part limits f) (length p.kinds.entries + n) (omega (arith, few, c.of_dump, length-append (dump_part limits f) (static_part limits f)))
        ∙ ap (slice_get (dump_part limits f ++ static_part limits f)) (ap (λ m. m + n) (sym c.of_dump)) ∙ item_behind_first_list (dump_part limits f) (static_part limits f) n ∙ at.1

-- ---- a class of the dump

-- the kinds of its fields are the first of those in its record
pub record HasFirstKinds (p : Plan) (k : ℕ) : Type 0 where
  pub rest : List Kind
  pub kinds : kinds_of p k ≡ map (λ (f : Field). f.kind) (fields_of p.classes k) ++ rest

taken_front : {A : Type 0} (n : ℕ) (xs : List A) → (rest : List A) × (xs ≡ take n xs ++ rest)
taken_front zero xs = (xs, refl)
taken_front (suc n) [] = ([], refl)
taken_front (suc n) (x ∷ xs) = let t = taken_front n xs in (t.0, ap (λ ys. x ∷ ys) t.1)

-- the kinds of a class that comes after others, and those of its record
class_has_first_kinds : (limits : ClassLimits) (f : Found) (before : List (ℕ × Class)) (id : ℕ) → (rest : List Kind) × (kinds_in f id ≡ map (λ (g : Field). g.kind) (class_after limits f before id).fields ++ rest)
unfolding kinds_in class_after
class_has_first_kinds limits f before id = go (is_array_in f id)
  where
    own : List OwnField
    own = take (field_room (values_of before) (super_after f before id)) (fields_in f id)

    front : (rest : List OwnField) × (fields_in f id ≡ take (field_room (values_of before) (super_after f before id)) (fields_in f id) ++ rest)
    front = taken_front (field_room (values_of before) (super_after f before id)) (fields_in f id)

    go : (b : Bool) → (rest : List Kind) × ((if b then [] else map (λ (g : OwnField). g.kind) (fields_in f id))
        ≡ map (λ (g : Field). g.kind) (if b then array_class (next_name limits (values_of before) (name_in f id)) else instance_after limits f (values_of before) (super_after f before id) id).fields ++ rest)
    go true = ([], refl)
    go false = (
      map (λ (g : OwnField). g.kind) front.0,
      ap (map (λ (g : OwnField). g.kind)) front.1 ∙ map-append (λ (g : OwnField). g.kind) own front.0 ∙ ap (λ ks. ks ++ map (λ (g : OwnField). g.kind) front.0) (sym (own_kinds limits (names_told f.names.entries) own)),
    )

pub dump_class_at : (limits : ClassLimits) (most : ℕ) (f : Found) (p : Plan) (k : ℕ) → IsPlan limits most f p → IsCounted limits f p → k < length p.kinds.entries → HasFirstKinds p k
unfolding fields_of
dump_class_at limits most f p k plan c l = record {
  rest = first.0;
  kinds = kinds ∙ first.1 ∙ ap (λ o. map (λ (g : Field). g.kind) (option_map_or (λ (d : Class). d.fields) o []) ++ first.0) (sym here);
}
  where
    id : (id : ℕ) × (slice_get (planned_ids limits f) k ≡ Some id)
    id = item_within (planned_ids limits f) k (omega (arith, l, c.of_dump, dump_part_length limits f))

    at : (before : List (ℕ × Class)) × (slice_get (added_in_turn (dump_entry limits f) [] (planned_ids limits f)) k ≡ Some (dump_entry limits f before id.0))
    at = added_at (dump_entry limits f) [] (planned_ids limits f) k id.0 id.1

    first : (rest : List Kind) × (kinds_in f id.0 ≡ map (λ (g : Field). g.kind) (class_after limits f at.0 id.0).fields ++ rest)
    first = class_has_first_kinds limits f at.0 id.0

    here : slice_get p.classes k ≡ Some (class_after limits f at.0 id.0)
    here =
        ap (λ cs. slice_get cs k) c.classes
        ∙ get_append (dump_part limits f ++ static_part limits f) (root_part limits f) k (omega (arith, l, c.of_dump, length-append (dump_part limits f) (static_part limits f)))
        ∙ get_append (dump_part limits f) (static_part limits f) k (omega (arith, l, c.of_dump))
        ∙ item_of_map (λ (e : ℕ × Class). e.1) (dump_classes limits f (planned_ids limits f)) k (dump_entry limits f at.0 id.0) (ap (λ es. slice_get es k) (dump_is_added limits f (planned_ids limits f)) ∙ at.1)

    kinds : kinds_of p k ≡ kinds_in f id.0
    kinds = by_entry (slice_get p.kinds.entries k) refl
      where
        told : slice_get (kinds_told p.kinds.entries) k ≡ Some (id.0, kinds_in f id.0)
        told = ap (λ es. slice_get es k) plan.kinds ∙ item_of_map (λ i. (i, kinds_in f i)) (planned_ids limits f) k id.0 id.1

        by_entry : (o : Option (ℕ × Vec Kind)) → slice_get p.kinds.entries k ≡ o → option_map_or (λ (e : ℕ × Vec Kind). e.1.items) o [] ≡ kinds_in f id.0
        by_entry None e = let z : slice_get p.kinds.entries k ≡ None = e in absurd (not_past e)
          where
            not_past : slice_get p.kinds.entries k ≡ None → ⊥
            not_past e = let there = item_within p.kinds.entries k l in let z : Some there.0 ≡ None = sym there.1 ∙ e in cc
        by_entry (Some x) e = kinds_of_entry (sym (item_of_map (λ (e : ℕ × Vec Kind). (e.0, e.1.items)) p.kinds.entries k x e) ∙ told)
          where
            kinds_of_entry : ◌≡◌ {A = Option (ℕ × List Kind)} (Some (x.0, x.1.items)) (Some (id.0, kinds_in f id.0)) → x.1.items ≡ kinds_in f id.0
            kinds_of_entry e = ap (λ (y : ℕ × List Kind). y.1) (some_pair (x.0, x.1.items) (id.0, kinds_in f id.0) e)
