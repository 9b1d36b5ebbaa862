-- The classes with an object for their static fields have different ids, and are few.
use Rattle.std.proofs.Common.{◌≡◌, ℕ, zero, suc, ◌+◌, ◌-◌, ◌<◌, ◌≤◌, Bool, true, false, List, [], ◌∷◌, ◌++◌, length, map, take, cond, refl, sym, ap, subst, ◌∙◌, arith, length-append}
use Rattle.std.specs.Prelude.{filter, nat_eq, if◌then◌else◌}
use Rattle.std.specs.List.{filter_map, list_any}
use Rattle.std.specs.Map.{keys_of}
use Rattle.std.proofs.lemmas.Bool.{eqb-false, leb-false, ne_eqb, or_from, or_parts}
use Rattle.std.proofs.lemmas.List.{length-map}
use Rattle.heap_class.specs.declared.ClassLimits.{ClassLimits}
use Rattle.heap_class.specs.declared.IdSize.{IdSize}
use Rattle.heap_class.specs.Classes.{Class, IsClassTable, class_refusal}
use Rattle.heap_class.specs.Limits.{class_limit}
use Rattle.heap_class.proofs.Refusals.{no_refusal_test_holds}
use Rattle.indexmap.specs.IndexMap.{insert_entry, insert_all as insert_entries}
use Rattle.indexmap.specs.IndexSet.{insert_all as insert_keys}
use Rattle.hprof_reader.specs.Fields.{StaticTold}
use Rattle.hprof_reader.specs.SubRecords.{ClassTold}
use Rattle.hprof_session.specs.Walks.{ItemTold}
use Rattle.hprof_plan.specs.Finds.{HasTables}
use Rattle.hprof_plan.specs.Items.{class_entry}
use Rattle.hprof_plan.specs.Plans.{IsPlan, planned_ids, planned_statics, statics_told}
use Rattle.hprof_plan.specs.SessionClasses.{names_object, statics_in, with_objects}
use Rattle.hprof_plan.specs.Tables.{classes_told}
use Rattle.hprof_plan.specs.declared.dump.Found.{Found}
use Rattle.hprof_plan.specs.declared.planning.Plan.{Plan}
use Rattle.hprof_plan.specs.declared.planning.Statics.{Statics}
use Rattle.hprof_lines.specs.Sessions.{told_objects}
use Rattle.hprof_heap.proofs.Premises.{AreNumberedFirst}

-- whether x is in the list
abbrev is_in : ℕ → List ℕ → Bool
is_in x xs = list_any (nat_eq x) xs

-- none stands twice
abbrev AreOnce : List ℕ → Type 0
AreOnce [] = Unit {0}
AreOnce (x ∷ xs) = (is_in x xs ≡ false) × AreOnce xs

numbers_differ_both_ways : (x y : ℕ) → nat_eq x y ≡ false → nat_eq y x ≡ false
numbers_differ_both_ways x y e = ne_eqb y x (λ s. eqb-false x y e (sym s))

-- ---- keys of a set

abbrev AreOthers : List ℕ → List ℕ → Type 0
AreOthers ks [] = Unit {0}
AreOthers ks (y ∷ ys) = (is_in y ks ≡ false) × AreOthers ks ys

not_in_more : (y : ℕ) (ks : List ℕ) (x : ℕ) → is_in y ks ≡ false → nat_eq y x ≡ false → is_in y (ks ++ x ∷ []) ≡ false
not_in_more y [] x a e = or_from (nat_eq y x) false e refl
not_in_more y (k ∷ ks) x a e = let p = or_parts (nat_eq y k) (is_in y ks) a in or_from (nat_eq y k) (is_in y (ks ++ x ∷ [])) p.0 (not_in_more y ks x p.1 e)

others_of_more : (ks : List ℕ) (x : ℕ) (ys : List ℕ) → AreOthers ks ys → is_in x ys ≡ false → AreOthers (ks ++ x ∷ []) ys
others_of_more ks x [] a e = tt
others_of_more ks x (y ∷ ys) a e = let p = or_parts (nat_eq x y) (is_in x ys) e in (not_in_more y ks x a.0 (numbers_differ_both_ways x y p.0), others_of_more ks x ys a.1 p.1)

keys_are_as_many : (ks xs : List ℕ) → AreOnce xs → AreOthers ks xs → length (insert_keys nat_eq ks xs) ≡ length ks + length xs
keys_are_as_many ks [] once others = omega arith
keys_are_as_many ks (x ∷ xs) once others =
    ap (λ b. length (insert_keys nat_eq (if b then ks else ks ++ x ∷ []) xs)) others.0
    ∙ keys_are_as_many (ks ++ x ∷ []) xs once.1 (others_of_more ks x xs others.1 once.0)
    ∙ omega (arith, length-append ks (x ∷ []))

no_others : (xs : List ℕ) → AreOthers [] xs
no_others [] = tt
no_others (x ∷ xs) = (refl, no_others xs)

-- ---- keys of a table

in_inserted : {V : Type 0} (x : ℕ) (es : List (ℕ × V)) (k : ℕ) (v : V) → is_in x (keys_of es) ≡ false → nat_eq x k ≡ false → is_in x (keys_of (insert_entry nat_eq es k v)) ≡ false
in_inserted x [] k v a e = or_from (nat_eq x k) false e refl
in_inserted {V} x (f ∷ es) k v a e = go (nat_eq k f.0) (in_inserted x es k v p.1 e)
  where
    p : (nat_eq x f.0 ≡ false) × (is_in x (keys_of es) ≡ false)
    p = or_parts (nat_eq x f.0) (is_in x (keys_of es)) a

    go : (b : Bool) → is_in x (keys_of (insert_entry nat_eq es k v)) ≡ false → is_in x (keys_of (if b then (f.0, v) ∷ es else f ∷ insert_entry nat_eq es k v)) ≡ false
    go true rest = a
    go false rest = or_from (nat_eq x f.0) (is_in x (keys_of (insert_entry nat_eq es k v))) p.0 rest

once_inserted : {V : Type 0} (es : List (ℕ × V)) (k : ℕ) (v : V) → AreOnce (keys_of es) → AreOnce (keys_of (insert_entry nat_eq es k v))
once_inserted [] k v a = (refl, tt)
once_inserted {V} (f ∷ es) k v a = go (nat_eq k f.0) refl (once_inserted es k v a.1)
  where
    go : (b : Bool) → nat_eq k f.0 ≡ b → AreOnce (keys_of (insert_entry nat_eq es k v)) → AreOnce (keys_of (if b then (f.0, v) ∷ es else f ∷ insert_entry nat_eq es k v))
    go true e rest = a
    go false e rest = (in_inserted f.0 es k v a.0 (numbers_differ_both_ways k f.0 e), rest)

once_inserted_all : {V : Type 0} (es more : List (ℕ × V)) → AreOnce (keys_of es) → AreOnce (keys_of (insert_entries nat_eq es more))
once_inserted_all es [] a = a
once_inserted_all es (m ∷ more) a = once_inserted_all (insert_entry nat_eq es m.0 m.1) more (once_inserted es m.0 m.1 a)

-- ---- fewer

taken_not_in : {V : Type 0} (x n : ℕ) (es : List (ℕ × V)) → is_in x (keys_of es) ≡ false → is_in x (keys_of (take n es)) ≡ false
taken_not_in x zero es a = refl
taken_not_in x (suc n) [] a = refl
taken_not_in x (suc n) (e ∷ es) a = let p = or_parts (nat_eq x e.0) (is_in x (keys_of es)) a in or_from (nat_eq x e.0) (is_in x (keys_of (take n es))) p.0 (taken_not_in x n es p.1)

taken_once : {V : Type 0} (n : ℕ) (es : List (ℕ × V)) → AreOnce (keys_of es) → AreOnce (keys_of (take n es))
taken_once zero es a = tt
taken_once (suc n) [] a = tt
taken_once (suc n) (e ∷ es) a = (taken_not_in e.0 n es a.0, taken_once n es a.1)

-- what stands for these ids, as far as a test passes
abbrev entries_that_pass : {V : Type 0} → (ℕ × V → Bool) → (ℕ → V) → List ℕ → List (ℕ × V)
entries_that_pass test f ids = filter test (map (λ id. (id, f id)) ids)

chosen_not_in : {V : Type 0} (test : ℕ × V → Bool) (f : ℕ → V) (x : ℕ) (ids : List ℕ) → is_in x ids ≡ false → is_in x (keys_of (entries_that_pass test f ids)) ≡ false
chosen_not_in test f x [] a = refl
chosen_not_in test f x (id ∷ ids) a = go (test (id, f id)) (chosen_not_in test f x ids (or_parts (nat_eq x id) (is_in x ids) a).1)
  where
    go : (b : Bool) → is_in x (keys_of (entries_that_pass test f ids)) ≡ false → is_in x (keys_of (cond b ((id, f id) ∷ entries_that_pass test f ids) (entries_that_pass test f ids))) ≡ false
    go true rest = or_from (nat_eq x id) (is_in x (keys_of (entries_that_pass test f ids))) (or_parts (nat_eq x id) (is_in x ids) a).0 rest
    go false rest = rest

chosen_once : {V : Type 0} (test : ℕ × V → Bool) (f : ℕ → V) (ids : List ℕ) → AreOnce ids → AreOnce (keys_of (entries_that_pass test f ids))
chosen_once test f [] a = tt
chosen_once test f (id ∷ ids) a = go (test (id, f id)) (chosen_once test f ids a.1)
  where
    go : (b : Bool) → AreOnce (keys_of (entries_that_pass test f ids)) → AreOnce (keys_of (cond b ((id, f id) ∷ entries_that_pass test f ids) (entries_that_pass test f ids)))
    go true rest = (chosen_not_in test f id ids a.0, rest)
    go false rest = rest

-- ---- the plan

keys_of_statics : (statics : List Statics) → keys_of (statics_told statics) ≡ map (λ (s : Statics). s.id) statics
keys_of_statics [] = refl
keys_of_statics (s ∷ statics) = ap (λ xs. s.id ∷ xs) (keys_of_statics statics)

planned_once : (limits : ClassLimits) (f : Found) (size : IdSize) (items : List ItemTold) → HasTables size items f → AreOnce (keys_of (planned_statics limits f))
unfolding with_objects
planned_once limits f size items tables =
    taken_once (limits.classes - 10 - length (planned_ids limits f)) (with_objects f (keys_of (classes_told f.classes.entries)))
    (chosen_once (λ (e : ℕ × List StaticTold). list_any (names_object f) e.1) (statics_in f) (keys_of (classes_told f.classes.entries))
    (subst (λ (es : List (ℕ × ClassTold)). AreOnce (keys_of es)) (sym tables.classes) (once_inserted_all [] (filter_map class_entry items) tt)))

-- ---- few classes

few_classes : (before cs : List Class) → length before ≤ class_limit → IsClassTable before cs → length before + length cs ≤ class_limit
unfolding class_refusal
few_classes before [] l t = omega (arith, l)
few_classes before (c ∷ cs) l t =
    let room : length before < class_limit = leb-false class_limit (length before) (no_refusal_test_holds _ t.0).1.0 in
    let rest : length (before ++ c ∷ []) + length cs ≤ class_limit = few_classes (before ++ c ∷ []) cs (omega (arith, room, length-append before (c ∷ []))) t.2 in
    omega (arith, rest, length-append before (c ∷ []))

pub statics_are_numbered : (limits : ClassLimits) (most : ℕ) (f : Found) (p : Plan) (size : IdSize) (items : List ItemTold) → HasTables size items f → IsPlan limits most f p → IsClassTable [] p.classes
    → AreNumberedFirst (told_objects p size f.objects.keys items)
statics_are_numbered limits most f p size items tables plan table = record {
  as_many = keys_are_as_many [] (map (λ (s : Statics). s.id) p.statics.items) once (no_others (map (λ (s : Statics). s.id) p.statics.items)) ∙ omega (arith, length-map p.statics.items (λ (s : Statics). s.id));
  few = (let few : 0 + length p.classes ≤ class_limit = few_classes [] p.classes (omega arith) table in omega (arith, few, plan.placed, plan.counted));
}
  where
    once : AreOnce (map (λ (s : Statics). s.id) p.statics.items)
    once = subst AreOnce (sym (ap (λ es. keys_of es) plan.statics) ∙ keys_of_statics p.statics.items) (planned_once limits f size items tables)
