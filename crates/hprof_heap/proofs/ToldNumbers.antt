-- What is known of each object of a dump, and of the numbers that references and roots name.
use Rattle.std.proofs.Common.{◌≡◌, ◌⊎◌, ℕ, zero, suc, ◌+◌, ◌^◌, ◌<◌, ◌≤◌, Bool, true, false, List, [], ◌∷◌, ◌++◌, length, map, refl, sym, ap, subst, ◌∙◌, Option, Some, None, inl, inr, arith}
use Rattle.std.specs.Prelude.{is_some, min, nat_lt, nat_eq, option_and_then, position, slice_get, slice_index_or, if◌then◌else◌, ◌==◌}
use Rattle.std.specs.Option.{option_to_list}
use Rattle.std.proofs.lemmas.Bool.{cases_lt, le-ltb}
use Rattle.std.proofs.lemmas.List.Quantifiers.{position-Some}
use Rattle.heap_class.specs.declared.IdSize.{IdSize}
use Rattle.heap_class.specs.declared.ObjKind.TheVariants.{Instance, Array, Prim}
use Rattle.heap_class.specs.Classes.{is_array_class, is_instance_class, slots_of}
use Rattle.heap_class.specs.Kinds.{is_reference}
use Rattle.indexmap.specs.IndexMap.{index_of}
use Rattle.hprof_reader.specs.SubRecords.{Sub, root, class, instance, array, prim}
use Rattle.hprof_session.specs.Walks.{ItemTold, record_told, sub_told}
use Rattle.hprof_plan.specs.declared.items.RootFound.{RootFound}
use Rattle.hprof_plan.specs.declared.planning.Plan.{Plan}
use Rattle.hprof_plan.specs.declared.planning.Statics.{Statics}
use Rattle.hprof_lines.specs.Objects.{ObjectsTold, number_of, numbered}
use Rattle.hprof_lines.specs.Passes.{is_turn, made_from}
use Rattle.hprof_lines.specs.Roots.{root_named, roots_named}
use Rattle.hprof_lines.specs.Slots.{object_values}
use Rattle.hprof_lines.specs.Values.{statics_from}
use Rattle.hprof_heap.proofs.Premises.{AreNumberedFirst}
use Rattle.hprof_heap.specs.ToldObjects.{ObjectTold, array_told, instance_told, numbered_told, object_told, objects_of_dump, static_told, statics_told, told_from}
use Rattle.hprof_heap.proofs.Making.{IsSized}
use Rattle.hprof_heap.proofs.MakingPass.{AreRight}
use Rattle.hprof_heap.proofs.Linking.{AreNamed}
use Rattle.hprof_heap.proofs.Words.{AreApart}
use Rattle.hprof_heap.proofs.ApartSlots.{HaveSlots, rising_are_apart, statics_rise, values_are_apart}
use Rattle.hprof_heap.proofs.SessionEvents.{made_is_told, numbered_values}
use Rattle.hprof_heap.proofs.RootArrays.{AreNumbers}

-- whether there is an object that is made
abbrev pub is_there : Option (Option ObjectTold) → Bool
is_there None = false
is_there (Some x) = is_some x

-- ---- each object

-- an object that is made has a number below 2^22, as many slots as its class, and values of different slots
pub record IsFine (slots : ℕ → ℕ) (n : ℕ) (x : Option ObjectTold) : Type 0 where
  pub few : is_some x ≡ true → n < 2 ^ 22
  pub sized : (t : ObjectTold) → x ≡ Some t → IsSized slots t.kind t.slots
  pub apart : (t : ObjectTold) → x ≡ Some t → AreApart t.values

abbrev pub AreFine : (ℕ → ℕ) → ℕ → List (Option ObjectTold) → Type 0
AreFine slots n [] = Unit {0}
AreFine slots n (x ∷ xs) = IsFine slots n x × AreFine slots (n + 1) xs

none_is_fine : (slots : ℕ → ℕ) (n : ℕ) → IsFine slots n None
none_is_fine slots n = record {
  few = λ e. (let z : false ≡ true = e in cc);
  sized = λ t e. (let z : None ≡ Some t = e in cc);
  apart = λ t e. (let z : None ≡ Some t = e in cc);
}

one_is_fine : (slots : ℕ → ℕ) (n : ℕ) (t : ObjectTold) → n < 2 ^ 22 → IsSized slots t.kind t.slots → AreApart t.values → IsFine slots n (Some t)
one_is_fine slots n t few sized apart = record {
  few = λ e. few;
  sized = λ u e. subst (λ (v : ObjectTold). IsSized slots v.kind v.slots) (some_is_one u e) sized;
  apart = λ u e. subst (λ (v : ObjectTold). AreApart v.values) (some_is_one u e) apart;
}
  where
    some_is_one : (u : ObjectTold) → Some t ≡ Some u → t ≡ u
    some_is_one u e = cc

fine_twice : (slots : ℕ → ℕ) (n : ℕ) (xs ys : List (Option ObjectTold)) → AreFine slots n xs → AreFine slots (n + length xs) ys → AreFine slots n (xs ++ ys)
fine_twice slots n [] ys a b = subst (λ m. AreFine slots m ys) (omega arith) b
fine_twice slots n (x ∷ xs) ys a b = (a.0, fine_twice slots (n + 1) xs ys a.1 (subst (λ m. AreFine slots m ys) (omega arith) b))

-- `slots` tells the slots of the classes of the plan
abbrev pub AreSlotsOf : (ℕ → ℕ) → Plan → Type 0
AreSlotsOf slots p = (c : ℕ) → slots c ≡ length (slots_of p.classes c)

sized_if : (slots : ℕ → ℕ) (b : Bool) (t u : ObjectTold) → IsSized slots t.kind t.slots → (if b then Some t else None) ≡ Some u → IsSized slots u.kind u.slots
sized_if slots true t u s e = subst (λ (v : ObjectTold). IsSized slots v.kind v.slots) (some_is_one u e) s
  where
    some_is_one : (u : ObjectTold) → Some t ≡ Some u → t ≡ u
    some_is_one u e = cc
sized_if slots false t u s e = let z : None ≡ Some u = e in cc

sized_unless : (slots : ℕ → ℕ) (b : Bool) (t u : ObjectTold) → IsSized slots t.kind t.slots → (if b then None else Some t) ≡ Some u → IsSized slots u.kind u.slots
sized_unless slots false t u s e = sized_if slots true t u s e
sized_unless slots true t u s e = let z : None ≡ Some u = e in cc

sized_by_number : (slots : ℕ → ℕ) (g : ℕ → Option ObjectTold) (u : ObjectTold) → ((c : ℕ) → g c ≡ Some u → IsSized slots u.kind u.slots) → (o : Option ℕ) → option_and_then g o ≡ Some u → IsSized slots u.kind u.slots
sized_by_number slots g u e None f = let z : None ≡ Some u = f in cc
sized_by_number slots g u e (Some c) f = e c f

object_is_sized : (slots : ℕ → ℕ) (p : Plan) (ids : IdSize) (s : Sub) (t : ObjectTold) → AreSlotsOf slots p → object_told p ids s ≡ Some t → IsSized slots t.kind t.slots
unfolding object_told
object_is_sized slots p ids (root tag x more) t a e = let z : None ≡ Some t = e in cc
object_is_sized slots p ids (class c) t a e = let z : None ≡ Some t = e in cc
object_is_sized slots p ids (instance x trace k bytes) t a e =
    let values = object_values p ids (instance x trace k bytes) in
    sized_by_number slots (instance_told p values) t
    (λ c. sized_if slots (is_instance_class p.classes c) (record { kind = Instance c; slots = length (slots_of p.classes c); values = values }) t (a c)) (index_of nat_eq p.kinds k) e
object_is_sized slots p ids (array x trace count k bytes) t a e =
    let values = object_values p ids (array x trace count k bytes) in
    sized_by_number slots (array_told p count values) t
    (λ c. sized_if slots (is_array_class p.classes c) (record { kind = Array c; slots = min count p.elements; values = values }) t tt) (index_of nat_eq p.kinds k) e
object_is_sized slots p ids (prim x trace count kind bytes) t a e =
    sized_unless slots (is_reference kind) (record { kind = Prim kind; slots = min count p.elements; values = object_values p ids (prim x trace count kind bytes) }) t tt e

place_is_fine : (slots : ℕ → ℕ) (o : ObjectsTold) (i : ℕ) (s : Sub) → AreSlotsOf slots o.plan → HaveSlots o.plan.classes → IsFine slots (length o.statics + i) (numbered_told o i s)
place_is_fine slots o i s a h = record {
  few = λ e. few (nat_lt (length o.statics + i) (2 ^ 22)) (cases_lt (length o.statics + i) (2 ^ 22)) e;
  sized = λ t. sized t (nat_lt (length o.statics + i) (2 ^ 22));
  apart = λ t e. subst AreApart (sym (numbered_values o i s t e)) (values_are_apart o.plan o.ids s h);
}
  where
    few : (b : Bool) → (length o.statics + i < 2 ^ 22) ⊎ (2 ^ 22 ≤ length o.statics + i) → is_some (if nat_lt (length o.statics + i) (2 ^ 22) then object_told o.plan o.ids s else None) ≡ true → length o.statics + i < 2 ^ 22
    few b (inl l) e = l
    few b (inr l) e = let z : false ≡ true = sym (ap (λ c. is_some (if c then object_told o.plan o.ids s else None)) (le-ltb (length o.statics + i) (2 ^ 22) l)) ∙ e in cc

    sized : (t : ObjectTold) (b : Bool) → (if b then object_told o.plan o.ids s else None) ≡ Some t → IsSized slots t.kind t.slots
    sized t true e = object_is_sized slots o.plan o.ids s t a e
    sized t false e = let z : None ≡ Some t = e in cc

told_are_fine : (slots : ℕ → ℕ) (o : ObjectsTold) (i : ℕ) (items : List ItemTold) → AreSlotsOf slots o.plan → HaveSlots o.plan.classes → AreFine slots (length o.statics + i) (told_from o i items)
unfolding told_from
told_are_fine slots o i [] a h = tt
told_are_fine slots o i (record_told r ∷ items) a h = told_are_fine slots o i items a h
told_are_fine slots o i (sub_told s ∷ items) a h = go (is_turn o.objects i s) (told_are_fine slots o i items a h) (told_are_fine slots o (i + 1) items a h)
  where
    go : (b : Bool) → AreFine slots (length o.statics + i) (told_from o i items) → AreFine slots (length o.statics + (i + 1)) (told_from o (i + 1) items)
        → AreFine slots (length o.statics + i) ((if b then numbered_told o i s ∷ [] else []) ++ told_from o (if b then i + 1 else i) items)
    go true e f = (place_is_fine slots o i s a h, subst (λ m. AreFine slots m (told_from o (i + 1) items)) (omega arith) f)
    go false e f = e

statics_are_fine : (slots : ℕ → ℕ) (p : Plan) (n : ℕ) (statics : List Statics) → AreSlotsOf slots p → n + length statics ≤ 2 ^ 22 → AreFine slots n (statics_told p n statics)
unfolding statics_told
statics_are_fine slots p n [] a few = tt
statics_are_fine slots p n (s ∷ statics) a few = (
  one_is_fine slots n (static_told p n s) (omega (arith, few)) (a (length p.kinds.entries + n)) (rising_are_apart 0 (0 + length s.fields.items) (statics_from 0 s.fields.items) (statics_rise 0 s.fields.items)),
  statics_are_fine slots p (n + 1) statics a (omega (arith, few)),
)

pub length_of_statics : (p : Plan) (n : ℕ) (statics : List Statics) → length (statics_told p n statics) ≡ length statics
unfolding statics_told
length_of_statics p n [] = refl
length_of_statics p n (s ∷ statics) = ap suc (length_of_statics p (n + 1) statics)

pub objects_are_fine : (slots : ℕ → ℕ) (o : ObjectsTold) (items : List ItemTold) → AreSlotsOf slots o.plan → HaveSlots o.plan.classes → AreNumberedFirst o → AreFine slots 0 (objects_of_dump o items)
objects_are_fine slots o items a h n = fine_twice slots 0 (statics_told o.plan 0 o.plan.statics.items) (told_from o 0 items)
    (statics_are_fine slots o.plan 0 o.plan.statics.items a (omega (arith, n.few)))
    (subst (λ m. AreFine slots m (told_from o 0 items)) (omega (arith, n.as_many, length_of_statics o.plan 0 o.plan.statics.items)) (told_are_fine slots o 0 items a h))

-- ---- by number

fine_at : (slots : ℕ → ℕ) (n : ℕ) (list : List (Option ObjectTold)) (i : ℕ) (x : Option ObjectTold) → AreFine slots n list → slice_get list i ≡ Some x → IsFine slots (n + i) x
fine_at slots n [] i x a e = let z : None ≡ Some x = e in cc
fine_at slots n (y ∷ ys) zero x a e = subst (IsFine slots (n + 0)) (some_is_one e) (subst (λ m. IsFine slots m y) (omega arith) a.0)
  where
    some_is_one : Some y ≡ Some x → y ≡ x
    some_is_one e = cc
fine_at slots n (y ∷ ys) (suc i) x a e = subst (λ m. IsFine slots m x) (omega arith) (fine_at slots (n + 1) ys i x a.1 e)

pub values_apart_at : (slots : ℕ → ℕ) (list : List (Option ObjectTold)) (i : ℕ) (t : ObjectTold) → AreFine slots 0 list → slice_get list i ≡ Some (Some t) → AreApart t.values
values_apart_at slots list i t a e = (fine_at slots 0 list i (Some t) a e).apart t refl

pub right_of_fine : (slots : ℕ → ℕ) (made : ℕ → Bool) (n : ℕ) (list : List (Option ObjectTold)) → ((i : ℕ) → made (n + i) ≡ is_there (slice_get list i)) → AreFine slots n list → AreRight slots made n list
right_of_fine slots made n [] told a = tt
right_of_fine slots made n (x ∷ xs) told a = (
  record { told = ap made (omega arith) ∙ told 0; few = a.0.few; sized = a.0.sized },
  right_of_fine slots made (n + 1) xs (λ i. ap made (omega arith) ∙ told (suc i)) a.1,
)

pub there_within : (list : List (Option ObjectTold)) (i : ℕ) → is_there (slice_get list i) ≡ true → i < length list
there_within [] i e = let z : false ≡ true = e in cc
there_within (x ∷ xs) zero e = omega arith
there_within (x ∷ xs) (suc i) e = let l : i < length xs = there_within xs i e in omega (arith, l)

-- ---- numbers that are named

pub item_behind_first_list : {A : Type 0} (xs ys : List A) (i : ℕ) → slice_get (xs ++ ys) (length xs + i) ≡ slice_get ys i
item_behind_first_list [] ys i = ap (slice_get ys) (omega arith)
item_behind_first_list (x ∷ xs) ys i = ap (slice_get (x ∷ (xs ++ ys))) (suc_out (length xs) i) ∙ item_behind_first_list xs ys i
  where
    suc_out : (n i : ℕ) → suc n + i ≡ suc (n + i)
    suc_out n i = omega arith

there_by_test : (list : List (Option ObjectTold)) (i : ℕ) → slice_index_or (map is_some list) i false ≡ is_there (slice_get list i)
there_by_test [] i = refl
there_by_test (x ∷ xs) zero = refl
there_by_test (x ∷ xs) (suc i) = there_by_test xs i

static_is_there : (p : Plan) (n : ℕ) (statics : List Statics) (rest : List (Option ObjectTold)) (k : ℕ) → k < length statics → is_there (slice_get (statics_told p n statics ++ rest) k) ≡ true
unfolding statics_told
static_is_there p n [] rest k l = absurd (omega (arith, l))
static_is_there p n (s ∷ statics) rest zero l = refl
static_is_there p n (s ∷ statics) rest (suc k) l = static_is_there p (n + 1) statics rest k (omega (arith, l))

pub named_is_there : (o : ObjectsTold) (items : List ItemTold) (x k : ℕ) → AreNumberedFirst o → o.made ≡ made_from o.plan o.objects (length o.statics) 0 items → number_of o x ≡ Some k → is_there (slice_get (objects_of_dump o items) k) ≡ true
unfolding number_of
named_is_there o items x k a made = go (position (nat_eq x) o.objects)
  where
    told : List (Option ObjectTold)
    told = told_from o 0 items

    by_test : (i : ℕ) (b : Bool) → slice_index_or o.made i false ≡ b → (if b then Some (length o.statics + i) else None) ≡ Some k → is_there (slice_get (objects_of_dump o items) k) ≡ true
    by_test i true e f =
        ap is_there (ap (slice_get (objects_of_dump o items)) (place f) ∙ item_behind_first_list (statics_told o.plan 0 o.plan.statics.items) (told_from o 0 items) i)
        ∙ sym (there_by_test (told_from o 0 items) i) ∙ sym (ap (λ bs. slice_index_or bs i false) (made ∙ made_is_told o 0 items)) ∙ e
      where
        is_number : Some (length o.statics + i) ≡ Some k → length o.statics + i ≡ k
        is_number f = cc

        place : Some (length o.statics + i) ≡ Some k → k ≡ length (statics_told o.plan 0 o.plan.statics.items) + i
        place f = omega (arith, is_number f, a.as_many, length_of_statics o.plan 0 o.plan.statics.items)
    by_test i false e f = let z : None ≡ Some k = f in cc

    go : (p : Option ℕ) → numbered o x p ≡ Some k → is_there (slice_get (objects_of_dump o items) k) ≡ true
    go (Some i) e = by_test i (slice_index_or o.made i false) refl e
    go None e = let p = position-Some (nat_eq x) o.statics k 0 e in static_is_there o.plan 0 o.plan.statics.items (told_from o 0 items) k (omega (arith, p.0, a.as_many))

pub numbers_of_roots : (o : ObjectsTold) (made : ℕ → Bool) (last tag : ℕ) (found : List RootFound) → AreNamed (number_of o) made last → AreNumbers last (roots_named o tag found)
numbers_of_roots o made last tag [] named = tt
numbers_of_roots o made last tag (r ∷ found) named = numbers_twice (root_named o tag r) (roots_named o tag found) (if_named (r.tag == tag) (number_of o r.id) refl) (numbers_of_roots o made last tag found named)
  where
    numbers_twice : (xs ys : List ℕ) → AreNumbers last xs → AreNumbers last ys → AreNumbers last (xs ++ ys)
    numbers_twice [] ys a b = b
    numbers_twice (x ∷ xs) ys a b = (a.0, numbers_twice xs ys a.1 b)

    if_named : (b : Bool) (p : Option ℕ) → number_of o r.id ≡ p → AreNumbers last (if b then option_to_list p else [])
    if_named false p e = tt
    if_named true None e = tt
    if_named true (Some k) e = ((named r.id k e).0, tt)
