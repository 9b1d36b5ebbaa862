-- The ids of the objects of two images, and what differs between the objects with each.
use Rattle.std.proofs.Common.{◌≡◌, ℕ, zero, suc, ◌+◌, ◌<◌, ◌==◌, Bool, true, false, cond, List, [], ◌∷◌, ◌++◌, length, map, take, get_or, refl, sym, ap, ◌∙◌, subst, inl, inr, arith, eqb}
use Rattle.std.specs.Prelude.{Contains, IsSome, Some, find, flat_map}
use Rattle.std.specs.List.{AllByRecursion, dedup}
use Rattle.std.specs.List.Sorted.{IsPermutation, IsSorted, IsStrictlyIncreasing}
use Rattle.std.specs.Ordering.{nat_cmp}
use Rattle.std.proofs.lemmas.Bool.{eq-eqb, eqb-true, false≢true}
use Rattle.std.proofs.lemmas.List.{flat_map_more, take_more}
use Rattle.std.proofs.lemmas.List.Elements.{Contains-append_cases, Contains-append_left, Contains-append_right, recursion_from_All}
use Rattle.std.proofs.lemmas.List.Kept.{Contains-dedup_nat, Contains-from_dedup}
use Rattle.std.proofs.lemmas.List.Sorted.{Contains-permutation, IsPermutation-sym}
use Rattle.std.proofs.lemmas.Map.Keys.{IsStrictlyIncreasing-dedup}
use Rattle.heap_class.specs.Classes.{Class}
use Rattle.hprof_text.specs.Image.{DumpedObject, Image, IsDumpable, IsKnown}
use Rattle.heap_questions.specs.Differences.{AreIdsOfBoth, IsKnownIf, differences_of}
use Rattle.heap_questions.specs.Graph.{object_with}
use Rattle.heap_questions.specs.declared.differences.Difference.{Difference}

-- ---- ids

abbrev pub ids_of : List DumpedObject → List ℕ
ids_of objects = map (λ o. o.id) objects

found_id_is_listed : (x : ℕ) (objects : List DumpedObject) → IsSome (find (λ o. o.id == x) objects) → Contains (ids_of objects) x
found_id_is_listed x [] h = absurd (false≢true h)
found_id_is_listed x (o ∷ os) h = go (λ k. found_id_is_listed x os k) (o.id == x) refl h
  where
    go : (IsSome (find (λ o. o.id == x) os) → Contains (ids_of os) x) → (b : Bool) → (o.id == x) ≡ b → IsSome (cond b (Some o) (find (λ o. o.id == x) os)) → Contains (o.id ∷ ids_of os) x
    go on true e h = (0, omega arith, eqb-true o.id x e)
    go on false e h = let r = on h in (suc r.0, omega (arith, r.1), r.2)

listed_id_is_found : (x : ℕ) (objects : List DumpedObject) → Contains (ids_of objects) x → IsSome (find (λ o. o.id == x) objects)
listed_id_is_found x [] c = absurd (omega (arith, c.1))
listed_id_is_found x (o ∷ os) c = go (λ d. listed_id_is_found x os d) (o.id == x) refl c.0 c.1 c.2
  where
    go : (Contains (ids_of os) x → IsSome (find (λ o. o.id == x) os)) → (b : Bool) → (o.id == x) ≡ b → (k : ℕ) → k < suc (length (ids_of os)) → get_or (o.id ∷ ids_of os) k x ≡ x → IsSome (cond b (Some o) (find (λ o. o.id == x) os))
    go on true e k l g = refl
    go on false e zero l g = absurd (false≢true (sym e ∙ eq-eqb o.id x g))
    go on false e (suc k) l g = on (k, omega (arith, l), g)

-- the ids of both, sorted and without those that stand there twice
pub sorted_ids_are_of_both : (older newer : Image) (ids sorted after : List ℕ) → ids ≡ ids_of older.objects ++ ids_of newer.objects → IsPermutation ids sorted → IsSorted nat_cmp sorted → after ≡ dedup eqb sorted → AreIdsOfBoth older newer after
unfolding object_with
sorted_ids_are_of_both older newer ids sorted after listed moved rises e =
    let a = ids_of older.objects in
    let b = ids_of newer.objects in
    record {
      each = λ x. (
        λ c.
            let d = Contains-from_dedup eqb sorted x (subst (λ (xs : List ℕ). Contains xs x) e c) in
            let p = Contains-permutation sorted ids x (IsPermutation-sym ids sorted moved) d in
            elim (Contains-append_cases a b x (subst (λ (xs : List ℕ). Contains xs x) listed p)) [
              | inl h ↦ inl (listed_id_is_found x older.objects h)
              | inr h ↦ inr (listed_id_is_found x newer.objects h)
            ],
        λ h.
            let p : Contains (a ++ b) x = elim h [
              | inl k ↦ Contains-append_left a b x (found_id_is_listed x older.objects k)
              | inr k ↦ Contains-append_right a b x (found_id_is_listed x newer.objects k)
            ] in
            let q = Contains-permutation ids sorted x moved (subst (λ (xs : List ℕ). Contains xs x) (sym listed) p) in
            subst (λ (xs : List ℕ). Contains xs x) (sym e) (Contains-dedup_nat sorted x q),
      );
      rising = subst IsStrictlyIncreasing (sym e) (IsStrictlyIncreasing-dedup sorted rises);
    }

-- ---- objects

known_if_found : (classes : List Class) (test : DumpedObject → Bool) (objects : List DumpedObject) → AllByRecursion (λ (o : DumpedObject). IsKnown classes o.kind (length o.words)) objects → IsKnownIf classes (find test objects)
known_if_found classes test [] all = tt
known_if_found classes test (o ∷ os) all = go (known_if_found classes test os all.1) (test o)
  where
    go : IsKnownIf classes (find test os) → (b : Bool) → IsKnownIf classes (cond b (Some o) (find test os))
    go later true = all.0
    go later false = later

pub found_object_is_known : (image : Image) (x : ℕ) → IsDumpable image → IsKnownIf image.classes (object_with image x)
unfolding object_with
found_object_is_known image x d = known_if_found image.classes (λ o. o.id == x) image.objects (recursion_from_All (λ (o : DumpedObject). IsKnown image.classes o.kind (length o.words)) image.objects d.known)

pub rows_with_one_id_more : (older newer : Image) (ids : List ℕ) (i x : ℕ) (before after : List Difference) → i < length ids → x ≡ get_or ids i x → before ≡ flat_map (differences_of older newer) (take i ids) → after ≡ before ++ differences_of older newer x
    → after ≡ flat_map (differences_of older newer) (take (i + 1) ids)
rows_with_one_id_more older newer ids i x before after l at a e =
    let f : ℕ → List Difference = differences_of older newer in
    e ∙ ap (λ (rs : List Difference). rs ++ f x) a
    ∙ flat_map_more f [] (take i ids) x
    ∙ ap (λ (y : ℕ). flat_map f (take i ids ++ y ∷ [])) at
    ∙ ap (flat_map f) (sym (take_more ids i x l))
