-- The places of listed objects.
use Rattle.std.proofs.Common.{◌≡◌, ◌≤◌, ◌<◌, ℕ, zero, suc, ◌+◌, List, [], length, map, get_or, refl, sym, ap, ◌∙◌, subst, arith}
use Rattle.std.specs.Prelude.{slice_get, Option, Some, None, Contains, All, IfSome}
use Rattle.std.proofs.lemmas.Option.{slice_get_within, slice_get_past, slice_get-get_or, slice_get-map}
use Rattle.std.proofs.lemmas.List.{length-map, get_or-map}
use Rattle.std.proofs.lemmas.List.Elements.{All-map}
use Rattle.heap_class.specs.Classes.{Class, IsClassTable}
use Rattle.heap_class.specs.Limits.{class_limit, large_array_limit}
use Rattle.heap_class.specs.declared.ObjRef.{ObjRef}
use Rattle.hprof_text.specs.declared.list_view.ListedObject.{ListedObject}
use Rattle.hprof_text.specs.Image.{DumpedObject, IsKnown, IsDumpable}
use Rattle.hprof_text.specs.HeapLists.{listed_place, listed_places, dumped_object, image_of_list, IsListable}

pub length_places : (k n : ℕ) → length (listed_places k n) ≡ n
length_places k zero = refl
length_places k (suc n) = omega (arith, length_places (k + 1) n)

pub listed_place_at_number : (k n i m : ℕ) → i < n → m ≡ k + i → slice_get (listed_places k n) i ≡ Some (listed_place m)
listed_place_at_number k zero i m h e = absurd (omega (arith, h))
listed_place_at_number k (suc n) zero m h e = let d : k ≡ m = omega (arith, e) in ap (λ j. Some (listed_place j)) d
listed_place_at_number k (suc n) (suc i) m h e = listed_place_at_number (k + 1) n i m (omega (arith, h)) (omega (arith, e))

pub listed_places_end_at_length : (n i : ℕ) → n ≤ i → slice_get (listed_places 0 n) i ≡ None
listed_places_end_at_length n i h = slice_get_past (listed_places 0 n) i (omega (arith, length_places 0 n, h))

pub listed_place_number_within : (n i : ℕ) (at : ObjRef) → slice_get (listed_places 0 n) i ≡ Some at → i < n
listed_place_number_within n i at e = omega (arith, slice_get_within (listed_places 0 n) i at e, length_places 0 n)

some_places_equal : (x y : ObjRef) → ◌≡◌ {A = Option ObjRef} (Some x) (Some y) → x ≡ y
some_places_equal x y e = cc

pub listed_place_has_its_number : (n i : ℕ) (at : ObjRef) → slice_get (listed_places 0 n) i ≡ Some at → at.cell ≡ i
listed_place_has_its_number n i at e = ap (λ p. p.cell) (some_places_equal at (listed_place i) (sym e ∙ listed_place_at_number 0 n i i (listed_place_number_within n i at e) (omega arith)))

pub contained_place_within_count : (n : ℕ) (at : ObjRef) → Contains (listed_places 0 n) at → at.cell < n
contained_place_within_count n at c =
    let e : slice_get (listed_places 0 n) c.0 ≡ Some at = slice_get-get_or (listed_places 0 n) c.0 at c.1 ∙ ap Some c.2 in
    omega (arith, listed_place_has_its_number n c.0 at e, listed_place_number_within n c.0 at e)

-- the object at a place, as a dump shows it
pub dumped_object_at_number : (os : List ListedObject) (i : ℕ) (o : ListedObject) → i < length os → o ≡ get_or os i o → slice_get (map dumped_object os) i ≡ Some (dumped_object o)
dumped_object_at_number os i o h e = slice_get-map dumped_object os i ∙ ap (λ x. elim x as (λ _. Option DumpedObject) [ Some y ↦ Some (dumped_object y) | None ↦ None ]) (slice_get-get_or os i o h ∙ ap Some (sym e))

pub listed_object_is_shown : (shown : List DumpedObject) (os : List ListedObject) (i : ℕ) (at : ObjRef) (o : ListedObject) → map dumped_object os ≡ shown → slice_get (listed_places 0 (length shown)) i ≡ Some at → o ≡ get_or os at.cell o → Some (dumped_object o) ≡ slice_get shown i
listed_object_is_shown shown os i at o v e d =
    let n : i < length os = omega (arith, listed_place_number_within (length shown) i at e, ap length v, length-map os dumped_object) in
    let g : o ≡ get_or os i o = d ∙ ap (λ k. get_or os k o) (listed_place_has_its_number (length shown) i at e) in
    sym (dumped_object_at_number os i o n g) ∙ ap (λ l. slice_get l i) v

-- each place that is listed has an object
pub listed_place_has_object : (shown : List DumpedObject) (os : List ListedObject) (at : ObjRef) → map dumped_object os ≡ shown → Contains (listed_places 0 (length shown)) at → at.cell < length os
listed_place_has_object shown os at v c = omega (arith, ap length v, length-map os dumped_object, contained_place_within_count (length shown) at c)

-- what holds of it as a dump shows it holds of what is shown
pub shown_object_property_holds : (shown : List DumpedObject) (os : List ListedObject) (i : ℕ) (at : ObjRef) (o : ListedObject) (R : DumpedObject → Type 0) → map dumped_object os ≡ shown → slice_get (listed_places 0 (length shown)) i ≡ Some at → o ≡ get_or os at.cell o → R (dumped_object o) → IfSome (slice_get shown i) R
shown_object_property_holds shown os i at o R v e d r = subst (λ (x : Option DumpedObject). IfSome x R) (listed_object_is_shown shown os i at o v e d) r

-- ---- what the checks find is what a dump may show

pub listable_objects_are_dumpable : (classes : List Class) (registers : List ℕ) (os : List ListedObject) → IsClassTable [] classes → length classes ≤ class_limit → length registers ≤ 128 → length os ≤ 65536 → All (IsListable classes) os → IsDumpable (image_of_list classes registers os)
listable_objects_are_dumpable classes registers os t c r n h = record {
  classes = t;
  few_classes = c;
  few_registers = r;
  few_objects = omega (arith, n, length-map os dumped_object);
  known = All-map (λ (o : DumpedObject). IsKnown classes o.kind (length o.words)) dumped_object os (λ k d l. (h k d l).0);
  small = All-map (λ (o : DumpedObject). length o.words ≤ large_array_limit) dumped_object os (λ k d l. (h k d l).1);
}

pub dumpable_list_is_listable : (classes : List Class) (registers : List ℕ) (os : List ListedObject) → IsDumpable (image_of_list classes registers os) → (length registers ≤ 128) × (length os ≤ 16777216) × All (IsListable classes) os
dumpable_list_is_listable classes registers os h = (
  h.few_registers,
  omega (arith, h.few_objects, length-map os dumped_object),
  λ k d l.
      let e = get_or-map dumped_object os k d (dumped_object d) l in
      let n : k < length (map dumped_object os) = omega (arith, l, length-map os dumped_object) in
      let K : DumpedObject → Type 0 = λ o. IsKnown classes o.kind (length o.words) in
      let S : DumpedObject → Type 0 = λ o. length o.words ≤ large_array_limit in
      (subst K e (h.known k (dumped_object d) n), subst S e (h.small k (dumped_object d) n)),
)
