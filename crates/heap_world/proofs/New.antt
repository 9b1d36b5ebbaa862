-- Legality after a new object.
use Rattle.std.proofs.Common.{◌≡◌, ◌≢◌, ◌⊎◌, ℕ, ◌-◌, zero, suc, ◌<◌, ◌≤◌, Bool, true, false, List, [], ◌∷◌, length, drop, set, zip, replicate, refl, sym, ap, subst, ◌∙◌, Option, Some, None, IfSome, All, Contains, arith}
use mathlib.Core.Logic.{inl, inr}
use Rattle.std.specs.Prelude.{slice_get, option_and_then, is_none, nat_lt, if◌then◌else◌}
use Rattle.std.specs.Option.{option_map_or}
use Rattle.std.specs.List.{range_with_len}
use Rattle.std.proofs.lemmas.List.{length-replicate}
use Rattle.std.proofs.lemmas.List.FromFn.{length-range_with_len}
use Rattle.std.proofs.lemmas.List.Elements.{All-cons}
use Rattle.heap_class.specs.declared.Kind.{Kind}
use Rattle.heap_class.specs.declared.Kind.TheVariants.{Boolean, Char, Float, Double, Byte, Short, Int, Long}
use Rattle.heap_class.specs.declared.ObjKind.{ObjKind}
use Rattle.heap_class.specs.declared.ObjRef.{ObjRef}
use Rattle.heap_class.specs.Classes.{Class}
use Rattle.heap_class.specs.Kinds.{value_limit}
use Rattle.heap_region.specs.Limits.{region_limit}
use Rattle.heap_region.specs.Regions.{Object, UsedRegion, Region, Empty, InUse, cell_count, used_part, used_at, object_of, object_at, id_of, ref_of, with_region, references_of, slot_kinds, cell_size_for}
use Rattle.heap_region.specs.Pool.{RegionPool, fresh_region, new_place, taken, restored, allocated}
use Rattle.heap_region.proofs.ChangedLookups.{same_or_not, ref_same, number_of, region_of_ref}
use Rattle.heap_region.proofs.PriorObjects.{places_equal_or_different}
use Rattle.heap_region.proofs.RoundTrip.{size_for, some_cell}
use Rattle.heap_region.proofs.References.{set_item_is_got, get_set_other, length_set, get_within, member_stands_at_reference_slot, references_by_slots}
use Rattle.heap_mark.specs.declared.Phase.TheVariants.{Marking}
use Rattle.heap_mark.specs.MarkSteps.{is_marking}
use Rattle.heap_world.specs.State.{HeapState, pool_of, with_pool, with_register}
use Rattle.heap_world.specs.Reach.{Names}
use Rattle.heap_world.specs.Legal.{IsObjectOf, HasKind, IsMarked, IsUnmarked, IsLive, Sheltered}
use Rattle.heap_world.proofs.Clauses.{HasClauses, clauses_make_heap_legal}
use Rattle.heap_region.proofs.Clauses.{IsPartition}
use Rattle.heap_region.specs.Legal.{IsArea, IsRegionPool, MayRestore, NamesEach}
use Rattle.heap_region.proofs.Areas.{area_after_arrival}
use Rattle.heap_region.proofs.Places.{IsNextFree, IsSpare, new_place_is}
use Rattle.heap_region.proofs.Restores.{restorable_is_empty, spare_may_be_restored}
use Rattle.heap_region.proofs.Spares.{NamesSpare, spare_after_arrival, spare_kept}
use Rattle.heap_world.specs.Events.{new_object, after_new, is_full}
use Rattle.heap_world.proofs.OpeningState.{range_distinct, range_index}
use Rattle.heap_world.proofs.Shelter.{sheltered_unmarked}
use Rattle.heap_world.proofs.Tricolour.{Spares, spares_tricolour, spares_sheltered}
use Rattle.heap_world.proofs.Registers.{IsSafe, naming_id_names_an_object, names_of, write_legal}
use Rattle.heap_world.proofs.TakenCells.{HasRoom, IsTaken, object_put_into_free_cell, filled, object_at_same, object_at_used, same_region_has_same_size}
use Rattle.heap_region.proofs.FoundObjects.{bare_cells}
use Rattle.heap_region.proofs.ShownRegions.{unused_region_has_no_object}

-- ---- a region with room

-- rs1 and ps1 are rs and ps, perhaps with a region taken from the pool, and have room at a place
record IsPlaceOpened (start : ℕ) (rs rs1 : List Region) (ps ps1 : List ℕ) (at : ObjRef) (s : ℕ) : Type 0 where
  count : length rs1 ≡ length rs
  places : (b : ObjRef) → object_at rs1 b ≡ object_at rs b
  names : (x : ℕ) → object_of rs1 x ≡ object_of rs x
  used_still : (k : ℕ) (u : UsedRegion) → used_at rs k ≡ Some u → used_at rs1 k ≡ Some u
  used_before : (k : ℕ) (u : UsedRegion) → k ≢ at.region → used_at rs1 k ≡ Some u → used_at rs k ≡ Some u
  pools : NamesSpare start ps1 rs1
  area : IsArea rs1 start
  room : HasRoom rs1 at s

-- a region in use has room where its free list isn't empty
opened_in_use : (start : ℕ) (rs : List Region) (ps : List ℕ) (n : ℕ) (at : ObjRef) → ((k : ℕ) (u : UsedRegion) → used_at rs k ≡ Some u → IsPartition u) → NamesSpare start ps rs → IsArea rs start
    → IsNextFree n rs at → IsPlaceOpened start rs rs ps ps at (cell_size_for n)
opened_in_use start rs ps n at tables pools area h = record {
  count = refl;
  places = λ b. refl;
  names = λ x. refl;
  used_still = λ k u e. e;
  used_before = λ k u m e. e;
  pools = pools;
  area = area;
  room = record { region = h.0; used = h.1; size = h.2; is_size = size_for n; cells = (tables at.region h.0 h.1).cells; free = (tables at.region h.0 h.1).free; first = h.3 };
}

-- ---- a region from the pool

replicate_there : {A : Type 0} (x : A) (n r : ℕ) → r < n → slice_get (replicate n x) r ≡ Some x
replicate_there x zero r h = absurd (omega (arith, h))
replicate_there x (suc n) zero h = refl
replicate_there x (suc n) (suc r) h = replicate_there x n r (omega (arith, h))

item_of_replicate_is_within : {A : Type 0} (x y : A) (n r : ℕ) → slice_get (replicate n x) r ≡ Some y → r < n
item_of_replicate_is_within x y zero r h = cc
item_of_replicate_is_within x y (suc n) zero h = omega arith
item_of_replicate_is_within x y (suc n) (suc r) h = let e : r < n = item_of_replicate_is_within x y n r h in omega (arith, e)

-- a range names the items of a list of one thing
range_names : {A : Type 0} (x : A) (n : ℕ) → NamesEach (range_with_len 0 n) (λ r. slice_get (replicate n x) r ≡ Some x)
range_names x n = record {
  distinct = range_distinct 0 n;
  each = λ r. (
    λ c. replicate_there x n r (omega (arith, c.1, length-range_with_len 0 n, range_index 0 n c.0 r (omega (arith, c.1, length-range_with_len 0 n)), c.2)),
    λ e. let h : r < n = item_of_replicate_is_within x x n r e in (r, omega (arith, h, length-range_with_len 0 n), range_index 0 n r r h ∙ omega arith),
  );
}

range_first : (n : ℕ) → 0 < n → slice_get (range_with_len 0 n) 0 ≡ Some 0
range_first zero h = absurd (omega (arith, h))
range_first (suc n) h = refl

set_region_is_in_use : (rs : List Region) (r : ℕ) (u : UsedRegion) → r < length rs → used_at (set rs r (InUse u)) r ≡ Some u
unfolding used_at
set_region_is_in_use rs r u h = ap (option_and_then used_part) (set_item_is_got rs r (InUse u) h)

used_set_other : (rs : List Region) (r k : ℕ) (u : UsedRegion) → k ≢ r → used_at (set rs r (InUse u)) k ≡ used_at rs k
unfolding used_at
used_set_other rs r k u n = ap (option_and_then used_part) (get_set_other rs r k (InUse u) n)

empty_region_is_not_used : (rs : List Region) (r : ℕ) → slice_get rs r ≡ Some Empty → used_at rs r ≡ None
unfolding used_at
empty_region_is_not_used rs r e = ap (option_and_then used_part) e

-- an id in a region without objects names none
id_of_empty_region_names_none : (rs : List Region) (r x : ℕ) → ((b : ObjRef) → b.region ≡ r → object_at rs b ≡ None) → number_of x ≡ r → object_of rs x ≡ None
unfolding object_of
id_of_empty_region_names_none rs r x h n = go (ref_of rs x) refl
  where
    go : (p : Option ObjRef) → ref_of rs x ≡ p → option_and_then (object_at rs) p ≡ None
    go None f = refl
    go (Some at) f = h at (region_of_ref rs x at f ∙ n)

names_by : (rs ts : List Region) (x : ℕ) → ref_of ts x ≡ ref_of rs x → ((b : ObjRef) → object_at ts b ≡ object_at rs b) → object_of ts x ≡ object_of rs x
unfolding object_of
names_by rs ts x e h = ap (option_and_then (object_at ts)) e ∙ go (ref_of rs x)
  where
    go : (p : Option ObjRef) → option_and_then (object_at ts) p ≡ option_and_then (object_at rs) p
    go None = refl
    go (Some b) = h b

fresh_region_opens_room : (s : RegionPool) (n r : ℕ) → IsRegionPool s → IsSpare n s r
    → IsPlaceOpened s.area_start s.regions (set s.regions r (InUse (fresh_region (cell_size_for n)))) s.pool (if nat_lt r s.area_start then drop 1 s.pool else s.pool) (record { region = r; cell = 0 }) (cell_size_for n)
unfolding fresh_region
fresh_region_opens_room s n r legal spare = record {
  count = length_set rs r (InUse fresh);
  places = places;
  names = λ x. names x (same_or_not (number_of x) r);
  used_still = λ k u e. still k u e (same_or_not k r);
  used_before = λ k u m e. sym (used_set_other rs r k fresh m) ∙ e;
  pools = spare_after_arrival s r fresh legal may;
  area = area_after_arrival s r fresh legal.area may;
  room = record { region = fresh; used = used; size = refl; is_size = size_for n; cells = length-replicate (cell_count (cell_size_for n)) None; free = range_names None (cell_count (cell_size_for n)); first = range_first (cell_count (cell_size_for n)) (some_cell (cell_size_for n) (size_for n)) };
}
  where
    rs : List Region
    rs = s.regions

    fresh : UsedRegion
    fresh = record { cell_size = cell_size_for n; pending = false; cells = replicate (cell_count (cell_size_for n)) None; free = range_with_len 0 (cell_count (cell_size_for n)) }

    may : MayRestore s r fresh
    may = spare_may_be_restored n s r fresh legal spare refl

    empty : slice_get rs r ≡ Some Empty
    empty = restorable_is_empty s r fresh legal may

    within : r < length rs
    within = get_within rs r Empty empty

    used : used_at (set rs r (InUse fresh)) r ≡ Some fresh
    used = set_region_is_in_use rs r fresh within

    still : (k : ℕ) (u : UsedRegion) → used_at rs k ≡ Some u → (k ≡ r) ⊎ (k ≢ r) → used_at (set rs r (InUse fresh)) k ≡ Some u
    still k u e (inl s) = let a : None ≡ Some u = sym (ap (used_at rs) s ∙ empty_region_is_not_used rs r empty) ∙ e in cc
    still k u e (inr m) = used_set_other rs r k fresh m ∙ e

    none_there : (b : ObjRef) → b.region ≡ r → object_at (set rs r (InUse fresh)) b ≡ None
    none_there b e = object_at_used (set rs r (InUse fresh)) b fresh (ap (used_at (set rs r (InUse fresh))) e ∙ used) ∙ bare_cells (cell_count (cell_size_for n)) b.cell

    none_before : (b : ObjRef) → b.region ≡ r → object_at rs b ≡ None
    none_before b e = unused_region_has_no_object rs b (ap (used_at rs) e ∙ empty_region_is_not_used rs r empty)

    places : (b : ObjRef) → object_at (set rs r (InUse fresh)) b ≡ object_at rs b
    places b = elim (same_or_not b.region r) [
      | inl e ↦ none_there b e ∙ sym (none_before b e)
      | inr m ↦ object_at_same rs (set rs r (InUse fresh)) b (used_set_other rs r b.region fresh m)
    ]

    names : (x : ℕ) → (number_of x ≡ r) ⊎ (number_of x ≢ r) → object_of (set rs r (InUse fresh)) x ≡ object_of rs x
    names x (inl e) = id_of_empty_region_names_none (set rs r (InUse fresh)) r x none_there e ∙ sym (id_of_empty_region_names_none rs r x none_before e)
    names x (inr m) = names_by rs (set rs r (InUse fresh)) x (ref_same (set rs r (InUse fresh)) rs x (λ d. same_region_has_same_size rs (set rs r (InUse fresh)) (number_of x) d (used_set_other rs r (number_of x) fresh m))) places

-- ---- the new object

zero_in : (n i y : ℕ) → slice_get (replicate n 0) i ≡ Some y → y ≡ 0
zero_in zero i y h = cc
zero_in (suc n) zero y h = cc
zero_in (suc n) (suc i) y h = zero_in n i y h

-- an object whose words are all 0 names nothing
zero_words_name_nothing : (classes : List Class) (o : Object) (n : ℕ) → o.words ≡ replicate n 0 → (y : ℕ) → Contains (references_of classes o) y → ⊥
zero_words_name_nothing classes o n e y c =
    let r = member_stands_at_reference_slot (slot_kinds classes o) o.words y (subst (λ l. Contains l y) (references_by_slots classes o) c) in
    r.5 (zero_in n r.0 y (ap (λ ws. slice_get ws r.0) (sym e) ∙ r.4))

each_kind_allows_a_value : (k : Kind) → 0 < value_limit k
each_kind_allows_a_value Kind.Object = omega arith
each_kind_allows_a_value Boolean = omega arith
each_kind_allows_a_value Char = omega arith
each_kind_allows_a_value Float = omega arith
each_kind_allows_a_value Double = omega arith
each_kind_allows_a_value Byte = omega arith
each_kind_allows_a_value Short = omega arith
each_kind_allows_a_value Int = omega arith
each_kind_allows_a_value Long = omega arith

zeros_fit : (ks : List Kind) (n : ℕ) → All (λ p. p.0 ≢ Kind.Object → p.1 < value_limit p.0) (zip ks (replicate n 0))
zeros_fit [] n = λ i d h. absurd (omega (arith, h))
zeros_fit (k ∷ ks) zero = λ i d h. absurd (omega (arith, h))
zeros_fit (k ∷ ks) (suc n) = All-cons (λ p. p.0 ≢ Kind.Object → p.1 < value_limit p.0) (k, 0) (zip ks (replicate n 0)) (λ ne. each_kind_allows_a_value k) (zeros_fit ks n)

new_object_fits_classes : (w : HeapState) (kind : ObjKind) (n : ℕ) → HasKind w.classes kind n → IsObjectOf w.classes (new_object kind n w)
unfolding new_object
new_object_fits_classes w kind n h = record { kind = subst (HasKind w.classes kind) (sym (length-replicate n 0)) h; values = zeros_fit _ n }

region_of_object_is_used : (rs : List Region) (b : ObjRef) (o : Object) → object_at rs b ≡ Some o → (u : UsedRegion) × (used_at rs b.region ≡ Some u)
unfolding object_at
region_of_object_is_used rs b o = go (used_at rs b.region) refl
  where
    go : (p : Option UsedRegion) → used_at rs b.region ≡ p → option_and_then (λ (u : UsedRegion). option_and_then (λ (o : Option Object). o) (slice_get u.cells b.cell)) p ≡ Some o → (u : UsedRegion) × (used_at rs b.region ≡ Some u)
    go None e h = cc
    go (Some u) e h = (u, e)

-- what a new object shows
record IsFresh (w : HeapState) (o : Object) (n : ℕ) : Type 0 where
  fits : IsObjectOf w.classes o
  words : o.words ≡ replicate n 0
  live : o.live ≡ true
  mark : o.mark ≡ is_marking w.phase

abbrev heap_with_regions_and_pool : HeapState → List Region → List ℕ → HeapState
heap_with_regions_and_pool w ts qs = record w { regions = ts; pool = qs }

-- each id but the new object's names what it did
other_ids_name_as_before : (w : HeapState) (rs1 ts : List Region) (qs : List ℕ) (at : ObjRef) (o : Object) (s : ℕ) → IsPlaceOpened w.area_start w.regions rs1 w.pool qs at s → IsTaken rs1 ts at o s → (x : ℕ) → x ≢ id_of ts at → object_of ts x ≡ object_of w.regions x
other_ids_name_as_before w rs1 ts qs at o s a t x n = t.still_named x n ∙ a.names x

-- what an id named before it is not the new object's
older_id_is_not_new : (w : HeapState) (rs1 ts : List Region) (qs : List ℕ) (at : ObjRef) (o : Object) (s : ℕ) → IsPlaceOpened w.area_start w.regions rs1 w.pool qs at s → IsTaken rs1 ts at o s → (x : ℕ) (p : Object) → object_of w.regions x ≡ Some p → x ≢ id_of ts at
older_id_is_not_new w rs1 ts qs at o s a t x p e q = let z : None ≡ Some p = sym t.was_none ∙ a.names (id_of ts at) ∙ ap (object_of w.regions) (sym q) ∙ e in clash p z
  where
    clash : (p : Object) → None ≡ Some p → ⊥
    clash p z = cc

grown_spares : (w : HeapState) (rs1 ts : List Region) (qs : List ℕ) (at : ObjRef) (o : Object) (s n : ℕ) → w.phase ≡ Marking → IsPlaceOpened w.area_start w.regions rs1 w.pool qs at s → IsTaken rs1 ts at o s → IsFresh w o n → Spares w (heap_with_regions_and_pool w ts qs)
grown_spares w rs1 ts qs at o s n phase a t f = record {
  unmarked = λ x u. unmarked x u (same_or_not x (id_of ts at));
  marked = λ x y m k. marked x y m k (same_or_not x (id_of ts at));
  gray = refl;
  undrained = refl;
  registers = λ x c u. c;
  sheltered = λ x h. (let u = sheltered_unmarked w x h in (u.0, still x (older_id_is_not_new w rs1 ts qs at o s a t x u.0 u.1) ∙ u.1, u.2));
  names_still = λ x y h k. (let b = naming_id_names_an_object w x y k in names_of (heap_with_regions_and_pool w ts qs) x y b.0 (still x (older_id_is_not_new w rs1 ts qs at o s a t x b.0 b.1) ∙ b.1) b.2);
}
  where
    still : (x : ℕ) → x ≢ id_of ts at → object_of ts x ≡ object_of w.regions x
    still = other_ids_name_as_before w rs1 ts qs at o s a t

    new_is : (x : ℕ) (p : Object) → x ≡ id_of ts at → object_of ts x ≡ Some p → p ≡ o
    new_is x p e h = let z : object_of ts x ≡ Some o = ap (object_of ts) e ∙ t.named in cc

    unmarked : (x : ℕ) → IsUnmarked (heap_with_regions_and_pool w ts qs) x → (x ≡ id_of ts at) ⊎ (x ≢ id_of ts at) → IsUnmarked w x
    unmarked x u (inl e) = let z : true ≡ false = sym (ap is_marking phase) ∙ sym f.mark ∙ ap (λ (b : Object). b.mark) (sym (new_is x u.0 e u.1)) ∙ u.2 in cc
    unmarked x u (inr m) = (u.0, sym (still x m) ∙ u.1, u.2)

    marked : (x y : ℕ) → IsMarked (heap_with_regions_and_pool w ts qs) x → Names (heap_with_regions_and_pool w ts qs) x y → (x ≡ id_of ts at) ⊎ (x ≢ id_of ts at) → IsMarked w x × Names w x y
    marked x y m k (inl e) = let b = naming_id_names_an_object (heap_with_regions_and_pool w ts qs) x y k in absurd (zero_words_name_nothing w.classes o n f.words y (subst (λ (z : Object). Contains (references_of w.classes z) y) (new_is x b.0 e b.1) b.2))
    marked x y m k (inr d) = let b = naming_id_names_an_object (heap_with_regions_and_pool w ts qs) x y k in ((m.0, sym (still x d) ∙ m.1, m.2), names_of w x y b.0 (sym (still x d) ∙ b.1) b.2)

grown_legal : (w : HeapState) (rs1 ts : List Region) (qs : List ℕ) (at : ObjRef) (o : Object) (n : ℕ) → HasClauses w → IsPlaceOpened w.area_start w.regions rs1 w.pool qs at (cell_size_for n) → IsTaken rs1 ts at o (cell_size_for n) → IsFresh w o n → HasClauses (heap_with_regions_and_pool w ts qs)
grown_legal w rs1 ts qs at o n l a t f = record {
  sized = record { limits = l.sized.limits; regions = subst (λ k. (1 ≤ k) × (k ≤ region_limit)) (sym (t.count ∙ a.count)) l.sized.regions; area = subst (λ n. w.area_start ≡ n - w.limits.area) (sym (t.count ∙ a.count)) l.sized.area; mutators = l.sized.mutators };
  classes = l.classes;
  objects = λ b p e. elim (which b p e) [ inl q ↦ subst (IsObjectOf w.classes) (sym q.1) f.fits | inr q ↦ l.objects b p q ];
  least_cells = λ b p e. elim (which b p e) [
    | inl q ↦ subst (λ (c : ObjRef). IfSome (used_at ts c.region) (λ u. u.cell_size ≡ cell_size_for (length p.words))) (sym q.0)
        (subst (λ (v : Option UsedRegion). IfSome v (λ u. u.cell_size ≡ cell_size_for (length p.words))) (sym t.size.1) (t.size.2 ∙ ap cell_size_for (sym (ap (λ (z : Object). length z.words) q.1 ∙ ap length f.words ∙ length-replicate n 0))))
    | inr q ↦ (let u = region_of_object_is_used w.regions b p q in let v = t.sizes b.region u.0 (a.used_still b.region u.0 u.1) in
        subst (λ (z : Option UsedRegion). IfSome z (λ u. u.cell_size ≡ cell_size_for (length p.words))) (sym v.1) (v.2 ∙ subst (λ (z : Option UsedRegion). IfSome z (λ u. u.cell_size ≡ cell_size_for (length p.words))) u.1 (l.least_cells b p q)))
  ];
  cells = t.tables (λ k u e m. l.cells k u (a.used_before k u m e));
  pool = spare_kept w.area_start qs rs1 ts t.empties a.pools;
  area = t.area w.area_start a.area;
  registers_live = λ x c m. live_still x (l.registers_live x c m);
  slots_live = λ x y d k. slots x y d k (same_or_not x (id_of ts at));
  gray_live = λ x c. live_still x (l.gray_live x c);
  log_live = λ x c. live_still x (l.log_live x c);
  gray_distinct = l.gray_distinct;
  gray_marked = λ x c. (let m = l.gray_marked x c in (m.0, still x (fresh x m.0 m.1) ∙ m.1, m.2));
  marked_live = λ b p e m. elim (which b p e) [ inl q ↦ ap (λ (z : Object). z.live) q.1 ∙ f.live | inr q ↦ l.marked_live b p q m ];
  drained_within = l.drained_within;
  swept_live = λ b p e. elim (which b p e) [
    | inl q ↦ all_some (used_at ts b.region) p.live (ap (λ (z : Object). z.live) q.1 ∙ f.live)
    | inr q ↦ (let u = region_of_object_is_used w.regions b p q in let v = t.sizes b.region u.0 (a.used_still b.region u.0 u.1) in
        subst (λ (z : Option UsedRegion). IfSome z (λ u. u.pending ≡ false → p.live ≡ true)) (sym v.1) (λ g. (subst (λ (z : Option UsedRegion). IfSome z (λ u. u.pending ≡ false → p.live ≡ true)) u.1 (l.swept_live b p q)) (sym v.3 ∙ g)))
  ];
  idle = λ i. record {
    gray = (l.idle i).gray;
    log = (l.idle i).log;
    drained = (l.idle i).drained;
    unmarked = λ b p e. elim (which b p e) [ inl q ↦ ap (λ (z : Object). z.mark) q.1 ∙ f.mark ∙ ap is_marking i | inr q ↦ (l.idle i).unmarked b p q ];
  };
  tricolour = λ i. spares_tricolour w (heap_with_regions_and_pool w ts qs) (grown_spares w rs1 ts qs at o (cell_size_for n) n i a t f) (l.tricolour i);
}
  where
    still : (x : ℕ) → x ≢ id_of ts at → object_of ts x ≡ object_of w.regions x
    still = other_ids_name_as_before w rs1 ts qs at o (cell_size_for n) a t

    fresh : (x : ℕ) (p : Object) → object_of w.regions x ≡ Some p → x ≢ id_of ts at
    fresh = older_id_is_not_new w rs1 ts qs at o (cell_size_for n) a t

    -- the object of a place is the new one, or was there
    which : (b : ObjRef) (p : Object) → object_at ts b ≡ Some p → ((b ≡ at) × (p ≡ o)) ⊎ (object_at w.regions b ≡ Some p)
    which b p e = elim (places_equal_or_different b at) [
      | inl q ↦ (let z : object_at ts b ≡ Some o = ap (object_at ts) q ∙ t.here in inl (q, same p (sym e ∙ z)))
      | inr m ↦ inr (sym (t.others b m ∙ a.places b) ∙ e)
    ]
      where
        same : (p : Object) → Some p ≡ Some o → p ≡ o
        same p z = cc

    all_some : (v : Option UsedRegion) (b : Bool) → b ≡ true → IfSome v (λ u. u.pending ≡ false → b ≡ true)
    all_some None b e = tt
    all_some (Some u) b e = λ g. e

    live_still : (x : ℕ) → IsLive w x → IsLive (heap_with_regions_and_pool w ts qs) x
    live_still x d = (d.0, still x (fresh x d.0 d.1) ∙ d.1, d.2)

    slots : (x y : ℕ) → IsLive (heap_with_regions_and_pool w ts qs) x → Names (heap_with_regions_and_pool w ts qs) x y → (x ≡ id_of ts at) ⊎ (x ≢ id_of ts at) → IsLive (heap_with_regions_and_pool w ts qs) y
    slots x y d k (inl e) =
        let b = naming_id_names_an_object (heap_with_regions_and_pool w ts qs) x y k in
        let z : object_of ts x ≡ Some o = ap (object_of ts) e ∙ t.named in
        let q : b.0 ≡ o = (let g = b.1 in cc) in
        absurd (zero_words_name_nothing w.classes o n f.words y (subst (λ (z : Object). Contains (references_of w.classes z) y) q b.2))
    slots x y d k (inr m) = let b = naming_id_names_an_object (heap_with_regions_and_pool w ts qs) x y k in
        live_still y (l.slots_live x y (d.0, sym (still x m) ∙ d.1, d.2) (names_of w x y b.0 (sym (still x m) ∙ b.1) b.2))

-- ---- the whole

new_is_fresh : (w : HeapState) (kind : ObjKind) (n : ℕ) → HasKind w.classes kind n → IsFresh w (new_object kind n w) n
unfolding new_object
new_is_fresh w kind n h = record { fits = new_object_fits_classes w kind n h; words = refl; live = refl; mark = refl }

object_in_room_keeps_clauses : (w : HeapState) (m r n : ℕ) (kind : ObjKind) (rs1 : List Region) (qs : List ℕ) (at : ObjRef) → HasClauses w → HasKind w.classes kind n → IsPlaceOpened w.area_start w.regions rs1 w.pool qs at (cell_size_for n)
    → let ts : List Region = with_region at.region (filled at.cell (new_object kind n w)) rs1 in HasClauses (with_register m r (id_of ts at) (heap_with_regions_and_pool w ts qs))
object_in_room_keeps_clauses w m r n kind rs1 qs at l h a = write_legal (heap_with_regions_and_pool w ts qs) m r (id_of ts at) (inr (inr (inr safe))) (grown_legal w rs1 ts qs at (new_object kind n w) n l a t f)
  where
    ts : List Region
    ts = with_region at.region (filled at.cell (new_object kind n w)) rs1

    t : IsTaken rs1 (with_region at.region (filled at.cell (new_object kind n w)) rs1) at (new_object kind n w) (cell_size_for n)
    t = object_put_into_free_cell rs1 at (new_object kind n w) (cell_size_for n) a.room

    f : IsFresh w (new_object kind n w) n
    f = new_is_fresh w kind n h

    safe : IsSafe (heap_with_regions_and_pool w (with_region at.region (filled at.cell (new_object kind n w)) rs1) qs) (id_of (with_region at.region (filled at.cell (new_object kind n w)) rs1) at)
    safe = ((new_object kind n w, t.named, f.live), λ i. (new_object kind n w, t.named, f.mark ∙ ap is_marking i))

-- the form of a heap after a new object: the regions with room, the pool, and the object's place
abbrev NewForm : HeapState → ℕ → ℕ → ObjKind → ℕ → HeapState → Type 0
NewForm w m r kind n v = (rs1 : List Region) × (qs : List ℕ) × (at : ObjRef) × IsPlaceOpened w.area_start w.regions rs1 w.pool qs at (cell_size_for n)
    × (v ≡ with_register m r (id_of (with_region at.region (filled at.cell (new_object kind n w)) rs1) at) (heap_with_regions_and_pool w (with_region at.region (filled at.cell (new_object kind n w)) rs1) qs))

form_after_new_object : (w : HeapState) (m r : ℕ) (kind : ObjKind) (n : ℕ) → HasClauses w → is_full n w ≡ false → NewForm w m r kind n (after_new m r kind n w)
unfolding after_new is_full allocated taken restored new_object
form_after_new_object w m r kind n l room = go (new_place n (pool_of w)) refl room
  where
    legal : IsRegionPool (pool_of w)
    legal = (clauses_make_heap_legal w l).regions

    pool_left : ℕ → List ℕ
    pool_left k = if nat_lt k w.area_start then drop 1 w.pool else w.pool

    fresh_at : (at : ObjRef) → IsSpare n (pool_of w) at.region → at.cell ≡ 0 → IsPlaceOpened w.area_start w.regions (set w.regions at.region (InUse (fresh_region (cell_size_for (length {A = ℕ} (replicate n 0)))))) w.pool (pool_left at.region) at (cell_size_for n)
    fresh_at at e c = subst (λ k. IsPlaceOpened w.area_start w.regions (set w.regions at.region (InUse (fresh_region (cell_size_for k)))) w.pool (pool_left at.region) at (cell_size_for n)) (sym (length-replicate n 0))
        (subst (λ k. IsPlaceOpened w.area_start w.regions (set w.regions at.region (InUse (fresh_region (cell_size_for n)))) w.pool (pool_left at.region) (record { region = at.region; cell = k }) (cell_size_for n)) (sym c)
        (fresh_region_opens_room (pool_of w) n at.region legal e))

    -- the head of the free list of a region in use is where `free_place` finds it
    opened_at : (at : ObjRef) → IsNextFree n w.regions at → IsPlaceOpened w.area_start w.regions w.regions w.pool w.pool at (cell_size_for n)
    opened_at at f = opened_in_use w.area_start w.regions w.pool n at l.cells l.pool l.area f

    go : (q : Option (ObjRef × Bool)) → new_place n (pool_of w) ≡ q → is_none q ≡ false
        → NewForm w m r kind n (option_map_or (λ p. let s : RegionPool = allocated p.0 p.1 (new_object kind n w) (pool_of w) in with_register m r (id_of s.regions p.0) (with_pool s w)) q w)
    go None e f = cc
    go (Some (at, true)) e f = elim (new_place_is n (pool_of w) at true e) [
      | inl p ↦ (let z : true ≡ false = p.0 in cc)
      | inr p ↦ (set w.regions at.region (InUse (fresh_region (cell_size_for (length {A = ℕ} (replicate n 0))))), pool_left at.region, at, fresh_at at p.1.0 p.1.1, refl)
    ]
    go (Some (at, false)) e f = elim (new_place_is n (pool_of w) at false e) [
      | inl p ↦ (w.regions, w.pool, at, opened_at at p.1, refl)
      | inr p ↦ (let z : false ≡ true = p.0 in cc)
    ]

pub clauses_after_new_object : (w : HeapState) (m r : ℕ) (kind : ObjKind) (n : ℕ) → HasClauses w → HasKind w.classes kind n → is_full n w ≡ false → HasClauses (after_new m r kind n w)
clauses_after_new_object w m r kind n l h room = let f = form_after_new_object w m r kind n l room in subst HasClauses (sym f.4) (object_in_room_keeps_clauses w m r n kind f.0 f.1 f.2 l h f.3)

-- what was marked or sheltered is so after a new object
pub found_objects_after_new_object : (w : HeapState) (m r : ℕ) (kind : ObjKind) (n : ℕ) → HasClauses w → HasKind w.classes kind n → is_full n w ≡ false → w.phase ≡ Marking → (x : ℕ) → IsMarked w x ⊎ Sheltered w x → IsMarked (after_new m r kind n w) x ⊎ Sheltered (after_new m r kind n w) x
found_objects_after_new_object w m r kind n l h room phase x q = let f = form_after_new_object w m r kind n l room in
    subst (λ v. IsMarked v x ⊎ Sheltered v x) (sym f.4) (found f.0 f.1 f.2 f.3 q)
  where
    found : (rs1 : List Region) (qs : List ℕ) (at : ObjRef) → IsPlaceOpened w.area_start w.regions rs1 w.pool qs at (cell_size_for n) → IsMarked w x ⊎ Sheltered w x
        → let v : HeapState = heap_with_regions_and_pool w (with_region at.region (filled at.cell (new_object kind n w)) rs1) qs in IsMarked v x ⊎ Sheltered v x
    found rs1 qs at a (inl k) = inl (
      k.0,
      other_ids_name_as_before w rs1 (with_region at.region (filled at.cell (new_object kind n w)) rs1) qs at (new_object kind n w) (cell_size_for n) a (object_put_into_free_cell rs1 at (new_object kind n w) (cell_size_for n) a.room) x
          (older_id_is_not_new w rs1 (with_region at.region (filled at.cell (new_object kind n w)) rs1) qs at (new_object kind n w) (cell_size_for n) a (object_put_into_free_cell rs1 at (new_object kind n w) (cell_size_for n) a.room) x k.0 k.1) ∙ k.1,
      k.2,
    )
    found rs1 qs at a (inr s) = inr (spares_sheltered w (heap_with_regions_and_pool w (with_region at.region (filled at.cell (new_object kind n w)) rs1) qs)
        (grown_spares w rs1 (with_region at.region (filled at.cell (new_object kind n w)) rs1) qs at (new_object kind n w) (cell_size_for n) n phase a (object_put_into_free_cell rs1 at (new_object kind n w) (cell_size_for n) a.room) (new_is_fresh w kind n h)) x s)
