-- The regions after a new object has taken a free cell.
use Rattle.std.proofs.Common.{◌≡◌, ◌≢◌, ◌⊎◌, ◌↔◌, ℕ, ◌<◌, List, [], ◌∷◌, length, drop, set, refl, sym, ap, subst, ◌∙◌, Option, Some, None, Contains}
use mathlib.Core.Logic.{inl, inr}
use Rattle.std.specs.Prelude.{slice_get, slice_set, option_map, option_and_then, nat_eq}
use Rattle.std.specs.Option.{option_map_or}
use Rattle.std.specs.List.{IsDistinct}
use Rattle.heap_class.specs.declared.ObjRef.{ObjRef}
use Rattle.heap_region.specs.Regions.{Object, UsedRegion, Region, Empty, cell_count, used_at, object_of, object_at, id_of, ref_of, in_used, with_region}
use Rattle.heap_region.proofs.Ids.{ref_is}
use Rattle.heap_region.proofs.UpdatedLists.{length_updated}
use Rattle.heap_region.proofs.Lookups.{used_region_after_other_change, used_region_after_its_change}
use Rattle.heap_region.proofs.ChangedLookups.{same_or_not, ref_same, size_at, number_of, object_at_ref}
use Rattle.heap_region.proofs.PriorObjects.{used_was_region, empty_with_region}
use Rattle.heap_region.proofs.RoundTrip.{IsSize, ref_of_id}
use Rattle.heap_region.proofs.References.{list_has_its_head, list_has_items_of_tail, member_is_head_or_later, set_item_is_got, get_set_other, length_set, get_within}
use Rattle.heap_region.proofs.Distinct.{rest_of_distinct_is_distinct, first_of_distinct_differs}
use Rattle.heap_region.proofs.Clauses.{IsPartition}
use Rattle.heap_region.specs.Legal.{IsArea, NamesEach}
use Rattle.heap_region.proofs.Spares.{area_with_region}

-- the cell at the head of the free list has the object
abbrev pub filled : ℕ → Object → UsedRegion → UsedRegion
filled c o u = record u { cells = slice_set u.cells c (Some o); free = drop 1 u.free }

-- a region with a free cell, of which the free list has the number first
pub record HasRoom (rs : List Region) (at : ObjRef) (s : ℕ) : Type 0 where
  pub region : UsedRegion
  pub used : used_at rs at.region ≡ Some region
  pub size : region.cell_size ≡ s
  pub is_size : IsSize s
  pub cells : length region.cells ≡ cell_count region.cell_size
  pub free : NamesEach region.free (λ c. slice_get region.cells c ≡ Some None)
  pub first : slice_get region.free 0 ≡ Some at.cell

-- ts is rs with the object o at a place where none was
pub record IsTaken (rs ts : List Region) (at : ObjRef) (o : Object) (s : ℕ) : Type 0 where
  pub count : length ts ≡ length rs
  pub here : object_at ts at ≡ Some o
  pub others : (b : ObjRef) → b ≢ at → object_at ts b ≡ object_at rs b
  pub named : object_of ts (id_of ts at) ≡ Some o
  pub was_none : object_of rs (id_of ts at) ≡ None
  pub still_named : (x : ℕ) → x ≢ id_of ts at → object_of ts x ≡ object_of rs x
  pub sizes : (k : ℕ) (u : UsedRegion) → used_at rs k ≡ Some u → (v : UsedRegion) × (used_at ts k ≡ Some v) × (v.cell_size ≡ u.cell_size) × (v.pending ≡ u.pending)
  pub size : (v : UsedRegion) × (used_at ts at.region ≡ Some v) × (v.cell_size ≡ s)
  pub tables : ((k : ℕ) (u : UsedRegion) → used_at rs k ≡ Some u → k ≢ at.region → IsPartition u) → (k : ℕ) (v : UsedRegion) → used_at ts k ≡ Some v → IsPartition v
  pub empties : (k : ℕ) → (slice_get ts k ≡ Some Empty) ↔ (slice_get rs k ≡ Some Empty)
  pub area : (start : ℕ) → IsArea rs start → IsArea ts start

pub list_from_its_first : (xs : List ℕ) (c : ℕ) → slice_get xs 0 ≡ Some c → xs ≡ c ∷ drop 1 xs
list_from_its_first [] c e = cc
list_from_its_first (x ∷ xs) c e = let s : x ≡ c = cc in ap (λ z. z ∷ xs) s

pub object_at_used : (rs : List Region) (b : ObjRef) (u : UsedRegion) → used_at rs b.region ≡ Some u → object_at rs b ≡ option_and_then (λ (o : Option Object). o) (slice_get u.cells b.cell)
unfolding object_at
object_at_used rs b u e = ap (option_and_then (λ (u : UsedRegion). option_and_then (λ (o : Option Object). o) (slice_get u.cells b.cell))) e

pub object_at_same : (rs ts : List Region) (b : ObjRef) → used_at ts b.region ≡ used_at rs b.region → object_at ts b ≡ object_at rs b
unfolding object_at
object_at_same rs ts b e = ap (option_and_then (λ (u : UsedRegion). option_and_then (λ (o : Option Object). o) (slice_get u.cells b.cell))) e

changed_region_keeps_region_count : (f : UsedRegion → UsedRegion) (r : ℕ) (rs : List Region) → length (with_region r f rs) ≡ length rs
unfolding with_region
changed_region_keeps_region_count f r rs = length_updated r (in_used f) rs

same_place_names_same_object : (rs ts : List Region) (x : ℕ) → ref_of ts x ≡ ref_of rs x → ((b : ObjRef) → ref_of rs x ≡ Some b → object_at ts b ≡ object_at rs b) → object_of ts x ≡ object_of rs x
unfolding object_of
same_place_names_same_object rs ts x e h = ap (option_and_then (object_at ts)) e ∙ go (ref_of rs x) refl
  where
    go : (p : Option ObjRef) → ref_of rs x ≡ p → option_and_then (object_at ts) p ≡ option_and_then (object_at rs) p
    go None f = refl
    go (Some b) f = h b f

cell_size_of_used_region : (rs : List Region) (k : ℕ) (u : UsedRegion) (s d : ℕ) → used_at rs k ≡ Some u → u.cell_size ≡ s → size_at rs k d ≡ s
unfolding size_at
cell_size_of_used_region rs k u s d e f = ap (λ (p : Option UsedRegion). option_map_or (λ (u : UsedRegion). u.cell_size) p d) e ∙ f

pub same_region_has_same_size : (rs ts : List Region) (k d : ℕ) → used_at ts k ≡ used_at rs k → size_at ts k d ≡ size_at rs k d
unfolding size_at
same_region_has_same_size rs ts k d e = ap (λ (p : Option UsedRegion). option_map_or (λ (u : UsedRegion). u.cell_size) p d) e

table_filled : (u : UsedRegion) (c : ℕ) (o : Object) → length u.cells ≡ cell_count u.cell_size → NamesEach u.free (λ k. slice_get u.cells k ≡ Some None) → slice_get u.free 0 ≡ Some c → IsPartition (filled c o u)
table_filled u c o cells free first = record {
  cells = length_set u.cells c (Some o) ∙ cells;
  free = record { distinct = rest_of_distinct_is_distinct c (drop 1 u.free) distinct; each = λ k. (λ m. to k m, λ e. from k e (same_or_not k c)) };
  inhabited = (c, o, set_item_is_got u.cells c (Some o) within);
}
  where
    list : u.free ≡ c ∷ drop 1 u.free
    list = list_from_its_first u.free c first

    distinct : IsDistinct nat_eq (c ∷ drop 1 u.free)
    distinct = subst (IsDistinct nat_eq) list free.distinct

    is_free : slice_get u.cells c ≡ Some None
    is_free = (free.each c).0 (subst (λ l. Contains l c) (sym list) (list_has_its_head c (drop 1 u.free)))

    within : c < length u.cells
    within = get_within u.cells c None is_free

    to : (k : ℕ) → Contains (drop 1 u.free) k → slice_get (set u.cells c (Some o)) k ≡ Some None
    to k m = get_set_other u.cells c k (Some o) (λ e. first_of_distinct_differs c (drop 1 u.free) distinct k m (sym e)) ∙ (free.each k).0 (subst (λ l. Contains l k) (sym list) (list_has_items_of_tail c (drop 1 u.free) k m))

    from : (k : ℕ) → slice_get (set u.cells c (Some o)) k ≡ Some None → (k ≡ c) ⊎ (k ≢ c) → Contains (drop 1 u.free) k
    from k e (inl s) = let a : Some (Some o) ≡ Some None = sym (ap (slice_get (set u.cells c (Some o))) s ∙ set_item_is_got u.cells c (Some o) within) ∙ e in cc
    from k e (inr n) = elim (member_is_head_or_later c (drop 1 u.free) k (subst (λ l. Contains l k) list ((free.each k).1 (sym (get_set_other u.cells c k (Some o) n) ∙ e)))) [ inl s ↦ absurd (n s) | inr m ↦ m ]

-- an object put into the first free cell of a region
pub object_put_into_free_cell : (rs : List Region) (at : ObjRef) (o : Object) (s : ℕ) → HasRoom rs at s → IsTaken rs (with_region at.region (filled at.cell o) rs) at o s
object_put_into_free_cell rs at o s h = record {
  count = changed_region_keeps_region_count (filled at.cell o) at.region rs;
  here = here;
  others = λ b n. others b n (same_or_not b.region at.region);
  named = object_at_ref ts (id_of ts at) at ref ∙ here;
  was_none = object_at_ref rs (id_of ts at) at (sym (ref_same_all (id_of ts at)) ∙ ref) ∙ object_at_used rs at h.region h.used ∙ ap (option_and_then (λ (o : Option Object). o)) is_free;
  still_named = λ x n. same_place_names_same_object rs ts x (ref_same_all x) (λ b f. others b (λ e. n (sym (ref_is ts x at (ref_same_all x ∙ f ∙ ap Some e)))) (same_or_not b.region at.region));
  sizes = λ k u e. sizes k u e (same_or_not k at.region);
  size = (filled at.cell o h.region, used, h.size);
  tables = λ t k v e. table t k v (used_was_region (filled at.cell o) rs at.region k v e);
  empties = empty_with_region (filled at.cell o) rs at.region;
  area = λ start. area_with_region (filled at.cell o) (λ u. refl) at.region rs start;
}
  where
    ts : List Region
    ts = with_region at.region (filled at.cell o) rs

    used : used_at (with_region at.region (filled at.cell o) rs) at.region ≡ Some (filled at.cell o h.region)
    used = used_region_after_its_change at.region (filled at.cell o) rs ∙ ap (option_map (filled at.cell o)) h.used

    is_free : slice_get h.region.cells at.cell ≡ Some None
    is_free = (h.free.each at.cell).0 (subst (λ l. Contains l at.cell) (sym (list_from_its_first h.region.free at.cell h.first)) (list_has_its_head at.cell (drop 1 h.region.free)))

    within : at.cell < length h.region.cells
    within = get_within h.region.cells at.cell None is_free

    here : object_at (with_region at.region (filled at.cell o) rs) at ≡ Some o
    here = object_at_used ts at (filled at.cell o h.region) used ∙ ap (option_and_then (λ (o : Option Object). o)) (set_item_is_got h.region.cells at.cell (Some o) within)

    others : (b : ObjRef) → b ≢ at → (b.region ≡ at.region) ⊎ (b.region ≢ at.region) → object_at (with_region at.region (filled at.cell o) rs) b ≡ object_at rs b
    others b n (inr m) = object_at_same rs ts b (used_region_after_other_change at.region b.region (filled at.cell o) rs (λ q. m (sym q)))
    others b n (inl e) =
        object_at_used ts b (filled at.cell o h.region) (ap (used_at ts) e ∙ used)
        ∙ ap (option_and_then (λ (o : Option Object). o)) (get_set_other h.region.cells at.cell b.cell (Some o) (λ c. n (λ i. record { region = e i; cell = c i })))
        ∙ sym (object_at_used rs b h.region (ap (used_at rs) e ∙ h.used))

    size_all : (k d : ℕ) → size_at (with_region at.region (filled at.cell o) rs) k d ≡ size_at rs k d
    size_all k d = elim (same_or_not k at.region) [
      | inl e ↦ cell_size_of_used_region ts k (filled at.cell o h.region) s d (ap (used_at ts) e ∙ used) h.size ∙ sym (cell_size_of_used_region rs k h.region s d (ap (used_at rs) e ∙ h.used) h.size)
      | inr n ↦ same_region_has_same_size rs ts k d (used_region_after_other_change at.region k (filled at.cell o) rs (λ q. n (sym q)))
    ]

    ref_same_all : (x : ℕ) → ref_of (with_region at.region (filled at.cell o) rs) x ≡ ref_of rs x
    ref_same_all x = ref_same ts rs x (λ d. size_all (number_of x) d)

    below : at.cell < cell_count s
    below = subst (λ n. at.cell < n) (h.cells ∙ ap cell_count h.size) within

    ref : ref_of (with_region at.region (filled at.cell o) rs) (id_of (with_region at.region (filled at.cell o) rs) at) ≡ Some at
    ref = ref_of_id ts at.region at.cell s h.is_size below (λ d. cell_size_of_used_region ts at.region (filled at.cell o h.region) s d used h.size)

    sizes : (k : ℕ) (u : UsedRegion) → used_at rs k ≡ Some u → (k ≡ at.region) ⊎ (k ≢ at.region) → (v : UsedRegion) × (used_at (with_region at.region (filled at.cell o) rs) k ≡ Some v) × (v.cell_size ≡ u.cell_size) × (v.pending ≡ u.pending)
    sizes k u e (inl q) = (filled at.cell o u, ap (used_at ts) q ∙ used_region_after_its_change at.region (filled at.cell o) rs ∙ ap (option_map (filled at.cell o)) (ap (used_at rs) (sym q) ∙ e), refl, refl)
    sizes k u e (inr n) = (u, used_region_after_other_change at.region k (filled at.cell o) rs (λ q. n (sym q)) ∙ e, refl, refl)

    table : ((k : ℕ) (u : UsedRegion) → used_at rs k ≡ Some u → k ≢ at.region → IsPartition u) → (k : ℕ) (v : UsedRegion) → ((a : UsedRegion) × (used_at rs k ≡ Some a) × (((k ≡ at.region) × (v ≡ filled at.cell o a)) ⊎ ((k ≢ at.region) × (v ≡ a)))) → IsPartition v
    table t k v p = elim p.2 [
      | inl q ↦ (let e : p.0 ≡ h.region = (let x = p.1 in let y : used_at rs k ≡ Some h.region = ap (used_at rs) q.0 ∙ h.used in cc) in subst IsPartition (sym (q.1 ∙ ap (filled at.cell o) e)) (table_filled h.region at.cell o h.cells h.free h.first))
      | inr q ↦ subst IsPartition (sym q.1) (t k p.0 p.1 q.0)
    ]
