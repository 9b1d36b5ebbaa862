-- Where a new object goes, what refuses it, and the state afterwards.
use Rattle.std.proofs.Common.{◌≡◌, ◌≢◌, ℕ, zero, suc, ◌+◌, ◌-◌, ◌*◌, ◌%◌, ◌/◌, ◌<◌, ◌≤◌, Bool, true, false, cond, List, length, set, replicate, Option, Some, None, IsSome, IsSomeAnd, is_some, get_or, eq-eqb, inl, inr, refl, sym, ap, subst, ◌∙◌, arith, rules}
use Rattle.std.specs.Prelude.{◌⊎◌, ◌==◌, nat_lt, is_none, slice_get, option_and_then, drop, if◌then◌else◌}
use Rattle.std.specs.List.{filter_map, enumerate_from, range_with_len}
use Rattle.std.specs.Option.{option_map_or}
use Rattle.std.proofs.lemmas.Bool.{lt-ltb, le-ltb, both_ways}
use Rattle.std.proofs.lemmas.List.{length-replicate}
use Rattle.std.proofs.lemmas.Option.{cond_some}
use Rattle.heap_class.specs.declared.ObjRef.{ObjRef}
use Rattle.heap_class.specs.declared.ObjKind.{ObjKind}
use Rattle.heap_class.specs.declared.Refusal.TheVariants.{TooLarge, HeapFull}
use Rattle.heap_class.specs.Limits.{large_array_limit}
use Rattle.heap_class.specs.Refusals.{first_refusal}
use Rattle.heap_region.specs.Regions.{Object, UsedRegion, Region, InUse, used_at, object_at, object_base, id_of, cell_around, ref_of, object_of, in_used, with_region, cell_count, cell_size_for, regions_for, FitsWords}
use Rattle.heap_region.specs.Pool.{RegionPool, fresh_region, free_place, first_run, place_or_fresh, new_place, alloc_refusal, is_fresh, blank_object, taken, restored, allocated}
use Rattle.heap_region.specs.Layout.{Heads, cell_filled, header_of}
use Rattle.heap_region.specs.Table.{HasObject}
use Rattle.heap_region.proofs.UpdatedLists.{updated_set}
use Rattle.heap_region.proofs.Places.{IsNextFree, IsNextFresh, new_place_is, place_of_large, place_of_small}
use Rattle.heap_region.proofs.BlockSizes.{cell_size_holds_words, has_cell}
use Rattle.heap_region.proofs.Ids.{id_of_each_place_kept, ref_is, id_is_at_least_base}
use Rattle.heap_region.proofs.FoundObjects.{region_around, ref_region}
use Rattle.heap_region.proofs.ShownRegions.{used_by_object}

-- ---- refusals

pub object_too_large_is_refused : (n : ℕ) (s : RegionPool) → large_array_limit < n → alloc_refusal n s ≡ Some TooLarge
unfolding alloc_refusal first_refusal
object_too_large_is_refused n s lt = ap (λ b. cond b (Some TooLarge) (cond (is_none (new_place n s)) (Some HeapFull) None)) (lt-ltb large_array_limit n lt)

refusal_of_object_not_large : (n : ℕ) (s : RegionPool) → n ≤ large_array_limit → alloc_refusal n s ≡ cond (is_none (new_place n s)) (Some HeapFull) None
unfolding alloc_refusal first_refusal
refusal_of_object_not_large n s le = ap (λ b. cond b (Some TooLarge) (cond (is_none (new_place n s)) (Some HeapFull) None)) (le-ltb large_array_limit n le)

pub full_heap_refuses_object : (n : ℕ) (s : RegionPool) → n ≤ large_array_limit → new_place n s ≡ None → alloc_refusal n s ≡ Some HeapFull
full_heap_refuses_object n s le none = refusal_of_object_not_large n s le ∙ ap (λ p. cond (is_none p) (Some HeapFull) None) none

pub object_with_place_not_refused : (n : ℕ) (s : RegionPool) (p : ObjRef × Bool) → n ≤ large_array_limit → new_place n s ≡ Some p → alloc_refusal n s ≡ None
object_with_place_not_refused n s p le some = refusal_of_object_not_large n s le ∙ ap (λ p. cond (is_none p) (Some HeapFull) None) some

-- ---- places

abbrev pub first_free : ℕ → RegionPool → Option ObjRef
first_free n s = slice_get (filter_map (free_place (cell_size_for n)) (enumerate_from 0 s.regions)) 0

pub new_object_takes_free_cell : (n : ℕ) (s : RegionPool) (at : ObjRef) → n ≤ 1024 → first_free n s ≡ Some at → new_place n s ≡ Some (at, false)
unfolding place_or_fresh
new_object_takes_free_cell n s at le some = place_of_small n s le ∙ ap (λ x. place_or_fresh x (slice_get s.pool 0)) some

pub new_object_takes_fresh_region : (n : ℕ) (s : RegionPool) (r : ℕ) → n ≤ 1024 → first_free n s ≡ None → slice_get s.pool 0 ≡ Some r → new_place n s ≡ Some (record { region = r; cell = 0 }, true)
unfolding place_or_fresh
new_object_takes_fresh_region n s r le none some = place_of_small n s le ∙ (ap (λ x. place_or_fresh x (slice_get s.pool 0)) none ∙ ap (place_or_fresh None) some)

pub new_object_has_no_place : (n : ℕ) (s : RegionPool) → n ≤ 1024 → first_free n s ≡ None → slice_get s.pool 0 ≡ None → new_place n s ≡ None
unfolding place_or_fresh
new_object_has_no_place n s le none empty = place_of_small n s le ∙ (ap (λ x. place_or_fresh x (slice_get s.pool 0)) none ∙ ap (place_or_fresh None) empty)

-- a large object takes the first run, if there is one
pub large_object_takes_run : (n : ℕ) (s : RegionPool) (r : ℕ) → 1024 < n → first_run (regions_for n) s ≡ Some r → new_place n s ≡ Some (record { region = r; cell = 0 }, true)
unfolding place_or_fresh
large_object_takes_run n s r lt some = place_of_large n s lt ∙ ap (place_or_fresh None) some

pub large_object_has_no_place : (n : ℕ) (s : RegionPool) → 1024 < n → first_run (regions_for n) s ≡ None → new_place n s ≡ None
unfolding place_or_fresh
large_object_has_no_place n s lt none = place_of_large n s lt ∙ ap (place_or_fresh None) none

pub fresh_by_place : (n : ℕ) (s : RegionPool) (at : ObjRef) → new_place n s ≡ Some (at, true) → is_fresh n s ≡ true
unfolding is_fresh
fresh_by_place n s at some = ap (λ x. option_map_or (λ p. p.1) x false) some

-- the place is ready for the object
pub place_ready : (n : ℕ) (s : RegionPool) (at : ObjRef) → n ≤ 1024 → new_place n s ≡ Some (at, false) → IsSomeAnd (used_at s.regions at.region) (λ u. (slice_get u.free 0 ≡ Some at.cell) × FitsWords u.cell_size n)
place_ready n s at le place = go (new_place_is n s at false place)
  where
    go : ((false ≡ false) × IsNextFree n s.regions at) ⊎ ((false ≡ true) × IsNextFresh n s at) → IsSomeAnd (used_at s.regions at.region) (λ u. (slice_get u.free 0 ≡ Some at.cell) × FitsWords u.cell_size n)
    go (inl e) = subst (λ s. IsSomeAnd s (λ u. (slice_get u.free 0 ≡ Some at.cell) × FitsWords u.cell_size n)) (sym e.1.1) (e.1.3, (subst (λ k. n ≤ k) (sym e.1.2) (cell_size_holds_words n), e.1.2))
    go (inr e) = cc

-- ---- the state

pub allocated_free : (at : ObjRef) (o : Object) (s : RegionPool) → taken at o s ≡ allocated at false o s
unfolding allocated
allocated_free at o s = refl

pub allocated_fresh : (r n : ℕ) (o : Object) (s : RegionPool) → length o.words ≡ n → restored r (cell_filled (fresh_region (cell_size_for n)) 0 o) s ≡ allocated (record { region = r; cell = 0 }) true o s
unfolding allocated taken restored with_region in_used
allocated_fresh r n o s long =
    ap (λ (k : ℕ). let t : RegionPool = record { regions = set s.regions r (InUse (cell_filled (fresh_region (cell_size_for k)) 0 o)); pool = if nat_lt r s.area_start then drop 1 s.pool else s.pool; area_start = s.area_start } in t) (sym long)
    ∙ ap (λ (rs : List Region). let t : RegionPool = record { regions = rs; pool = if nat_lt r s.area_start then drop 1 s.pool else s.pool; area_start = s.area_start } in t) (sym (updated_set r (in_used (λ u. cell_filled u 0 o)) s.regions (InUse (fresh_region (cell_size_for (length o.words))))))

pub blank_length : (kind : ObjKind) (n : ℕ) (mark : Bool) → length (blank_object kind n mark).words ≡ n
unfolding blank_object
blank_length kind n mark = length-replicate n 0

pub blank_header : (kind : ObjKind) (n : ℕ) (mark : Bool) → record { kind = kind; len = n; live = true; mark = mark } ≡ header_of (blank_object kind n mark)
unfolding blank_object
blank_header kind n mark = ap (λ (k : ℕ). record { kind = kind; len = k; live = true; mark = mark }) (sym (length-replicate n 0))

-- the first cell of a fresh region
pub fresh_heads : (n : ℕ) → Heads 0 (fresh_region (cell_size_for n)).free
unfolding fresh_region
fresh_heads n = go (cell_count (cell_size_for n)) (has_cell n)
  where
    go : (k : ℕ) → 0 < k → Heads 0 (range_with_len 0 k)
    go zero lt = absurd (omega arith)
    go (suc k) lt = refl

pub fresh_region_has_first_object : (n : ℕ) (o : Object) → HasObject (cell_filled (fresh_region (cell_size_for n)) 0 o)
unfolding fresh_region
fresh_region_has_first_object n o = go (cell_count (cell_size_for n)) (has_cell n)
  where
    go : (k : ℕ) → 0 < k → (cell : ℕ) × IsSome (get_or (set (replicate {A = Option Object} k None) 0 (Some o)) cell None)
    go zero lt = absurd (omega arith)
    go (suc k) lt = (0, search rules)

-- ---- ids

-- the region of an id's object
pub region_around_id_in_use : (regions : List Region) (x : ℕ) → IsSome (object_of regions x) → (object_base ≤ x) × IsSome (used_at regions (region_around x))
unfolding object_of
region_around_id_in_use regions x some = go (ref_of regions x) refl some
  where
    go : (r : Option ObjRef) → ref_of regions x ≡ r → IsSome (option_and_then (object_at regions) r) → (object_base ≤ x) × IsSome (used_at regions (region_around x))
    go None is some = absurd (cc)
    go (Some at) is some = (
      subst (λ y. object_base ≤ y) (ref_is regions x at is) (id_is_at_least_base regions at),
      subst (λ r. IsSome (used_at regions r)) (ref_region regions x at is) (used_by_object regions at some),
    )

ref_around : (regions : List Region) (x : ℕ) (at : ObjRef) → ref_of regions x ≡ Some at → cell_around regions ((x - object_base) / 8) ≡ at
unfolding ref_of
ref_around regions x at is = (cond_some _ _ _ is).1

-- its place
pub ref_of_id_from_region : (regions : List Region) (x : ℕ) (u : UsedRegion) → IsSome (object_of regions x) → used_at regions (region_around x) ≡ Some u → ref_of regions x ≡ Some (record { region = region_around x; cell = (x - object_base) / 8 % 1024 / u.cell_size })
unfolding object_of cell_around
ref_of_id_from_region regions x u some used = go (ref_of regions x) refl some
  where
    go : (r : Option ObjRef) → ref_of regions x ≡ r → IsSome (option_and_then (object_at regions) r) → ref_of regions x ≡ Some (record { region = region_around x; cell = (x - object_base) / 8 % 1024 / u.cell_size })
    go None is some = absurd (cc)
    go (Some at) is some = is ∙ ap Some (sym (ref_around regions x at is) ∙ ap (λ (v : Option UsedRegion). let b : ObjRef = record { region = region_around x; cell = (x - object_base) / 8 % 1024 / option_map_or (λ u. u.cell_size) v 1024 } in b) used)

-- an id that doesn't name an object
pub id_that_names_no_object : (regions : List Region) (x : ℕ) → (IsSome (object_of regions x) → ⊥) → object_of regions x ≡ None
id_that_names_no_object regions x never = go (object_of regions x) never
  where
    go : (o : Option Object) → (IsSome o → ⊥) → o ≡ None
    go None never = refl
    go (Some o) never = absurd (never refl)

-- an id below all others, or in no region in use
pub id_below_base_names_none : (regions : List Region) (x : ℕ) → x < object_base → object_of regions x ≡ None
id_below_base_names_none regions x lt = id_that_names_no_object regions x (λ some. omega (arith, (region_around_id_in_use regions x some).0))

pub id_outside_regions_names_none : (regions : List Region) (x : ℕ) → used_at regions (region_around x) ≡ None → object_of regions x ≡ None
id_outside_regions_names_none regions x none = id_that_names_no_object regions x (λ some. both_ways false refl (ap is_some (sym none) ∙ (region_around_id_in_use regions x some).1))

-- the cell of a region in use in which the word of an id lies
abbrev pub cell_in : ℕ → UsedRegion → ObjRef
cell_in x u = record { region = region_around x; cell = (x - object_base) / 8 % 1024 / u.cell_size }

-- is its place if the id is the cell's
pub id_of_cell_gives_ref : (regions : List Region) (x : ℕ) (u : UsedRegion) → used_at regions (region_around x) ≡ Some u → id_of regions (cell_in x u) ≡ x → ref_of regions x ≡ Some (cell_in x u)
unfolding ref_of cell_around
id_of_cell_gives_ref regions x u used is =
    ap (λ (v : Option UsedRegion). let b : ObjRef = record { region = region_around x; cell = (x - object_base) / 8 % 1024 / option_map_or (λ u. u.cell_size) v 1024 } in cond (id_of regions b == x) (Some b) None) used
    ∙ ap (λ b. cond b (Some (cell_in x u)) None) (eq-eqb _ _ is)

-- and no place of an object otherwise, or where the cell has none
pub none_by_id : (regions : List Region) (x : ℕ) (u : UsedRegion) → used_at regions (region_around x) ≡ Some u → id_of regions (cell_in x u) ≢ x → object_of regions x ≡ None
none_by_id regions x u used other = id_that_names_no_object regions x (λ some. other (ref_is regions x (cell_in x u) (ref_of_id_from_region regions x u some used)))

pub none_in_cell : (regions : List Region) (x : ℕ) (u : UsedRegion) → used_at regions (region_around x) ≡ Some u → is_some (object_at regions (cell_in x u)) ≡ false → object_of regions x ≡ None
unfolding object_of
none_in_cell regions x u used none = id_that_names_no_object regions x (λ some. both_ways (is_some (object_at regions (cell_in x u))) none (ap (λ (r : Option ObjRef). is_some (option_and_then (object_at regions) r)) (sym (ref_of_id_from_region regions x u some used)) ∙ some))

pub id_of_ref_from_cell_size : (regions : List Region) (at : ObjRef) (size : ℕ) → size ≡ option_map_or (λ u. u.cell_size) (used_at regions at.region) 0 → 268435456 + 8 * (1024 * at.region + at.cell * size) ≡ id_of regions at
unfolding id_of
id_of_ref_from_cell_size regions at size e = ap (λ k. 268435456 + 8 * (1024 * at.region + at.cell * k)) e

-- the id of a cell that a new object took, by the object's size
pub id_of_taken_cell : (at : ObjRef) (o : Object) (n : ℕ) (s : RegionPool) → IsSomeAnd (used_at s.regions at.region) (λ u. (slice_get u.free 0 ≡ Some at.cell) × FitsWords u.cell_size n) → 268435456 + 8 * (1024 * at.region + at.cell * cell_size_for n) ≡ id_of (taken at o s).regions at
unfolding taken
id_of_taken_cell at o n s ready =
    id_of_ref_from_cell_size s.regions at (cell_size_for n) (size_of_cell (used_at s.regions at.region) ready)
    ∙ sym (id_of_each_place_kept at.region (λ u. record u { cells = set u.cells at.cell (Some o); free = drop 1 u.free }) s.regions at (λ u. refl))
  where
    size_of_cell : (x : Option UsedRegion) → IsSomeAnd x (λ u. (slice_get u.free 0 ≡ Some at.cell) × FitsWords u.cell_size n) → cell_size_for n ≡ option_map_or (λ u. u.cell_size) x 0
    size_of_cell None h = absurd h
    size_of_cell (Some u) h = let fits : FitsWords u.cell_size n = h.1 in sym fits.1

-- the id of a region's first cell, whatever the size of cells
pub id_of_first_cell : (regions : List Region) (r size : ℕ) → 268435456 + 8 * (1024 * r + 0 * size) ≡ id_of regions (record { region = r; cell = 0 })
unfolding id_of
id_of_first_cell regions r size = let none : 0 * size ≡ 0 * option_map_or (λ (u : UsedRegion). u.cell_size) (used_at regions r) 0 = omega arith in ap (λ k. 268435456 + 8 * (1024 * r + k)) none
