-- What is found after a sweep.
use Rattle.std.proofs.Common.{◌≡◌, ◌≢◌, ℕ, zero, suc, Bool, true, false, not, ◌||◌, cond, List, [], ◌∷◌, Option, Some, None, inl, inr, refl, sym, ap, ◌∙◌}
use Rattle.std.specs.Prelude.{◌⊎◌, slice_get, option_map, option_and_then, if◌then◌else◌}
use Rattle.std.specs.Option.{option_map_or}
use Rattle.std.specs.List.{list_any}
use Rattle.std.proofs.lemmas.Bool.{cases_eq}
use Rattle.std.proofs.lemmas.Option.{slice_get-map}
use Rattle.heap_class.specs.declared.ObjRef.{ObjRef}
use Rattle.heap_region.specs.Regions.{Object, UsedRegion, Region, InUse, used_at, object_at, object_of, ref_of, with_region}
use Rattle.heap_region.specs.Pool.{RegionPool, released}
use Rattle.heap_region.proofs.Lookups.{used_region_after_its_change, used_region_after_other_change, used_region_stands_in_list}
use Rattle.heap_region.proofs.Ids.{ref_kept}
use Rattle.heap_region.proofs.FoundObjects.{region_around, ref_region, found_local, id_of_region_without_object, released_there, released_elsewhere}
use Rattle.heap_sweep.specs.Sweep.{live_part, has_live, is_emptied, swept, swept_region}

-- the object in a cell of a region
abbrev object_of_swept_region_cell : ℕ → UsedRegion → Option Object
object_of_swept_region_cell c u = option_and_then (λ (o : Option Object). o) (slice_get u.cells c)

-- what a swept region has in a cell
pub swept_cell : (c : ℕ) (u : UsedRegion) → object_of_swept_region_cell c (swept_region u) ≡ live_part (object_of_swept_region_cell c u)
unfolding swept_region
swept_cell c u = ap (option_and_then (λ (o : Option Object). o)) (slice_get-map live_part u.cells c) ∙ go (slice_get u.cells c)
  where
    go : (x : Option (Option Object)) → option_and_then (λ (o : Option Object). o) (option_map live_part x) ≡ live_part (option_and_then (λ (o : Option Object). o) x)
    go None = refl
    go (Some o) = refl

-- a region without live objects has none in a cell
pub cell_has_no_live_part : (u : UsedRegion) (c : ℕ) → has_live u ≡ false → live_part (object_of_swept_region_cell c u) ≡ None
unfolding has_live
cell_has_no_live_part u c h = go u.cells c h
  where
    go : (cells : List (Option Object)) (c : ℕ) → list_any (λ c. option_map_or (λ (o : Object). o.live) c false) cells ≡ false → live_part (option_and_then (λ (o : Option Object). o) (slice_get cells c)) ≡ None
    go [] c h = refl
    go (x ∷ xs) c h = first x (list_any (λ c. option_map_or (λ (o : Object). o.live) c false) xs) h c (go xs)
      where
        first : (x : Option Object) (b : Bool) → (option_map_or (λ (o : Object). o.live) x false || b) ≡ false → (c : ℕ) → ((c : ℕ) → b ≡ false → live_part (option_and_then (λ (o : Option Object). o) (slice_get xs c)) ≡ None)
            → live_part (option_and_then (λ (o : Option Object). o) (slice_get (x ∷ xs) c)) ≡ None
        first None b h zero rest = refl
        first None b h (suc c) rest = rest c h
        first (Some o) b h c rest = live o.live refl h c
          where
            live : (l : Bool) → o.live ≡ l → (l || b) ≡ false → (c : ℕ) → live_part (option_and_then (λ (o : Option Object). o) (slice_get (Some o ∷ xs) c)) ≡ None
            live true e h c = cc
            live false e h zero = ap (λ (l : Bool). cond l (Some o) None) e
            live false e h (suc c) = rest c h

-- another region's ids name what they named
pub ids_outside_swept_region_stay : (r x : ℕ) (s : RegionPool) → r ≢ region_around x → object_of (swept r s).regions x ≡ object_of s.regions x
unfolding swept
ids_outside_swept_region_stay r x s other = go (is_emptied r s)
  where
    go : (b : Bool) → object_of (if b then released r s else record s { regions = with_region r swept_region s.regions }).regions x ≡ object_of s.regions x
    go true = found_local (released r s).regions s.regions x (released_elsewhere r (region_around x) s other)
    go false = found_local (with_region r swept_region s.regions) s.regions x (used_region_after_other_change r (region_around x) swept_region s.regions other)

-- an object of the region, by the id that names it
place_of_id_in_region : (regions : List Region) (r x : ℕ) (u : UsedRegion) → used_at regions r ≡ Some u → r ≡ region_around x → (at : ObjRef) → ref_of regions x ≡ Some at → (at.region ≡ r) × (object_at regions at ≡ object_of_swept_region_cell at.cell u)
unfolding object_at
place_of_id_in_region regions r x u used same at e =
    let here : at.region ≡ r = ref_region regions x at e ∙ sym same in
    (here, ap (λ (q : ℕ). option_and_then (object_of_swept_region_cell at.cell) (used_at regions q)) here ∙ ap (option_and_then (object_of_swept_region_cell at.cell)) used)

-- the region's own ids name what is live
pub ids_of_swept_region_name_live : (r x : ℕ) (s : RegionPool) (u : UsedRegion) → used_at s.regions r ≡ Some u → r ≡ region_around x → object_of (swept r s).regions x ≡ live_part (object_of s.regions x)
unfolding swept is_emptied object_of object_at swept_region
ids_of_swept_region_name_live r x s u used same =
    ap (λ (v : Option UsedRegion). object_of (if option_map_or (λ v. not (has_live v)) v false then released r s else record s { regions = kept }).regions x) used ∙ go (has_live u) refl
  where
    kept : List Region
    kept = with_region r swept_region s.regions

    places : (at : ObjRef) → ref_of s.regions x ≡ Some at → (at.region ≡ r) × (object_at s.regions at ≡ object_of_swept_region_cell at.cell u)
    places = place_of_id_in_region s.regions r x u used same

    dead : has_live u ≡ false → (p : Option ObjRef) → ref_of s.regions x ≡ p → live_part (option_and_then (object_at s.regions) p) ≡ None
    dead h None e = refl
    dead h (Some at) e = ap live_part (places at e).1 ∙ cell_has_no_live_part u at.cell h

    live : (p : Option ObjRef) → ref_of s.regions x ≡ p → option_and_then (object_at kept) p ≡ live_part (option_and_then (object_at s.regions) p)
    live None e = refl
    live (Some at) e =
        ap (λ (q : ℕ). option_and_then (object_of_swept_region_cell at.cell) (used_at kept q)) (places at e).0
        ∙ ap (option_and_then (object_of_swept_region_cell at.cell)) (used_region_after_its_change r swept_region s.regions ∙ ap (option_map swept_region) used)
        ∙ swept_cell at.cell u ∙ sym (ap live_part (places at e).1)

    go : (b : Bool) → has_live u ≡ b → object_of (if not b then released r s else record s { regions = kept }).regions x ≡ live_part (object_of s.regions x)
    go false h =
        id_of_region_without_object (released r s).regions x (λ c. ap (option_and_then (object_of_swept_region_cell c)) (ap (used_at (released r s).regions) (sym same) ∙ released_there r s (InUse u) (used_region_stands_in_list s.regions r u used)))
        ∙ sym (dead h (ref_of s.regions x) refl)
    go true h = ap (option_and_then (object_at kept)) (ref_kept r swept_region s.regions x (λ v. refl)) ∙ live (ref_of s.regions x) refl

-- a sweep leaves each live object where its id finds it
pub sweep_spares_each_live_object : (r x : ℕ) (s : RegionPool) (u : UsedRegion) (o : Object) → used_at s.regions r ≡ Some u → object_of s.regions x ≡ Some o → o.live ≡ true → object_of (swept r s).regions x ≡ Some o
sweep_spares_each_live_object r x s u o used found live = go (cases_eq r (region_around x))
  where
    go : (r ≡ region_around x) ⊎ (r ≡ region_around x → ⊥) → object_of (swept r s).regions x ≡ Some o
    go (inl e) = ids_of_swept_region_name_live r x s u used e ∙ ap live_part found ∙ ap (λ (l : Bool). cond l (Some o) None) live
    go (inr d) = ids_outside_swept_region_stay r x s d ∙ found
