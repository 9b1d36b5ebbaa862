-- Ids are below 2^32.
use Rattle.std.proofs.Common.{◌≡◌, ◌≢◌, ◌⊎◌, ℕ, ◌+◌, ◌*◌, ◌^◌, ◌<◌, List, length, Option, Some, None, inl, inr, refl, ap, subst, arith}
use Rattle.std.specs.Prelude.{Contains, IsSome, slice_get, option_and_then}
use Rattle.std.specs.Option.{option_map_or}
use Rattle.std.proofs.lemmas.Bool.{cases_eq}
use Rattle.std.proofs.lemmas.Option.{slice_get_within}
use Rattle.heap_class.specs.declared.ObjRef.{ObjRef}
use Rattle.heap_region.specs.Regions.{Object, UsedRegion, Region, InUse, used_at, object_at, object_base, id_of, object_of}
use Rattle.heap_region.proofs.Ids.{cell_begins_within_region, ref_is}
use Rattle.heap_region.proofs.ChangedLookups.{place_of_object_of_id}
use Rattle.heap_region.proofs.Lookups.{used_region_stands_in_list}
use Rattle.heap_world.specs.State.{HeapState}
use Rattle.heap_world.specs.Reach.{IsObject}
use Rattle.heap_world.specs.Legal.{IsLegal, IsLive}
use Rattle.heap_step.specs.Laws.{IdsFit}

-- the region of an object is in use, and has its cell
region_of_object_in_use : (regions : List Region) (at : ObjRef) (o : Object) → object_at regions at ≡ Some o → (u : UsedRegion) × (used_at regions at.region ≡ Some u) × (at.cell < length u.cells)
unfolding object_at
region_of_object_in_use regions at o = go (used_at regions at.region)
  where
    inner : (cells : List (Option Object)) (x : Option (Option Object)) → slice_get cells at.cell ≡ x → option_and_then (λ (o : Option Object). o) x ≡ Some o → at.cell < length cells
    inner cells None e h = absurd (cc)
    inner cells (Some y) e h = slice_get_within cells at.cell y e

    go : (x : Option UsedRegion) → option_and_then (λ (u : UsedRegion). option_and_then (λ (o : Option Object). o) (slice_get u.cells at.cell)) x ≡ Some o → (u : UsedRegion) × (x ≡ Some u) × (at.cell < length u.cells)
    go None h = absurd (cc)
    go (Some u) h = (u, refl, inner u.cells (slice_get u.cells at.cell) refl h)

module _ (w : HeapState) (legal : IsLegal w) where
  -- the id of an object
  id_small : (x : ℕ) (o : Object) → object_of w.regions x ≡ Some o → x < 2 ^ 32
  unfolding id_of
  id_small x o e =
      let p = place_of_object_of_id w.regions x o e in
      let at = p.0 in
      let u = region_of_object_in_use w.regions at o p.2 in
      let size = u.0.cell_size in
      let c = cell_begins_within_region at.cell size (subst (λ n. at.cell < n) (legal.regions.tables at.region u.0 u.1).cells u.2) in
      let r : at.region < length w.regions = slice_get_within w.regions at.region (InUse u.0) (used_region_stands_in_list w.regions at.region u.0 u.1) in
      let s = ap (λ (y : Option UsedRegion). object_base + 8 * (1024 * at.region + at.cell * option_map_or (λ (v : UsedRegion). v.cell_size) y 0)) u.1 in
      omega (arith, ref_is w.regions x at p.1, s, c.0, r, legal.sized.regions.1)

  live_small : (x : ℕ) → IsLive w x → x < 2 ^ 32
  live_small x l = id_small x l.0 l.1

  object_small : (x : ℕ) → IsObject w x → x < 2 ^ 32
  object_small x = go (object_of w.regions x) refl
    where
      go : (y : Option Object) → object_of w.regions x ≡ y → IsSome y → x < 2 ^ 32
      go None e h = absurd (cc)
      go (Some o) e h = id_small x o e

  register_small : (x : ℕ) → Contains w.registers x → x < 2 ^ 32
  register_small x there = go (cases_eq x 0)
    where
      go : (x ≡ 0) ⊎ (x ≢ 0) → x < 2 ^ 32
      go (inl e) = omega (arith, e)
      go (inr n) = live_small x (legal.registers_live x there n)

  pub ids_fit_in : IdsFit w
  ids_fit_in = record {
    objects = object_small;
    registers = register_small;
    slots = λ x y live names. live_small y (legal.slots_live x y live names);
    gray = λ x there. live_small x (legal.gray_live x there);
    log = λ x there. live_small x (legal.log_live x there);
  }

pub ids_fit : (w : HeapState) → IsLegal w → IdsFit w
ids_fit w legal = ids_fit_in w legal
