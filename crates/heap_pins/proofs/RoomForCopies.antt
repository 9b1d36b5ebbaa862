-- After a step there is room for what a pin copies.
use Rattle.std.proofs.Common.{◌≡◌, ℕ, suc, ◌+◌, ◌<◌, ◌≤◌, Bool, true, false, cond, List, [], ◌∷◌, length, map, Option, Some, None, IsSome, refl, sym, ap, subst, ◌∙◌, arith}
use Rattle.std.specs.Prelude.{slice_get, option_map}
use Rattle.std.specs.Option.{option_map_or}
use Rattle.std.specs.List.{filter_map, cons_option, enumerate_from}
use Rattle.std.proofs.lemmas.List.{length-map}
use Rattle.std.proofs.lemmas.Option.{slice_get_within}
use Rattle.heap_class.specs.declared.ObjRef.{ObjRef}
use Rattle.heap_region.specs.Regions.{Object, UsedRegion, Region, Empty, FitsWords, used_at, object_at}
use Rattle.heap_region.specs.Legal.{IsCellTable}
use Rattle.heap_region.specs.Pool.{RegionPool}
use Rattle.heap_region.specs.RegionCopies.{Frozen, frozen, region_frozen}
use Rattle.heap_region.proofs.Lookups.{used_region_after_its_change, used_region_is_listed}
use Rattle.heap_sweep.specs.Sweep.{dead_part, live_part, dead_cells, dead_at, is_emptied, swept_region, sweep_refusal}
use Rattle.heap_sweep.proofs.Ready.{pending_used, swept_region_that_stays}
use Rattle.heap_world.specs.State.{HeapState, pool_of}
use Rattle.heap_world.specs.Legal.{IsLegal}
use Rattle.heap_world.specs.Events.{after_sweep}
use Rattle.heap_step.specs.declared.Event.{Event}
use Rattle.heap_step.specs.declared.Undo.{Undo}
use Rattle.heap_step.specs.Laws.{IsStep}
use Rattle.heap_step.proofs.Fits.{IsSwept}
use Rattle.heap_step.proofs.Steps.{new_record_names_an_object, put_record_names_an_object, store_there, sweep_before, reclaim_empty}
use Rattle.heap_step.specs.declared.Undo.TheVariants.{New, Reclaim}
use Rattle.heap_pins.specs.KeptCopies.{noted, touched}
use Rattle.heap_pins.proofs.RecordCases.{by_region, equal_options_name_same_region, record_that_touches_no_region}
use Rattle.heap_pins.specs.Shows.{AreFit, FitIn}
use Rattle.heap_region.proofs.ShownRegions.{used_by_object}

-- the region of an object is one of the regions
pub object_within : (regions : List Region) (at : ObjRef) → IsSome (object_at regions at) → at.region < length regions
object_within regions at some = used_region_is_listed regions at.region (used_by_object regions at some)

-- ---- what a sweep took out

dead_fit : (size count n : ℕ) (cells : List (Option Object)) → ((c : ℕ) (o : Object) → slice_get cells c ≡ Some (Some o) → FitsWords size (length o.words)) → n + length cells ≤ count
    → AreFit size count (filter_map (λ (c : ℕ × Option Object). option_map {T = Object} {U = ℕ × Object} (λ o. (c.0, o)) (dead_part c.1)) (enumerate_from n cells))
dead_fit size count n [] fits few = tt
dead_fit size count n (None ∷ cells) fits few = dead_fit size count (n + 1) cells (λ c. fits (suc c)) (omega (arith, few))
dead_fit size count n (Some o ∷ cells) fits few = go o.live (dead_fit size count (n + 1) cells (λ c. fits (suc c)) (omega (arith, few)))
  where
    go : (b : Bool) → AreFit size count (filter_map (λ (c : ℕ × Option Object). option_map {T = Object} {U = ℕ × Object} (λ o. (c.0, o)) (dead_part c.1)) (enumerate_from (n + 1) cells))
        → AreFit size count (cons_option (option_map {T = Object} {U = ℕ × Object} (λ p. (n, p)) (cond b None (Some o))) (filter_map (λ (c : ℕ × Option Object). option_map {T = Object} {U = ℕ × Object} (λ o. (c.0, o)) (dead_part c.1)) (enumerate_from (n + 1) cells)))
    go true rest = rest
    go false rest = (omega (arith, few), fits 0 o refl, rest)

region_fit : (u : UsedRegion) → IsCellTable u → AreFit (swept_region u).cell_size (length (swept_region u).cells) (dead_cells u)
unfolding swept_region dead_cells
region_fit u t = dead_fit u.cell_size (length (map live_part u.cells)) 0 u.cells (λ c o there. (t.fits c o there, t.least c o there)) (omega (arith, length-map u.cells live_part))

-- the region that was swept, and it
record IsSweptRegion (region : ℕ) (dead : List (ℕ × Object)) (w : HeapState) : Type 0 where
  old : UsedRegion
  used : used_at w.regions region ≡ Some (swept_region old)
  table : IsCellTable old
  dead_is : dead ≡ dead_cells old

swept_heap_has_swept_region : (region : ℕ) (dead : List (ℕ × Object)) (w : HeapState) → IsSwept region dead w → IsSweptRegion region dead w
unfolding after_sweep dead_at
swept_heap_has_swept_region region dead w s =
    let before : HeapState = s.0 in
    let legal : IsLegal before = s.1 in
    let accepted : sweep_refusal region (pool_of before) ≡ None = s.2 in
    let kept : is_emptied region (pool_of before) ≡ false = s.3 in
    let p = pending_used region (pool_of before) accepted in
    record {
      old = p.0;
      used = ap (λ (v : HeapState). used_at v.regions region) s.5 ∙ ap (λ (t : RegionPool). used_at t.regions region) (swept_region_that_stays region (pool_of before) kept) ∙ used_region_after_its_change region swept_region before.regions ∙ ap (option_map swept_region) p.1;
      table = legal.regions.tables region p.0 p.1;
      dead_is = s.4 ∙ ap (λ (x : Option UsedRegion). option_map_or dead_cells x []) p.1;
    }

pub sweep_used : (e : Event) (before after : HeapState) (left : Undo) → IsStep e before after left → (region : ℕ) (dead : List (ℕ × Object)) → left ≡ Undo.Sweep region dead → IsSome (used_at after.regions region)
sweep_used e before after left s region dead is = subst (λ (x : Option UsedRegion). IsSome x) (sym (swept_heap_has_swept_region region dead after (sweep_before e before after left s region dead is)).used) (search)

pub sweep_fit : (e : Event) (before after : HeapState) (left : Undo) → IsStep e before after left → (region : ℕ) (dead : List (ℕ × Object)) → left ≡ Undo.Sweep region dead → FitIn (region_frozen after.regions region) dead
unfolding region_frozen
sweep_fit e before after left s region dead is f there =
    let w = swept_heap_has_swept_region region dead after (sweep_before e before after left s region dead is) in
    let same : frozen (swept_region w.old) ≡ f = some_same (sym (ap (option_map frozen) w.used) ∙ there) in
    subst (λ (g : Frozen). AreFit g.cell_size (length g.cells) dead) same (subst (λ ds. AreFit (swept_region w.old).cell_size (length (swept_region w.old).cells) ds) (sym w.dead_is) (region_fit w.old w.table))
  where
    some_same : {x y : Frozen} → Some x ≡ Some y → x ≡ y
    some_same e = cc

-- ---- a region that was moved out

pub reclaim_within : (e : Event) (before after : HeapState) (left : Undo) → IsStep e before after left → (region : ℕ) (storage : UsedRegion) → left ≡ Undo.Reclaim region storage → region < length after.regions
reclaim_within e before after left s region storage is =
    slice_get_within after.regions region Empty (reclaim_empty e before after left s region storage is)

-- ---- the region that a step touched

pub touched_region_is_in_heap : (e : Event) (before after : HeapState) (left : Undo) → IsStep e before after left → (region : ℕ) → touched left ≡ Some region → region < length after.regions
unfolding touched
touched_region_is_in_heap e before after left s region = by_region (λ u. left ≡ u → touched u ≡ Some region → region < length after.regions)
    (λ at slot old is t. within at.region t (object_within after.regions at (put_record_names_an_object e before after left s at slot old is)))
    (λ at slot old logged is t. within at.region t (object_within after.regions at (store_there e before after left s at slot old logged is)))
    (λ r d dead is t. within r t (used_region_is_listed after.regions r (sweep_used e before after left s r (d ∷ dead) is)))
    (λ r storage is t. within r t (reclaim_within e before after left s r storage is))
    (λ u n is. record_that_touches_no_region u n region _)
    left refl
  where
    within : (x : ℕ) → Some x ≡ Some region → x < length after.regions → region < length after.regions
    within x is lt = subst (λ n. n < length after.regions) (equal_options_name_same_region x region is) lt

-- it is in use, unless it was moved out
pub touched_region_is_used : (e : Event) (before after : HeapState) (left : Undo) → IsStep e before after left → (region : ℕ) → touched left ≡ Some region → ((r : ℕ) (storage : UsedRegion) → left ≡ Reclaim r storage → ⊥) → IsSome (used_at after.regions region)
unfolding touched
touched_region_is_used e before after left s region t no_reclaim = by_region (λ u. left ≡ u → touched u ≡ Some region → IsSome (used_at after.regions region))
    (λ at slot old is t. used at.region t (used_by_object after.regions at (put_record_names_an_object e before after left s at slot old is)))
    (λ at slot old logged is t. used at.region t (used_by_object after.regions at (store_there e before after left s at slot old logged is)))
    (λ r d dead is t. used r t (sweep_used e before after left s r (d ∷ dead) is))
    (λ r storage is t. absurd (no_reclaim r storage is))
    (λ u n is t. record_that_touches_no_region u n region _ t)
    left refl t
  where
    used : (x : ℕ) → Some x ≡ Some region → IsSome (used_at after.regions x) → IsSome (used_at after.regions region)
    used x is some = subst (λ r. IsSome (used_at after.regions r)) (equal_options_name_same_region x region is) some

-- the region of which pins keep something is in the heap
pub noted_region_is_in_heap : (e : Event) (before after : HeapState) (left : Undo) → IsStep e before after left → (region : ℕ) → noted left ≡ Some region → region < length after.regions
unfolding noted touched
noted_region_is_in_heap e before after (New at fresh m k old) s region named =
    subst (λ n. n < length after.regions) (equal_options_name_same_region at.region region named) (object_within after.regions at (new_record_names_an_object e before after (New at fresh m k old) s at fresh m k old refl))
noted_region_is_in_heap e before after left s region named = touched_region_is_in_heap e before after left s region named
