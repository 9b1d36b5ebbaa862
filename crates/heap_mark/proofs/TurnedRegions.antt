-- A turn is the end of a cycle where it is accepted and all objects are live, and turned back it is its undoing.
use Rattle.std.proofs.Common.{◌≡◌, ℕ, suc, Bool, true, false, not, List, [], ◌∷◌, map, Option, Some, None, refl, sym, ap, ◌∙◌}
use Rattle.std.specs.Prelude.{slice_get, option_map}
use Rattle.heap_class.proofs.Refusals.{no_refusal_test_holds}
use Rattle.heap_region.specs.Regions.{Object, Region, Empty, InUse, in_used}
use Rattle.heap_region.specs.Legal.{EachObject}
use Rattle.heap_region.specs.Turns.{turned_object, turned_region, turned_back_region}
use Rattle.heap_region.proofs.Lookups.{listed_region_is_in_use, object_found_in_used_cell}
use Rattle.heap_region.proofs.LateTurns.{bit_flipped_twice, cells_turned_and_back}
use Rattle.heap_mark.specs.MarkSteps.{MarkState, each_object, each_region, pending_regions, finish_refusal, finished_region, finished, unfinished_region}
use Rattle.heap_mark.specs.Finish.{finished_object}
use Rattle.heap_mark.proofs.Finishes.{pending_in, none_pending, map_back, finished_regions_undone}

-- f and g of each item, where they are the same at each
maps_alike_at_each_item : {A B : Type 0} (f g : A → B) (xs : List A) → ((k : ℕ) (x : A) → slice_get xs k ≡ Some x → f x ≡ g x) → map f xs ≡ map g xs
maps_alike_at_each_item f g [] h = refl
maps_alike_at_each_item f g (x ∷ xs) h = λ i. h 0 x refl i ∷ maps_alike_at_each_item f g xs (λ k y e. h (suc k) y e) i

-- the cells of a region whose objects are all live
cells_same : (cells : List (Option Object)) → ((c : ℕ) (o : Object) → slice_get cells c ≡ Some (Some o) → o.live ≡ true) → map (option_map turned_object) cells ≡ map (option_map finished_object) cells
cells_same cells h = maps_alike_at_each_item _ _ cells same
  where
    same : (c : ℕ) (x : Option Object) → slice_get cells c ≡ Some x → option_map turned_object x ≡ option_map finished_object x
    same c None e = refl
    same c (Some o) e = ap (λ (b : Bool). Some (record o { live = o.mark; mark = b })) (ap not (h c o e))

regions_same : (regions : List Region) → ((r : ℕ) → pending_in (slice_get regions r) ≡ false) → EachObject regions (λ at o. o.live ≡ true) → each_region turned_region regions ≡ each_region finished_region regions
unfolding each_region turned_region finished_region each_object in_used
regions_same regions finish_means_no_region_pending live = maps_alike_at_each_item _ _ regions same
  where
    same : (r : ℕ) (x : Region) → slice_get regions r ≡ Some x → in_used turned_region x ≡ in_used finished_region x
    same r Empty e = refl
    same r (InUse u) e = λ i. InUse (record u { pending = ap not (sym (ap pending_in e) ∙ finish_means_no_region_pending r) i; cells = cells_same u.cells (λ c o there. live (record { region = r; cell = c }) o (object_found_in_used_cell regions (record { region = r; cell = c }) u o (listed_region_is_in_use regions r u e) there)) i })

-- no region waits where a finish is accepted
finish_means_no_region_pending : (s : MarkState) → finish_refusal s ≡ None → (r : ℕ) → pending_in (slice_get s.regions r) ≡ false
unfolding finish_refusal pending_regions
finish_means_no_region_pending s accepted = none_pending s.regions 0 (no_refusal_test_holds _ accepted).1.1.0

pub turn_ends : (s : MarkState) → finish_refusal s ≡ None → EachObject s.regions (λ at o. o.live ≡ true) → each_region turned_region s.regions ≡ (finished s).regions
unfolding finished
turn_ends s accepted live = regions_same s.regions (finish_means_no_region_pending s accepted) live

-- a turn is undone whatever the regions are
turned_regions_turned_back : (regions : List Region) → each_region turned_back_region (each_region turned_region regions) ≡ regions
unfolding each_region turned_region turned_back_region in_used
turned_regions_turned_back regions = map_back _ _ regions back
  where
    back : (r : ℕ) (x : Region) → slice_get regions r ≡ Some x → in_used turned_back_region (in_used turned_region x) ≡ x
    back r Empty e = refl
    back r (InUse u) e = λ i. InUse (record u { pending = bit_flipped_twice u.pending i; cells = cells_turned_and_back u.cells i })

-- turned back, the regions after a finish are what its undoing leaves of them
pub turn_back_undoes : (before : MarkState) (regions : List Region) → finish_refusal before ≡ None → EachObject before.regions (λ at o. o.live ≡ true) → regions ≡ (finished before).regions → each_region turned_back_region regions ≡ each_region unfinished_region regions
unfolding finished
turn_back_undoes before regions accepted live is =
    ap (each_region turned_back_region) (is ∙ sym (turn_ends before accepted live)) ∙ turned_regions_turned_back before.regions
    ∙ sym (ap (each_region unfinished_region) is ∙ finished_regions_undone before.regions (finish_means_no_region_pending before accepted) live)
