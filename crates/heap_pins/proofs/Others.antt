-- A region that a record doesn't name still has all that it had.
use Rattle.std.proofs.Common.{◌≡◌, ◌≢◌, ◌⊎◌, ℕ, zero, suc, Bool, true, false, List, [], ◌∷◌, Option, Some, None, refl, sym, ap, subst, ◌∙◌, map, set, fold, length}
use mathlib.Core.Logic.{inl, inr}
use Rattle.std.specs.Prelude.{slice_index_or, option_map, take}
use Rattle.std.specs.Option.{option_map_or}
use Rattle.heap_class.specs.declared.ObjRef.{ObjRef}
use Rattle.heap_region.specs.Regions.{Object, UsedRegion, Region, Empty, InUse, used_at, ref_of, updated, with_region, with_object, with_word, with_mark}
use Rattle.heap_region.specs.Pool.{RegionPool, unallocated, freed, released, restored, cell_freed}
use Rattle.heap_region.proofs.Lookups.{used_region_after_its_change, used_region_after_other_change}
use Rattle.heap_region.proofs.ChangedLookups.{same_or_not}
use Rattle.heap_region.proofs.FoundObjects.{restored_elsewhere, released_elsewhere}
use Rattle.heap_world.specs.MarkSteps.{MarkState, each_object, each_region, with_mark_of, unsnapped, unshaded, unmarked, undrained, unfinished, unfinished_region}
use Rattle.heap_world.proofs.Each.{used_region_after_each_change}
use Rattle.heap_world.proofs.Shades.{length_marked}
use Rattle.heap_world.proofs.WordWrites.{word_write_keeps_region_count}
use Rattle.heap_sweep.specs.Sweep.{unswept, unswept_region}
use Rattle.heap_world.specs.State.{HeapState, pool_of}
use Rattle.heap_step.specs.declared.Undo.{Undo}
use Rattle.heap_step.specs.declared.Undo.TheVariants.{Put, Store, Reg, New, Class, Snap, Mark, Drain, Finish, Sweep, Reclaim}
use Rattle.heap_step.specs.Records.{undone, undo_record}
use Rattle.std.proofs.lemmas.List.{length-map, length-set}
use Rattle.heap_region.proofs.UpdatedLists.{length_updated}
use Rattle.heap_region.specs.RegionCopies.{frozen, region_frozen}
use Rattle.heap_pins.specs.Covers.{HasAll, Covers}
use Rattle.heap_pins.specs.KeptCopies.{touched}
use Rattle.heap_step.specs.declared.Event.{Event}
use Rattle.heap_step.specs.Apply.{state_after}
use Rattle.heap_step.specs.Laws.{IsRestored}
use Rattle.heap_pins.specs.Laws.{KeepsOthers, EventKeeps}
use Rattle.heap_pins.proofs.CoveringCopies.{same_copy_covers, absent_copy_is_covered, copy_covers_through_another, changed_region_is_covered}
use Rattle.heap_world.proofs.KeptParts.{length_unallocated}

-- ---- a region that isn't changed

unchanged_region_is_covered : (regions others : List Region) (r : ℕ) → used_at others r ≡ used_at regions r → Covers (region_frozen others r) (region_frozen regions r)
unfolding region_frozen
unchanged_region_is_covered regions others r same = same_copy_covers _ _ (ap (option_map frozen) (sym same))

different_options_differ_inside : (q r : ℕ) → Some q ≢ Some r → q ≢ r
different_options_differ_inside q r h e = h (ap Some e)

word_elsewhere : (at : ObjRef) (slot old r : ℕ) (regions : List Region) → Some at.region ≢ Some r → used_at (with_word at slot old regions) r ≡ used_at regions r
unfolding with_word with_object
word_elsewhere at slot old r regions ne = used_region_after_other_change at.region r _ regions (different_options_differ_inside at.region r ne)

-- ---- bits of objects

-- each object is changed by a function that keeps kind and words
abbrev KeepsBoth : (Object → Object) → Type 0
KeepsBoth f = (o : Object) → ((f o).kind ≡ o.kind) × ((f o).words ≡ o.words)

each_changed_object_was_there : (f : Object → Object) → KeepsBoth f → (cells : List (Option Object)) (c : ℕ) (o : Object) → slice_index_or (map (option_map f) cells) c None ≡ Some o
    → (p : Object) × (slice_index_or cells c None ≡ Some p) × (p.kind ≡ o.kind) × (p.words ≡ o.words)
each_changed_object_was_there f keeps [] c o e = absurd (clash e)
  where
    clash : None ≡ Some o → ⊥
    clash e = cc
each_changed_object_was_there f keeps (x ∷ cells) zero o e = go x e
  where
    go : (x : Option Object) → option_map f x ≡ Some o → (p : Object) × (x ≡ Some p) × (p.kind ≡ o.kind) × (p.words ≡ o.words)
    go None e = absurd (clash e)
      where
        clash : None ≡ Some o → ⊥
        clash e = cc
    go (Some p) e =
        let s : f p ≡ o = cc in
        (p, refl, sym (keeps p).0 ∙ ap (λ (o : Object). o.kind) s, sym (keeps p).1 ∙ ap (λ (o : Object). o.words) s)
each_changed_object_was_there f keeps (x ∷ cells) (suc c) o e = each_changed_object_was_there f keeps cells c o e

changed_region_has_all : (f : Object → Object) → KeepsBoth f → (g : UsedRegion → UsedRegion) → ((u : UsedRegion) → (g u).cell_size ≡ u.cell_size) → ((u : UsedRegion) → (g u).cells ≡ map (option_map f) u.cells) → (u : UsedRegion) → HasAll (frozen (g u)) (frozen u)
changed_region_has_all f keeps g sizes cells u = record { size = sym (sizes u); count = sym (ap length (cells u) ∙ length-map u.cells (option_map f)); objects = λ c o e. each_changed_object_was_there f keeps u.cells c o (ap (λ (l : List (Option Object)). slice_index_or l c None) (sym (cells u)) ∙ e) }

-- one object's bit
updated_has : (f : Object → Object) → KeepsBoth f → (i : ℕ) (cells : List (Option Object)) (c : ℕ) (o : Object) → slice_index_or (updated i (option_map f) cells) c None ≡ Some o
    → (p : Object) × (slice_index_or cells c None ≡ Some p) × (p.kind ≡ o.kind) × (p.words ≡ o.words)
unfolding updated
updated_has f keeps i [] c o e = absurd (clash e)
  where
    clash : None ≡ Some o → ⊥
    clash e = cc
updated_has f keeps zero (x ∷ cells) zero o e = each_changed_object_was_there f keeps (x ∷ cells) zero o e
updated_has f keeps zero (x ∷ cells) (suc c) o e = (o, e, refl, refl)
updated_has f keeps (suc i) (x ∷ cells) zero o e = (o, e, refl, refl)
updated_has f keeps (suc i) (x ∷ cells) (suc c) o e = updated_has f keeps i cells c o e

mark_keeps_kind_and_words : (b : Bool) → KeepsBoth (λ o. record o { mark = b })
mark_keeps_kind_and_words b o = (refl, refl)

mark_covers : (b : Bool) (at : ObjRef) (regions : List Region) (r : ℕ) → Covers (region_frozen (with_mark b at regions) r) (region_frozen regions r)
unfolding with_mark with_object
mark_covers b at regions r = go (same_or_not at.region r)
  where
    change : UsedRegion → UsedRegion
    change u = record u { cells = updated at.cell (option_map {T = Object} (λ o. record o { mark = b })) u.cells }

    has : (u : UsedRegion) → HasAll (frozen (change u)) (frozen u)
    has u = record { size = refl; count = sym (length_updated at.cell (option_map {T = Object} (λ o. record o { mark = b })) u.cells); objects = updated_has (λ o. record o { mark = b }) (mark_keeps_kind_and_words b) at.cell u.cells }

    go : (at.region ≡ r) ⊎ (at.region ≢ r) → Covers (region_frozen (with_region at.region change regions) r) (region_frozen regions r)
    go (inl e) = subst (λ (q : ℕ). Covers (region_frozen (with_region at.region change regions) q) (region_frozen regions q)) e
        (changed_region_is_covered (with_region at.region change regions) regions at.region change (used_region_after_its_change at.region change regions) has)
    go (inr ne) = unchanged_region_is_covered regions (with_region at.region change regions) r (used_region_after_other_change at.region r change regions ne)

mark_of_covers : (b : Bool) (x : ℕ) (regions : List Region) (r : ℕ) → Covers (region_frozen (with_mark_of b x regions) r) (region_frozen regions r)
unfolding with_mark_of
mark_of_covers b x regions r = go (ref_of regions x)
  where
    go : (p : Option ObjRef) → Covers (region_frozen (option_map_or (λ at. with_mark b at regions) p regions) r) (region_frozen regions r)
    go None = same_copy_covers _ _ refl
    go (Some at) = mark_covers b at regions r

unmarked_regions_are_covered : (xs : List ℕ) (regions : List Region) (r : ℕ) → Covers (region_frozen (fold (λ regions x. with_mark_of false x regions) regions xs) r) (region_frozen regions r)
unmarked_regions_are_covered [] regions r = same_copy_covers _ _ refl
unmarked_regions_are_covered (x ∷ xs) regions r = copy_covers_through_another _ _ _ (unmarked_regions_are_covered xs (with_mark_of false x regions) r) (mark_of_covers false x regions r)

-- ---- a new object

cell_set_none_was_there : (i : ℕ) (cells : List (Option Object)) (c : ℕ) (o : Object) → slice_index_or (set cells i None) c None ≡ Some o → slice_index_or cells c None ≡ Some o
cell_set_none_was_there i [] c o e = absurd (clash e)
  where
    clash : None ≡ Some o → ⊥
    clash e = cc
cell_set_none_was_there zero (x ∷ cells) zero o e = absurd (clash e)
  where
    clash : None ≡ Some o → ⊥
    clash e = cc
cell_set_none_was_there zero (x ∷ cells) (suc c) o e = e
cell_set_none_was_there (suc i) (x ∷ cells) zero o e = e
cell_set_none_was_there (suc i) (x ∷ cells) (suc c) o e = cell_set_none_was_there i cells c o e

freed_covers : (at : ObjRef) (s : RegionPool) (r : ℕ) → Covers (region_frozen (freed at s).regions r) (region_frozen s.regions r)
unfolding freed
freed_covers at s r = go (same_or_not at.region r)
  where
    change : UsedRegion → UsedRegion
    change u = cell_freed u at.cell

    has : (u : UsedRegion) → HasAll (frozen (change u)) (frozen u)
    has u = record { size = refl; count = sym (length-set u.cells at.cell None); objects = λ c o e. (o, cell_set_none_was_there at.cell u.cells c o e, refl, refl) }

    go : (at.region ≡ r) ⊎ (at.region ≢ r) → Covers (region_frozen (with_region at.region change s.regions) r) (region_frozen s.regions r)
    go (inl e) = subst (λ (q : ℕ). Covers (region_frozen (with_region at.region change s.regions) q) (region_frozen s.regions q)) e
        (changed_region_is_covered (with_region at.region change s.regions) s.regions at.region change (used_region_after_its_change at.region change s.regions) has)
    go (inr ne) = unchanged_region_is_covered s.regions (with_region at.region change s.regions) r (used_region_after_other_change at.region r change s.regions ne)

-- a region that is released, or isn't there, has nothing
pub region_set_empty_is_unused : (r : ℕ) (regions : List Region) → used_at (set regions r Empty) r ≡ None
unfolding used_at
region_set_empty_is_unused r [] = refl
region_set_empty_is_unused zero (x ∷ regions) = refl
region_set_empty_is_unused (suc r) (x ∷ regions) = region_set_empty_is_unused r regions

released_covers : (q : ℕ) (s : RegionPool) (r : ℕ) → Covers (region_frozen (released q s).regions r) (region_frozen s.regions r)
unfolding released region_frozen
released_covers q s r = go (same_or_not q r)
  where
    go : (q ≡ r) ⊎ (q ≢ r) → Covers (option_map frozen (used_at (set s.regions q Empty) r)) (option_map frozen (used_at s.regions r))
    go (inl e) = absent_copy_is_covered _ _ (ap (option_map frozen) (ap (λ k. used_at (set s.regions k Empty) r) e ∙ region_set_empty_is_unused r s.regions))
    go (inr ne) = same_copy_covers _ _ (ap (option_map frozen) (sym (released_elsewhere q r s ne)))

unalloc_covers : (at : ObjRef) (fresh : Bool) (s : RegionPool) (r : ℕ) → Covers (region_frozen (unallocated at fresh s).regions r) (region_frozen s.regions r)
unfolding unallocated
unalloc_covers at true s r = released_covers at.region s r
unalloc_covers at false s r = freed_covers at s r

-- ---- each record

snap_covers : (s : MarkState) (r : ℕ) → Covers (region_frozen (unsnapped s).regions r) (region_frozen s.regions r)
unfolding unsnapped each_object
snap_covers s r = changed_region_is_covered _ s.regions r (each_object (λ o. record o { mark = false })) (used_region_after_each_change _ s.regions r) (changed_region_has_all (λ o. record o { mark = false }) (mark_keeps_kind_and_words false) (each_object (λ o. record o { mark = false })) (λ u. sized u) (λ u. celled u))
  where
    sized : (u : UsedRegion) → (each_object (λ o. record o { mark = false }) u).cell_size ≡ u.cell_size
    sized u = refl

    celled : (u : UsedRegion) → (each_object (λ o. record o { mark = false }) u).cells ≡ map (option_map {T = Object} (λ o. record o { mark = false })) u.cells
    celled u = refl

finish_covers : (log : List ℕ) (s : MarkState) (r : ℕ) → Covers (region_frozen (unfinished log s).regions r) (region_frozen s.regions r)
unfolding unfinished unfinished_region each_object
finish_covers log s r = changed_region_is_covered _ s.regions r unfinished_region (used_region_after_each_change _ s.regions r) (changed_region_has_all (λ o. record o { live = true; mark = o.live }) (λ o. (refl, refl)) unfinished_region (λ u. sized u) (λ u. celled u))
  where
    sized : (u : UsedRegion) → (unfinished_region u).cell_size ≡ u.cell_size
    sized u = refl

    celled : (u : UsedRegion) → (unfinished_region u).cells ≡ map (option_map {T = Object} (λ o. record o { live = true; mark = o.live })) u.cells
    celled u = refl

unshaded_covers : (n : ℕ) (s : MarkState) (r : ℕ) → Covers (region_frozen (unshaded n s).regions r) (region_frozen s.regions r)
unfolding unshaded
unshaded_covers n s r = unmarked_regions_are_covered (take n s.gray) s.regions r

mark_undone_covers : (parent n : ℕ) (s : MarkState) (r : ℕ) → Covers (region_frozen (unmarked parent n s).regions r) (region_frozen s.regions r)
unfolding unmarked
mark_undone_covers parent n s r = unshaded_covers n s r

drain_undone_covers : (n : ℕ) (s : MarkState) (r : ℕ) → Covers (region_frozen (undrained n s).regions r) (region_frozen s.regions r)
unfolding undrained
drain_undone_covers n s r = unshaded_covers n _ r

other_regions_of_unsweep_same : (region : ℕ) (dead : List (ℕ × Object)) (s : RegionPool) (r : ℕ) → Some region ≢ Some r → used_at (unswept region dead s).regions r ≡ used_at s.regions r
unfolding unswept
other_regions_of_unsweep_same region dead s r ne = used_region_after_other_change region r _ s.regions (different_options_differ_inside region r ne)

-- a sweep that found no dead object changed no cell
sweep_of_none_covers : (region : ℕ) (s : RegionPool) (r : ℕ) → Covers (region_frozen (unswept region [] s).regions r) (region_frozen s.regions r)
unfolding unswept unswept_region
sweep_of_none_covers region s r = go (same_or_not region r)
  where
    change : UsedRegion → UsedRegion
    change u = unswept_region [] u

    has : (u : UsedRegion) → HasAll (frozen (change u)) (frozen u)
    has u = record { size = refl; count = refl; objects = λ c o e. (o, e, refl, refl) }

    go : (region ≡ r) ⊎ (region ≢ r) → Covers (region_frozen (with_region region change s.regions) r) (region_frozen s.regions r)
    go (inl e) = subst (λ (q : ℕ). Covers (region_frozen (with_region region change s.regions) q) (region_frozen s.regions q)) e
        (changed_region_is_covered (with_region region change s.regions) s.regions region change (used_region_after_its_change region change s.regions) has)
    go (inr ne) = unchanged_region_is_covered s.regions (with_region region change s.regions) r (used_region_after_other_change region r change s.regions ne)

pub keeps_others : (left : Undo) (v : HeapState) → KeepsOthers left v
unfolding undone touched
keeps_others (Put at slot old) v r ne = unchanged_region_is_covered v.regions _ r (word_elsewhere at slot old r v.regions ne)
keeps_others (Store at slot old logged) v r ne = unchanged_region_is_covered v.regions _ r (word_elsewhere at slot old r v.regions ne)
keeps_others (Reg m k old) v r ne = same_copy_covers _ _ refl
keeps_others (New at fresh m k old) v r ne = unalloc_covers at fresh (pool_of v) r
keeps_others Class v r ne = same_copy_covers _ _ refl
keeps_others Snap v r ne = snap_covers _ r
keeps_others (Mark parent pushed) v r ne = mark_undone_covers parent pushed _ r
keeps_others (Drain pushed) v r ne = drain_undone_covers pushed _ r
keeps_others (Finish log) v r ne = finish_covers log _ r
keeps_others (Sweep region []) v r ne = sweep_of_none_covers region (pool_of v) r
keeps_others (Sweep region (d ∷ dead)) v r ne = unchanged_region_is_covered v.regions _ r (other_regions_of_unsweep_same region (d ∷ dead) (pool_of v) r ne)
keeps_others (Reclaim region storage) v r ne = unchanged_region_is_covered v.regions _ r (restored_elsewhere region r storage (pool_of v) (different_options_differ_inside region r ne))

-- ---- how many regions

unmarking_keeps_region_count : (xs : List ℕ) (regions : List Region) → length (fold (λ regions x. with_mark_of false x regions) regions xs) ≡ length regions
unmarking_keeps_region_count [] regions = refl
unmarking_keeps_region_count (x ∷ xs) regions = unmarking_keeps_region_count xs (with_mark_of false x regions) ∙ length_marked false x regions

-- as many after a step as before it
pub undoing_keeps_region_count : (left : Undo) (v : HeapState) → length v.regions ≡ length (undone left v).regions
unfolding undone unsnapped unmarked undrained unshaded unfinished each_region unswept with_region restored
undoing_keeps_region_count (Put at slot old) v = sym (word_write_keeps_region_count v.regions at slot old)
undoing_keeps_region_count (Store at slot old logged) v = sym (word_write_keeps_region_count v.regions at slot old)
undoing_keeps_region_count (Reg m k old) v = refl
undoing_keeps_region_count (New at fresh m k old) v = sym (length_unallocated at fresh (pool_of v))
undoing_keeps_region_count Class v = refl
undoing_keeps_region_count Snap v = sym (length-map v.regions _)
undoing_keeps_region_count (Mark parent pushed) v = sym (unmarking_keeps_region_count (take pushed v.gray) v.regions)
undoing_keeps_region_count (Drain pushed) v = sym (unmarking_keeps_region_count (take pushed v.gray) v.regions)
undoing_keeps_region_count (Finish log) v = sym (length-map v.regions _)
undoing_keeps_region_count (Sweep region dead) v = sym (length_updated region _ v.regions)
undoing_keeps_region_count (Reclaim region storage) v = sym (length-set v.regions region (InUse storage))

-- ---- an accepted event

pub event_keeps : (e : Event) (w : HeapState) → IsRestored e w → EventKeeps e w
event_keeps e w back legal accepted r ne =
    subst (λ (u : HeapState). Covers (region_frozen u.regions r) (region_frozen (state_after e w).regions r)) (back legal accepted) (keeps_others (undo_record e w) (state_after e w) r ne)
