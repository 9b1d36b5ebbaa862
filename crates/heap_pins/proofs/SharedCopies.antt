-- What a record puts back into a copy of the region that its step touched.
use Rattle.std.proofs.Common.{◌≡◌, ℕ, ◌<◌, ◌∷◌, length, Option, Some, None, IsSome, refl, sym, ap, subst, ◌∙◌, arith}
use Rattle.std.specs.Prelude.{option_map}
use Rattle.heap_region.specs.Regions.{Object, UsedRegion, used_at}
use Rattle.heap_region.specs.Layout.{words_of}
use Rattle.heap_region.specs.RegionCopies.{Frozen, frozen, frozen_object, frozen_words, region_frozen}
use Rattle.heap_world.specs.State.{HeapState}
use Rattle.heap_step.specs.declared.Event.{Event}
use Rattle.heap_step.specs.declared.Undo.{Undo}
use Rattle.heap_step.specs.declared.Undo.TheVariants.{Put, Store, Sweep, Reclaim}
use Rattle.heap_step.specs.Laws.{IsStep}
use Rattle.heap_step.proofs.Steps.{put_record_names_an_object, put_record_slot_within_object, store_there, store_within}
use Rattle.heap_pins.specs.Covers.{HasAll}
use Rattle.heap_pins.specs.KeptCopies.{copy_for, patched, touched}
use Rattle.heap_pins.specs.Pin.{PinContents, region_seen}
use Rattle.heap_pins.specs.SharedCopies.{HasLowCells, IsPatchable}
use Rattle.heap_pins.specs.Shows.{AreFit, ShowsState}
use Rattle.heap_pins.specs.Walk.{walked_copy}
use Rattle.heap_pins.specs.WalkedPins.{CanPatch, Sees}
use Rattle.heap_pins.proofs.AddedCopies.{slot_copied}
use Rattle.heap_pins.proofs.RecordCases.{by_region, equal_options_name_same_region, record_that_touches_no_region}
use Rattle.heap_pins.proofs.RoomForCopies.{sweep_fit, sweep_used, touched_region_is_used}
use Rattle.heap_pins.proofs.Walkable.{after_legal, dead_within}

-- ---- there is room

-- the region after the step has the slot or the cells of what is put back
pub touched_region_is_patchable : (e : Event) (before after : HeapState) (left : Undo) → IsStep e before after left → (r : ℕ) (f : Frozen) → touched left ≡ Some r → region_frozen after.regions r ≡ Some f → IsPatchable left f
unfolding touched
touched_region_is_patchable e before after left s r f t there = by_region (λ u. left ≡ u → touched u ≡ Some r → IsPatchable u f)
    (λ at slot old is t. slot_copied after.regions at slot f (here at.region t) (put_record_names_an_object e before after left s at slot old is) (put_record_slot_within_object e before after left s at slot old is))
    (λ at slot old logged is t. slot_copied after.regions at slot f (here at.region t) (store_there e before after left s at slot old logged is) (store_within e before after left s at slot old logged is))
    (λ region d dead is t. sweep_fit e before after left s region (d ∷ dead) is f (here region t))
    (λ region storage is t. tt)
    (λ u n is t. record_that_touches_no_region u n r _ t)
    left refl t
  where
    here : (x : ℕ) → Some x ≡ Some r → region_frozen after.regions x ≡ Some f
    here x is = ap (region_frozen after.regions) (equal_options_name_same_region x r is) ∙ there

pub dead_cells_are_low : (e : Event) (before after : HeapState) (left : Undo) → IsStep e before after left → HasLowCells left
dead_cells_are_low e before after (Sweep region dead) s =
    let used : IsSome (used_at after.regions region) = sweep_used e before after (Sweep region dead) s region dead refl in
    dead_within after region dead (after_legal e before after (Sweep region dead) s) used (sweep_fit e before after (Sweep region dead) s region dead refl)
dead_cells_are_low e before after left s = tt

-- so has a copy that has all that another has
slot_is_in_covering_copy : (f g : Frozen) (cell slot : ℕ) (y : Option Object) → HasAll f g → frozen_object f cell ≡ y → slot < length (words_of y) → slot < length (frozen_words g cell)
slot_is_in_covering_copy f g cell slot None h is lt = absurd (omega (arith, lt))
slot_is_in_covering_copy f g cell slot (Some o) h is lt =
    let p = h.objects cell o is in
    subst (λ z. slot < length (words_of z)) (sym p.1) (subst (λ ws. slot < length ws) (sym p.3) lt)

covering_copy_is_patchable : (left : Undo) (f g : Frozen) → HasAll f g → IsPatchable left f → IsPatchable left g
covering_copy_is_patchable (Put at slot old) f g h lt = slot_is_in_covering_copy f g at.cell slot (frozen_object f at.cell) h refl lt
covering_copy_is_patchable (Store at slot old logged) f g h lt = slot_is_in_covering_copy f g at.cell slot (frozen_object f at.cell) h refl lt
covering_copy_is_patchable (Sweep region dead) f g h fit = subst (λ size. AreFit size (length g.cells) dead) (sym h.size) (subst (λ count. AreFit f.cell_size count dead) (sym h.count) fit)
covering_copy_is_patchable left f g h fit = tt

-- ---- a pin that shows the state after the step

shown_region_is_patchable : (e : Event) (before x : HeapState) (left : Undo) → IsStep e before x left → (p : PinContents) (w : HeapState) (r : ℕ) → ShowsState p x w → touched left ≡ Some r → ((region : ℕ) (storage : UsedRegion) → left ≡ Reclaim region storage → ⊥)
    → (f : Frozen) × Sees p w.regions r f × IsPatchable left f
unfolding region_frozen
shown_region_is_patchable e before x left s p w r shows t no_reclaim = go (used_at x.regions r) refl (touched_region_is_used e before x left s r t no_reclaim)
  where
    go : (u : Option UsedRegion) → used_at x.regions r ≡ u → IsSome u → (f : Frozen) × Sees p w.regions r f × IsPatchable left f
    go None is some = absurd (cc)
    go (Some u) is some =
        let there : region_frozen x.regions r ≡ Some (frozen u) = ap (option_map frozen) is in
        let g = shows.objects r (frozen u) there in
        (g.0, g.1, covering_copy_is_patchable left (frozen u) g.0 g.2 (touched_region_is_patchable e before x left s r (frozen u) t there))

pub walked_region_can_be_patched : (e : Event) (before x : HeapState) (left : Undo) → IsStep e before x left → (p : PinContents) (w : HeapState) (r : ℕ) → ShowsState p x w → touched left ≡ Some r → CanPatch left p w.regions r
walked_region_can_be_patched e before x left s p w r shows t = by_region (λ u. left ≡ u → CanPatch u p w.regions r)
    (λ at slot old is. patchable (Put at slot old) is (λ region storage e. cc))
    (λ at slot old logged is. patchable (Store at slot old logged) is (λ region storage e. cc))
    (λ region d dead is. patchable (Sweep region (d ∷ dead)) is (λ region storage e. cc))
    (λ region storage is. tt)
    (λ u n is. record_that_touches_no_region u n r _ (ap touched (sym is) ∙ t))
    left refl
  where
    patchable : (u : Undo) → left ≡ u → ((region : ℕ) (storage : UsedRegion) → u ≡ Reclaim region storage → ⊥) → (f : Frozen) × Sees p w.regions r f × IsPatchable u f
    patchable u is no_reclaim = shown_region_is_patchable e before x u (subst (IsStep e before x) is s) p w r shows (ap touched (sym is) ∙ t) no_reclaim

-- what it sees, if the record doesn't have the region itself
pub patchable_region_is_seen : (left : Undo) (p : PinContents) (w : HeapState) (r : ℕ) → ((region : ℕ) (storage : UsedRegion) → left ≡ Reclaim region storage → ⊥) → CanPatch left p w.regions r → (f : Frozen) × Sees p w.regions r f × IsPatchable left f
patchable_region_is_seen (Reclaim region storage) p w r no_reclaim can = absurd (no_reclaim region storage refl)
patchable_region_is_seen left p w r no_reclaim can = can

-- ---- the copy before the step

pub patched_copy_is_for_step : (left : Undo) (v : HeapState) (r : ℕ) (f g : Frozen) → ((region : ℕ) (storage : UsedRegion) → left ≡ Reclaim region storage → ⊥) → region_frozen v.regions r ≡ Some f → g ≡ patched left f → copy_for left v r ≡ Some g
unfolding copy_for
patched_copy_is_for_step (Reclaim region storage) v r f g no_reclaim there is = absurd (no_reclaim region storage refl)
patched_copy_is_for_step left v r f g no_reclaim there is = ap (option_map (patched left)) there ∙ ap Some (sym is)

pub patched_copy_is_walked : (left : Undo) (x : Option Frozen) (f g : Frozen) → ((region : ℕ) (storage : UsedRegion) → left ≡ Reclaim region storage → ⊥) → x ≡ Some f → g ≡ patched left f → walked_copy left x ≡ Some g
unfolding walked_copy
patched_copy_is_walked (Reclaim region storage) x f g no_reclaim there is = absurd (no_reclaim region storage refl)
patched_copy_is_walked left x f g no_reclaim there is = ap (option_map (patched left)) there ∙ ap Some (sym is)

pub reclaimed_copy_is_for_step : (left : Undo) (v : HeapState) (r region : ℕ) (storage : UsedRegion) (g : Frozen) → left ≡ Reclaim region storage → g ≡ frozen storage → copy_for left v r ≡ Some g
unfolding copy_for
reclaimed_copy_is_for_step left v r region storage g is same = ap (λ l. copy_for l v r) is ∙ ap Some (sym same)

pub reclaimed_copy_is_walked : (left : Undo) (x : Option Frozen) (region : ℕ) (storage : UsedRegion) (g : Frozen) → left ≡ Reclaim region storage → g ≡ frozen storage → walked_copy left x ≡ Some g
unfolding walked_copy
reclaimed_copy_is_walked left x region storage g is same = ap (λ l. walked_copy l x) is ∙ ap Some (sym same)

-- the walk back finds a copy
pub walked_region_has_a_copy : (e : Event) (before x : HeapState) (left : Undo) → IsStep e before x left → (p : PinContents) (w : HeapState) (r : ℕ) → ShowsState p x w → touched left ≡ Some r → (f : Frozen) × (walked_copy left (region_seen p w.regions r) ≡ Some f)
walked_region_has_a_copy e before x left s p w r shows t = by_region (λ u. left ≡ u → (f : Frozen) × (walked_copy u (region_seen p w.regions r) ≡ Some f))
    (λ at slot old is. patched_copy (Put at slot old) is (λ region storage e. cc))
    (λ at slot old logged is. patched_copy (Store at slot old logged) is (λ region storage e. cc))
    (λ region d dead is. patched_copy (Sweep region (d ∷ dead)) is (λ region storage e. cc))
    (λ region storage is. (frozen storage, reclaimed_copy_is_walked (Reclaim region storage) (region_seen p w.regions r) region storage (frozen storage) refl refl))
    (λ u n is. record_that_touches_no_region u n r _ (ap touched (sym is) ∙ t))
    left refl
  where
    patched_copy : (u : Undo) → left ≡ u → ((region : ℕ) (storage : UsedRegion) → u ≡ Reclaim region storage → ⊥) → (f : Frozen) × (walked_copy u (region_seen p w.regions r) ≡ Some f)
    patched_copy u is no_reclaim =
        let seen = shown_region_is_patchable e before x u (subst (IsStep e before x) is s) p w r shows (ap touched (sym is) ∙ t) no_reclaim in
        (patched u seen.0, patched_copy_is_walked u (region_seen p w.regions r) seen.0 (patched u seen.0) no_reclaim seen.1 refl)
