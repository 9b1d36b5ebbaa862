-- A pin as a dump shows it.
use Rattle.std.proofs.Common.{◌≡◌, ℕ, ◌<◌, List, length, Option, Some, None, IsSome, IfSome, refl, sym, ap, subst, ◌∙◌}
use Rattle.std.specs.Prelude.{slice_get, Contains, is_some}
use Rattle.heap_class.specs.declared.ObjRef.{ObjRef}
use Rattle.heap_region.specs.Regions.{Object, object_at}
use Rattle.heap_world.specs.State.{HeapState}
use Rattle.hprof_text.specs.Image.{Image, DumpedObject, IsDumpable}
use Rattle.heap_pins.specs.Pin.{PinContents, places_seen, object_seen, pin_image}
use Rattle.heap_pins.specs.Shows.{IsPinOf, ShowsState, IsSeen}
use Rattle.heap_pins.specs.View.{PinShown, ShowsSome}
use Rattle.heap_pins.proofs.LiveCounts.{standing_object_is_in_cell}
use Rattle.heap_pins.proofs.DumpLimits.{legal_heap_is_dumpable, each_live_place_has_object, has_object, dumped_object_at_live_place}
use Rattle.heap_pins.proofs.RoomForCopies.{object_within}
use Rattle.heap_pins.proofs.ShownPlaces.{shown_places_are_live}
use Rattle.heap_pins.proofs.ShownImages.{IsFound, object_shown_by_pin_found, object_seen_as_dump_shows, image_is, shown}

-- its image is within a dump's limits
pub view_dumpable : (p : PinContents) (w : HeapState) → ShowsSome p w → IsDumpable (pin_image p w)
view_dumpable p w s = subst IsDumpable (sym (image_is p s.0 w s.1 s.2)) (legal_heap_is_dumpable s.0 s.1.legal)

-- each place has one object
pub view_placed : (p : PinContents) (w : HeapState) → ShowsSome p w → length (places_seen p w.regions) ≡ length (pin_image p w).objects
view_placed p w s = ap length (shown_places_are_live p s.0 w s.1 s.2) ∙ each_live_place_has_object s.0 ∙ ap (λ (i : Image). length i.objects) (sym (image_is p s.0 w s.1 s.2))

object_at_place_is_seen : (p : PinContents) (u w : HeapState) (at : ObjRef) → IsPinOf p u → ShowsState p u w → (o : Object) → object_at u.regions at ≡ Some o → IsSeen p w.regions at
object_at_place_is_seen p u w at i s o here =
    let x = standing_object_is_in_cell u.regions at o here in
    let f : IsFound p w.regions at x.0.cell_size o = object_shown_by_pin_found p u w at x.0 o s x.1 x.2 in
    (subst (λ n. at.region < n) (sym i.copies) (object_within u.regions at (ap is_some here)), f.region, f.seen, ap is_some f.there)

-- the pin finds an object at each place
pub view_sees : (p : PinContents) (w : HeapState) (at : ObjRef) → ShowsSome p w → Contains (places_seen p w.regions) at → IsSeen p w.regions at
view_sees p w at s c = go (object_at s.0.regions at) refl (has_object s.0.regions at (subst (λ (l : List ObjRef). Contains l at) (shown_places_are_live p s.0 w s.1 s.2) c))
  where
    go : (x : Option Object) → object_at s.0.regions at ≡ x → IsSome x → IsSeen p w.regions at
    go None e h = cc
    go (Some o) e h = object_at_place_is_seen p s.0 w at s.1 s.2 o e

-- what holds of the object that the pin finds at a place holds of what the dump shows
pub view_there : (p : PinContents) (w : HeapState) (at : ObjRef) (R : DumpedObject → Type 0) → ShowsSome p w → IfSome (object_seen p w.regions at) R
    → (i : ℕ) → slice_get (places_seen p w.regions) i ≡ Some at → IfSome (slice_get (pin_image p w).objects i) R
view_there p w at R s q i h =
    subst (λ (im : Image). IfSome (slice_get im.objects i) R) (sym (image_is p s.0 w s.1 s.2))
    (dumped_object_at_live_place s.0 at (λ o. R (shown s.0.regions (at, o))) R (λ o r. r) (go (object_at s.0.regions at) refl) i (subst (λ (l : List ObjRef). slice_get l i ≡ Some at) (shown_places_are_live p s.0 w s.1 s.2) h))
  where
    go : (x : Option Object) → object_at s.0.regions at ≡ x → IfSome x (λ o. R (shown s.0.regions (at, o)))
    go None e = tt
    go (Some o) e = subst (λ (y : Option DumpedObject). IfSome y R) (object_seen_as_dump_shows p s.0 w at o s.2 e) q

-- ---- the same, of a view of this value

pub live_place_of_pin_is_seen : (v w : PinShown) (at : ObjRef) → v ≡ w → ShowsSome v.pin v.state → Contains (places_seen w.pin w.state.regions) at → IsSeen v.pin v.state.regions at
live_place_of_pin_is_seen v w at is shows c = view_sees v.pin v.state at shows (subst (λ (u : PinShown). Contains (places_seen u.pin u.state.regions) at) (sym is) c)

pub property_of_pin_image_object : (v w : PinShown) (at : ObjRef) (R : DumpedObject → Type 0) → v ≡ w → ShowsSome v.pin v.state → IfSome (object_seen v.pin v.state.regions at) R
    → (i : ℕ) → slice_get (places_seen w.pin w.state.regions) i ≡ Some at → IfSome (slice_get (pin_image w.pin w.state).objects i) R
property_of_pin_image_object v w at R is shows q = subst (λ (u : PinShown). (i : ℕ) → slice_get (places_seen u.pin u.state.regions) i ≡ Some at → IfSome (slice_get (pin_image u.pin u.state).objects i) R) is (view_there v.pin v.state at R shows q)

-- a pin that shows a state has a place for each region
pub view_is_sized : (p : PinContents) (w : HeapState) → ShowsSome p w → length p.copies ≡ length w.regions
view_is_sized p w s = s.1.copies ∙ sym s.2.count
