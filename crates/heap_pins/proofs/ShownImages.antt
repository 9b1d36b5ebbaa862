-- What a pin shows is the image of its state.
use Rattle.std.proofs.Common.{◌≡◌, ℕ, ◌+◌, ◌*◌, List, [], ◌∷◌, map, take, Option, Some, None, refl, sym, ap, ◌∙◌}
use Rattle.std.specs.Prelude.{slice_get, option_map, option_and_then, All}
use Rattle.std.specs.Option.{option_map_or}
use Rattle.std.specs.List.{filter_map}
use Rattle.std.proofs.lemmas.Option.{get_or_from_slice_get}
use Rattle.std.proofs.lemmas.List.Elements.{All-head, All-tail}
use Rattle.heap_class.specs.declared.ObjRef.{ObjRef}
use Rattle.heap_region.specs.Regions.{Object, UsedRegion, Region, used_at, object_at, object_base, id_of, live_objects, live_places}
use Rattle.heap_region.specs.RegionCopies.{Frozen, frozen, frozen_object, region_frozen}
use Rattle.heap_world.specs.State.{HeapState}
use Rattle.hprof_text.specs.Image.{DumpedObject}
use Rattle.heap_pins.specs.Images.{dumped_objects, image_of}
use Rattle.heap_pins.specs.Pin.{PinContents, region_seen, cell_dumped, object_seen, pin_image}
use Rattle.heap_pins.specs.Shows.{IsPinOf, ShowsState}
use Rattle.heap_pins.proofs.LiveCounts.{Stands, live_stand, standing_object_is_in_cell}
use Rattle.heap_pins.proofs.ShownPlaces.{shown_places_are_live}

-- an object as a dump shows it
abbrev pub shown : List Region → ObjRef × Object → DumpedObject
shown regions p = record { id = id_of regions p.0; kind = p.1.kind; words = p.1.words }

-- the object of a region that the pin finds
pub record IsFound (p : PinContents) (regions : List Region) (at : ObjRef) (size : ℕ) (o : Object) : Type 0 where
  pub region : Frozen
  pub seen : region_seen p regions at.region ≡ Some region
  pub size_is : region.cell_size ≡ size
  pub object : Object
  pub there : frozen_object region at.cell ≡ Some object
  pub kind : object.kind ≡ o.kind
  pub words : object.words ≡ o.words

pub object_shown_by_pin_found : (p : PinContents) (u v : HeapState) (at : ObjRef) (x : UsedRegion) (o : Object) → ShowsState p u v → used_at u.regions at.region ≡ Some x → slice_get x.cells at.cell ≡ Some (Some o) → IsFound p v.regions at x.cell_size o
unfolding region_frozen
object_shown_by_pin_found p u v at x o s used there =
    let c = s.objects at.region (frozen x) (ap (option_map frozen) used) in
    let q = c.2.objects at.cell o (get_or_from_slice_get x.cells at.cell (Some o) None there) in
    record { region = c.0; seen = c.1; size_is = c.2.size; object = q.0; there = q.1; kind = q.2; words = q.3 }

pub object_seen_as_dump_shows : (p : PinContents) (u v : HeapState) (at : ObjRef) (o : Object) → ShowsState p u v → object_at u.regions at ≡ Some o → object_seen p v.regions at ≡ Some (shown u.regions (at, o))
unfolding object_seen id_of
object_seen_as_dump_shows p u v at o s here =
    let i = standing_object_is_in_cell u.regions at o here in
    let f : IsFound p v.regions at i.0.cell_size o = object_shown_by_pin_found p u v at i.0 o s i.1 i.2 in
    let size : option_map_or (λ (x : UsedRegion). x.cell_size) (used_at u.regions at.region) 0 ≡ i.0.cell_size = ap (λ (x : Option UsedRegion). option_map_or (λ (x : UsedRegion). x.cell_size) x 0) i.1 in
    ap (option_and_then (cell_dumped at)) f.seen
    ∙ ap (option_map {T = Object} (λ o. record { id = object_base + 8 * (1024 * at.region + at.cell * f.region.cell_size); kind = o.kind; words = o.words })) f.there
    ∙ (λ j. Some (record { id = object_base + 8 * (1024 * at.region + at.cell * (f.size_is ∙ sym size) j); kind = f.kind j; words = f.words j }))

all_standing_objects_are_seen : (g : ObjRef → Option DumpedObject) (regions : List Region) (ps : List (ObjRef × Object)) → ((at : ObjRef) (o : Object) → object_at regions at ≡ Some o → g at ≡ Some (shown regions (at, o))) → All (Stands regions) ps
    → filter_map g (map (λ p. p.0) ps) ≡ map (shown regions) ps
all_standing_objects_are_seen g regions [] each all = refl
all_standing_objects_are_seen g regions (p ∷ ps) each all = rw (each p.0 p.1 (All-head (Stands regions) p ps all)) (ap (λ xs. shown regions p ∷ xs) (all_standing_objects_are_seen g regions ps each (All-tail (Stands regions) p ps all)))

pub image_is : (p : PinContents) (u v : HeapState) → IsPinOf p u → ShowsState p u v → pin_image p v ≡ image_of u
unfolding pin_image image_of dumped_objects live_places
image_is p u v i s = λ j. record {
  classes = (ap (λ n. take n v.classes) i.classes ∙ s.classes) j;
  registers = i.registers j;
  objects = (ap (filter_map (object_seen p v.regions)) (shown_places_are_live p u v i s) ∙ all_standing_objects_are_seen (object_seen p v.regions) u.regions (live_objects u.regions) (λ at o. object_seen_as_dump_shows p u v at o s) (live_stand u.regions)) j;
}
