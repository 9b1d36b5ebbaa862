-- The image of a state in a dump.
use Rattle.std.specs.Prelude.{List, map}
use Rattle.heap_region.specs.Regions.{live_objects, id_of}
use Rattle.heap_world.specs.State.{HeapState}
use Rattle.hprof_text.specs.Image.{Image, DumpedObject}

-- the live objects of a state, by region and cell
unfoldable pub dumped_objects : HeapState → List DumpedObject
dumped_objects w =
    map (λ p. record { id = id_of w.regions p.0; kind = p.1.kind; words = p.1.words })
    (live_objects w.regions)

-- the image of a state
unfoldable pub image_of : HeapState → Image
image_of w = record { classes = w.classes; registers = w.registers; objects = dumped_objects w }
