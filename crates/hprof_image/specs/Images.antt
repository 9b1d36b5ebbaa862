-- The image that a dump tells.
use Rattle.std.specs.Prelude.{ℕ, ◌==◌, ◌||◌, Bool, not, List, Option, Some, map, filter, flat_map, filter_map}
use Rattle.std.specs.Result.{result_ok}
use Rattle.heap_class.specs.declared.IdSize.{IdSize}
use Rattle.heap_class.specs.Classes.{Class, instance_class}
use Rattle.hprof_text.specs.Image.{Image}
use Rattle.hprof_reader.specs.declared.header.Header.{Header}
use Rattle.hprof_reader.specs.Headers.{header_parts}
use Rattle.hprof_reader.specs.Reading.{record_parts}
use Rattle.hprof_reader.specs.Records.{Told}
use Rattle.hprof_reader.specs.SubParts.{sub_parts}
use Rattle.hprof_reader.specs.SubRecords.{Sub}
use Rattle.hprof_image.specs.Items.{◌>>=◌, items_in, all_there}
use Rattle.hprof_image.specs.Parts.{Names, name_in, load_in, class_in, class_of, object_in, register_in}

-- ---- what a dump tells

-- the image of these sub-records, with these names
unfoldable pub image_told : IdSize → Names → List Sub → Option Image
image_told ids names subs =
    let told = filter_map class_in subs in
    do
      classes ← all_there (map (class_of ids names told) told)
      objects ← all_there (filter_map (object_in ids told classes) subs)
      Some (record { classes = classes; registers = filter_map register_in subs; objects = objects })

-- the bodies of the records whose tag passes the test
abbrev pub bodies : (ℕ → Bool) → List Told → List (List ℕ)
bodies test records = map (λ r. r.body) (filter (λ r. test r.tag) records)

-- the image of these records: the names by UTF8 and LOAD CLASS, and the sub-records of each HEAP DUMP and HEAP DUMP SEGMENT
unfoldable pub image_in : IdSize → List Told → Option Image
image_in ids records = do
  names ← all_there (map (name_in ids) (bodies (λ t. t == 0x01) records))
  loads ← all_there (map (load_in ids) (bodies (λ t. t == 0x02) records))
  segments ← all_there (map (items_in (sub_parts ids)) (bodies (λ t. t == 0x0c || t == 0x1c) records))
  image_told ids (record { names = names; loads = loads }) (flat_map (λ s. s) segments)

-- what a dump tells: its header, and its image
pub record DumpTold : Type 0 where
  pub header : Header
  pub image : Image

-- what these bytes tell: a header, and the image of the records after it
unfoldable pub dump_told : List ℕ → Option DumpTold
dump_told bytes = do
  header ← result_ok (header_parts bytes)
  records ← items_in record_parts header.1
  image ← image_in header.0.ids records
  Some (record { header = header.0; image = image })

-- ---- what a dump tells of an image

-- a class but for whether it is an array class
abbrev pub class_shown : Class → Class
class_shown c = instance_class c.name c.sup c.fields

-- an image but for which of its classes are array classes, and for registers that are null
abbrev pub image_shown : Image → Image
image_shown image = record {
  classes = map class_shown image.classes;
  registers = filter (λ x. not (x == 0)) image.registers;
  objects = image.objects;
}

-- what the dump of an image tells
abbrev pub shown : IdSize → ℕ → Image → DumpTold
shown ids time image =
    record { header = record { ids = ids; time = time }; image = image_shown image }
