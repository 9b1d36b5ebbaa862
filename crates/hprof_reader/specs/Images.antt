-- The sub-records of the dump of an image, as a reader tells them.
use Rattle.std.specs.Prelude.{◌≡◌, ℕ, ◌==◌, List, [], ◌∷◌, ◌++◌, length, map, flat_map, zip, if◌then◌else◌}
use Rattle.std.specs.Option.{option_map_or}
use Rattle.std.specs.List.{enumerate_from, AllByRecursion}
use Rattle.heap_class.specs.declared.IdSize.{IdSize}
use Rattle.heap_class.specs.declared.ObjKind.{ObjKind}
use Rattle.heap_class.specs.declared.ObjKind.TheVariants.{Instance, Array, Prim}
use Rattle.heap_class.specs.Classes.{Class, slots_of, instance_size}
use Rattle.hprof_text.specs.Image.{Image, DumpedObject}
use Rattle.hprof_text.specs.Text.{id, class_id, field_entry, value_bytes, sub_records}
use Rattle.hprof_reader.specs.SubRecords.{Sub, Entries, root, class, instance, array, prim, sub_text, FitsSub}

-- no constants, and no static fields
abbrev pub no_entries : Entries
no_entries = record { count = 0; bytes = [] }

-- class k: its super and its own fields; no loader, signers or protection domain
abbrev pub class_sub : IdSize → List Class → ℕ × Class → Sub
class_sub ids classes c =
    class (record {
      head = record {
        id = class_id c.0;
        trace = 1;
        super_id = option_map_or class_id c.1.sup 0;
        loader = 0;
        signers = 0;
        domain = 0;
        reserved = 0;
        also_reserved = 0;
        size = instance_size ids classes c.0;
      };
      constants = no_entries;
      statics = no_entries;
      fields = record { count = length c.1.fields; bytes = flat_map (field_entry ids classes) c.1.fields };
    })

-- an object with this id, of this kind, with these words
abbrev pub kind_sub : IdSize → List Class → ℕ → ObjKind → List ℕ → Sub
kind_sub ids classes x (Instance k) words =
    instance x 1 (class_id k) (flat_map (value_bytes ids) (zip (slots_of classes k) words))
kind_sub ids classes x (Array k) words =
    array x 1 (length words) (class_id k) (flat_map (id ids) words)
kind_sub ids classes x (Prim kind) words =
    prim x 1 (length words) kind (flat_map (λ w. value_bytes ids (kind, w)) words)

-- an object
abbrev pub object_sub : IdSize → List Class → DumpedObject → Sub
object_sub ids classes o = kind_sub ids classes o.id o.kind o.words

-- the root of class k
abbrev pub class_root : ℕ × Class → Sub
class_root c = root 0x05 (class_id c.0) []

-- the root of a register, if it isn't null
abbrev pub register_roots : ℕ → List Sub
register_roots x = if x == 0 then [] else root 0xff x [] ∷ []

-- the sub-records of an image: its classes, their roots, its objects, and its registers
abbrev pub subs_of : IdSize → Image → List Sub
subs_of ids image =
    map (class_sub ids image.classes) (enumerate_from 0 image.classes)
    ++ map class_root (enumerate_from 0 image.classes)
    ++ map (object_sub ids image.classes) image.objects
    ++ flat_map register_roots image.registers

-- the sub-records of the image's dump are the texts of these, and all of these fit
pub record AreRead (ids : IdSize) (image : Image) : Type 0 where
  pub spelled : map (sub_text ids) (subs_of ids image) ≡ sub_records ids image
  pub fit : AllByRecursion (FitsSub ids) (subs_of ids image)
