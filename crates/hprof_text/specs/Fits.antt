-- Sizes of numbers: each number of a dump fits in the bytes that it has there.
use Rattle.std.specs.Prelude.{ℕ, ◌+◌, ◌*◌, ◌/◌, ◌%◌, ◌^◌, ◌<◌, List, length, flat_map, zip, All}
use Rattle.std.specs.Option.{option_map_or}
use Rattle.std.specs.List.{enumerate_from}
use Rattle.heap_class.specs.declared.IdSize.{IdSize}
use Rattle.heap_class.specs.declared.Field.{Field}
use Rattle.heap_class.specs.declared.Kind.{Kind}
use Rattle.heap_class.specs.declared.ObjKind.{ObjKind}
use Rattle.heap_class.specs.declared.ObjKind.TheVariants.{Instance, Array, Prim}
use Rattle.heap_class.specs.Kinds.{id_bytes, width_of, type_code}
use Rattle.heap_class.specs.Classes.{Class, slots_of, slot_kinds_of, name_table, name_id, instance_size}
use Rattle.hprof_text.specs.Image.{Image}
use Rattle.hprof_text.specs.Text.{class_id, utf8, load_class, trace, value_bytes, sub_records}
use Rattle.hprof_text.specs.Segments.{segment_limit, size_of, segments_of}

-- n fits in this number of bytes
abbrev pub FitsBytes : ℕ → ℕ → Type 0
FitsBytes bytes n = n < 2 ^ (8 * bytes)

-- n fits in an identifier
abbrev pub FitsId : IdSize → ℕ → Type 0
FitsId ids n = FitsBytes (id_bytes ids) n

-- ---- the numbers that each function of the text writes by u1, u2, u4 and id, but for constants, which are below 256, and for
-- ---- the ids of objects; the length of a whole record stands for that of its body, which is less

-- the numbers of the header fit
abbrev pub FileHeaderFits : IdSize → ℕ → Type 0
FileHeaderFits ids time =
    FitsBytes 4 (id_bytes ids) × FitsBytes 4 (time / 2 ^ 32) × FitsBytes 4 (time % 2 ^ 32)

-- the numbers of a UTF8 record fit
abbrev pub Utf8Fits : IdSize → ℕ × List ℕ → Type 0
Utf8Fits ids n = FitsBytes 4 (length (utf8 ids n)) × FitsId ids n.0

-- the numbers of a LOAD CLASS record fit
abbrev pub LoadClassFits : IdSize → List Class → ℕ × Class → Type 0
LoadClassFits ids classes c =
    FitsBytes 4 (length (load_class ids classes c)) × FitsBytes 4 (c.0 + 1)
    × FitsId ids (class_id c.0)
    × FitsId ids (name_id classes c.1.name)

-- the numbers of an own field in a CLASS DUMP fit
abbrev pub FieldFits : IdSize → List Class → Field → Type 0
FieldFits ids classes f = FitsId ids (name_id classes f.name) × FitsBytes 1 (type_code f.kind)

-- the numbers of a CLASS DUMP fit
abbrev pub ClassDumpFits : IdSize → List Class → ℕ × Class → Type 0
ClassDumpFits ids classes c =
    FitsId ids (class_id c.0) × FitsId ids (option_map_or class_id c.1.sup 0)
    × FitsBytes 4 (instance_size ids classes c.0)
    × FitsBytes 2 (length c.1.fields) × All (FieldFits ids classes) c.1.fields

-- the numbers of the sub-record of an object fit
abbrev pub DumpFits : IdSize → List Class → ObjKind → List ℕ → Type 0
DumpFits ids classes (Instance k) words =
    FitsId ids (class_id k)
    × FitsBytes 4 (length (flat_map (value_bytes ids) (zip (slots_of classes k) words)))
DumpFits ids classes (Array k) words = FitsBytes 4 (length words) × FitsId ids (class_id k)
DumpFits ids classes (Prim kind) words = FitsBytes 4 (length words) × FitsBytes 1 (type_code kind)

-- ---- the numbers of the whole text

-- all numbers of the text fit, but for the ids of objects and the words
pub record HoldsWhole (ids : IdSize) (image : Image) (time : ℕ) : Type 0 where
  pub header : FileHeaderFits ids time
  pub names : All (Utf8Fits ids) (enumerate_from 1 (name_table image.classes))
  pub loaded : All (LoadClassFits ids image.classes) (enumerate_from 0 image.classes)
  pub trace : FitsBytes 4 (length trace)
  pub segments : All (λ s. FitsBytes 4 (size_of s))
      (segments_of segment_limit (sub_records ids image))
  pub classes : All (ClassDumpFits ids image.classes) (enumerate_from 0 image.classes)
  pub objects : All (λ o. DumpFits ids image.classes o.kind o.words) image.objects

-- ---- the ids of objects, and words, which no limit of a dump bounds

-- the words of slots of these kinds fit
abbrev pub WordsFit : IdSize → List Kind → List ℕ → Type 0
WordsFit ids kinds words = All (λ p. FitsBytes (width_of ids p.0) p.1) (zip kinds words)

-- the ids of the objects, their words and the registers fit
pub record ShowsWhole (ids : IdSize) (image : Image) : Type 0 where
  pub objects : All (λ o. FitsId ids o.id) image.objects
  pub words : All (λ o. WordsFit ids (slot_kinds_of image.classes o.kind (length o.words)) o.words)
      image.objects
  pub registers : All (FitsId ids) image.registers
