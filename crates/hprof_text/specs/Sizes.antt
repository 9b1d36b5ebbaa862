-- The sizes of the parts of a dump in bytes.
use Rattle.std.specs.Prelude.{ℕ, zero, suc, ◌+◌, ◌*◌, List, length, map, sum_by}
use Rattle.heap_class.specs.declared.IdSize.{IdSize}
use Rattle.heap_class.specs.declared.ObjKind.{ObjKind}
use Rattle.heap_class.specs.declared.ObjKind.TheVariants.{Instance, Array, Prim}
use Rattle.heap_class.specs.Kinds.{id_bytes, width_of}
use Rattle.heap_class.specs.Classes.{Class, name_table, instance_size}
use Rattle.hprof_text.specs.Image.{Image}
use Rattle.hprof_text.specs.Text.{sub_records}
use Rattle.hprof_text.specs.Segments.{segment_limit, sizes_at, segment_sizes}

-- the largest size of the sub-record of a class
abbrev pub class_size_limit : ℕ
class_size_limit = 647

-- the largest size of the sub-record of an instance: one of 64 values of 8 bytes
abbrev pub instance_dump_limit : ℕ
instance_dump_limit = 537

-- the largest size of a sub-record: that of an array of 2,097,147 identifiers of 8 bytes
abbrev pub sub_record_limit : ℕ
sub_record_limit = 16777201

-- the largest size of the UTF8 record of a name: one of 255 bytes, with an id of 8 bytes
abbrev pub utf8_size_limit : ℕ
utf8_size_limit = 272

-- the largest size of the UTF8 records of a dump: 266,240 names of 255 bytes
abbrev pub names_size_limit : ℕ
names_size_limit = 72417280

-- the largest size of the records before the segments
abbrev pub opening_size_limit : ℕ
opening_size_limit = 72552500

-- the size of the UTF8 record of a name
abbrev pub utf8_size : IdSize → List ℕ → ℕ
utf8_size ids n = 9 + id_bytes ids + length n

-- the size of the UTF8 records of these names
unfoldable pub names_size : IdSize → List (List ℕ) → ℕ
names_size ids names = sum_by (utf8_size ids) names

-- the size of the records before the segments
unfoldable pub opening_size : IdSize → List Class → ℕ
opening_size ids classes =
    52 + names_size ids (name_table classes) + (17 + 2 * id_bytes ids) * length classes

-- the size of the sub-record of a class
abbrev pub class_size : IdSize → Class → ℕ
class_size ids c = 15 + 7 * id_bytes ids + (1 + id_bytes ids) * length c.fields

-- the size of a root, of a class or of a register that isn't null
abbrev pub root_size : IdSize → ℕ
root_size ids = 1 + id_bytes ids

-- the size of the sub-record of an object of this kind with n words
unfoldable pub dump_size : IdSize → List Class → ObjKind → ℕ → ℕ
dump_size ids classes (Instance k) n = 9 + 2 * id_bytes ids + instance_size ids classes k
dump_size ids classes (Array k) n = 9 + 2 * id_bytes ids + id_bytes ids * n
dump_size ids classes (Prim kind) n = 10 + id_bytes ids + width_of ids kind * n

-- ---- the records of the segments

-- the size of the records of segments whose sub-records have these sizes
unfoldable pub records_size : List ℕ → ℕ
records_size sizes = sum_by (λ n. 9 + n) (segment_sizes segment_limit sizes)

-- the same if the first segment has `body` bytes already
unfoldable pub records_size_at : ℕ → List ℕ → ℕ
records_size_at body sizes = sum_by (λ n. 9 + n) (sizes_at segment_limit body sizes)

-- the same after an open segment with this many bytes, or after none if it is 0
abbrev pub records_size_after : ℕ → List ℕ → ℕ
records_size_after zero sizes = records_size sizes
records_size_after (suc n) sizes = records_size_at (suc n) sizes

-- the size of the whole text
unfoldable pub text_size : IdSize → Image → ℕ
text_size ids image = opening_size ids image.classes + records_size (map length (sub_records ids image)) + 9
