-- The parts of records that their writers append.
use Rattle.std.specs.Prelude.{ℕ, ◌<◌, List, [], ◌++◌, length, slice_index_or, flat_map}
use Rattle.std.specs.List.{enumerate_from}
use Rattle.heap_class.specs.declared.IdSize.{IdSize}
use Rattle.heap_class.specs.declared.Kind.{Kind}
use Rattle.heap_class.specs.Kinds.{type_code}
use Rattle.heap_class.specs.Classes.{Class, array_class, name_table}
use Rattle.hprof_text.specs.Text.{u1, u2, u4, id, class_id, header, utf8, load_class, trace, class_dump, root}
use Rattle.hprof_text.specs.declared.section.SubRecord.{SubRecord}
use Rattle.hprof_text.specs.declared.section.SubRecord.TheVariants.{ClassDump, Root}

-- class k, which must be there
abbrev pub class_at : List Class → ℕ → Class
class_at classes k = slice_index_or classes k (array_class [])

-- the head of a record whose body has n bytes
abbrev pub record_head : ℕ → ℕ → List ℕ
record_head tag n = u1 tag ++ u4 0 ++ u4 n

-- an own field: the id of its name, and its kind
abbrev pub field_bytes : IdSize → ℕ → Kind → List ℕ
field_bytes ids name kind = id ids name ++ u1 (type_code kind)

-- the ids of a class: its own, its super's and five that are null
abbrev pub class_ids : IdSize → ℕ → ℕ → List ℕ
class_ids ids k sup =
    u1 0x20 ++ id ids (class_id k) ++ u4 1 ++ id ids sup ++ id ids 0 ++ id ids 0 ++ id ids 0
    ++ id ids 0 ++ id ids 0

-- the numbers of a class: the size of its instances, no constants, no static fields, and the number of its own fields
abbrev pub class_counts : ℕ → ℕ → List ℕ
class_counts size fields = u4 size ++ u2 0 ++ u2 0 ++ u2 fields

-- the bytes before the values of an instance of class k: its id, the class's id, and the size of the values
abbrev pub instance_head : IdSize → ℕ → ℕ → ℕ → List ℕ
instance_head ids x k size = u1 0x21 ++ id ids x ++ u4 1 ++ id ids (class_id k) ++ u4 size

-- the records before the segments, by the classes alone
abbrev pub opening_of : IdSize → List Class → ℕ → List ℕ
opening_of ids classes time =
    header ids time ++ flat_map (utf8 ids) (enumerate_from 1 (name_table classes))
    ++ flat_map (load_class ids classes) (enumerate_from 0 classes) ++ trace

-- the bytes of the sub-record of an item
abbrev pub sub_record_bytes : IdSize → List Class → SubRecord → List ℕ
sub_record_bytes ids classes (ClassDump k) = class_dump ids classes (k, class_at classes k)
sub_record_bytes ids classes (Root tag x) = root ids tag x

-- the class of the sub-record is one of these
abbrev pub IsOfClasses : List Class → SubRecord → Type 0
IsOfClasses classes (ClassDump k) = k < length classes
IsOfClasses classes (Root tag x) = Unit {0}
