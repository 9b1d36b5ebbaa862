-- The records of a dump: HPROF, JAVA PROFILE 1.0.2, with identifiers of either size.
use Rattle.std.specs.Prelude.{ℕ, ◌+◌, ◌*◌, ◌/◌, ◌%◌, ◌^◌, ◌==◌, List, [], ◌∷◌, ◌++◌, length, map, drop, if◌then◌else◌, flat_map, zip, codes}
use Rattle.std.specs.Option.{option_map_or}
use Rattle.std.specs.List.{enumerate_from}
use Rattle.byteorder.specs.Endian.{big_bytes}
pub use Rattle.hprof_records.specs.Heads.{u1, u2, u4}
unfoldable pub use Rattle.hprof_records.specs.Heads.{record_of}
use Rattle.heap_class.specs.declared.IdSize.{IdSize}
use Rattle.heap_class.specs.declared.Kind.{Kind}
use Rattle.heap_class.specs.declared.Field.{Field}
use Rattle.heap_class.specs.declared.ObjKind.{ObjKind}
use Rattle.heap_class.specs.declared.ObjKind.TheVariants.{Instance, Array, Prim}
use Rattle.heap_class.specs.Kinds.{id_bytes, width_of, type_code}
use Rattle.heap_class.specs.Classes.{Class, slots_of, name_table, name_id, instance_size}
use Rattle.hprof_text.specs.Image.{Image, DumpedObject}
use Rattle.hprof_text.specs.declared.section.NumberedSection.TheVariants.{ClassDumps, ClassRoots, RegisterRoots}
use Rattle.hprof_text.specs.declared.section.Section.{Section}
use Rattle.hprof_text.specs.declared.section.Section.TheVariants.{Numbered, Objects}

-- ---- numbers

-- the bytes of an identifier, the highest first
abbrev pub id : IdSize → ℕ → List ℕ
id ids n = big_bytes (id_bytes ids) n

-- ---- ids

-- the id of class k
abbrev pub class_id : ℕ → ℕ
class_id k = 0x00100000 + 8 * k

-- ---- records: tag, time 0, length of the body, body

-- the header: the format's name, the size of identifiers, and the time in milliseconds since 1970
unfoldable pub header : IdSize → ℕ → List ℕ
header ids time =
    codes "JAVA PROFILE 1.0.2" ++ u1 0 ++ u4 (id_bytes ids) ++ u4 (time / 2 ^ 32)
    ++ u4 (time % 2 ^ 32)

-- the UTF8 record of a name with its id
unfoldable pub utf8 : IdSize → ℕ × List ℕ → List ℕ
utf8 ids n = record_of 0x01 (id ids n.0 ++ n.1)

-- the LOAD CLASS record of class k, whose serial is k + 1
unfoldable pub load_class : IdSize → List Class → ℕ × Class → List ℕ
load_class ids classes c =
    record_of 0x02
    (u4 (c.0 + 1) ++ id ids (class_id c.0) ++ u4 1 ++ id ids (name_id classes c.1.name))

-- the TRACE record: serial 1, thread 0, no frames
unfoldable pub trace : List ℕ
trace = record_of 0x05 (u4 1 ++ u4 0 ++ u4 0)

-- ---- sub-records

-- an own field in a CLASS DUMP: the id of its name, and its kind
unfoldable pub field_entry : IdSize → List Class → Field → List ℕ
field_entry ids classes f = id ids (name_id classes f.name) ++ u1 (type_code f.kind)

-- the CLASS DUMP of a class: its super; no loader, signers or protection domain; no constants and no static fields; its own
-- fields
unfoldable pub class_dump : IdSize → List Class → ℕ × Class → List ℕ
class_dump ids classes c =
    u1 0x20 ++ id ids (class_id c.0) ++ u4 1 ++ id ids (option_map_or class_id c.1.sup 0)
    ++ id ids 0 ++ id ids 0 ++ id ids 0 ++ id ids 0 ++ id ids 0
    ++ u4 (instance_size ids classes c.0) ++ u2 0 ++ u2 0 ++ u2 (length c.1.fields)
    ++ flat_map (field_entry ids classes) c.1.fields

-- a root with this tag: the id of an object or of a class
unfoldable pub root : IdSize → ℕ → ℕ → List ℕ
root ids tag x = u1 tag ++ id ids x

-- the root of class k
abbrev pub root_sticky_class : IdSize → ℕ → List ℕ
root_sticky_class ids k = root ids 0x05 (class_id k)

-- the root of an object, of an unknown kind of root
abbrev pub root_unknown : IdSize → ℕ → List ℕ
root_unknown ids x = root ids 0xff x

-- a slot's word in as many bytes as its kind has
unfoldable pub value_bytes : IdSize → Kind × ℕ → List ℕ
value_bytes ids v = big_bytes (width_of ids v.0) v.1

-- the INSTANCE DUMP, OBJECT ARRAY DUMP or PRIMITIVE ARRAY DUMP of an object, by its kind
unfoldable pub dump_of : IdSize → List Class → ℕ → ObjKind → List ℕ → List ℕ
dump_of ids classes x (Instance k) words =
    let values = flat_map (value_bytes ids) (zip (slots_of classes k) words) in
    u1 0x21 ++ id ids x ++ u4 1 ++ id ids (class_id k) ++ u4 (length values) ++ values
dump_of ids classes x (Array k) words =
    u1 0x22 ++ id ids x ++ u4 1 ++ u4 (length words) ++ id ids (class_id k)
    ++ flat_map (id ids) words
dump_of ids classes x (Prim kind) words =
    u1 0x23 ++ id ids x ++ u4 1 ++ u4 (length words) ++ u1 (type_code kind)
    ++ flat_map (λ w. value_bytes ids (kind, w)) words

-- the sub-record of an object
unfoldable pub object_dump : IdSize → List Class → DumpedObject → List ℕ
object_dump ids classes o = dump_of ids classes o.id o.kind o.words

-- ---- the records before the segments

-- the header, names, classes, and the empty trace
unfoldable pub opening_records : IdSize → Image → ℕ → List ℕ
opening_records ids image time =
    header ids time ++ flat_map (utf8 ids) (enumerate_from 1 (name_table image.classes))
    ++ flat_map (load_class ids image.classes) (enumerate_from 0 image.classes) ++ trace

-- ---- the sections

-- the sections, in order: the sub-records of the classes, the roots of the classes, the sub-records of the objects, and the
-- roots of the registers
abbrev pub sections : List Section
sections = Numbered ClassDumps ∷ Numbered ClassRoots ∷ Objects ∷ Numbered RegisterRoots ∷ []

-- the sections after a section
abbrev pub after : Section → List Section
after (Numbered ClassDumps) = drop 1 sections
after (Numbered ClassRoots) = drop 2 sections
after Objects = drop 3 sections
after (Numbered RegisterRoots) = drop 4 sections

-- the items of a section: for each class, object or register its sub-record, but none for a register that is null
unfoldable pub items_of : IdSize → Image → Section → List (List (List ℕ))
items_of ids image (Numbered ClassDumps) =
    map (λ c. class_dump ids image.classes c ∷ []) (enumerate_from 0 image.classes)
items_of ids image (Numbered ClassRoots) =
    map (λ c. root_sticky_class ids c.0 ∷ []) (enumerate_from 0 image.classes)
items_of ids image Objects = map (λ o. object_dump ids image.classes o ∷ []) image.objects
items_of ids image (Numbered RegisterRoots) =
    map (λ x. if x == 0 then [] else root_unknown ids x ∷ []) image.registers

-- the sub-records of these items, in order
abbrev pub records_of_items : List (List (List ℕ)) → List (List ℕ)
records_of_items items = flat_map (λ item. item) items

-- the sub-records of these sections, in order
abbrev pub records_in : IdSize → Image → List Section → List (List ℕ)
records_in ids image several = flat_map (λ s. records_of_items (items_of ids image s)) several

-- all sub-records, in order
unfoldable pub sub_records : IdSize → Image → List (List ℕ)
sub_records ids image = records_in ids image sections
