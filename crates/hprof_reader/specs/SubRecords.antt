-- Sub-records as bytes.
use Rattle.std.specs.Prelude.{◌≡◌, ℕ, ◌+◌, ◌*◌, ◌<◌, ◌^◌, List, ◌++◌, length, flat_map, Some}
use Rattle.std.specs.List.{AllByRecursion}
use Rattle.heap_class.specs.declared.IdSize.{IdSize}
use Rattle.heap_class.specs.declared.Kind.{Kind}
use Rattle.heap_class.specs.Kinds.{id_bytes, width_of, type_code}
use Rattle.hprof_text.specs.Text.{u1, u2, u4, id}
use Rattle.hprof_text.specs.Fits.{FitsId}
use Rattle.hprof_reader.specs.SubSizes.{root_size}
use Rattle.hprof_reader.specs.declared.class_dumps.ClassDump.{ClassDump}
use Rattle.hprof_reader.specs.declared.class_dumps.ClassHead.{ClassHead}
use Rattle.hprof_reader.specs.declared.class_dumps.Table.{Table}
use Rattle.hprof_reader.specs.declared.sub_records.SubRecord.{SubRecord}
use Rattle.hprof_reader.specs.declared.sub_records.SubRecord.TheVariants as variants

-- entries of a class: how many, and their bytes
pub record Entries : Type 0 where
  pub count : ℕ
  pub bytes : List ℕ

-- a constant of a class, or a static field: its index or the id of its name, its kind and its value
pub record EntryTold : Type 0 where
  pub key : List ℕ
  pub kind : Kind
  pub value : List ℕ

-- a class
pub record ClassTold : Type 0 where
  pub head : ClassHead
  pub constants : Entries
  pub statics : Entries
  pub fields : Entries

-- a sub-record, wherever its bytes lie in memory
pub data Sub : Type 0 where
  root : (tag x : ℕ) (more : List ℕ) → Sub
  class : ClassTold → Sub
  instance : (x trace k : ℕ) (values : List ℕ) → Sub
  array : (x trace count k : ℕ) (elements : List ℕ) → Sub
  prim : (x trace count : ℕ) (kind : Kind) (elements : List ℕ) → Sub

-- ---- what was read

abbrev pub entries : Table → Entries
entries t = record { count = t.count; bytes = t.bytes.now }

abbrev pub class_told : ClassDump → ClassTold
class_told c = record {
  head = c.head;
  constants = entries c.constants;
  statics = entries c.statics;
  fields = entries c.fields;
}

abbrev pub sub_record : SubRecord → Sub
sub_record (variants.Root r) = root r.tag r.id r.more.now
sub_record (variants.Class c) = class (class_told c)
sub_record (variants.Instance i) = instance i.id i.trace i.class i.values.now
sub_record (variants.ObjectArray a) = array a.id a.trace a.count a.class a.elements.now
sub_record (variants.PrimArray a) = prim a.id a.trace a.count a.kind a.elements.now

-- ---- their bytes

-- the number of entries, and their bytes
abbrev pub entries_text : Entries → List ℕ
entries_text t = u2 t.count ++ t.bytes

-- the bytes of a constant or a static field
abbrev pub entry_text : EntryTold → List ℕ
entry_text e = e.key ++ u1 (type_code e.kind) ++ e.value

-- the bytes of the numbers of a class
abbrev pub head_text : IdSize → ClassHead → List ℕ
head_text ids h =
    id ids h.id ++ u4 h.trace ++ id ids h.super_id ++ id ids h.loader ++ id ids h.signers
    ++ id ids h.domain ++ id ids h.reserved ++ id ids h.also_reserved ++ u4 h.size

-- the bytes of a class after its tag: its numbers, constants, static fields and own fields
abbrev pub class_text : IdSize → ClassTold → List ℕ
class_text ids c =
    head_text ids c.head ++ entries_text c.constants ++ entries_text c.statics ++ entries_text c.fields

-- the bytes of a sub-record
abbrev pub sub_text : IdSize → Sub → List ℕ
sub_text ids (root tag x more) = u1 tag ++ id ids x ++ more
sub_text ids (class c) = u1 0x20 ++ class_text ids c
sub_text ids (instance x trace k values) =
    u1 0x21 ++ id ids x ++ u4 trace ++ id ids k ++ u4 (length values) ++ values
sub_text ids (array x trace count k elements) =
    u1 0x22 ++ id ids x ++ u4 trace ++ u4 count ++ id ids k ++ elements
sub_text ids (prim x trace count kind elements) =
    u1 0x23 ++ id ids x ++ u4 trace ++ u4 count ++ u1 (type_code kind) ++ elements

-- ---- what has such bytes

-- an entry has a key of this many bytes, and a value as wide as its kind
abbrev pub FitsEntry : IdSize → ℕ → EntryTold → Type 0
FitsEntry ids key e = (length e.key ≡ key) × (length e.value ≡ width_of ids e.kind)

-- the bytes are those of `t.count` entries with keys of `key` bytes
pub record AreEntries (ids : IdSize) (key : ℕ) (t : Entries) : Type 0 where
  pub count : t.count < 2 ^ 16
  pub list : List EntryTold
  pub counted : length list ≡ t.count
  pub spelled : flat_map entry_text list ≡ t.bytes
  pub each : AllByRecursion (FitsEntry ids key) list

-- the bytes are those of `t.count` fields: for each the id of its name, and its kind
abbrev pub AreFields : IdSize → Entries → Type 0
AreFields ids t = (t.count < 2 ^ 16) × (length t.bytes ≡ (id_bytes ids + 1) * t.count)

-- the numbers of a class fit in the bytes that they have there
pub record FitsHead (ids : IdSize) (h : ClassHead) : Type 0 where
  pub id : FitsId ids h.id
  pub trace : h.trace < 2 ^ 32
  pub super_id : FitsId ids h.super_id
  pub loader : FitsId ids h.loader
  pub signers : FitsId ids h.signers
  pub domain : FitsId ids h.domain
  pub reserved : FitsId ids h.reserved
  pub also_reserved : FitsId ids h.also_reserved
  pub size : h.size < 2 ^ 32

-- a class has bytes
pub record FitsClass (ids : IdSize) (c : ClassTold) : Type 0 where
  pub head : FitsHead ids c.head
  pub constants : AreEntries ids 2 c.constants
  pub statics : AreEntries ids (id_bytes ids) c.statics
  pub fields : AreFields ids c.fields

-- the numbers of a sub-record fit in the bytes that they have there, and as many bytes follow as they say
abbrev pub FitsSub : IdSize → Sub → Type 0
FitsSub ids (root tag x more) = (tag < 2 ^ 8) × FitsId ids x × (root_size ids tag ≡ Some (length more))
FitsSub ids (class c) = FitsClass ids c
FitsSub ids (instance x trace k values) =
    FitsId ids x × (trace < 2 ^ 32) × FitsId ids k × (length values < 2 ^ 32)
FitsSub ids (array x trace count k elements) =
    FitsId ids x × (trace < 2 ^ 32) × (count < 2 ^ 32) × FitsId ids k
    × (length elements ≡ id_bytes ids * count)
FitsSub ids (prim x trace count kind elements) =
    FitsId ids x × (trace < 2 ^ 32) × (count < 2 ^ 32)
    × (length elements ≡ width_of ids kind * count)
