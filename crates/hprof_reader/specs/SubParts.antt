-- Sub-records, read from the front of bytes.
use Rattle.std.specs.Prelude.{ℕ, ◌*◌, ◌==◌, List, Result, Err, Option, Some, None, if◌then◌else◌}
use Rattle.std.specs.Int.{w8, w32}
use Rattle.heap_class.specs.declared.IdSize.{IdSize}
use Rattle.heap_class.specs.declared.Kind.{Kind}
use Rattle.heap_class.specs.Kinds.{id_bytes, width_of}
use Rattle.hprof_reader.specs.declared.class_dumps.ClassHead.{ClassHead}
use Rattle.hprof_reader.specs.declared.fault.Fault.{Fault}
use Rattle.hprof_reader.specs.declared.fault.Fault.TheVariants as faults
use Rattle.hprof_reader.specs.Entries.{table_parts, fields_table_parts}
use Rattle.hprof_reader.specs.Kinds.{kind_parts}
use Rattle.hprof_reader.specs.Reading.{◌>>=◌, read_in_turn, made, number_at, taken_at, id_width}
use Rattle.hprof_reader.specs.SubRecords.{Sub, ClassTold, Entries, root, class, instance, array, prim}
use Rattle.hprof_reader.specs.SubSizes.{root_size}

-- an identifier
abbrev pub id_at : IdSize → List ℕ → Result (ℕ × List ℕ) Fault
id_at ids bytes = number_at (id_width ids) bytes

-- a number of 4 bytes
abbrev pub four_at : List ℕ → Result (ℕ × List ℕ) Fault
four_at bytes = number_at w32 bytes

-- ---- roots

abbrev pub root_fields : IdSize → ℕ → List ℕ → Result ((ℕ × List ℕ) × List ℕ) Fault
root_fields ids size bytes = read_in_turn (id_at ids) (λ x. taken_at size) bytes

abbrev pub made_root : ℕ → ℕ × List ℕ → Sub
made_root tag x = root tag x.0 x.1

-- a root of this tag with `size` bytes after its id
unfoldable pub root_parts : IdSize → ℕ → ℕ → List ℕ → Result (Sub × List ℕ) Fault
root_parts ids tag size bytes = made (made_root tag) (root_fields ids size bytes)

-- ---- instances

abbrev pub instance_fields : IdSize → List ℕ → Result ((ℕ × (ℕ × (ℕ × (ℕ × List ℕ)))) × List ℕ) Fault
instance_fields ids bytes =
    read_in_turn (id_at ids)
    (λ x. read_in_turn four_at (λ trace. read_in_turn (id_at ids) (λ k. read_in_turn four_at (λ size. taken_at size)))) bytes

abbrev pub made_instance : ℕ × (ℕ × (ℕ × (ℕ × List ℕ))) → Sub
made_instance x = instance x.0 x.1.0 x.1.1.0 x.1.1.1.1

-- what follows the tag of an instance
unfoldable pub instance_parts : IdSize → List ℕ → Result (Sub × List ℕ) Fault
instance_parts ids bytes = made made_instance (instance_fields ids bytes)

-- ---- arrays

abbrev pub array_fields : IdSize → List ℕ → Result ((ℕ × (ℕ × (ℕ × (ℕ × List ℕ)))) × List ℕ) Fault
array_fields ids bytes =
    read_in_turn (id_at ids)
    (λ x. read_in_turn four_at
    (λ trace. read_in_turn four_at (λ count. read_in_turn (id_at ids) (λ k. taken_at (id_bytes ids * count))))) bytes

abbrev pub made_array : ℕ × (ℕ × (ℕ × (ℕ × List ℕ))) → Sub
made_array x = array x.0 x.1.0 x.1.1.0 x.1.1.1.0 x.1.1.1.1

-- what follows the tag of an array of references
unfoldable pub array_parts : IdSize → List ℕ → Result (Sub × List ℕ) Fault
array_parts ids bytes = made made_array (array_fields ids bytes)

abbrev pub prim_fields : IdSize → List ℕ → Result ((ℕ × (ℕ × (ℕ × (Kind × List ℕ)))) × List ℕ) Fault
prim_fields ids bytes =
    read_in_turn (id_at ids)
    (λ x. read_in_turn four_at
    (λ trace. read_in_turn four_at (λ count. read_in_turn kind_parts (λ kind. taken_at (width_of ids kind * count))))) bytes

abbrev pub made_prim : ℕ × (ℕ × (ℕ × (Kind × List ℕ))) → Sub
made_prim x = prim x.0 x.1.0 x.1.1.0 x.1.1.1.0 x.1.1.1.1

-- what follows the tag of an array of values
unfoldable pub prim_parts : IdSize → List ℕ → Result (Sub × List ℕ) Fault
prim_parts ids bytes = made made_prim (prim_fields ids bytes)

-- ---- classes

-- nine numbers, of which the second and the last have 4 bytes and each other is an identifier
abbrev pub NineNumbers : Type 0
NineNumbers = ℕ × (ℕ × (ℕ × (ℕ × (ℕ × (ℕ × (ℕ × (ℕ × ℕ)))))))

abbrev pub class_numbers : IdSize → List ℕ → Result (NineNumbers × List ℕ) Fault
class_numbers ids bytes =
    read_in_turn (id_at ids) (λ a. read_in_turn four_at (λ b. read_in_turn (id_at ids) (λ c. read_in_turn (id_at ids)
    (λ d. read_in_turn (id_at ids) (λ e. read_in_turn (id_at ids) (λ f. read_in_turn (id_at ids) (λ g. read_in_turn (id_at ids)
    (λ h. four_at)))))))) bytes

abbrev pub made_head : NineNumbers → ClassHead
made_head x = record {
  id = x.0;
  trace = x.1.0;
  super_id = x.1.1.0;
  loader = x.1.1.1.0;
  signers = x.1.1.1.1.0;
  domain = x.1.1.1.1.1.0;
  reserved = x.1.1.1.1.1.1.0;
  also_reserved = x.1.1.1.1.1.1.1.0;
  size = x.1.1.1.1.1.1.1.1;
}

-- the numbers of a class
unfoldable pub class_head_parts : IdSize → List ℕ → Result (ClassHead × List ℕ) Fault
class_head_parts ids bytes = made made_head (class_numbers ids bytes)

abbrev pub class_fields : IdSize → List ℕ → Result ((ClassHead × (Entries × (Entries × Entries))) × List ℕ) Fault
class_fields ids bytes =
    read_in_turn (class_head_parts ids)
    (λ head. read_in_turn (table_parts ids 2)
    (λ constants. read_in_turn (table_parts ids (id_bytes ids)) (λ statics. fields_table_parts ids))) bytes

abbrev pub made_class : ClassHead × (Entries × (Entries × Entries)) → ClassTold
made_class x = record { head = x.0; constants = x.1.0; statics = x.1.1.0; fields = x.1.1.1 }

-- what follows the tag of a class
unfoldable pub class_parts : IdSize → List ℕ → Result (ClassTold × List ℕ) Fault
class_parts ids bytes = made made_class (class_fields ids bytes)

-- the same as a sub-record
unfoldable pub class_sub_parts : IdSize → List ℕ → Result (Sub × List ℕ) Fault
class_sub_parts ids bytes = made class (class_parts ids bytes)

-- ---- sub-records

-- what follows this tag, which no root has
abbrev pub rootless_parts : IdSize → ℕ → List ℕ → Result (Sub × List ℕ) Fault
rootless_parts ids tag bytes =
    if tag == 0x20 then class_sub_parts ids bytes
    else (if tag == 0x21 then instance_parts ids bytes
    else (if tag == 0x22 then array_parts ids bytes
    else (if tag == 0x23 then prim_parts ids bytes else Err faults.Tag)))

-- what follows this tag, of a root with `size` bytes after its id, or of no root
abbrev pub tagged_parts : IdSize → ℕ → Option ℕ → List ℕ → Result (Sub × List ℕ) Fault
tagged_parts ids tag (Some size) bytes = root_parts ids tag size bytes
tagged_parts ids tag None bytes = rootless_parts ids tag bytes

-- what follows this tag
abbrev pub after_tag : IdSize → ℕ → List ℕ → Result (Sub × List ℕ) Fault
after_tag ids tag bytes = tagged_parts ids tag (root_size ids tag) bytes

-- a sub-record
unfoldable pub sub_parts : IdSize → List ℕ → Result (Sub × List ℕ) Fault
sub_parts ids bytes = do
  tag ← number_at w8 bytes
  after_tag ids tag.0 tag.1
