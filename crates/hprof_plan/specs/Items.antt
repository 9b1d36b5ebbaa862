-- What an item of a walk over a dump tells: a name, a class, an object or a root.
use Rattle.std.specs.Prelude.{ℕ, ◌==◌, List, drop, take, length, nat_lt, cond, Option, Some, None, option_map, option_and_then}
use Rattle.std.specs.Int.{w32, w64, from_be_bytes}
use Rattle.heap_class.specs.declared.IdSize.{IdSize}
use Rattle.heap_class.specs.declared.IdSize.TheVariants.{Four, Eight}
use Rattle.hprof_reader.specs.SubRecords.{ClassTold, root, class, instance, array, prim}
use Rattle.hprof_session.specs.Walks.{ItemTold, record_told, sub_told}
use Rattle.hprof_plan.specs.declared.items.RootFound.{RootFound}

-- a number of 4 bytes, the highest first, and the bytes after it
abbrev pub four_parts : List ℕ → Option (ℕ × List ℕ)
four_parts bytes = cond (nat_lt (length bytes) 4) None (Some (from_be_bytes w32 (take 4 bytes), drop 4 bytes))

-- a number of 8 bytes, the highest first, and the bytes after it
abbrev pub eight_parts : List ℕ → Option (ℕ × List ℕ)
eight_parts bytes = cond (nat_lt (length bytes) 8) None (Some (from_be_bytes w64 (take 8 bytes), drop 8 bytes))

-- an identifier, and the bytes after it
abbrev pub id_parts : IdSize → List ℕ → Option (ℕ × List ℕ)
id_parts Four bytes = four_parts bytes
id_parts Eight bytes = eight_parts bytes

-- the name in a STRING IN UTF8 01, with its id: the id, and then the bytes
abbrev pub name_of : IdSize → ItemTold → Option (ℕ × List ℕ)
name_of ids (record_told r) = cond (r.tag == 0x01) (id_parts ids r.body) None
name_of ids (sub_told s) = None

-- the id of a class and the id of its name: 4 bytes stand before each
abbrev pub load_parts : IdSize → List ℕ → Option (ℕ × ℕ)
load_parts ids bytes =
    option_and_then (λ x. option_map (λ y. (x.0, y.0)) (id_parts ids (drop 4 x.1))) (id_parts ids (drop 4 bytes))

-- the id of a class with the id of its name, in a LOAD CLASS 02
abbrev pub load_of : IdSize → ItemTold → Option (ℕ × ℕ)
load_of ids (record_told r) = cond (r.tag == 0x02) (load_parts ids r.body) None
load_of ids (sub_told s) = None

-- a class
abbrev pub class_of : ItemTold → Option ClassTold
class_of (sub_told (class c)) = Some c
class_of _ = None

-- the class of an array of references
abbrev pub array_class_of : ItemTold → Option ℕ
array_class_of (sub_told (array x trace count k elements)) = Some k
array_class_of _ = None

-- the id of an object
abbrev pub object_of : ItemTold → Option ℕ
object_of (sub_told (instance x trace k values)) = Some x
object_of (sub_told (array x trace count k elements)) = Some x
object_of (sub_told (prim x trace count kind elements)) = Some x
object_of _ = None

-- a root
abbrev pub root_of : ItemTold → Option RootFound
root_of (sub_told (root tag x more)) = Some (record { tag = tag; id = x })
root_of _ = None

-- a class, by its id
abbrev pub class_entry : ItemTold → Option (ℕ × ClassTold)
class_entry i = option_map (λ (c : ClassTold). (c.head.id, c)) (class_of i)
