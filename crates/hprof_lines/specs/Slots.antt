-- The values of the slots of objects.
use Rattle.std.specs.Prelude.{ℕ, zero, suc, ◌-◌, nat_eq, min, List, [], ◌++◌, length, slice_get, Option, Some, None}
use Rattle.std.specs.Option.{option_map_or}
use Rattle.heap_class.specs.declared.IdSize.{IdSize}
use Rattle.heap_class.specs.declared.Kind.{Kind}
use Rattle.heap_class.specs.Classes.{fields_of, slots_of, sup_of}
use Rattle.indexmap.specs.IndexMap.{index_of}
use Rattle.hprof_reader.specs.SubRecords.{Sub, instance, array, prim}
use Rattle.hprof_plan.specs.declared.planning.Plan.{Plan}
use Rattle.hprof_lines.specs.declared.values.SlotValue.{SlotValue}
use Rattle.hprof_lines.specs.Values.{elements_from, fields_from, after_fields}

-- the kinds of the own fields of class k in its record
abbrev pub kinds_of : Plan → ℕ → List Kind
kinds_of p k = option_map_or (λ e. e.1.items) (slice_get p.kinds.entries k) []

-- the first slot of the own fields of class k, in an instance of class c, of which k is this or one above: own fields stand
-- before those of the super
abbrev pub base_of : Plan → ℕ → ℕ → ℕ
base_of p c k = length (slots_of p.classes c) - length (slots_of p.classes k)

-- the values of an instance of class c, of the fields of class `at` and of at most n classes in all: its own fields first, then
-- its super's, and so on
unfoldable pub values_up : Plan → IdSize → ℕ → ℕ → Option ℕ → List ℕ → List SlotValue
values_up p ids c zero at bytes = []
values_up p ids c (suc n) None bytes = []
values_up p ids c (suc n) (Some k) bytes =
    fields_from ids (length (fields_of p.classes k)) (base_of p c k) 0 (kinds_of p k) bytes
    ++ values_up p ids c n (sup_of p.classes k) (after_fields ids (kinds_of p k) bytes)

-- the values of an instance of class c
abbrev pub instance_values : Plan → IdSize → ℕ → List ℕ → List SlotValue
instance_values p ids c bytes = values_up p ids c (length p.classes) (Some c) bytes

-- the values of the slots of an object that are kept
unfoldable pub object_values : Plan → IdSize → Sub → List SlotValue
object_values p ids (instance x trace k bytes) =
    option_map_or (λ c. instance_values p ids c bytes) (index_of nat_eq p.kinds k) []
object_values p ids (array x trace count k bytes) = elements_from ids Kind.Object (min count p.elements) 0 bytes
object_values p ids (prim x trace count kind bytes) = elements_from ids kind (min count p.elements) 0 bytes
object_values p ids _ = []
