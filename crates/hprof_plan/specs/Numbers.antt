-- Which classes of a dump have a number.
use Rattle.std.specs.Prelude.{ℕ, zero, suc, ◌&&◌, nat_eq, nat_lt, is_some, List, [], ◌∷◌, flat_map, fold, length, reverse, take, if◌then◌else◌}
use Rattle.std.specs.Map.{keys_of, lookup}
use Rattle.std.specs.Option.{option_map_or}
use Rattle.indexmap.specs.IndexSet.{insert_all as insert_keys, insert_key}
use Rattle.hprof_reader.specs.SubRecords.{ClassTold}

-- the ids of a class, of its super, of the super of that, and so on: the first n, up to the first that isn't in the dump
unfoldable pub upwards : List (ℕ × ClassTold) → ℕ → ℕ → List ℕ
upwards classes zero id = []
upwards classes (suc n) id =
    option_map_or (λ c. id ∷ upwards classes n c.head.super_id) (lookup (nat_eq id) classes) []

-- the ids of the classes that have a number, in the order of their numbers: the classes of the dump in order, each once and
-- after its supers, as many as there is room for
unfoldable pub numbered : ℕ → List (ℕ × ClassTold) → List ℕ
numbered room classes =
    take room (insert_keys nat_eq [] (flat_map (λ id. reverse (upwards classes room id)) (keys_of classes)))

-- ---- one after another

-- the ids of classes that have a number, and this one, if there is room and the class is in the dump
abbrev pub with_number : ℕ → List (ℕ × ClassTold) → List ℕ → ℕ → List ℕ
with_number room classes ids id =
    if nat_lt (length ids) room && is_some (lookup (nat_eq id) classes) then insert_key nat_eq ids id else ids

-- the same with these, one after another
unfoldable pub with_numbers : ℕ → List (ℕ × ClassTold) → List ℕ → List ℕ → List ℕ
with_numbers room classes ids more = fold (with_number room classes) ids more
