-- The numbers of a second dump's objects in a heap that has those of a first.
use Rattle.std.specs.Prelude.{ℕ, ◌+◌, ◌-◌, ◌^◌, ◌&&◌, Bool, false, nat_eq, nat_lt, List, length, position, Option, Some, None, option_map, option_and_then, if◌then◌else◌}
use Rattle.std.specs.List.{list_any}
use Rattle.std.specs.Option.{option_map_or}
use Rattle.hprof_lines.specs.declared.values.SlotValue.{SlotValue}
use Rattle.hprof_lines.specs.Objects.{names_object, number_of}
use Rattle.hprof_lines.specs.Passes.{id_of}
use Rattle.hprof_pair.specs.declared.pair.Pair.{Pair}
use Rattle.hprof_pair.specs.declared.shapes.Shape.{Shape}
use Rattle.hprof_pair.specs.Dumps.{DumpTold, count_of, dump_told, is_static, shape_of, sub_of}
use Rattle.hprof_pair.specs.Shapes.{class_in, is_same_shape, shape_in}

-- what is known of two dumps: their objects, the numbers in the heap of the second one's classes, and the numbers of the objects of
-- the first that are found again
pub record PairTold : Type 0 where
  pub first : DumpTold
  pub second : DumpTold
  pub classes : List (Option ℕ)
  pub found : List ℕ

abbrev pub pair_told : Pair → PairTold
pair_told p = record {
  first = dump_told p.first;
  second = dump_told p.second;
  classes = p.classes.now;
  found = p.found.now.keys;
}

-- class and size in the heap of object n of the second dump, if it can be made
abbrev pub second_shape : PairTold → ℕ → Option Shape
second_shape p n = option_and_then (shape_in p.classes) (shape_of p.second n)

-- the number of the object of static fields of the first dump whose class has this number in the heap
abbrev pub static_number : DumpTold → ℕ → ℕ
static_number d k = k - length d.all.plan.kinds.entries

-- the number of the object with this id in a dump
abbrev pub id_number : DumpTold → ℕ → Option ℕ
id_number d x = option_map (λ i. length d.all.statics + i) (position (nat_eq x) d.all.objects)

-- the number of the object of the first dump that object n of the second may be: that of static fields of this class, or that with
-- this id
unfoldable pub like_number : PairTold → ℕ → Option ℕ
like_number p n =
    if is_static p.second n then option_map (static_number p.first) (class_in p.classes (length p.second.all.plan.kinds.entries + n))
    else option_and_then (λ s. option_and_then (id_number p.first) (id_of s)) (sub_of p.second n)

-- whether object m of the first dump is found again and has this class and size
abbrev pub is_like : PairTold → Shape → ℕ → Bool
is_like p shape m = list_any (nat_eq m) p.found && option_map_or (is_same_shape shape) (shape_of p.first m) false

-- the same number, if it passes a test
abbrev pub number_if : (ℕ → Bool) → ℕ → Option ℕ
number_if test m = if test m then Some m else None

-- the number of the object of the first dump that object n of the second is, if it stayed: with its id, class and size
unfoldable pub stayed : PairTold → ℕ → Option ℕ
stayed p n =
    option_and_then (λ shape. option_and_then (number_if (is_like p shape)) (like_number p n)) (second_shape p n)

-- a number behind those of the first dump, if there is a place for such an object
abbrev pub fresh_number : PairTold → ℕ → Option ℕ
fresh_number p n = number_if (λ k. nat_lt k (2 ^ 22)) (count_of p.first + n)

-- the number in the heap of object n of the second dump, if it stayed or is made
unfoldable pub heap_number : PairTold → ℕ → Option ℕ
heap_number p n = option_map_or (λ m. Some m) (stayed p n) (option_and_then (λ shape. fresh_number p n) (second_shape p n))

-- the number in the heap of the object with this id in the second dump
abbrev pub named_number : PairTold → ℕ → Option ℕ
named_number p x = option_and_then (heap_number p) (number_of p.second.all x)

-- the number of the object that a slot names in the first dump
abbrev pub first_named : PairTold → SlotValue → Option ℕ
first_named p v = if names_object v then number_of p.first.all v.value else None

-- the number in the heap of the object that a slot names in the second
abbrev pub second_named : PairTold → SlotValue → Option ℕ
second_named p v = if names_object v then named_number p v.value else None
