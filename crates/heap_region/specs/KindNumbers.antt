-- The numbers that a cell keeps of kinds and sorts.
use Rattle.std.specs.Prelude.{ℕ, ◌==◌, if◌then◌else◌}
use Rattle.heap_class.specs.declared.Kind.{Kind}
use Rattle.heap_class.specs.declared.Kind.TheVariants.{Boolean, Char, Float, Double, Byte, Short, Int, Long}
use Rattle.heap_region.specs.declared.cell.Sort.{Sort}
use Rattle.heap_region.specs.declared.cell.Sort.TheVariants.{Free, Instance, Array, Prim}

-- the number of a kind
abbrev pub kind_number : Kind → ℕ
kind_number Kind.Object = 0
kind_number Boolean = 1
kind_number Char = 2
kind_number Float = 3
kind_number Double = 4
kind_number Byte = 5
kind_number Short = 6
kind_number Int = 7
kind_number Long = 8

-- the kind that has a number, Object if none has it
abbrev pub kind_numbered : ℕ → Kind
kind_numbered n =
    if n == 1
    then Boolean
    else if n == 2
    then Char
    else if n == 3
    then Float
    else if n == 4
    then Double
    else if n == 5
    then Byte
    else if n == 6
    then Short
    else if n == 7
    then Int
    else if n == 8
    then Long
    else Kind.Object

-- the number of a sort
abbrev pub sort_number : Sort → ℕ
sort_number Free = 0
sort_number Instance = 1
sort_number Array = 2
sort_number Prim = 3

-- the sort that has a number, Prim if no other has it
abbrev pub sort_numbered : ℕ → Sort
sort_numbered n =
    if n == 0
    then Free
    else if n == 1
    then Instance
    else if n == 2
    then Array
    else Prim
