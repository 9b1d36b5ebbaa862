-- The worked example: the lines of a session, and what is written for them.
use Rattle.std.specs.Prelude.{ℕ, List, ◌++◌, codes}
use Rattle.heap_class.specs.declared.IdSize.TheVariants.{Eight}
use Rattle.heap_trail.specs.Machine.{Machine, opening_machine}
use Rattle.heap_world.specs.Limits.{narrow_limits}

-- the machine that a program makes by default: ids of 8 bytes, 16 regions, 2 mutators, and 1,024 records kept
abbrev pub default_machine : Machine
default_machine = opening_machine narrow_limits Eight 16 2 1024

-- a point is made, and one of its slots is written; then the heap is dumped
abbrev pub point_lines : List ℕ
point_lines = codes "class Point - x:int y:int\nnew 0 0 0\nput 0 0 0 7\ndump -\n"

-- what the three steps answer
abbrev pub step_answers : List ℕ
step_answers = codes "ok class 0\nok object 0x10000000\nok\n"

-- the dump up to its segment: the header, the names, the class and the stack trace
abbrev pub opening_lines : List ℕ
opening_lines =
    codes "data 4a4156412050524f46494c4520312e302e320000000008000000000000000001"
    ++ codes "000000000000000d0000000000000001506f696e740100000000000000090000\n"
    ++ codes "data 0000000000027801000000000000000900000000000000037902000000000000"
    ++ codes "0018000000010000000000100000000000010000000000000001050000000000\n"
    ++ codes "data 00000c000000010000000000000000\n"

-- its segment, with the class, its root, the point, and the root of the register
abbrev pub segment_lines : List ℕ
segment_lines =
    codes "data 1c000000000000008c2000000000001000000000000100000000000000000000"
    ++ codes "0000000000000000000000000000000000000000000000000000000000000000\n"
    ++ codes "data 0000000000000000000800000000000200000000000000020a00000000000000"
    ++ codes "030a050000000000100000210000000010000000000000010000000000100000\n"
    ++ codes "data 000000080000000700000000ff0000000010000000\n"

-- its end, and the number of its bytes
abbrev pub end_lines : List ℕ
end_lines = codes "data 2c0000000000000000\nok dump 301\n"

-- all that is written
abbrev pub point_answers : List ℕ
point_answers = step_answers ++ opening_lines ++ segment_lines ++ end_lines
