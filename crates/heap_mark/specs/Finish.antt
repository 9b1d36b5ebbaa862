-- For proofs: the end of a cycle for one object, and its undoing.
use Rattle.std.specs.Prelude.{true, false}
use Rattle.heap_region.specs.Regions.{Object}

-- an object after the end of a cycle: live if it was marked, and unmarked
abbrev pub finished_object : Object → Object
finished_object o = record o { live = o.mark; mark = false }

-- an object after the undoing of that: marked if it was live, and live
abbrev pub unfinished_object : Object → Object
unfinished_object o = record o { live = true; mark = o.live }
