use Rattle.std.proofs.Common.{◌≡◌, take}
use Rattle.std.specs.Prelude.{flat_map}
use Rattle.hprof_lines.specs.Objects.{objects_told}
use Rattle.hprof_pair.specs.Ways.{slot_ways}
use Rattle.hprof_pair.proofs.ways.put_ways_out.Given as goal

abbrev pub invariant-loop-value : goal.invariant-loop-value
invariant-loop-value l = l.ways.items ≡ flat_map (slot_ways (objects_told l.all) l.n) (take l.value-index l.values)
