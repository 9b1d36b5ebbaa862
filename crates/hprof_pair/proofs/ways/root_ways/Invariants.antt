use Rattle.std.proofs.Common.{◌≡◌, ◌≤◌, ◌++◌, drop}
use Rattle.hprof_lines.specs.Objects.{objects_told}
use Rattle.hprof_pair.specs.Ways.{root_ways}
use Rattle.hprof_pair.proofs.ways.root_ways.Given as goal

abbrev pub invariant-loop-tag : goal.invariant-loop-tag
invariant-loop-tag l = record {
  room : l.first ≤ 1024;
  left : l.ways.items ++ root_ways (objects_told l.all) l.roots l.first (drop l.tag-index l.tags) ≡ root_ways (objects_told l.all) l.roots 0 l.tags;
}
