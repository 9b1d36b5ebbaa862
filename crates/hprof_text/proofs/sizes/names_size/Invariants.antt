use Rattle.std.proofs.Common.{◌≡◌, ◌≤◌, ◌*◌, take}
use Rattle.std.specs.Prelude.{sum_by}
use Rattle.heap_class.specs.Classes.{name_table}
use Rattle.hprof_text.specs.Sizes.{utf8_size, utf8_size_limit}
use Rattle.hprof_text.proofs.sizes.names_size.Given as goal

abbrev pub invariant-loop-index : goal.invariant-loop-index
invariant-loop-index l = (l.size ≡ sum_by (utf8_size l.ids) (take l.index (name_table l.classes))) × (l.size ≤ l.index * utf8_size_limit)
