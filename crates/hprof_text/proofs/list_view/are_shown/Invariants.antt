use Rattle.std.proofs.Common.{take}
use Rattle.std.specs.Prelude.{All}
use Rattle.hprof_text.specs.HeapLists.{IsListable}
use Rattle.hprof_text.proofs.list_view.are_shown.Given as goal

abbrev pub invariant-loop-object : goal.invariant-loop-object
invariant-loop-object l = All (IsListable l.classes) (take l.object-index l.objects)
