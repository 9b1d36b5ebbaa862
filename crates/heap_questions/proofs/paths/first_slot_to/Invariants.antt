use Rattle.hprof_text.specs.Image.{DumpedObject}
use Rattle.heap_questions.proofs.WaysBack.{NoneBefore}
use Rattle.heap_questions.proofs.paths.first_slot_to.Given as goal

abbrev pub invariant-loop-slot : goal.invariant-loop-slot
invariant-loop-slot l = let o : DumpedObject = record { id = 0; kind = l.kind; words = l.words } in NoneBefore l.classes l.id o l.slot
