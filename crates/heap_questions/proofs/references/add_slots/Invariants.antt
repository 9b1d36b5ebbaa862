use Rattle.std.proofs.Common.{◌≡◌, ◌++◌}
use Rattle.hprof_text.specs.Image.{DumpedObject}
use Rattle.heap_questions.specs.Referrers.{names_at}
use Rattle.heap_questions.specs.declared.references.Referrer.TheVariants.{Slot}
use Rattle.heap_questions.proofs.Passing.{passing}
use Rattle.heap_questions.proofs.references.add_slots.Given as goal

abbrev pub invariant-loop-slot : goal.invariant-loop-slot
invariant-loop-slot l = let o : DumpedObject = record { id = l.object; kind = l.kind; words = l.words } in l.all.items ≡ l.fn.all.items ++ passing (names_at l.classes l.id o) (Slot l.object) l.slot
