use Rattle.std.proofs.Common.{◌≡◌, ◌++◌, take}
use Rattle.std.specs.Prelude.{flat_map}
use Rattle.question_rows.specs.SlotWrites.{write_line}
use Rattle.question_rows.proofs.slot_writes.push_writes.Given as goal

abbrev pub invariant-loop-write : goal.invariant-loop-write
invariant-loop-write l = l.text.items ≡ l.fn.text.items ++ flat_map (write_line l.refers) (take l.write-index l.writes)
