use Rattle.std.proofs.Common.{sym, arith}
use Rattle.std.specs.Map.{keys_of}
use Rattle.std.proofs.lemmas.Map.Entries.{length-keys_of}
use Rattle.hprof_plan.specs.Tables.{classes_told}
use Rattle.hprof_plan.proofs.Numbering.{no_numbers_if_full}
use Rattle.hprof_plan.proofs.dump_classes.plan_after_supers.Goals as goal

pub returns-then-len-room-clause-numbers : goal.returns-then-len-room-clause-numbers
returns-then-len-room-clause-numbers c =
    sym (no_numbers_if_full c.args.room (classes_told c.args.found.now.classes.entries) (keys_of c.args.planned.now.kinds.entries) _
    (omega (arith, c.if-len-room.true, c.len.ensures.value, c.requires.state.counted, length-keys_of c.args.planned.now.kinds.entries)))

pub returns-clause-numbers : goal.returns-clause-numbers
returns-clause-numbers c = rw (c.as_slice.ensures.value, c.reverse.ensures.items, c.in_ok-line.ensures) at c.plan_each.ensures.numbers
