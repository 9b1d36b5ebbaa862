use Rattle.std.proofs.Common.{sym, true≢false}
use Rattle.hprof_plan.proofs.Numbering.{id_nth}
use Rattle.hprof_plan.proofs.dump_classes.class_id.Goals as goal

pub returns-in-Some : goal.returns-in-Some
returns-in-Some c = id_nth c.args.found.now.classes.entries c.args.i c.in-Some.id.now c.in-Some._dump.now c.in-Some.ensures.entry

pub returns-in-None : goal.returns-in-None
returns-in-None c = absurd (true≢false (sym (c.in-None.ensures.found.1 c.requires)))
