use Rattle.std.proofs.Common.{subst}
use Rattle.question_rows.specs.Histories.{IsEventThere}
use Rattle.question_rows.proofs.history.push_event.Goals as goal

pub push_class-requires : goal.push_class-requires
push_class-requires c = subst (IsEventThere c.args.classes.now) c.in-New.is c.requires
