use Rattle.hprof_session.specs.Walks.{item_told}
use Rattle.hprof_plan.proofs.FoundTables.{class_noted, no_class}
use Rattle.hprof_plan.proofs.dump.note_class.Goals as goal

pub returns-in_ok-insert-in-Some : goal.returns-in_ok-insert-in-Some
returns-in_ok-insert-in-Some c = class_noted _ _ _ (item_told c.args.item) c.in_ok-insert-in-Some.ensures.entries c.in-Some.ensures

pub returns-in-None : goal.returns-in-None
returns-in-None c = no_class _ (item_told c.args.item) c.in-None.ensures
