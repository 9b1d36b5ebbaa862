use Rattle.hprof_plan.proofs.FoundTables.{name_noted, no_entry}
use Rattle.hprof_plan.proofs.dump.note_name.Goals as goal

pub returns-in_ok-insert-in-Some : goal.returns-in_ok-insert-in-Some
returns-in_ok-insert-in-Some c = name_noted _ _ _ _ _ c.in_ok-insert-in-Some.ensures.entries c.in-Some.ensures

pub returns-in-None : goal.returns-in-None
returns-in-None c = no_entry _ _ c.in-None.ensures
