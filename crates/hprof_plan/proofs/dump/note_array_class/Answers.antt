use Rattle.hprof_plan.proofs.FoundTables.{key_noted, no_key}
use Rattle.hprof_plan.proofs.dump.note_array_class.Goals as goal

pub returns-in_ok-insert-in-Some : goal.returns-in_ok-insert-in-Some
returns-in_ok-insert-in-Some c = key_noted _ _ _ _ c.in_ok-insert-in-Some.ensures.keys c.in-Some.ensures

pub returns-in-None : goal.returns-in-None
returns-in-None c = no_key _ _ c.in-None.ensures
