use Rattle.private_tasks.proofs.first_lines.load.Goals as goal

pub returns-in-Ok-loaded-clause-run : goal.returns-in-Ok-loaded-clause-run
returns-in-Ok-loaded-clause-run g c =
    (c.in-Ok-loaded.field-0, rw c.session_limits-limits.ensures at c.in-Ok-loaded.ensures)
