use Rattle.std.specs.Prelude.{Some}
use Rattle.session_text.specs.Limits.{session_limits}
use Rattle.private_tasks.proofs.second_dump.load_dumps.Given as goal

abbrev pub ghosts-run_dumps : goal.ghosts-run_dumps
ghosts-run_dumps g l = record { start = Some l.commands; limits = session_limits l.request.settings.wide; time = l.request.settings.time }
