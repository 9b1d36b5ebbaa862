use Rattle.std.specs.Prelude.{Some}
use Rattle.session_text.specs.Limits.{session_limits}
use Rattle.private_tasks.proofs.first_dump.load_dump.Given as goal

abbrev pub ghosts-run_dump : goal.ghosts-run_dump
ghosts-run_dump g l = record { start = Some l.commands; limits = session_limits l.request.settings.wide; time = l.request.settings.time }
