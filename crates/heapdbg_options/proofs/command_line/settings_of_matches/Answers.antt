use Rattle.clap.specs.Words.{found_of, rows_of, subcommand_rows_of}
use Rattle.heapdbg_options.specs.Refusals.{said_of}
use Rattle.heapdbg_options.proofs.NamedTasks.{found_command_by_name_and_rows, settings_of_found_command, no_settings_of_mistaken_command}
use Rattle.heapdbg_options.proofs.command_line.settings_of_matches.Goals as goal

pub returns-in-Ok : goal.returns-in-Ok
returns-in-Ok c =
    settings_of_found_command (subcommand_rows_of c.args.matches.now) c.in-Some.name.now (rows_of (found_of c.in-Some.options.now)) c.in-Ok.task c.settings_from.result (found_command_by_name_and_rows _ _ _ c.in-Some.name.now (rows_of (found_of c.in-Some.options.now)) c.in-Some.ensures.name c.in-Some.ensures.rows) c.in-Ok.ensures.0 c.settings_from.ensures

pub returns-in-Err : goal.returns-in-Err
returns-in-Err c =
    (tt, no_settings_of_mistaken_command (subcommand_rows_of c.args.matches.now) c.in-Some.name.now (rows_of (found_of c.in-Some.options.now)) (said_of c.in-Err.mistake) (found_command_by_name_and_rows _ _ _ c.in-Some.name.now (rows_of (found_of c.in-Some.options.now)) c.in-Some.ensures.name c.in-Some.ensures.rows) c.in-Err.ensures.1)
