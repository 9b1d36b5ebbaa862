use Rattle.heapdbg_options.specs.CommandLine.{texts}
use Rattle.heapdbg_options.proofs.GivenOptions.{matches_tell_subcommand_rows, simple_faults}
use Rattle.heapdbg_options.proofs.command_line.parse.Goals as goal

pub returns-clause-ok : goal.returns-clause-ok
returns-clause-ok c = matches_tell_subcommand_rows _ c.try_get_matches_from.result (texts c.args.words.now) c.in_ok-parser.ensures.0 c.try_get_matches_from.ensures.matches

pub returns-clause-faults : goal.returns-clause-faults
returns-clause-faults c = simple_faults _ c.try_get_matches_from.result (texts c.args.words.now) c.in_ok-parser.ensures.0 c.try_get_matches_from.ensures.kinds
