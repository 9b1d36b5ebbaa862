use Rattle.clap.specs.Words.{found_of, subcommand_rows_of}
use Rattle.heapdbg_options.specs.CommandLine.{texts}
use Rattle.heapdbg_options.proofs.GivenOptions.{path_option_of_words}
use Rattle.heapdbg_options.proofs.command_line.path_option.Goals as goal

pub returns-in-Some : goal.returns-in-Some
returns-in-Some c = path_option_of_words c.args.name.now (subcommand_rows_of c.in-Ok.matches) (found_of c.in-Some.options.now) c.get_str.result (texts c.args.words.now) c.in-Some.ensures.rows c.in-Ok.ensures.ok c.get_str.ensures
