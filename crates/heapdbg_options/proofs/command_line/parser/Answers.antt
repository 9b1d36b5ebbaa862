use Rattle.heapdbg_options.specs.CommandLine.{heapdbg_line, named_line}
use Rattle.heapdbg_options.proofs.MadeParsers.{parser_of_rows_reads_line}
use Rattle.heapdbg_options.proofs.command_line.parser.Goals as goal

pub returns : goal.returns
returns c = parser_of_rows_reads_line heapdbg_line named_line _ c.commands-rows.result c.with_commands.result c.named_parser.ensures.app c.with_commands.ensures c.commands-rows.ensures
