use Rattle.std.proofs.Common.{sym}
use Rattle.clap.specs.Words.{found_of, rows_of}
use Rattle.heapdbg_options.specs.Numbers.{row_numbers}
use Rattle.heapdbg_options.proofs.Mistakes.{number_mistake_is_in_rows}
use Rattle.heapdbg_options.proofs.command_line.number_or.Goals as goal

pub returns-in-None : goal.returns-in-None
returns-in-None c =
    let none = sym c.in-None.ensures in
    (tt, (none, number_mistake_is_in_rows (row_numbers c.args.row) c.args.default (rows_of (found_of c.args.options.now)) c.requires none))
