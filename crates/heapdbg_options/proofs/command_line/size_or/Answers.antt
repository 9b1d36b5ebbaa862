use Rattle.std.proofs.Common.{sym}
use Rattle.clap.specs.Words.{found_of, rows_of}
use Rattle.heapdbg_options.specs.Numbers.{row_numbers, row_numbers_in}
use Rattle.heapdbg_options.proofs.Mistakes.{size_mistake_is_in_rows}
use Rattle.heapdbg_options.proofs.command_line.size_or.Goals as goal

pub returns-in-None : goal.returns-in-None
returns-in-None c =
    (tt, size_mistake_is_in_rows c.args.wide (row_numbers_in c.args.wide c.args.row) (row_numbers c.in_heap-row.result) c.args.default (rows_of (found_of c.args.options.now)) c.in_heap-row.ensures c.requires.wide c.requires.size (sym c.in-None.ensures))
