use Rattle.clap.specs.Words.{found_of, rows_of}
use Rattle.heapdbg_options.specs.CommandLine.{flag_in}
use Rattle.heapdbg_options.specs.Numbers.{row_numbers}
use Rattle.heapdbg_options.proofs.Mistakes.{mistake_is_handed_on, unread_number_is_no_flag}
use Rattle.heapdbg_options.proofs.command_line.flag_from.Goals as goal

pub returns-in_err-number : goal.returns-in_err-number
returns-in_err-number c =
    let rows = rows_of (found_of c.args.options.now) in
    let name = c.args.row.name.now in
    mistake_is_handed_on (flag_in name rows) rows c.in_err-number.field-0.0 c.from_residual.result c.from_residual.ensures.1 (unread_number_is_no_flag (row_numbers c.args.row) name rows c.requires.flag c.in_err-number.ensures.1.0) c.in_err-number.ensures.1.1
