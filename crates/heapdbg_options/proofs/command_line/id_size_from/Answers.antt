use Rattle.std.proofs.Common.{◌≡◌, ◌∙◌, None, ap, sym}
use Rattle.std.specs.Prelude.{option_and_then}
use Rattle.clap.specs.Words.{found_of, rows_of}
use Rattle.heapdbg_options.specs.CommandLine.{id_size_in, id_size_of}
use Rattle.heapdbg_options.proofs.Mistakes.{id_mistake_is_in_rows, mistake_is_handed_on}
use Rattle.heapdbg_options.proofs.command_line.id_size_from.Goals as goal

pub returns-in-None : goal.returns-in-None
returns-in-None c =
    let rows = rows_of (found_of c.args.options.now) in
    let none : id_size_in rows ≡ None = ap (option_and_then id_size_of) c.in_ok-bytes.ensures.0 ∙ sym c.in-None.ensures in
    (tt, (none, id_mistake_is_in_rows rows none))

pub returns-in_err-bytes : goal.returns-in_err-bytes
returns-in_err-bytes c =
    let rows = rows_of (found_of c.args.options.now) in
    mistake_is_handed_on (id_size_in rows) rows c.in_err-bytes.field-0.0 c.from_residual.result c.from_residual.ensures.1 (ap (option_and_then id_size_of) c.in_err-bytes.ensures.1.0) c.in_err-bytes.ensures.1.1
