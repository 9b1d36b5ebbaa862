use Rattle.std.proofs.Common.{sym}
use Rattle.clap.specs.Words.{found_of, rows_of}
use Rattle.heapdbg_options.proofs.Mistakes.{port_mistake_is_in_rows}
use Rattle.heapdbg_options.proofs.socket_options.port.Goals as goal

pub returns-in-None : goal.returns-in-None
returns-in-None c =
    let none = sym c.in-None.ensures in
    (tt, (none, port_mistake_is_in_rows (rows_of (found_of c.args.options.now)) none))
