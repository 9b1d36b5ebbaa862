use Rattle.std.proofs.Common.{ap}
use Rattle.std.specs.Prelude.{option_map}
use Rattle.clap.specs.Words.{found_of, rows_of}
use Rattle.heapdbg_options.specs.CommandLine.{fetch_in, has_secret}
use Rattle.heapdbg_options.specs.declared.settings.Task.TheVariants.{Fetch}
use Rattle.heapdbg_options.proofs.Mistakes.{mistake_is_handed_on}
use Rattle.heapdbg_options.proofs.socket_options.fetch_task.Goals as goal

pub returns-in_err-port : goal.returns-in_err-port
returns-in_err-port c =
    let rows = rows_of (found_of c.args.options.now) in
    mistake_is_handed_on (fetch_in rows) rows c.in_err-port.field-0.0 c.from_residual.result c.from_residual.ensures.1 (ap (option_map (λ port. Fetch port (has_secret rows))) c.in_err-port.ensures.1.0) c.in_err-port.ensures.1.1
