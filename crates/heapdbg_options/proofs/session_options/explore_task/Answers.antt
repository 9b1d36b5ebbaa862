use Rattle.std.proofs.Common.{Err, Ok}
use Rattle.std.specs.Prelude.{option_map}
use Rattle.clap.specs.Words.{found_of, rows_of}
use Rattle.heapdbg_options.proofs.GivenOptions.{explore_task_from_rows, first_mistake_is_in_rows, second_task_from_rows}
use Rattle.heapdbg_options.proofs.session_options.explore_task.Goals as goal

pub returns-in-Ok : goal.returns-in-Ok
returns-in-Ok c =
    let first =
    explore_task_from_rows (found_of c.args.options.now) (option_map (λ s. s.now) c.get_str-from.result) (option_map (λ s. s.now) c.get_str-hprof.result) (option_map (λ s. s.now) c.get_str-page.result) (option_map (λ s. s.now) c.get_str-port.result) c.has_secret-secret.result (Ok c.in-Ok.task)
    (c.get_str-from.ensures, c.get_str-hprof.ensures, c.get_str-page.ensures, c.get_str-port.ensures) c.has_secret-secret.ensures (c.in-Ok.ensures)
    in
    second_task_from_rows (rows_of (found_of c.args.options.now)) c.in-Ok.task c.has_second.result c.second_task.result first.0 c.has_second.ensures c.second_task.ensures

pub returns-in-Err : goal.returns-in-Err
returns-in-Err c =
    first_mistake_is_in_rows (rows_of (found_of c.args.options.now)) c.in-Err.mistake
    (explore_task_from_rows (found_of c.args.options.now) (option_map (λ s. s.now) c.get_str-from.result) (option_map (λ s. s.now) c.get_str-hprof.result) (option_map (λ s. s.now) c.get_str-page.result) (option_map (λ s. s.now) c.get_str-port.result) c.has_secret-secret.result (Err c.in-Err.mistake)
    (c.get_str-from.ensures, c.get_str-hprof.ensures, c.get_str-page.ensures, c.get_str-port.ensures) c.has_secret-secret.ensures (c.in-Err.ensures))
