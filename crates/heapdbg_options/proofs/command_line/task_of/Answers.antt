use Rattle.std.proofs.Common.{◌∙◌, inr, refl}
use Rattle.clap.specs.Words.{found_of, rows_of}
use Rattle.heapdbg_options.specs.CommandLine.{ask_in, explore_in, fetch_in, save_in, serve_in}
use Rattle.heapdbg_options.proofs.NamedTasks.{IsLate, names_ask, names_draw, names_explore, names_fetch, other_name_names_no_task, run_name_names_run, names_save, names_serve, command_task_by_name_and_rows}
use Rattle.heapdbg_options.proofs.command_line.task_of.Goals as goal

pub returns-then-eq : goal.returns-then-eq
returns-then-eq c = (run_name_names_run c.args.name.now (rows_of (found_of c.args.options.now)) c.if-eq.ensures ∙ c.run_task.ensures, tt)

pub returns-then-eq-2 : goal.returns-then-eq-2
returns-then-eq-2 c =
    let rows = rows_of (found_of c.args.options.now) in
    command_task_by_name_and_rows explore_in c.args.name.now rows c.explore_task.result (names_explore c.args.name.now rows c.if-eq.ensures c.if-eq-2.ensures) c.explore_task.ensures

pub returns-then-eq-3 : goal.returns-then-eq-3
returns-then-eq-3 c = (names_draw c.args.name.now (rows_of (found_of c.args.options.now)) c.if-eq.ensures c.if-eq-2.ensures c.if-eq-3.ensures ∙ c.draw_task.ensures, tt)

pub returns-then-eq-4 : goal.returns-then-eq-4
returns-then-eq-4 c =
    let rows = rows_of (found_of c.args.options.now) in
    command_task_by_name_and_rows save_in c.args.name.now rows c.save_task.result (names_save c.args.name.now rows c.if-eq.ensures c.if-eq-2.ensures c.if-eq-3.ensures c.if-eq-4.ensures) c.save_task.ensures

pub returns-then-eq-5 : goal.returns-then-eq-5
returns-then-eq-5 c =
    let rows = rows_of (found_of c.args.options.now) in
    let late : IsLate c.args.name.now = (c.if-eq.ensures, c.if-eq-2.ensures, c.if-eq-3.ensures, c.if-eq-4.ensures) in
    command_task_by_name_and_rows serve_in c.args.name.now rows c.serve_task.result (names_serve c.args.name.now rows late c.if-eq-5.ensures) c.serve_task.ensures

pub returns-then-eq-6 : goal.returns-then-eq-6
returns-then-eq-6 c =
    let rows = rows_of (found_of c.args.options.now) in
    let late : IsLate c.args.name.now = (c.if-eq.ensures, c.if-eq-2.ensures, c.if-eq-3.ensures, c.if-eq-4.ensures) in
    command_task_by_name_and_rows ask_in c.args.name.now rows c.ask_task.result (names_ask c.args.name.now rows late c.if-eq-5.ensures c.if-eq-6.ensures) c.ask_task.ensures

pub returns-then-eq-7 : goal.returns-then-eq-7
returns-then-eq-7 c =
    let rows = rows_of (found_of c.args.options.now) in
    let late : IsLate c.args.name.now = (c.if-eq.ensures, c.if-eq-2.ensures, c.if-eq-3.ensures, c.if-eq-4.ensures) in
    command_task_by_name_and_rows fetch_in c.args.name.now rows c.fetch_task.result (names_fetch c.args.name.now rows late c.if-eq-5.ensures c.if-eq-6.ensures c.if-eq-7.ensures) c.fetch_task.ensures

pub returns-else-eq-7 : goal.returns-else-eq-7
returns-else-eq-7 c =
    let rows = rows_of (found_of c.args.options.now) in
    let late : IsLate c.args.name.now = (c.if-eq.ensures, c.if-eq-2.ensures, c.if-eq-3.ensures, c.if-eq-4.ensures) in
    let none = other_name_names_no_task c.args.name.now rows late c.if-eq-5.ensures c.if-eq-6.ensures c.if-eq-7.ensures in
    (tt, (none.0, inr (refl, none.1)))
