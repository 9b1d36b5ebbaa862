use Rattle.std.proofs.Common.{◌≡◌, None, refl, sym}
use Rattle.clap.specs.Words.{found_of, rows_of}
use Rattle.heapdbg_options.specs.CommandLine.{serve_in}
use Rattle.heapdbg_options.proofs.Mistakes.{mistake_is_handed_on}
use Rattle.heapdbg_options.proofs.socket_options.serve_task.Goals as goal

pub returns-in_err-port : goal.returns-in_err-port
returns-in_err-port c =
    let rows = rows_of (found_of c.args.options.now) in
    let none : serve_in rows ≡ None = rw (c.in_err-port.ensures.1.0) refl in
    mistake_is_handed_on (serve_in rows) rows c.in_err-port.field-0.0 c.from_residual.result c.from_residual.ensures.1 none c.in_err-port.ensures.1.1

pub returns-in_err-sessions : goal.returns-in_err-sessions
returns-in_err-sessions c =
    let rows = rows_of (found_of c.args.options.now) in
    let none : serve_in rows ≡ None = rw (c.in_ok-port.ensures.0, c.in_err-sessions.ensures.1.0) refl in
    mistake_is_handed_on (serve_in rows) rows c.in_err-sessions.field-0.0 c.from_residual-in_err-sessions.result c.from_residual-in_err-sessions.ensures.1 none c.in_err-sessions.ensures.1.1

pub returns-in_err-workers : goal.returns-in_err-workers
returns-in_err-workers c =
    let rows = rows_of (found_of c.args.options.now) in
    let none : serve_in rows ≡ None = rw (c.in_ok-port.ensures.0, c.in_ok-sessions.ensures.0, c.in_err-workers.ensures.1.0) refl in
    mistake_is_handed_on (serve_in rows) rows c.in_err-workers.field-0.0 c.from_residual-in_err-workers.result c.from_residual-in_err-workers.ensures.1 none c.in_err-workers.ensures.1.1

pub returns-in_err-idle : goal.returns-in_err-idle
returns-in_err-idle c =
    let rows = rows_of (found_of c.args.options.now) in
    let dumps = sym c.in-Some.ensures in
    let page = sym c.in-Some-page.ensures in
    let none : serve_in rows ≡ None = rw (c.in_ok-port.ensures.0, c.in_ok-sessions.ensures.0, c.in_ok-workers.ensures.0, dumps, page, c.in_err-idle.ensures.1.0) refl in
    mistake_is_handed_on (serve_in rows) rows c.in_err-idle.field-0.0 c.from_residual-in_err-idle.result c.from_residual-in_err-idle.ensures.1 none c.in_err-idle.ensures.1.1

pub returns-in_err-stays : goal.returns-in_err-stays
returns-in_err-stays c =
    let rows = rows_of (found_of c.args.options.now) in
    let dumps = sym c.in-Some.ensures in
    let page = sym c.in-Some-page.ensures in
    let none : serve_in rows ≡ None = rw (c.in_ok-port.ensures.0, c.in_ok-sessions.ensures.0, c.in_ok-workers.ensures.0, dumps, page, c.in_ok-idle.ensures.0, c.in_err-stays.ensures.1.0) refl in
    mistake_is_handed_on (serve_in rows) rows c.in_err-stays.field-0.0 c.from_residual-in_err-stays.result c.from_residual-in_err-stays.ensures.1 none c.in_err-stays.ensures.1.1
