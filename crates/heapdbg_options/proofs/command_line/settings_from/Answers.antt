use Rattle.std.proofs.Common.{◌∙◌, ap}
use Rattle.std.specs.Prelude.{option_and_then}
use Rattle.clap.specs.Words.{found_of, rows_of}
use Rattle.heapdbg_options.specs.CommandLine.{quiet_in, settings_in, settings_over, with_area_in}
use Rattle.heapdbg_options.proofs.AskedSettings.{settings_tell_regions}
use Rattle.heapdbg_options.proofs.Mistakes.{mistake_is_handed_on}
use Rattle.heapdbg_options.proofs.command_line.settings_from.Goals as goal

pub settings_with_area-requires-clause-wide : goal.settings_with_area-requires-clause-wide
settings_with_area-requires-clause-wide c =
    (settings_tell_regions c.args.task (rows_of (found_of c.args.options.now)) c.in_ok-wide.wide c.in_ok-quiet.quiet c.in_ok-settings.settings c.in_ok-wide.ensures.0 c.in_ok-settings.ensures.0).0

pub settings_with_area-requires-clause-regions : goal.settings_with_area-requires-clause-regions
settings_with_area-requires-clause-regions c =
    (settings_tell_regions c.args.task (rows_of (found_of c.args.options.now)) c.in_ok-wide.wide c.in_ok-quiet.quiet c.in_ok-settings.settings c.in_ok-wide.ensures.0 c.in_ok-settings.ensures.0).1

pub returns-in_err-wide : goal.returns-in_err-wide
returns-in_err-wide c =
    let rows = rows_of (found_of c.args.options.now) in
    mistake_is_handed_on (settings_in c.args.task rows) rows c.in_err-wide.field-0.0 c.from_residual.result c.from_residual.ensures.1
    (ap (λ w. option_and_then (with_area_in rows) (option_and_then (λ wide. option_and_then (settings_over c.args.task rows wide) (quiet_in rows)) w)) c.in_err-wide.ensures.1.0) c.in_err-wide.ensures.1.1

pub returns-in_err-quiet : goal.returns-in_err-quiet
returns-in_err-quiet c =
    let rows = rows_of (found_of c.args.options.now) in
    mistake_is_handed_on (settings_in c.args.task rows) rows c.in_err-quiet.field-0.0 c.from_residual-in_err-quiet.result c.from_residual-in_err-quiet.ensures.1
    (ap (λ w. option_and_then (with_area_in rows) (option_and_then (λ wide. option_and_then (settings_over c.args.task rows wide) (quiet_in rows)) w)) c.in_ok-wide.ensures.0
    ∙ ap (λ q. option_and_then (with_area_in rows) (option_and_then (settings_over c.args.task rows c.in_ok-wide.wide) q)) c.in_err-quiet.ensures.1.0)
    c.in_err-quiet.ensures.1.1
