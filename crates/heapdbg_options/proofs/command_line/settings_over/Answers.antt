use Rattle.std.proofs.Common.{◌≡◌, ◌∙◌, None, ap, codes, sym}
use Rattle.clap.specs.Words.{found_of, rows_of}
use Rattle.heapdbg_options.specs.CommandLine.{id_size_in, keep_in, option_size, questions_in, regions_in, rolls_in, settings_over, value_in}
use Rattle.heapdbg_options.specs.Numbers.{most_kept, most_regions, mutator_numbers, time_numbers}
use Rattle.heapdbg_options.proofs.AskedSettings.{settings_have_what_rows_tell}
use Rattle.heapdbg_options.proofs.Mistakes.{unread_part_is_handed_on}
use Rattle.heapdbg_options.proofs.command_line.settings_over.Goals as goal

pub returns-in_err-regions : goal.returns-in_err-regions
returns-in_err-regions c =
    let rows = rows_of (found_of c.args.options.now) in
    let none : regions_in c.args.task c.args.wide rows ≡ None = ap (λ default. option_size (codes "regions") default 1 (most_regions c.args.wide) rows) (sym c.regions_default.ensures) ∙ c.in_err-regions.ensures.1.0 in
    unread_part_is_handed_on (settings_over c.args.task rows c.args.wide c.args.quiet) (regions_in c.args.task c.args.wide rows) rows c.in_err-regions.field-0.0 c.from_residual.result (λ s made. (s.regions, (settings_have_what_rows_tell c.args.task rows c.args.wide c.args.quiet s made).3)) c.from_residual.ensures.1 none c.in_err-regions.ensures.1.1

pub returns-in_err-mutators : goal.returns-in_err-mutators
returns-in_err-mutators c =
    let rows = rows_of (found_of c.args.options.now) in
    unread_part_is_handed_on (settings_over c.args.task rows c.args.wide c.args.quiet) (value_in mutator_numbers rows) rows c.in_err-mutators.field-0.0 c.from_residual-in_err-mutators.result (λ s made. (s.mutators, (settings_have_what_rows_tell c.args.task rows c.args.wide c.args.quiet s made).4)) c.from_residual-in_err-mutators.ensures.1 c.in_err-mutators.ensures.1.0 c.in_err-mutators.ensures.1.1

pub returns-in_err-keep : goal.returns-in_err-keep
returns-in_err-keep c =
    let rows = rows_of (found_of c.args.options.now) in
    let none : keep_in c.args.task c.args.wide rows ≡ None = ap (λ default. option_size (codes "keep") default 1 (most_kept c.args.wide) rows) (sym c.keep_default.ensures) ∙ c.in_err-keep.ensures.1.0 in
    unread_part_is_handed_on (settings_over c.args.task rows c.args.wide c.args.quiet) (keep_in c.args.task c.args.wide rows) rows c.in_err-keep.field-0.0 c.from_residual-in_err-keep.result (λ s made. (s.keep, (settings_have_what_rows_tell c.args.task rows c.args.wide c.args.quiet s made).5)) c.from_residual-in_err-keep.ensures.1 none c.in_err-keep.ensures.1.1

pub returns-in_err-time : goal.returns-in_err-time
returns-in_err-time c =
    let rows = rows_of (found_of c.args.options.now) in
    unread_part_is_handed_on (settings_over c.args.task rows c.args.wide c.args.quiet) (value_in time_numbers rows) rows c.in_err-time.field-0.0 c.from_residual-in_err-time.result (λ s made. (s.time, (settings_have_what_rows_tell c.args.task rows c.args.wide c.args.quiet s made).6)) c.from_residual-in_err-time.ensures.1 c.in_err-time.ensures.1.0 c.in_err-time.ensures.1.1

pub returns-in_err-ids : goal.returns-in_err-ids
returns-in_err-ids c =
    let rows = rows_of (found_of c.args.options.now) in
    unread_part_is_handed_on (settings_over c.args.task rows c.args.wide c.args.quiet) (id_size_in rows) rows c.in_err-ids.field-0.0 c.from_residual-in_err-ids.result (λ s made. (s.ids, (settings_have_what_rows_tell c.args.task rows c.args.wide c.args.quiet s made).7)) c.from_residual-in_err-ids.ensures.1 c.in_err-ids.ensures.1.0 c.in_err-ids.ensures.1.1

pub returns-in_err-questions : goal.returns-in_err-questions
returns-in_err-questions c =
    let rows = rows_of (found_of c.args.options.now) in
    unread_part_is_handed_on (settings_over c.args.task rows c.args.wide c.args.quiet) (questions_in rows) rows c.in_err-questions.field-0.0 c.from_residual-in_err-questions.result (λ s made. (s.questions, (settings_have_what_rows_tell c.args.task rows c.args.wide c.args.quiet s made).8)) c.from_residual-in_err-questions.ensures.1 c.in_err-questions.ensures.1.0 c.in_err-questions.ensures.1.1

pub returns-in_err-rolls : goal.returns-in_err-rolls
returns-in_err-rolls c =
    let rows = rows_of (found_of c.args.options.now) in
    unread_part_is_handed_on (settings_over c.args.task rows c.args.wide c.args.quiet) (rolls_in rows) rows c.in_err-rolls.field-0.0 c.from_residual-in_err-rolls.result (λ s made. (s.rolls, (settings_have_what_rows_tell c.args.task rows c.args.wide c.args.quiet s made).9)) c.from_residual-in_err-rolls.ensures.1 c.in_err-rolls.ensures.1.0 c.in_err-rolls.ensures.1.1
