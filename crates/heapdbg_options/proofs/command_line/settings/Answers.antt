use Rattle.std.proofs.Common.{◌∙◌, ap, subst, sym}
use Rattle.std.specs.Prelude.{option_and_then}
use Rattle.clap.specs.Words.{subcommand_of}
use Rattle.heapdbg_options.specs.CommandLine.{heapdbg_line, settings_under, texts}
use Rattle.heapdbg_options.specs.Refusals.{IsMistake, said_of}
use Rattle.heapdbg_options.proofs.AskedSettings.{defaults_of, settings_within}
use Rattle.heapdbg_options.proofs.AskedTexts.{mistake_refuses, version_refuses}
use Rattle.heapdbg_options.proofs.command_line.settings.Goals as goal

pub returns-in-Ok-settings_of_matches-clause-limits : goal.returns-in-Ok-settings_of_matches-clause-limits
returns-in-Ok-settings_of_matches-clause-limits c =
    settings_within (subcommand_of heapdbg_line (texts c.args.words.now)) c.in-Ok-settings_of_matches.settings
    (ap (option_and_then settings_under) (sym c.in-Ok.ensures.ok) ∙ c.in-Ok-settings_of_matches.ensures.0)

pub returns-in-Ok-settings_of_matches-clause-defaults : goal.returns-in-Ok-settings_of_matches-clause-defaults
returns-in-Ok-settings_of_matches-clause-defaults c =
    defaults_of (texts c.args.words.now) c.in-Ok-settings_of_matches.settings
    (ap (option_and_then settings_under) (sym c.in-Ok.ensures.ok) ∙ c.in-Ok-settings_of_matches.ensures.0)

pub returns-then-is_version-clause-refused : goal.returns-then-is_version-clause-refused
returns-then-is_version-clause-refused c =
    version_refuses (texts c.args.words.now) c.version_by_command.result (sym c.is_version.ensures ∙ c.if-is_version.true) c.version_by_command.ensures

pub returns-clause-refused : goal.returns-clause-refused
returns-clause-refused c =
    let words = texts c.args.words.now in
    let found = c.in-Ok.ensures.ok in
    let mistaken = c.in-Err-settings_of_matches.ensures.1 in
    mistake_refuses words (said_of c.in-Err-settings_of_matches.mistake) c.refusal-in-Err-settings_of_matches.result (sym c.is_version.ensures ∙ c.if-is_version.false) c.in-Ok.ensures.faults
    (ap (option_and_then settings_under) (sym found) ∙ mistaken.0) (subst (λ f. IsMistake (said_of c.in-Err-settings_of_matches.mistake) f) found mistaken.1) c.refusal-in-Err-settings_of_matches.ensures
