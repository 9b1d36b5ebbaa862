-- What reads a command line, step by step.
use Rattle.std.proofs.Common.{◌≡◌, ◌∙◌, ◌++◌, ◌<◌, ◌+◌, ◌∷◌, ◌||◌, [], ℕ, Err, IfOk, List, Ok, Result, ap, false, get_or, length, map, refl, subst, sym, take}
use Rattle.std.proofs.lemmas.List.{take_more}
use Rattle.std.specs.declared.alloc.AllocError.{AllocError}
use Rattle.clap.specs.Words.{AddsArg, AddsSubcommand, App, app_of, rule_of, with_rule, with_subcommand}
use Rattle.clap.specs.declared.builder.arg.Arg.{Arg}
use Rattle.clap.specs.declared.builder.Command.{Command}
use Rattle.clap.specs.declared.builder.Command.TheViews.{out-Command}
use Rattle.heapdbg_options.specs.Parsers.{AddsCommand, IsParserOf, line_of_row, rule_of_row, with_command_rows, with_rules}
use Rattle.heapdbg_options.specs.declared.option_rows.CommandRow.{CommandRow}
use Rattle.heapdbg_options.specs.declared.option_rows.OptionRow.{OptionRow}

-- the last option of some
last_option_rule_added : (line : App) (rows : List OptionRow) (row : OptionRow) → with_rules line (map rule_of_row (rows ++ row ∷ [])) ≡ with_rule (with_rules line (map rule_of_row rows)) (rule_of_row row)
last_option_rule_added line [] row = refl
last_option_rule_added line (first ∷ rows) row = last_option_rule_added (with_rule line (rule_of_row first)) rows row

-- one option more
pub one_option_rule_more_added : (line : App) (rows : List OptionRow) (i : ℕ) (d : OptionRow) (old new : Command) (option : Arg) → i < length rows → AddsArg old option new
    → rule_of option ≡ rule_of_row (get_or rows i d) → option.global ≡ false → app_of old ≡ with_rules line (map rule_of_row (take i rows)) → (out-Command old).has_globals ≡ false
    → (app_of new ≡ with_rules line (map rule_of_row (take (i + 1) rows))) × ((out-Command new).has_globals ≡ false)
one_option_rule_more_added line rows i d old new option within adds rule local was free =
    let taken = ap (λ l. with_rules line (map rule_of_row l)) (take_more rows i d within) ∙ last_option_rule_added line (take i rows) (get_or rows i d) in (
      adds.shape local ∙ ap (λ l. with_rule l (rule_of option)) was ∙ ap (λ r. with_rule (with_rules line (map rule_of_row (take i rows))) r) rule ∙ sym taken,
      adds.globals ∙ ap (λ b. b || option.global) free ∙ local,
    )

-- the last command of some
last_command : (line : App) (rows : List CommandRow) (row : CommandRow) → with_command_rows line (rows ++ row ∷ []) ≡ with_subcommand (with_command_rows line rows) (line_of_row row).top
last_command line [] row = refl
last_command line (first ∷ rows) row = last_command (with_subcommand line (line_of_row first).top) rows row

-- the command of a line
pub adds_command : (line : App) (old command : Command) (result : Result Command AllocError) → IfOk result (λ r. AddsSubcommand old command r) → app_of command ≡ line → (out-Command command).has_globals ≡ false
    → IfOk result (λ r. AddsCommand line old r)
adds_command line old command (Ok new) adds reads local = (
  adds.shape local ∙ ap (λ (a : App). with_subcommand (app_of old) a.top) reads,
  λ free. adds.globals ∙ ap (λ b. b || (out-Command command).has_globals) free ∙ local,
)
adds_command line old command (Err error) adds reads local = tt

-- one command more
pub more_commands : (line : App) (rows : List CommandRow) (i : ℕ) (d : CommandRow) (old new : Command) → i < length rows → AddsCommand (line_of_row (get_or rows i d)) old new
    → app_of old ≡ with_command_rows line (take i rows) → (out-Command old).has_globals ≡ false → (app_of new ≡ with_command_rows line (take (i + 1) rows)) × ((out-Command new).has_globals ≡ false)
more_commands line rows i d old new within adds was free =
    let taken = ap (λ l. with_command_rows line l) (take_more rows i d within) ∙ last_command line (take i rows) (get_or rows i d) in
    (adds.0 ∙ ap (λ l. with_subcommand l (line_of_row (get_or rows i d)).top) was ∙ sym taken, adds.1 free)

-- what reads the commands of these rows reads a line, where that is the line of the rows
pub parser_of_rows_reads_line : (line named old : App) (rows : List CommandRow) (result : Result Command AllocError) → old ≡ named → IsParserOf (with_command_rows old rows) result → with_command_rows named rows ≡ line → IsParserOf line result
parser_of_rows_reads_line line named old rows result is made whole = subst (λ l. IsParserOf l result) (ap (λ a. with_command_rows a rows) is ∙ whole) made
