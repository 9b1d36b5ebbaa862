use Rattle.std.proofs.Common.{◌∙◌, ap, sym, unwrap_or}
use Rattle.std.proofs.lemmas.Result.{err_from_is_err_and}
use Rattle.session_grammar.specs.Grammar.{words_of_line}
use Rattle.session_grammar.specs.declared.command.Command.TheVariants.{Bad}
use Rattle.session_grammar.proofs.Plain.{text_without_words_is_blank, text_read_by_plain_rules, text_takes_memory_of_line}
use Rattle.session_grammar.proofs.command.command_of_text.Goals as goal

pub returns-in_default : goal.returns-in_default
returns-in_default c = text_without_words_is_blank c.args.text.now (ap words_of_line (sym c.new-words.ensures) ∙ c.in_default.ensures.next)

pub returns-in_err-line_after : goal.returns-in_err-line_after
returns-in_err-line_after c =
    let same = text_read_by_plain_rules c.args.text.now c.in-Some.word.now (words_of_line c.next_word.new.self) (ap words_of_line (sym c.new-words.ensures) ∙ c.in-Some.ensures.next) in
    let p = err_from_is_err_and c.from_residual.result c.from_residual.ensures.1 in
    rw p.1 (text_takes_memory_of_line c.args.text.now _ same c.in_err-line_after.ensures)

pub returns : goal.returns
returns c =
    let same = text_read_by_plain_rules c.args.text.now c.in-Some.word.now (words_of_line c.next_word.new.self) (ap words_of_line (sym c.new-words.ensures) ∙ c.in-Some.ensures.next) in
    c.unwrap_or.ensures ∙ ap (λ o. unwrap_or o Bad) c.in_ok-line_after.ensures ∙ same
