use Rattle.std.proofs.Common.{◌≤◌, ◌∙◌, length, subst, sym}
use Rattle.std.specs.Prelude.{not}
use Rattle.std.specs.Char.{is_ascii_graphic}
use Rattle.session_grammar.proofs.TextWords.{first_or_end, position_within_list_length}
use Rattle.session_grammar.proofs.fields.name_end.Goals as goal

pub returns : goal.returns
returns c =
    let e = c.unwrap_or.ensures ∙ first_or_end (λ b. not (is_ascii_graphic b)) c.args.text.now c.first_bad.result c.first_bad.ensures in
    record { value = e; within = subst (λ k. k ≤ length c.args.text.now) (sym e) (position_within_list_length (λ b. not (is_ascii_graphic b)) c.args.text.now) }
