use Rattle.std.proofs.Common.{◌≤◌, ◌∙◌, ◌==◌, length, subst, sym}
use Rattle.session_grammar.proofs.TextWords.{first_or_end, position_within_list_length}
use Rattle.session_grammar.proofs.words.word_size.Goals as goal

pub returns : goal.returns
returns c =
    let e = c.unwrap_or.ensures ∙ first_or_end (λ b. b == 32) c.args.text.now c.first_space.result c.first_space.ensures in
    record { value = e; within = subst (λ k. k ≤ length c.args.text.now) (sym e) (position_within_list_length (λ b. b == 32) c.args.text.now) }
