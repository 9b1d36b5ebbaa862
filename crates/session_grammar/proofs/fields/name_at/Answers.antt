use Rattle.std.proofs.Common.{◌<◌, ◌≤◌, ◌∙◌, Some, ap, sym, subst, length, get_or}
use Rattle.session_grammar.proofs.NameBytes.{bad_byte_in_name, name_to_space, name_to_end}
use Rattle.session_grammar.proofs.fields.name_at.Goals.{else-size-text-via-then-size-text+else-text-size-ne-SPACE, else-size-text-via-else-size-text}
use Rattle.session_grammar.proofs.fields.name_at.Goals as goal

pub returns-then-text-size-ne-SPACE-clause-value : goal.returns-then-text-size-ne-SPACE-clause-value
returns-then-text-size-ne-SPACE-clause-value c =
    let e = c.name_end-size.ensures.value in
    bad_byte_in_name c.args.text.now (subst (λ n. n < length c.args.text.now) e c.if-size-text.true) (λ is. c.if-text-size-ne-SPACE.true (ap (λ n. get_or c.args.text.now n 0) e ∙ is))

pub returns-clause-value : goal.returns-clause-value
returns-clause-value c =
    let e = c.name_end-size.ensures.value in
    elim c.else-size-text.branch [
      | else-size-text-via-then-size-text+else-text-size-ne-SPACE w ↦
          ap (λ n. Some n) e ∙ name_to_space c.args.text.now (subst (λ n. n < length c.args.text.now) e w.if-size-text.true) (ap (λ n. get_or c.args.text.now n 0) (sym e) ∙ w.if-text-size-ne-SPACE.false)
      | else-size-text-via-else-size-text w ↦ ap (λ n. Some n) e ∙ name_to_end c.args.text.now (subst (λ n. length c.args.text.now ≤ n) e w.if-size-text.false)
    ]
