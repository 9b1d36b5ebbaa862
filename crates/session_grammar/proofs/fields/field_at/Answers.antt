use Rattle.std.proofs.Common.{◌∙◌, sym, refl}
use Rattle.session_grammar.proofs.NameBytes.{no_stop_no_field, other_stop_no_field, field_unkind, colon_and_kind_make_field}
use Rattle.session_grammar.proofs.fields.field_at.Goals as goal

pub returns-in_err-colon-clause-value : goal.returns-in_err-colon-clause-value
returns-in_err-colon-clause-value c = rw c.from_residual.ensures (no_stop_no_field c.args.text.now (sym c.in_err-colon.was ∙ c.colon_or_end.ensures.value))

pub returns-then-text-colon-ne-COLON-clause-value : goal.returns-then-text-colon-ne-COLON-clause-value
returns-then-text-colon-ne-COLON-clause-value c = other_stop_no_field c.args.text.now c.in_ok-colon.colon (sym c.in_ok-colon.was ∙ c.colon_or_end.ensures.value) c.if-text-colon-ne-COLON.true

pub returns-in_err-kind-clause-value : goal.returns-in_err-kind-clause-value
returns-in_err-kind-clause-value c =
    rw c.from_residual-in_err-kind.ensures (field_unkind c.args.text.now _ c.in_ok-colon.colon (sym c.in_ok-colon.was ∙ c.colon_or_end.ensures.value) c.if-text-colon-ne-COLON.false refl (sym c.in_err-kind.was ∙ c.kind_at.ensures.value))

pub returns-clause-value : goal.returns-clause-value
returns-clause-value c =
    colon_and_kind_make_field c.args.text.now _ c.in_ok-colon.colon c.in_ok-kind.size c.in_ok-kind.kind (sym c.in_ok-colon.was ∙ c.colon_or_end.ensures.value) c.if-text-colon-ne-COLON.false refl (sym c.in_ok-kind.was ∙ c.kind_at.ensures.value)
