use Rattle.std.proofs.Common.{get_or, ◌<◌, sym, subst, arith, length}
use Rattle.session_grammar.specs.Reads.{IsDigit, IsReadIn}
use Rattle.session_grammar.proofs.NumberDigits.{read_in_one, read_digits_are_number_then}
use Rattle.session_grammar.proofs.number.number_then.Goals as goal

pub returns-then-at-text-clause-number : goal.returns-then-at-text-clause-number
returns-then-at-text-clause-number c lt = absurd (omega (arith, lt))

pub returns-in-Some-clause-number : goal.returns-in-Some-clause-number
returns-in-Some-clause-number c =
    let t = c.args.text.now in
    let lt : c.args.at < length t = omega (arith, c.if-at-text.false) in
    let d : IsDigit (get_or t c.args.at 0) c.in-Some.digit = c.in-Some.ensures.0 in
    read_digits_are_number_then t c.args.at c.args.ender c.in-Some.digit 1 (subst (λ v. IsReadIn t c.args.at v 1) (sym d.1) (read_in_one t c.args.at lt d.0)) (λ e. omega (arith, e)) c.in-Some.ensures.1

pub returns-clause-number : goal.returns-clause-number
returns-clause-number c = read_digits_are_number_then c.args.text.now c.args.at c.args.ender c.digits_in-value.result.0 c.digits_in-value.result.1 c.digits_in-value.ensures c.if-size-eq0.false c.if-text-end.false
