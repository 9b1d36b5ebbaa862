use Rattle.std.proofs.Common.{refl}
use Rattle.std.proofs.lemmas.Bool.{and_parts}
use Rattle.session_grammar.proofs.number.first_eight.Goals as goal

pub returns-else-not-are_digits : goal.returns-else-not-are_digits
returns-else-not-are_digits c =
    let both = and_parts _ _ c.if-not-are_digits.false in
    (c.in-len8-up.len_at_least, c.are_digits.ensures both.0, c.are_digits-in-len8-up.ensures both.1, rw (c.four_value-front.ensures, c.four_value.ensures) refl)
