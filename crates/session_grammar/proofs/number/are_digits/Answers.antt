use Rattle.std.proofs.Common.{◌≡◌, ◌∙◌, ◌≤◌, ℕ, true, sym, leb-true}
use Rattle.std.specs.Char.{is_ascii_digit}
use Rattle.std.proofs.lemmas.Bool.{and_parts}
use Rattle.session_grammar.proofs.number.are_digits.Goals as goal

in_range : (b : ℕ) → is_ascii_digit b ≡ true → (48 ≤ b) × (b ≤ 57)
in_range b e = let both = and_parts _ _ e in (leb-true 48 b both.0, leb-true b 57 both.1)

pub returns : goal.returns
returns c h =
    let abc = and_parts _ _ h in
    let ab = and_parts _ _ abc.0 in
    let a = and_parts _ _ ab.0 in (
      in_range c.args.a (sym c.is_ascii_digit.ensures.value ∙ a.0),
      in_range c.args.b (sym c.is_ascii_digit-2.ensures.value ∙ a.1),
      in_range c.args.c (sym c.is_ascii_digit-3.ensures.value ∙ ab.1),
      in_range c.args.d (sym c.is_ascii_digit-4.ensures.value ∙ abc.1),
    )
