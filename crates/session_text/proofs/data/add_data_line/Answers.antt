use Rattle.std.proofs.Common.{arith, ap, length, length-append, ℕ}
use Rattle.session_text.proofs.Sizes.{length-hex}
use Rattle.session_text.proofs.data.add_data_line.Goals as goal

pub add-requires-2 : goal.add-requires-2
add-requires-2 c = omega (arith, ap (λ l. length l) c.add.ensures, ap (λ l. length l) c.add_digits.ensures, length-append {A = ℕ}, length-hex c.args.bytes.now)
