use Rattle.std.proofs.Common.{◌<◌, length, arith}
use Rattle.session_text.proofs.QuickLines.{two_number_line_is_short, two_numbers_of_line_words}
use Rattle.session_text.proofs.short_lines.two_in.Goals as goal

pub returns-clause-line : goal.returns-clause-line
returns-clause-line c =
    let lt : c.number_then-b.result.1 < length c.args.text.now = omega (arith, c.number_then-b.ensures.within, c.if-end-text.false) in
    two_number_line_is_short c.args.text.now c.args.at c.number_then-a.result.0 c.number_then-a.result.1 c.number_then-b.result.0 c.number_then-b.result.1 c.requires.0 c.requires.2 c.number_then-a.ensures.number c.number_then-b.ensures.number lt

pub returns-clause-numbers : goal.returns-clause-numbers
returns-clause-numbers c =
    let lt : c.number_then-b.result.1 < length c.args.text.now = omega (arith, c.number_then-b.ensures.within, c.if-end-text.false) in
    two_numbers_of_line_words c.args.text.now c.args.at c.number_then-a.result.0 c.number_then-a.result.1 c.number_then-b.result.0 c.number_then-b.result.1 c.number_then-a.ensures.number c.number_then-b.ensures.number lt
