use Rattle.std.proofs.Common.{◌<◌, length, arith}
use Rattle.session_text.proofs.QuickLines.{four_number_line_is_short, four_numbers_of_line_words}
use Rattle.session_text.proofs.short_lines.four_in.Goals as goal

pub returns-clause-line : goal.returns-clause-line
returns-clause-line c =
    let lt : c.number_then-d.result.1 < length c.args.text.now = omega (arith, c.number_then-d.ensures.within, c.if-end-text.false) in
    let h = c.three_then-a.ensures.numbers in
    four_number_line_is_short c.args.text.now c.args.at c.three_then-a.result.0 h.0 c.three_then-a.result.1 h.1 c.three_then-a.result.2 c.three_then-a.result.3 c.number_then-d.result.0 c.number_then-d.result.1 c.requires.0 c.requires.2 h.2 h.3 h.4 c.number_then-d.ensures.number lt

pub returns-clause-numbers : goal.returns-clause-numbers
returns-clause-numbers c =
    let lt : c.number_then-d.result.1 < length c.args.text.now = omega (arith, c.number_then-d.ensures.within, c.if-end-text.false) in
    let h = c.three_then-a.ensures.numbers in
    four_numbers_of_line_words c.args.text.now c.args.at c.three_then-a.result.0 h.0 c.three_then-a.result.1 h.1 c.three_then-a.result.2 c.three_then-a.result.3 c.number_then-d.result.0 c.number_then-d.result.1 h.2 h.3 h.4 c.number_then-d.ensures.number lt
