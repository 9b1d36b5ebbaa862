use Rattle.std.proofs.Common.{◌<◌, length, arith}
use Rattle.session_text.proofs.QuickLines.{one_number_line_is_short, one_number_of_line_words}
use Rattle.session_text.proofs.short_lines.one_in.Goals as goal

pub returns-clause-line : goal.returns-clause-line
returns-clause-line c =
    let lt : c.number_then-n.result.1 < length c.args.text.now = omega (arith, c.number_then-n.ensures.within, c.if-end-text.false) in
    one_number_line_is_short c.args.text.now c.args.at c.number_then-n.result.0 c.number_then-n.result.1 c.requires.0 c.requires.2 c.number_then-n.ensures.number lt

pub returns-clause-number : goal.returns-clause-number
returns-clause-number c =
    let lt : c.number_then-n.result.1 < length c.args.text.now = omega (arith, c.number_then-n.ensures.within, c.if-end-text.false) in
    one_number_of_line_words c.args.text.now c.args.at c.number_then-n.result.0 c.number_then-n.result.1 c.number_then-n.ensures.number lt
