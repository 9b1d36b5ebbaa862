use Rattle.std.proofs.Common.{◌+◌, arith}
use Rattle.session_text.proofs.QuickDigits.{digit_number_in_whole_text}
use Rattle.session_text.proofs.short_lines.three_then.Goals as goal

pub returns-in-Some-clause-numbers : goal.returns-in-Some-clause-numbers
returns-in-Some-clause-numbers c =
    let t = c.args.text.now in
    let at = c.args.at in
    let h = c.in-Some.ensures in (
      at + 1,
      at + 3,
      digit_number_in_whole_text t at 0 at 32 (at + 1) _ (omega arith) (omega arith) c.requires h.0,
      digit_number_in_whole_text t at 2 (at + 1 + 1) 32 (at + 3) _ (omega arith) (omega arith) c.requires h.1,
      digit_number_in_whole_text t at 4 (at + 3 + 1) c.args.ender (at + 5) _ (omega arith) (omega arith) c.requires h.2,
    )

pub returns-clause-numbers : goal.returns-clause-numbers
returns-clause-numbers c = (c.number_then-a.result.1, c.number_then-b.result.1, c.number_then-a.ensures.number, c.number_then-b.ensures.number, c.number_then-c.ensures.number)
