use Rattle.std.proofs.Common.{subst}
use Rattle.secret_word.specs.Words.{IsSecret}
use Rattle.secret_word.proofs.FirstLines.{first_is_word, bytes_without_line_feed_no_word}
use Rattle.secret_word.proofs.secret.Secret.line_size.Goals as goal

pub returns-in_default : goal.returns-in_default
returns-in_default c = bytes_without_line_feed_no_word c.args.self.now c.args.bytes.now c.in_default.ensures

pub returns-else-is_word : goal.returns-else-is_word
returns-else-is_word c rest behind =
    let secret = subst IsSecret c.self.view_is c.self.invariant.word in
    let line = c.without_cr.result.now in
    let is = first_is_word c.in-Some.end c.args.self.now c.args.bytes.now line c.in-Some.ensures c.without_cr.ensures secret rest behind in
    cc (c.if-is_word.ensures.1 is, c.if-is_word.false)
