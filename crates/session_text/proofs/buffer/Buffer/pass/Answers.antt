use Rattle.std.proofs.Common.{◌∙◌, ap, subst, length, ◌≤◌, sym, drop, arith}
use Rattle.session_text.proofs.Lists.{drop_window}
use Rattle.session_text.proofs.buffer.Buffer.pass.Goals as goal

pub returns : goal.returns
returns c =
    let i = c.self.inside in
    drop_window i.bytes.items i.start i.end c.args.n (omega (arith, c.self.invariant.0)) c.self.invariant.1 (subst (λ l. c.args.n ≤ length l) (sym c.self.view_is) c.requires) ∙ ap (λ l. drop c.args.n l) c.self.view_is
