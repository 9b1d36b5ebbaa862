use Rattle.std.proofs.Common.{subst, sym}
use Rattle.session_lines.specs.Lines.{AreLines}
use Rattle.session_lines.proofs.MoreLines.{one_more_line}
use Rattle.session_lines.proofs.lines.Lines.push.Goals as goal

pub invariant_of-self : goal.invariant_of-self
invariant_of-self c = subst AreLines (sym c.in-Ok.ensures) (one_more_line c.self.inside.text.items c.args.event.now c.self.invariant c.requires)
