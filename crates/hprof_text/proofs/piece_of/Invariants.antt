use Rattle.hprof_text.specs.Cursors.{IsAt}
use Rattle.hprof_text.proofs.piece_of.Given as goal

abbrev pub invariant-loop-passed : goal.invariant-loop-passed
invariant-loop-passed g l = IsAt (g.V.View.ids l.view) (g.V.View.image l.view) (g.V.View.places l.view) l.cursor l._passed
