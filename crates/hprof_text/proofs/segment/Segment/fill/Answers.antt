use Rattle.std.proofs.Common.{subst}
use Rattle.hprof_text.specs.Cursors.{IsRest}
use Rattle.hprof_text.proofs.NumberedPieces.{nothing_filled_at_end}
use Rattle.hprof_text.proofs.segment.Segment.fill.Goals as goal

pub returns-in-End-clause-filled : goal.returns-in-End-clause-filled
returns-in-End-clause-filled g c = λ rest r.
    let v = c.args.view.now in
    nothing_filled_at_end (g.V.View.ids v) (g.V.View.image v) (g.V.View.places v) rest c.args.self.now (subst (λ k. IsRest (g.V.View.ids v) (g.V.View.image v) (g.V.View.places v) k rest) c.in-End.is r)
