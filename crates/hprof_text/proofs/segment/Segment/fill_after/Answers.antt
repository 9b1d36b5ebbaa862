use Rattle.hprof_text.specs.Text.{after, records_in}
use Rattle.hprof_text.proofs.NumberedPieces.{body_filled_to_end}
use Rattle.hprof_text.proofs.segment.Segment.fill_after.Goals as goal

pub returns-clause-filled : goal.returns-clause-filled
returns-clause-filled g c =
    let ids = g.V.View.ids c.args.view.now in
    let image = g.V.View.image c.args.view.now in
    body_filled_to_end ids image (g.V.View.places c.args.view.now) (records_in ids image (after c.args.section)) c.loop-next.next c.args.self.now c.loop-next.self c.in_default.is c.loop-next.invariant
