use Rattle.std.proofs.Common.{sym, subst}
use Rattle.dump_pipe.specs.Streams.{IsStreamed}
use Rattle.dump_pipe.specs.BatchedSources.{batched_supply}
use Rattle.dump_pipe.proofs.BatchStreams.{pumped_batches_pump_their_parts}
use Rattle.dump_pipe.proofs.batch_streams.stream_by.Goals as goal

pub returns-clause-streamed : goal.returns-clause-streamed
returns-clause-streamed g c =
    let p = c.stream_parts-pumped.new.source in
    let w = g.O.Outlet.seen c.args.outlet.now in
    let w' = g.O.Outlet.seen c.stream_parts-pumped.new.outlet in
    let r = c.stream_parts-pumped.result in
    subst (λ s. IsStreamed (g.S.Source.seen c.args.source) (g.S.Source.seen s) w w' r) (sym c.into_source.ensures.source)
    (pumped_batches_pump_their_parts g.B.PartsBefore.told (g.S.Source.seen c.args.source) (g.S.Source.seen p.source) p.given p.ended p.surplus w w' r c.requires.start c.into_source.ensures.batches
    (subst (λ v. IsStreamed (batched_supply v.given v.ended v.surplus (g.S.Source.seen v.source).left) (batched_supply p.given p.ended p.surplus (g.S.Source.seen p.source).left) w w' r) c.new-batches.ensures c.stream_parts-pumped.ensures.streamed))
