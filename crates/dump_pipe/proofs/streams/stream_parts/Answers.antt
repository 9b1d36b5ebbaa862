use Rattle.std.proofs.Common.{subst}
use Rattle.crossbeam_channel.specs.Claims.{view}
use Rattle.dump_pipe.specs.Pipes.{list_of}
use Rattle.dump_pipe.specs.Streams.{MayStream}
use Rattle.dump_pipe.proofs.PipeSteps.{end_sides_merge, both_side_knows_order}
use Rattle.dump_pipe.proofs.StreamEnds.{fed_and_drained_is_streamed, fed_side_is_sending, drained_side_is_receiving}
use Rattle.dump_pipe.proofs.streams.stream_parts.Goals as goal

pub absorb-requires-clause-rule : goal.absorb-requires-clause-rule
absorb-requires-clause-rule g c =
    let n = c.pass_parts.new in
    let p = subst (MayStream (g.S.Source.seen c.args.source.now) (g.S.Source.seen n.source) (view n.known.one) (view n.known.other) (g.O.Outlet.seen c.args.outlet.now) (g.O.Outlet.seen n.outlet)) c.in-Some.is c.pass_parts.ensures.passed in
    end_sides_merge _ _ _ _ (fed_side_is_sending _ _ _ p.0.0 p.0.1) (drained_side_is_receiving _ _ _ c.in-Some.pumped p.1)

pub learn_as-requires-clause-rule : goal.learn_as-requires-clause-rule
learn_as-requires-clause-rule g c = both_side_knows_order _ _ (list_of (view c.pass_parts.new.known.one)) (list_of (view c.pass_parts.new.known.other)) c.absorb.ensures.rule

pub returns-clause-streamed : goal.returns-clause-streamed
returns-clause-streamed g c =
    let n = c.pass_parts.new in
    let p = subst (MayStream (g.S.Source.seen c.args.source.now) (g.S.Source.seen n.source) (view n.known.one) (view n.known.other) (g.O.Outlet.seen c.args.outlet.now) (g.O.Outlet.seen n.outlet)) c.in-Some.is c.pass_parts.ensures.passed in
    fed_and_drained_is_streamed _ _ _ _ (view n.known.one) (view n.known.other) _ p.0.0 c.in-Some.pumped c.learn_as.ensures.rule.0 p.0.1 p.1 c.absorb.ensures.rule c.learn_as.ensures.rule.1
