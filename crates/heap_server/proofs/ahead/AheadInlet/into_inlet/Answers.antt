use Rattle.std.proofs.Common.{subst}
use Rattle.heap_server.specs.Ahead.{IsSeenBehind}
use Rattle.heap_server.proofs.AheadSeen.{inlet_seen_behind_session}
use Rattle.heap_server.proofs.ahead.AheadInlet.into_inlet.Goals as goal

pub returns : goal.returns
returns g c =
    let start = g.B.AheadOrigin.start in
    let last = g.I.Inlet.seen c.self.inside.inlet in
    subst (λ s. IsSeenBehind start.bytes start.failed start.first last s.seen) c.self.view_is
    (inlet_seen_behind_session c.self.inside.start start.bytes start.failed start.first last _ c.self.invariant.2)
