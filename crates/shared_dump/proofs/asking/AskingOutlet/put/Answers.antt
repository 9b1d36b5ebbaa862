use Rattle.std.proofs.Common.{ap, inl, inr}
use Rattle.dump_pipe.specs.Seats.{SeatState}
use Rattle.shared_dump.proofs.GuardAsks.{asked_more}
use Rattle.shared_dump.proofs.asking.AskingOutlet.put.Goals as goal

pub invariant_of-self : goal.invariant_of-self
invariant_of-self g c =
    let i = c.self.invariant in
    let s = c.self.inside in
    (ap (λ (a : SeatState _). a.meter) c.ask.ensures, i.1, asked_more g.G.DumpGuard.says g.B.AskStart.guard s.to.guard c.is_over.new.self c.is_over.result s.asker.known c.ask.new.seat.known i.2 c.is_over.ensures (λ t. inr c.if-is_over.true))

pub invariant_of-self-else-is_over : goal.invariant_of-self-else-is_over
invariant_of-self-else-is_over g c =
    let i = c.self.invariant in
    let s = c.self.inside in
    (i.0, i.1, asked_more g.G.DumpGuard.says g.B.AskStart.guard s.to.guard c.is_over.new.self c.is_over.result s.asker.known s.asker.known i.2 c.is_over.ensures (λ t. inl t))
