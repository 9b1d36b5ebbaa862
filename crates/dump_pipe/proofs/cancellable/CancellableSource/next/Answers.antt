use Rattle.std.proofs.Common.{Bool, ap, ◌∙◌}
use Rattle.dump_pipe.specs.Seats.{SeatState}
use Rattle.dump_pipe.proofs.CancellableSources.{cancellable_part_passes, cancellable_source_is_cancelled}
use Rattle.dump_pipe.proofs.cancellable.CancellableSource.next.Goals as goal

pub returns-then-is_asked-clause-next : goal.returns-then-is_asked-clause-next
returns-then-is_asked-clause-next g c = cancellable_source_is_cancelled (g.S.Source.seen c.args.self.now.source) c.args.self.now.seat.known c.is_asked.new.seat.known (ap (λ (s : SeatState Bool). s.known) c.is_asked.ensures.found ∙ c.if-is_asked.true)

pub next-requires : goal.next-requires
next-requires g c = c.requires

pub returns-clause-next : goal.returns-clause-next
returns-clause-next g c = cancellable_part_passes (g.S.Source.seen c.args.self.now.source) (g.S.Source.seen c.next.new.self) c.args.self.now.seat.known c.is_asked.new.seat.known c.next.result (ap (λ (s : SeatState Bool). s.known) c.is_asked.ensures.found ∙ c.if-is_asked.false) c.next.ensures.next
