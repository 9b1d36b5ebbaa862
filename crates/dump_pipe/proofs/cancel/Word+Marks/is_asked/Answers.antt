use Rattle.std.proofs.Common.{Bool, sym, ap, ◌∙◌, arith}
use Rattle.dump_pipe.specs.Seats.{SeatState, flag}
use Rattle.dump_pipe.proofs.MeterSteps.{feed_side_looks_at_cancel}
use Rattle.dump_pipe.proofs.cancel.Word+Marks.is_asked.Goals as goal

pub load-requires : goal.load-requires
load-requires c = (ap (λ (s : SeatState Bool). s.meter) c.seat.view_is ∙ c.requires ∙ sym c.self.view_is, omega (arith, c.self.invariant), feed_side_looks_at_cancel _ _ (flag c.seat.inside.seat.me.0) _ c.seat.invariant)
