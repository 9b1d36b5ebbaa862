use Rattle.std.proofs.Common.{ℕ, sym, ap, ◌∙◌, arith}
use Rattle.dump_pipe.specs.Seats.{SeatState, count_of_seat}
use Rattle.dump_pipe.proofs.MeterSteps.{read_side_reads_meter}
use Rattle.dump_pipe.proofs.progress.Word+Sums.read.Goals as goal

pub load-requires : goal.load-requires
load-requires c = (ap (λ (s : SeatState ℕ). s.meter) c.seat.view_is ∙ c.requires ∙ sym c.self.view_is, omega (arith, c.self.invariant), read_side_reads_meter _ _ (count_of_seat c.seat.inside.seat.me.0) _ c.seat.invariant)
