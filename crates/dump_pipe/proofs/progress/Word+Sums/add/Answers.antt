use Rattle.std.proofs.Common.{ℕ, sym, ap, ◌∙◌, arith}
use Rattle.dump_pipe.specs.Seats.{SeatState, count_of_seat}
use Rattle.dump_pipe.proofs.MeterSteps.{out_side_adds_to_meter}
use Rattle.dump_pipe.proofs.progress.Word+Sums.add.Goals as goal

pub fetch_add-requires : goal.fetch_add-requires
fetch_add-requires c = (ap (λ (s : SeatState ℕ). s.meter) c.seat.view_is ∙ c.requires.meter ∙ sym c.self.view_is, omega (arith, c.self.invariant), out_side_adds_to_meter _ _ (count_of_seat c.seat.inside.seat.me.0) _ _ c.seat.invariant (omega (arith, c.requires.fits, ap (λ (s : SeatState ℕ). s.known) c.seat.view_is)))
