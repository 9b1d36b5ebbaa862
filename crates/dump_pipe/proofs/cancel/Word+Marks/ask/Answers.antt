use Rattle.std.proofs.Common.{Bool, sym, ap, ◌∙◌, arith}
use Rattle.dump_pipe.specs.Seats.{SeatState, flag}
use Rattle.dump_pipe.proofs.MeterSteps.{ask_side_asks_cancel}
use Rattle.dump_pipe.proofs.cancel.Word+Marks.ask.Goals as goal

pub fetch_or-requires : goal.fetch_or-requires
fetch_or-requires c = (ap (λ (s : SeatState Bool). s.meter) c.seat.view_is ∙ c.requires ∙ sym c.self.view_is, omega (arith, c.self.invariant), ask_side_asks_cancel _ _ (flag c.seat.inside.seat.me.0) _ c.seat.invariant)
