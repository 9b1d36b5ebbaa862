use Rattle.std.proofs.Common.{ℕ, ◌∙◌, ap, arith}
use Rattle.dump_pipe.specs.Seats.{SeatState}
use Rattle.dump_pump.proofs.PumpSteps.{pump_open_after_part, open_pump_has_ended}
use Rattle.dump_pipe.proofs.pumps.pump_counted.Goals as goal

pub returns-in-Some-clause-pumped : goal.returns-in-Some-clause-pumped
returns-in-Some-clause-pumped g c = open_pump_has_ended _ _ _ _ _ _ _ _ _ c.loop-pumped.invariant.0 c.in-Some.ensures.pumped

pub loop-pumped-preserved : goal.loop-pumped-preserved
loop-pumped-preserved g c =
    let i = c.loop-pumped.invariant in (
      pump_open_after_part _ _ _ _ _ _ _ _ i.0 c.in_default.ensures.pumped,
      c.in_default.ensures.kept ∙ i.1,
      ap (λ (s : SeatState ℕ). s.meter) c.add.ensures ∙ i.2,
      omega (arith, ap (λ (s : SeatState ℕ). s.known) c.add.ensures, i.3, c.pump_part-ended.ensures.grows.0),
    )
