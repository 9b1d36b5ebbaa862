use Rattle.std.proofs.Common.{◌∙◌}
use Rattle.dump_pump.proofs.PumpSteps.{pump_open_after_part, open_pump_has_ended}
use Rattle.dump_pump.proofs.transfer.pump.Goals as goal

pub returns-in-Some-clause-pumped : goal.returns-in-Some-clause-pumped
returns-in-Some-clause-pumped g c = open_pump_has_ended _ _ _ _ _ _ _ _ _ c.loop-pumped.invariant.0 c.in-Some.ensures.pumped

pub loop-pumped-preserved : goal.loop-pumped-preserved
loop-pumped-preserved g c = (pump_open_after_part _ _ _ _ _ _ _ _ c.loop-pumped.invariant.0 c.in-None.ensures.pumped, c.in-None.ensures.kept ∙ c.loop-pumped.invariant.1)
