use Rattle.std.proofs.Common.{sym, ap, ◌∙◌, arith}
use Rattle.dump_pipe.specs.Starts.{StartState, told_to}
use Rattle.dump_pipe.proofs.StartSteps.{wait_side_gives_up}
use Rattle.dump_pipe.proofs.start.Start.is_begun.Goals as goal

pub compare_exchange-found-requires : goal.compare_exchange-found-requires
compare_exchange-found-requires g c = (ap (λ (s : StartState). s.start) c.seat.view_is ∙ c.requires ∙ sym c.self.view_is, omega (arith, c.self.invariant), wait_side_gives_up _ _ (told_to c.seat.inside.seat.me.0) _ c.seat.invariant)
