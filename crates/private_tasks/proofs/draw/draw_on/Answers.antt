use Rattle.std.proofs.Common.{Result, subst, inl}
use Rattle.private_tasks.specs.declared.failure.Fault.{Fault}
use Rattle.private_tasks.specs.PrivateRuns.{IsDrawingOutcome}
use Rattle.private_tasks.proofs.draw.draw_on.Goals as goal

pub returns : goal.returns
returns g c =
    inl (
      c.serve_asking-ended.result,
      c.in_ok-asking.asking,
      c.serve_asking-ended.new.asking,
      (c.args.asking, c.requires, c.in_ok-asking.ensures.run),
      rw c.session_limits-limits.ensures at c.serve_asking-ended.ensures.session,
      rw c.session_limits-limits.ensures at c.serve_asking-ended.ensures.ends,
      subst (λ (r : Result (Unit {0}) Fault). IsDrawingOutcome r c.draw_after.result) c.outcome.ensures c.draw_after.ensures,
    )
