use Rattle.std.proofs.Common.{inl}
use Rattle.private_tasks.proofs.asked_run.run_asked_on.Goals as goal

pub returns : goal.returns
returns g c =
    inl (
      c.serve_asking-ended.result,
      c.in_ok-asking.asking,
      c.serve_asking-ended.new.asking,
      (c.args.asking, c.requires, c.in_ok-asking.ensures.run),
      rw c.session_limits-limits.ensures at c.serve_asking-ended.ensures.session,
      rw c.session_limits-limits.ensures at c.serve_asking-ended.ensures.ends,
      c.outcome.ensures,
    )
