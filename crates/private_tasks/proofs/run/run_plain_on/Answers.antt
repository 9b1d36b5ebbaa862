use Rattle.std.proofs.Common.{inl}
use Rattle.private_tasks.proofs.run.run_plain_on.Goals as goal

pub returns : goal.returns
returns g c =
    inl (
      c.serve_local.result,
      c.in_ok-local.local,
      c.serve_local.new.local.machine,
      (c.args.local, c.requires, c.in_ok-local.ensures.run),
      rw c.session_limits-limits.ensures at c.serve_local.ensures.session,
      rw c.session_limits-limits.ensures at c.serve_local.ensures.ends,
      c.outcome.ensures,
    )
