use Rattle.std.proofs.Common.{inl}
use Rattle.private_tasks.proofs.explore.explore_on.Goals as goal

pub returns : goal.returns
returns g c =
    inl (
      c.serve_filing-ended.result,
      c.in_ok-asking.asking,
      c.serve_filing-ended.new.filing,
      (c.args.asking, c.requires, c.in_ok-asking.ensures.run),
      rw c.session_limits-limits.ensures at (rw c.new-filing.ensures at c.serve_filing-ended.ensures.session),
      rw c.session_limits-limits.ensures at (rw c.new-filing.ensures at c.serve_filing-ended.ensures.ends),
      c.outcome.ensures,
    )
