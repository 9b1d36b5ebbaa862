use Rattle.std.proofs.Common.{rules}
use Rattle.heapdbg.proofs.fetch.fetch_port.Goals as goal

pub returns-clause-fetched : goal.returns-clause-fetched
returns-clause-fetched g c = (
  _,
  _,
  search rules,
  c.fetch_shown-fetched.ensures,
  (c.write_last-written.result, c.write_last-written.ensures, c.outcome-outcome.ensures),
)
