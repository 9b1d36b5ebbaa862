use Rattle.std.proofs.Common.{◌<◌, length, subst, sym, arith}
use Rattle.heap_history.specs.Chronicles.{ChronicleState}
use Rattle.heap_history.specs.Limits.{entry_limit}
use Rattle.heap_history.proofs.chronicle.Chronicle.try_step.Goals as goal

pub returns-clause-moves : goal.returns-clause-moves
returns-clause-moves c = c.in-Some.ensures

pub returns-clause-room : goal.returns-clause-room
returns-clause-room c = (
  c.in_ok-reserve.ensures.room,
  subst (λ (x : ChronicleState). length x.entries < entry_limit x.rolls) (sym c.reserve.ensures.entries) (omega arith),
)
