use Rattle.std.proofs.Common.{◌≡◌, rules}
use Rattle.heap_history.proofs.chronicle.Chronicle.act.Goals as goal

pub returns-clause-moves : goal.returns-clause-moves
returns-clause-moves c = c.in_ok-answer.ensures.moves

pub returns-clause-entered : goal.returns-clause-entered
returns-clause-entered c =
    let kept : c.try_step.new.self.entries ≡ c.args.self.now.entries = c.in_ok-answer.ensures.entries.0 in
    let rolls : c.try_step.new.self.rolls ≡ c.args.self.now.rolls = c.in_ok-answer.ensures.entries.1 in
    (rw (← kept) (search rules), rw (← kept, ← rolls) c.in_ok-answer.ensures.room.1, rw (← rolls) (search rules))
