use Rattle.std.proofs.Common.{◌≡◌, vec_len, vec_capacity, length, take}
use Rattle.heap_trail.specs.Machine.{MayDrive}
use Rattle.heap_trail.proofs.Machine.drive.Given as goal

abbrev pub invariant-loop-action : goal.invariant-loop-action
invariant-loop-action l =
    MayDrive l.fn.self (take l.action-index l.actions) l.replies.items l.self
    × (vec_len l.replies ≡ l.action-index)
    × (vec_capacity l.replies ≡ length l.actions)
