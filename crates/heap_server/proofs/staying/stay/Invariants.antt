use Rattle.std.proofs.Common.{◌≡◌}
use Rattle.heap_lock.specs.declared.role.Role.TheVariants.{User}
use Rattle.heap_server.specs.Staying.{AreSessions}
use Rattle.heap_server.proofs.staying.stay.Given as goal

abbrev pub invariant-loop : goal.invariant-loop
invariant-loop g l = AreSessions g.L.Heap.config l.post.terms l.fn.seat l.after.0.items l.after.1 × (l.after.1.role ≡ User)
