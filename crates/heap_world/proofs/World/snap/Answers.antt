use Rattle.std.proofs.Common.{subst}
use Rattle.std.specs.Prelude.{Contains}
use Rattle.heap_world.proofs.MarkerParts.{roots_there}
use Rattle.heap_world.proofs.MarkerEvents.{snap_held, snap_made}
use Rattle.heap_world.proofs.World.snap.Goals as goal

pub snap-requires-clause-roots : goal.snap-requires-clause-roots
snap-requires-clause-roots c x h = roots_there _ _ c.self.invariant x (subst (λ l. Contains l x) c.deref.ensures.value h)

pub invariant_of-self : goal.invariant_of-self
invariant_of-self c = snap_held _ _ _ _ _ c.self.invariant c.snap.ensures.answered (rw c.deref.ensures.value at c.snap.ensures.marker) (rw c.deref.ensures.value at c.snap.ensures.regions) c.snap.ensures.unchanged

pub returns-clause-snapped : goal.returns-clause-snapped
returns-clause-snapped c = snap_made _ _ _ _ _ _ c.self.view_is (rw c.deref.ensures.value at c.snap.ensures.marker) (rw c.deref.ensures.value at c.snap.ensures.regions)
