use Rattle.std.proofs.Common.{◌≡◌, ◌∙◌, ap}
use Rattle.heap_lock.specs.LockStates.{LockState}
use Rattle.heap_lock.specs.Collector.{pending_in}
use Rattle.heap_lock.proofs.WitnessedCalls.{seen_state}
use Rattle.heap_lock.proofs.heap.Shared.pending.Goals as goal

pub returns : goal.returns
returns g c =
    let here = ap (λ (k : LockState). k.machine) (c.deref.ensures ∙ c.show.ensures.same) in
    seen_state g.L.Heap.config c.args.witness.now c.show.new.witness c.deref_mut.result.now c.deref.result.now.machine (λ w. c.pending.result ≡ pending_in w) c.show.ensures.begins c.show.ensures.heap c.show.ensures.witness here c.pending.ensures
