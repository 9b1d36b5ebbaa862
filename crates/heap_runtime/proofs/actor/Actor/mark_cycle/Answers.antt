use Rattle.std.proofs.Common.{List, [], ◌∷◌, ◌++◌, sym, ap, ◌∙◌, append-nil}
use Rattle.heap_lock.specs.Event.TheVariants.{Finish}
use Rattle.heap_lock.specs.Action.{Action}
use Rattle.heap_lock.specs.Action.TheVariants.{Step}
use Rattle.heap_lock.specs.Receipt.{Receipt}
use Rattle.heap_work.specs.declared.MarkEnd.TheVariants.{Finished}
use Rattle.heap_runtime.proofs.CycleEnds.{no_claims, mark_work_claims_own_entries}
use Rattle.heap_runtime.proofs.actor.Actor.mark_cycle.Goals as goal

pub invariant_of-self-in-Finished : goal.invariant_of-self-in-Finished
invariant_of-self-in-Finished g c =
    let r = c.in-Finished.receipt in
    mark_work_claims_own_entries g.L.Heap.config c.self.inside.claims.items c.push_reserved.new.self.items c.self.inside.seat c.mark_worker-end.new.seat c.args.turns (Finished r) c.self.invariant c.in-Finished.ensures.work
    (c.push_reserved.ensures.items ∙ ap (λ (l : List (Action × Receipt)). l ++ (Step Finish, r) ∷ []) c.reserve.ensures.items)

pub invariant_of-self-in_default : goal.invariant_of-self-in_default
invariant_of-self-in_default g c =
    mark_work_claims_own_entries g.L.Heap.config c.self.inside.claims.items c.reserve.new.self.items c.self.inside.seat c.mark_worker-end.new.seat c.args.turns c.mark_worker-end.result c.self.invariant c.mark_worker-end.ensures.work
    (c.reserve.ensures.items ∙ sym (append-nil _) ∙ ap (λ (l : List (Action × Receipt)). c.self.inside.claims.items ++ l) (no_claims c.mark_worker-end.result c.in_default.not-Finished))
