use Rattle.std.proofs.Common.{subst}
use Rattle.heap_lock.specs.Action.TheVariants.{Step}
use Rattle.heap_history.specs.declared.entry.Outcome.{Outcome}
use Rattle.heap_lock.specs.LockStates.{Stands}
use Rattle.heap_runtime.specs.Actors.{ActorState, IsClaimed}
use Rattle.heap_runtime.proofs.Claiming.{received_act_is_claimed, told_answer_is_claimed, told_refusal_is_denied}
use Rattle.heap_runtime.proofs.StepAnswers.{step_never_answers_place}
use Rattle.heap_runtime.proofs.actor.Actor.act.Goals as goal

pub answer_of-requires : goal.answer_of-requires
answer_of-requires g c place is =
    let r = c.in-Ok.receipt in
    step_never_answers_place g.L.Heap.config c.claim.new.seat r.turn c.args.event place (subst (λ (o : Outcome). Stands g.L.Heap.config c.claim.new.seat r.turn (Step c.args.event) o) is c.in-Ok.ensures.stands)

pub returns-clause-done : goal.returns-clause-done
returns-clause-done g c =
    let r = c.in-Ok.receipt in
    let after : ActorState = record { seat = c.claim.new.seat; claims = c.claim.new.claims.items } in
    let k = received_act_is_claimed g.L.Heap.config (Step c.args.event) c.self.inside.seat c.claim.new.seat c.self.inside.claims.items c.claim.new.claims.items r c.in-Ok.ensures.receipt c.in-Ok.ensures.stands c.in-Ok.ensures.claims in
    told_answer_is_claimed g.L.Heap.config (Step c.args.event) c.args.self.now after r.answer c.answer_of.result (subst (λ (a : ActorState). IsClaimed g.L.Heap.config (Step c.args.event) a r.answer after) c.self.view_is k) c.answer_of.ensures.done

pub returns-clause-denied : goal.returns-clause-denied
returns-clause-denied g c =
    let r = c.in-Ok.receipt in
    let after : ActorState = record { seat = c.claim.new.seat; claims = c.claim.new.claims.items } in
    let k = received_act_is_claimed g.L.Heap.config (Step c.args.event) c.self.inside.seat c.claim.new.seat c.self.inside.claims.items c.claim.new.claims.items r c.in-Ok.ensures.receipt c.in-Ok.ensures.stands c.in-Ok.ensures.claims in
    told_refusal_is_denied g.L.Heap.config c.args.event c.args.self.now after r.answer c.answer_of.result (subst (λ (a : ActorState). IsClaimed g.L.Heap.config (Step c.args.event) a r.answer after) c.self.view_is k) c.answer_of.ensures.denied
