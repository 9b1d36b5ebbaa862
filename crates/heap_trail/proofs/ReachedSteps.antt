-- What an answered step keeps of what the registers reach.
use Rattle.std.proofs.Common.{◌≡◌, Bool, true, false, refl, sym, ap, subst, Option, Some, None}
use Rattle.std.specs.Prelude.{nat_le}
use Rattle.heap_class.specs.declared.Refusal.{Refusal}
use Rattle.heap_world.specs.State.{HeapState}
use Rattle.heap_step.specs.declared.Event.{Event}
use Rattle.heap_step.specs.declared.Event.TheVariants.{Finish}
use Rattle.heap_step.specs.declared.Answer.{Answer}
use Rattle.heap_step.specs.Apply.{refusal_of, applied, applied_unless}
use Rattle.heap_trail.specs.declared.Action.TheVariants.{Step}
use Rattle.heap_trail.specs.declared.Reply.{Reply}
use Rattle.heap_trail.specs.declared.Reply.TheVariants.{Answered}
use Rattle.heap_trail.specs.Limits.{last_place}
use Rattle.heap_trail.specs.Trail.{Trail, stepped}
use Rattle.heap_trail.specs.Machine.{Machine, Allocation, Granted, Denied, LosesPins, acted, acted_under, after_step_at, after_result, MayReply}
use Rattle.heap_trail.specs.Laws.{IsTrail, AreSteps, FindsSnapshot, KeepsReached}
use Rattle.heap_trail.proofs.RetainedStates.{recorded_state_is_legal}
use Rattle.heap_trail.proofs.ReachedObjects.{LeadsTo, sweep_spares_reached_objects, finish_lives}
use Rattle.heap_trail.proofs.SnapshotFindings.{finds_snapshot}

-- a step that is answered was accepted, and led to the state after the event
answered_leads : (m : Machine) (e : Event) (a : Answer) → (acted m (Step e)).1 ≡ Answered a → LeadsTo e m.trail.current (acted m (Step e)).0.trail.current
unfolding acted after_step_at after_result applied applied_unless stepped
answered_leads m e a h = go (nat_le last_place m.trail.place) h
  where
    one : (r : Option Refusal) → refusal_of e m.trail.current ≡ r → (after_result e m (applied_unless r e m.trail.current)).1 ≡ Answered a
        → LeadsTo e m.trail.current (after_result e m (applied_unless r e m.trail.current)).0.trail.current
    one (Some r) is t = cc
    one None is t = (is, refl)

    go : (b : Bool) → (after_step_at b e m).1 ≡ Answered a → LeadsTo e m.trail.current (after_step_at b e m).0.trail.current
    go true t = cc
    go false t = one (refusal_of e m.trail.current) refl t

-- so it was with each allocation
leads_under_allocation : (m : Machine) (e : Event) (a : Answer) (allocation : Allocation) → (acted_under m (Step e, allocation)).1 ≡ Answered a → LeadsTo e m.trail.current (acted_under m (Step e, allocation)).0.trail.current
unfolding acted_under
leads_under_allocation m e a Granted h = answered_leads m e a h
leads_under_allocation m e a Denied h = cc
leads_under_allocation m e a (LosesPins pins) h = answered_leads m e a h

leads_keeps : (t : Trail) (e : Event) (v : HeapState) → AreSteps t.current t.past t.records → LeadsTo e t.current v → KeepsReached e t v
leads_keeps t e v steps led = record {
  spares = sweep_spares_reached_objects t.current v e (recorded_state_is_legal t.current t.past t.records steps) led;
  live = finish_lives t.current v e (recorded_state_is_legal t.current t.past t.records steps) led;
  finds = finds;
}
  where
    finds : e ≡ Finish → FindsSnapshot t.past v
    finds is =
        let s = subst (λ f. LeadsTo f t.current v) is led in
        subst (FindsSnapshot t.past) (sym s.1) (finds_snapshot t.current t.past t.records steps s.0)

pub keeps_reached : (m : Machine) (e : Event) (n : Machine) (a : Answer) → IsTrail m.keep m.trail → MayReply m (Step e) n (Answered a) → KeepsReached e m.trail n.trail.current
keeps_reached m e n a trail may =
    let led = leads_under_allocation m e a may.0 (ap (λ (p : Machine × Reply). p.1) may.2) in
    leads_keeps m.trail e n.trail.current trail.steps (subst (λ (p : Machine × Reply). LeadsTo e m.trail.current p.0.trail.current) may.2 led)
