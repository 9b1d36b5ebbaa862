-- What a step makes of a machine.
use Rattle.heap_class.specs.declared.IdSize.{IdSize}
use Rattle.std.proofs.Common.{◌≡◌, ℕ, ◌+◌, ◌<◌, ◌≤◌, true, false, List, ◌∷◌, length, length-take, take, sym, ap, subst, ◌∙◌, None, Ok, Err, inl, inr, arith}
use Rattle.std.specs.Prelude.{nat_le, ◌⊎◌}
use Rattle.circular_buffer.specs.Buffer.{Buffer}
use Rattle.heap_class.specs.declared.Refusal.{Refusal}
use Rattle.heap_class.specs.declared.Refusal.TheVariants.{NoMemory, ChronicleFull}
use Rattle.heap_world.specs.State.{HeapState}
use Rattle.heap_world.specs.Legal.{IsLegal}
use Rattle.heap_step.specs.declared.Event.{Event}
use Rattle.heap_step.specs.declared.Answer.{Answer}
use Rattle.heap_step.specs.declared.Undo.{Undo}
use Rattle.heap_step.specs.Apply.{refusal_of, state_after, applied, applied_unless, event_may_grow}
use Rattle.heap_step.specs.Records.{undo_record, undone}
use Rattle.heap_step.specs.Laws.{IsStep, IsRestored}
use Rattle.heap_trail.specs.declared.Action.TheVariants.{Step}
use Rattle.heap_trail.specs.declared.Reply.TheVariants.{Answered, Refused}
use Rattle.heap_trail.specs.Limits.{last_place}
use Rattle.heap_trail.specs.Trail.{stepped}
use Rattle.heap_trail.specs.Machine.{Machine, after_result, after_step_at, acted, Denied, may_grow, is_accepted, MayStand}
use Rattle.heap_trail.specs.Records.{past_of, AreRecorded, IsRetaining, machine_with, with_record}
use Rattle.heap_trail.specs.Pins.{Pins}
use Rattle.heap_trail.proofs.RecordedPast.{past_of-take, recorded-take}

-- an accepted event, the state after it and its record
pub record IsAccepted (e : Event) (w v : HeapState) (left : Undo) : Type 0 where
  pub accepted : refusal_of e w ≡ None
  pub gave : v ≡ state_after e w
  pub recorded : left ≡ undo_record e w
  pub after : IsLegal v
  pub law : IsRestored e w

pub accepted_event_from_its_parts : (e : Event) (w v : HeapState) (left : Undo) → refusal_of e w ≡ None → v ≡ state_after e w → left ≡ undo_record e w → IsLegal v → IsRestored e w → IsAccepted e w v left
accepted_event_from_its_parts e w v left accepted gave recorded after law = record { accepted = accepted; gave = gave; recorded = recorded; after = after; law = law }

-- its record leads back
pub accepted_event_leads_back : (e : Event) (w v : HeapState) (left : Undo) → IsLegal w → IsAccepted e w v left → undone left v ≡ w
accepted_event_leads_back e w v left legal a = (λ i. undone (a.recorded i) (a.gave i)) ∙ a.law legal a.accepted

take_is_short : {A : Type 0} (n : ℕ) (xs : List A) → length (take n xs) ≤ n
take_is_short n xs = omega (arith, length-take n xs)

pub kept_after_step : (e : Event) (w v : HeapState) (left : Undo) (ring : Buffer Undo) (place keep : ℕ) → IsRetaining w ring place keep → IsAccepted e w v left → place < last_place → IsRetaining v (with_record left ring) (place + 1) keep
kept_after_step e w v left ring place keep k a h = record {
  legal = a.after;
  recorded = recorded-take ring.capacity v (left ∷ ring.items) all;
  few = omega (arith, take_is_short ring.capacity (left ∷ ring.items), k.room);
  room = k.room;
  within = k.within;
  placed = omega (arith, shorter ring.capacity (left ∷ ring.items), k.placed);
  counted = omega (arith, h);
}
  where
    Told : HeapState → Type 0
    Told u = ((e : Event) × IsStep e u v left) × AreRecorded u ring.items

    all : AreRecorded v (left ∷ ring.items)
    all = subst Told (sym (accepted_event_leads_back e w v left k.legal a)) ((e, record { legal = k.legal; accepted = a.accepted; gave = a.gave; recorded = a.recorded }), k.recorded)

    shorter : (n : ℕ) (xs : List Undo) → length (take n xs) ≤ length xs
    shorter n xs = omega (arith, length-take n xs)

earlier_place_is_not_last : (place : ℕ) → place < last_place → nat_le last_place place ≡ false
earlier_place_is_not_last place h = grind (arith, h)

last_place_is_last : (place : ℕ) → last_place ≤ place → nat_le last_place place ≡ true
last_place_is_last place h = grind (arith, h)

-- ---- replies

pub accepted_step_of_machine : (ids : IdSize) (e : Event) (w v : HeapState) (left : Undo) (ring : Buffer Undo) (place keep : ℕ) (ps : Pins) (answer : Answer) → IsRetaining w ring place keep → IsAccepted e w v left → place < last_place → applied e w ≡ Ok (v, answer)
    → acted (machine_with ids w ring place keep ps) (Step e) ≡ (machine_with ids v (with_record left ring) (place + 1) keep ps, Answered answer)
unfolding acted after_step_at after_result stepped
accepted_step_of_machine ids e w v left ring place keep ps answer k a h done =
    ap (λ b. after_step_at b e (machine_with ids w ring place keep ps)) (earlier_place_is_not_last place h)
    ∙ ap (after_result e (machine_with ids w ring place keep ps)) done
    ∙ λ i. (let m : Machine = record (machine_with ids w ring place keep ps) { trail = record { place = place + 1; current = v; past = past i; records = records i } } in m, Answered answer)
  where
    records : take keep (undo_record e w ∷ ring.items) ≡ take ring.capacity (left ∷ ring.items)
    records = λ i. take (sym k.room i) (sym a.recorded i ∷ ring.items)

    past : take keep (w ∷ past_of w ring.items) ≡ past_of v (take ring.capacity (left ∷ ring.items))
    past = ap (λ n. take n (w ∷ past_of w ring.items)) (sym k.room)
        ∙ ap (λ u. take ring.capacity (u ∷ past_of u ring.items)) (sym (accepted_event_leads_back e w v left k.legal a))
        ∙ sym (past_of-take ring.capacity v (left ∷ ring.items))

pub refused_step_of_machine : (ids : IdSize) (e : Event) (w : HeapState) (ring : Buffer Undo) (place keep : ℕ) (ps : Pins) (r : Refusal) → place < last_place → applied e w ≡ Err r
    → acted (machine_with ids w ring place keep ps) (Step e) ≡ (machine_with ids w ring place keep ps, Refused r)
unfolding acted after_step_at after_result
refused_step_of_machine ids e w ring place keep ps r h refused =
    ap (λ b. after_step_at b e (machine_with ids w ring place keep ps)) (earlier_place_is_not_last place h)
    ∙ ap (after_result e (machine_with ids w ring place keep ps)) refused

-- at the last place
pub step_at_last_place_refused : (ids : IdSize) (e : Event) (w : HeapState) (ring : Buffer Undo) (place keep : ℕ) (ps : Pins) → last_place ≤ place
    → acted (machine_with ids w ring place keep ps) (Step e) ≡ (machine_with ids w ring place keep ps, Refused ChronicleFull)
unfolding acted after_step_at
step_at_last_place_refused ids e w ring place keep ps h = ap (λ b. after_step_at b e (machine_with ids w ring place keep ps)) (last_place_is_last place h)

-- for NoMemory, where nothing else refuses it
pub step_starved : (ids : IdSize) (e : Event) (w : HeapState) (ring : Buffer Undo) (place keep : ℕ) (ps : Pins) → place < last_place → refusal_of e w ≡ None → event_may_grow e w ≡ true
    → MayStand (machine_with ids w ring place keep ps) (Step e, Denied)
unfolding acted after_step_at after_result applied applied_unless may_grow is_accepted
step_starved ids e w ring place keep ps h none grows = (
  grows,
  ap (λ b. is_accepted (after_step_at b e (machine_with ids w ring place keep ps)).1) (earlier_place_is_not_last place h)
      ∙ ap (λ r. is_accepted (after_result e (machine_with ids w ring place keep ps) (applied_unless r e w)).1) none,
)

-- a step that is refused by its event
pub step_refused_by_its_event : (ids : IdSize) (e : Event) (w v : HeapState) (ring : Buffer Undo) (place keep : ℕ) (ps : Pins) (r : Refusal) → place < last_place → v ≡ w
    → (applied e w ≡ Err r) ⊎ ((refusal_of e w ≡ None) × (event_may_grow e w ≡ true) × (r ≡ NoMemory))
    → (acted (machine_with ids w ring place keep ps) (Step e) ≡ (machine_with ids v ring place keep ps, Refused r)) ⊎ (MayStand (machine_with ids w ring place keep ps) (Step e, Denied) × (r ≡ NoMemory))
step_refused_by_its_event ids e w v ring place keep ps r h same (inl refused) = inl (refused_step_of_machine ids e w ring place keep ps r h refused ∙ ap (λ u. (machine_with ids u ring place keep ps, Refused r)) (sym same))
step_refused_by_its_event ids e w v ring place keep ps r h same (inr starved) = inr (step_starved ids e w ring place keep ps h starved.0 starved.1, starved.2)
