-- What a step makes of a machine with pins.
use Rattle.heap_class.specs.declared.IdSize.{IdSize}
use Rattle.std.specs.Prelude.{is_some}
use Rattle.std.proofs.Common.{◌≡◌, ℕ, suc, ◌+◌, ◌<◌, ◌≤◌, Bool, true, List, [], ◌∷◌, ◌++◌, length, take, drop, map, refl, sym, ap, subst, ◌∙◌, Option, Some, None, IsSome, Ok, inl, inr}
use Rattle.std.specs.Option.{option_map_or}
use Rattle.std.proofs.lemmas.List.{take_at}
use Rattle.circular_buffer.specs.Buffer.{Buffer}
use Rattle.heap_class.specs.declared.ObjRef.{ObjRef}
use Rattle.heap_class.specs.Classes.{slots_of}
use Rattle.heap_world.specs.Pool.{new_place}
use Rattle.heap_world.specs.State.{HeapState, pool_of, register}
use Rattle.heap_step.specs.declared.Event.{Event}
use Rattle.heap_step.specs.declared.Event.TheVariants.{ArrayClass, New, NewArray, NewPrim, Load, Store, Put, Move, Clear, Snap, Mark as MarkEvent, Drain, Finish, Sweep}
use Rattle.heap_step.specs.declared.Answer.{Answer}
use Rattle.heap_step.specs.declared.Undo.{Undo}
use Rattle.heap_step.specs.Apply.{applied, reg_record, new_record}
use Rattle.heap_step.specs.Records.{undone, undo_record}
use Rattle.heap_pins.specs.KeptCopies.{touched}
use Rattle.heap_trail.specs.declared.Action.TheVariants.{Step}
use Rattle.heap_trail.specs.declared.Reply.{Reply}
use Rattle.heap_trail.specs.declared.Reply.TheVariants.{Answered}
use Rattle.heap_trail.specs.declared.held.NumberedPin.{NumberedPin}
use Rattle.heap_world.specs.Limits.{pin_limit}
use Rattle.heap_trail.specs.Limits.{last_place}
use Rattle.heap_trail.specs.Pins.{Pins, PinState, if_kept, each_kept, with_lost}
use Rattle.heap_trail.specs.Pins.{Kept as KeptState, Gone}
use Rattle.heap_trail.specs.OpenPins.{pins_of, EachMayKeep, AreHeld}
use Rattle.heap_trail.specs.Machine.{Machine, Allocation, Granted, LosesPins, MayStand, acted, acted_under, may_overwrite, is_accepted}
use Rattle.heap_trail.specs.Records.{past_of, IsRetaining, machine_with, machine_of, IsPinning, with_record}
use Rattle.heap_trail.proofs.RecordedPast.{past_of-take}
use Rattle.heap_trail.proofs.OpenPins.{lost_in, held_after_step, pins_stepped}
use Rattle.heap_trail.proofs.MachineSteps.{IsAccepted, accepted_event_leads_back, accepted_step_of_machine}

-- ---- the pins stay as many

pub pins_after_step_as_many : (left : Undo) (v : HeapState) (ss ts : List NumberedPin) → EachMayKeep left v ss ts → length ts ≡ length ss
pins_after_step_as_many left v [] [] e = refl
pins_after_step_as_many left v [] (t ∷ ts) e = absurd e
pins_after_step_as_many left v (s ∷ ss) [] e = absurd e
pins_after_step_as_many left v (s ∷ ss) (t ∷ ts) e = ap suc (pins_after_step_as_many left v ss ts e.1)

-- a list of pins, given by a slice, and the one that has its place
pub pin_list_after_slice : (left : Undo) (v : HeapState) (ss slice ts : List NumberedPin) (n : ℕ) → slice ≡ ss → EachMayKeep left v slice ts → n ≡ length ss → EachMayKeep left v ss ts × (take n (ts ++ drop (length ts) ss) ≡ ts)
pin_list_after_slice left v ss slice ts n same each count =
    let kept : EachMayKeep left v ss ts = subst (λ (l : List NumberedPin). EachMayKeep left v l ts) same each in
    (kept, take_at ts (drop (length ts) ss) n (pins_after_step_as_many left v ss ts kept ∙ sym count))

pub pinning_after : (ids : IdSize) (e : Event) (w v : HeapState) (left : Undo) (ring : Buffer Undo) (place keep next : ℕ) (ss ts : List NumberedPin) → IsRetaining w ring place keep → IsPinning ids w ring place next ss → IsAccepted e w v left → EachMayKeep left v ss ts
    → IsPinning ids v (with_record left ring) (place + 1) next ts
pinning_after ids e w v left ring place keep next ss ts k p a each =
    let back : undone left v ≡ w = accepted_event_leads_back e w v left k.legal a in
    let before : AreHeld ids (undone left v ∷ past_of (undone left v) ring.items) place next ss = subst (λ u. AreHeld ids (u ∷ past_of u ring.items) place next ss) (sym back) p.held in
    record {
      held = subst (λ vs. AreHeld ids (v ∷ vs) (place + 1) next ts) (sym (past_of-take ring.capacity v (left ∷ ring.items))) (held_after_step ids left v ring.capacity (past_of (undone left v) ring.items) place next ss ts each before);
      few = subst (λ n. n ≤ pin_limit) (sym (pins_after_step_as_many left v ss ts each)) p.few;
      numbered = p.numbered;
    }

-- ---- which steps lose pins

none_is_never_some : {X : Type 0} (x : Option ℕ) → x ≡ None → IsSome x → X
none_is_never_some None e s = absurd (cc)
none_is_never_some (Some n) e s = absurd (cc)

reg_touches : (m r : ℕ) (w : HeapState) → touched (reg_record m r w) ≡ None
unfolding reg_record touched
reg_touches m r w = refl

new_record_touches_nothing : (m r n : ℕ) (w : HeapState) → touched (new_record m r n w) ≡ None
unfolding new_record reg_record touched
new_record_touches_nothing m r n w = go (new_place n (pool_of w))
  where
    go : (p : Option (ObjRef × Bool)) → touched (option_map_or (λ p. Undo.New p.0 p.1 m r (register w m r)) p (Undo.Reg m r (register w m r))) ≡ None
    go None = refl
    go (Some p) = refl

untouched_region_is_not_some : (u : Option ℕ) (b : Bool) → u ≡ None → IsSome u → b ≡ true
untouched_region_is_not_some u b e s = none_is_never_some u e s

-- a step that touches a region is a put, a store or a sweep
touching_step_may_overwrite : (e : Event) (w : HeapState) → IsSome (touched (undo_record e w)) → may_overwrite (Step e) ≡ true
unfolding undo_record touched may_overwrite
touching_step_may_overwrite (Event.Class name sup fields) w s = none_is_never_some None refl s
touching_step_may_overwrite (ArrayClass name) w s = none_is_never_some None refl s
touching_step_may_overwrite (New m r class) w s = none_is_never_some _ (new_record_touches_nothing m r (length (slots_of w.classes class)) w) s
touching_step_may_overwrite (NewArray m r class len) w s = none_is_never_some _ (new_record_touches_nothing m r len w) s
touching_step_may_overwrite (NewPrim m r kind len) w s = none_is_never_some _ (new_record_touches_nothing m r len w) s
touching_step_may_overwrite (Load m to from slot) w s = none_is_never_some _ (reg_touches m to w) s
touching_step_may_overwrite (Store m target slot source) w s = refl
touching_step_may_overwrite (Put m target slot value) w s = refl
touching_step_may_overwrite (Move m to from_m from) w s = none_is_never_some _ (reg_touches m to w) s
touching_step_may_overwrite (Clear m r) w s = none_is_never_some _ (reg_touches m r w) s
touching_step_may_overwrite Snap w s = none_is_never_some None refl s
touching_step_may_overwrite MarkEvent w s = none_is_never_some None refl s
touching_step_may_overwrite Drain w s = none_is_never_some None refl s
touching_step_may_overwrite Finish w s = none_is_never_some None refl s
touching_step_may_overwrite (Sweep region) w s = refl

-- where a pin was lost, the record touches a region
pin_loss_touches_region : (left : Undo) (v : HeapState) (ss ts : List NumberedPin) (e : EachMayKeep left v ss ts) (n : ℕ) (ns : List ℕ) → lost_in left v ss ts e ≡ n ∷ ns → IsSome (touched left)
unfolding lost_in
pin_loss_touches_region left v [] [] e n ns h = cc
pin_loss_touches_region left v [] (t ∷ ts) e n ns h = absurd e
pin_loss_touches_region left v (s ∷ ss) [] e n ns h = absurd e
pin_loss_touches_region left v (s ∷ ss) (t ∷ ts) (inl e, es) n ns h = pin_loss_touches_region left v ss ts es n ns h
pin_loss_touches_region left v (s ∷ ss) (t ∷ ts) (inr e, es) n ns h = ap is_some e.2.1

-- ---- the step

no_pin_of_list_lost : (xs : List (ℕ × PinState)) → map {B = ℕ × PinState} (λ (e : ℕ × PinState). (e.0, if_kept (λ place image given. KeptState place image given) e.1)) xs ≡ xs
unfolding if_kept
no_pin_of_list_lost [] = refl
no_pin_of_list_lost ((n, KeptState place image given) ∷ xs) = ap (λ l. (n, KeptState place image given) ∷ l) (no_pin_of_list_lost xs)
no_pin_of_list_lost ((n, Gone place cause) ∷ xs) = ap (λ l. (n, Gone place cause) ∷ l) (no_pin_of_list_lost xs)

no_lost_pin_changes_nothing : (ps : Pins) → with_lost [] ps ≡ ps
unfolding with_lost each_kept
no_lost_pin_changes_nothing ps = ap (λ l. record ps { open_pins = l }) (no_pin_of_list_lost ps.open_pins)

abbrev pub MayAnswer : Machine → Event → Machine → Answer → Type 0
MayAnswer m e n a = (allocation : Allocation) × MayStand m (Step e, allocation) × (acted_under m (Step e, allocation) ≡ (n, Answered a))

pub step_pinned : (ids : IdSize) (e : Event) (w v : HeapState) (left : Undo) (ring : Buffer Undo) (place keep next : ℕ) (ss ts : List NumberedPin) (answer : Answer) → IsRetaining w ring place keep → IsPinning ids w ring place next ss → IsAccepted e w v left → place < last_place
    → applied e w ≡ Ok (v, answer) → EachMayKeep left v ss ts → MayAnswer (machine_of ids w ring place keep next ss) e (machine_of ids v (with_record left ring) (place + 1) keep next ts) answer
unfolding acted_under is_accepted
step_pinned ids e w v left ring place keep next ss ts answer k p a h done each = go (lost_in left v ss ts each) refl
  where
    back : undone left v ≡ w
    back = accepted_event_leads_back e w v left k.legal a

    m : Machine
    m = machine_of ids w ring place keep next ss

    stepped : acted (machine_of ids w ring place keep next ss) (Step e) ≡ (machine_with ids v (with_record left ring) (place + 1) keep (pins_of w next ss), Answered answer)
    stepped = accepted_step_of_machine ids e w v left ring place keep (pins_of w next ss) answer k a h done

    pins : pins_of v next ts ≡ with_lost (lost_in left v ss ts each) (pins_of w next ss)
    pins = pins_stepped ids left v (past_of (undone left v) ring.items) place next ss ts each (subst (λ u. AreHeld ids (u ∷ past_of u ring.items) place next ss) (sym back) p.held)
        ∙ ap (λ u. with_lost (lost_in left v ss ts each) (pins_of u next ss)) back

    go : (lost : List ℕ) → lost_in left v ss ts each ≡ lost → MayAnswer (machine_of ids w ring place keep next ss) e (machine_of ids v (with_record left ring) (place + 1) keep next ts) answer
    go [] none = (
      Granted,
      tt,
      stepped ∙ ap (λ ps. (machine_with ids v (with_record left ring) (place + 1) keep ps, Answered answer)) (sym (pins ∙ ap (λ l. with_lost l (pins_of w next ss)) none ∙ no_lost_pin_changes_nothing (pins_of w next ss))),
    )
    go (n ∷ ns) some = (
      LosesPins (n ∷ ns),
      (touching_step_may_overwrite e w (subst (λ u. IsSome (touched u)) a.recorded (pin_loss_touches_region left v ss ts each n ns some)), ap (λ r. is_accepted r.1) stepped),
      ap (λ (r : Machine × Reply). (record r.0 { pins = with_lost (n ∷ ns) r.0.pins }, r.1)) stepped
          ∙ ap (λ ps. (machine_with ids v (with_record left ring) (place + 1) keep ps, Answered answer)) (sym (pins ∙ ap (λ l. with_lost l (pins_of w next ss)) some)),
    )
