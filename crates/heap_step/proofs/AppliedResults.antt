-- What a result of an event says, of `IsApplied`.
use Rattle.std.proofs.Common.{◌≡◌, ◌⊎◌, ℕ, ◌+◌, ◌-◌, Bool, true, false, List, length, Option, Some, None, Result, Ok, Err, inl, inr, refl, sym, ap, subst, ◌∙◌, IfOk, OnOk}
use Rattle.std.specs.Prelude.{IfErr, slice_index, unwrap_or, if◌then◌else◌}
use Rattle.std.specs.Option.{option_map_or}
use Rattle.std.specs.Result.{IsErrAnd}
use Rattle.std.proofs.lemmas.Result.{err_from_is_err_and}
use Rattle.heap_class.specs.declared.ObjRef.{ObjRef}
use Rattle.heap_class.specs.declared.Refusal.{Refusal}
use Rattle.heap_class.specs.declared.Refusal.TheVariants.{NoMemory}
use Rattle.heap_class.specs.Refusals.{IsAnswered}
use Rattle.heap_region.specs.Regions.{Object, UsedRegion, used_at}
use Rattle.heap_region.specs.Pool.{RegionPool, new_place, fresh_region}
use Rattle.heap_sweep.specs.declared.Reclaimed.{Reclaimed}
use Rattle.heap_sweep.specs.declared.Reclaimed.TheVariants.{Swept, Emptied}
use Rattle.heap_sweep.specs.Sweep.{is_emptied, dead_at, reclaimed, reclaimed_dead, reclaimed_emptied}
use Rattle.heap_world.specs.State.{HeapState, pool_of, register, word_of}
use Rattle.heap_world.specs.Legal.{IsLegal}
use Rattle.heap_world.specs.Events.{is_reference_slot, after_mark, after_drain}
use Rattle.heap_step.specs.declared.Answer.{Answer}
use Rattle.heap_step.specs.declared.Answer.TheVariants.{Value}
use Rattle.heap_step.specs.declared.Event.{Event}
use Rattle.heap_step.specs.declared.Undo.{Undo}
use Rattle.heap_step.specs.Apply.{object_or_null, reg_record, new_record, sweep_record, refusal_of, state_after, answer_of, applied_unless, applied, event_may_grow}
use Rattle.heap_step.specs.Records.{undo_record}
use Rattle.heap_step.specs.Laws.{IsApplied, StaysFound}
use Rattle.heap_step.proofs.EventLaws.{keeps_legal, stays_found}

-- a refusal
pub refused_event_is_applied : (e : Event) (before after : HeapState) (result : Result (Answer × Undo) Refusal) (r : Refusal) → IsErrAnd result (λ d. d ≡ r) → IsAnswered {A = Answer × Undo} (refusal_of e before) (event_may_grow e before) (Err r) → after ≡ before → IsApplied e before after result
refused_event_is_applied e before after result r is answered same =
    let p = err_from_is_err_and result is in
    rw (p.1, p.2) (record { answered = answered; state = tt; answer = tt; recorded = tt; unchanged = same })

-- an answer with its record
pub answered_event_is_applied : (e : Event) (before after : HeapState) (a : Answer) (u : Undo) → refusal_of e before ≡ None → after ≡ state_after e before → a ≡ answer_of e before after → u ≡ undo_record e before → IsApplied e before after (Ok (a, u))
answered_event_is_applied e before after a u accepted state answer recorded = record { answered = accepted; state = state; answer = answer; recorded = recorded; unchanged = tt }

-- ---- the records, and what a load answers

pub new_record_is : (w : HeapState) (m r n : ℕ) (at : ObjRef) (fresh : Bool) (old : ℕ) → new_place n (pool_of w) ≡ Some (at, fresh) → old ≡ register w m r → Undo.New at fresh m r old ≡ new_record m r n w
unfolding new_record
new_record_is w m r n at fresh old place held =
    ap (λ x. Undo.New at fresh m r x) held ∙ ap (λ (p : Option (ObjRef × Bool)). option_map_or (λ (p : ObjRef × Bool). Undo.New p.0 p.1 m r (register w m r)) p (reg_record m r w)) (sym place)

pub reg_record_is : (w : HeapState) (m r old : ℕ) → old ≡ register w m r → Undo.Reg m r old ≡ reg_record m r w
unfolding reg_record
reg_record_is w m r old held = ap (λ x. Undo.Reg m r x) held

pub mark_record_is : (w v : HeapState) (parent pushed : ℕ) → v ≡ after_mark w → parent ≡ slice_index w.gray 0 → pushed ≡ length v.gray + 1 - length w.gray → Undo.Mark parent pushed ≡ Undo.Mark (slice_index w.gray 0) (length (after_mark w).gray + 1 - length w.gray)
mark_record_is w v parent pushed state named grown = λ i. Undo.Mark (named i) ((grown ∙ ap (λ (u : HeapState). length u.gray + 1 - length w.gray) state) i)

pub drain_record_is : (w v : HeapState) (pushed : ℕ) → v ≡ after_drain w → pushed ≡ length v.gray - length w.gray → Undo.Drain pushed ≡ Undo.Drain (length (after_drain w).gray - length w.gray)
drain_record_is w v pushed state grown = ap Undo.Drain (grown ∙ ap (λ (u : HeapState). length u.gray - length w.gray) state)

pub sweep_record_is : (w : HeapState) (region : ℕ) (r : Reclaimed) (u : Undo) → r ≡ reclaimed region (pool_of w) → ((g : ℕ) (dead : List (ℕ × Object)) → r ≡ Swept g dead → u ≡ Undo.Sweep g dead) → ((g : ℕ) (storage : UsedRegion) (n : ℕ) → r ≡ Emptied g storage n → u ≡ Undo.Reclaim g storage) → u ≡ sweep_record region w
unfolding reclaimed sweep_record
sweep_record_is w region r u is kept whole = go (is_emptied region (pool_of w)) is
  where
    storage : UsedRegion
    storage = unwrap_or (used_at w.regions region) (fresh_region 4)

    dead : List (ℕ × Object)
    dead = dead_at region (pool_of w)

    go : (b : Bool) → r ≡ (if b then Emptied region storage (length dead) else Swept region dead) → u ≡ (if b then Undo.Reclaim region storage else Undo.Sweep region dead)
    go true e = whole _ _ _ e
    go false e = kept _ _ e

-- what a sweep took out tells its answer
sweep_tells : (region : ℕ) (s : RegionPool) → (reclaimed_dead (reclaimed region s) ≡ length (dead_at region s)) × (reclaimed_emptied (reclaimed region s) ≡ is_emptied region s)
unfolding reclaimed
sweep_tells region s = go (is_emptied region s)
  where
    go : (b : Bool) → let r : Reclaimed = (if b then Emptied region (unwrap_or (used_at s.regions region) (fresh_region 4)) (length (dead_at region s)) else Swept region (dead_at region s)) in (reclaimed_dead r ≡ length (dead_at region s)) × (reclaimed_emptied r ≡ b)
    go true = (refl, refl)
    go false = (refl, refl)

pub sweep_answer_is : (w : HeapState) (region : ℕ) (r : Reclaimed) (dead : ℕ) (emptied : Bool) → r ≡ reclaimed region (pool_of w) → dead ≡ reclaimed_dead r → emptied ≡ reclaimed_emptied r
    → Answer.Swept emptied dead ≡ Answer.Swept (is_emptied region (pool_of w)) (length (dead_at region (pool_of w)))
sweep_answer_is w region r dead emptied is counted told =
    let tells = sweep_tells region (pool_of w) in
    λ i. Answer.Swept ((told ∙ ap reclaimed_emptied is ∙ tells.1) i) ((counted ∙ ap reclaimed_dead is ∙ tells.0) i)

pub slot_answer_is : (w : HeapState) (x slot word : ℕ) (reference : Bool) → word ≡ word_of w x slot → reference ≡ is_reference_slot w x slot
    → (if reference then object_or_null word else Value word) ≡ (if is_reference_slot w x slot then object_or_null (word_of w x slot) else Value (word_of w x slot))
slot_answer_is w x slot word reference held kind = λ i. if kind i then object_or_null (held i) else Value (held i)

-- ---- the clauses of a result

-- the event is `applied`
pub answered_event_as_applied : (e : Event) (w v : HeapState) (r : Result (Answer × Undo) Refusal) → IsApplied e w v r → IfOk r (λ p. applied e w ≡ Ok (v, p.0))
unfolding applied applied_unless
answered_event_as_applied e w v (Err d) h = tt
answered_event_as_applied e w v (Ok p) h =
    ap (λ (o : Option Refusal). applied_unless o e w) h.answered
    ∙ (λ i. Ok (sym h.state i, answer_of e w (sym h.state i)))
    ∙ (λ i. Ok (v, sym h.answer i))

-- it is refused, or memory is wanted
pub refused_event_or_no_memory : (e : Event) (w v : HeapState) (r : Result (Answer × Undo) Refusal) → IsApplied e w v r → IfErr r (λ d. (applied e w ≡ Err d) ⊎ ((refusal_of e w ≡ None) × (event_may_grow e w ≡ true) × (d ≡ NoMemory)))
unfolding applied applied_unless
refused_event_or_no_memory e w v (Ok p) h = tt
refused_event_or_no_memory e w v (Err d) h = elim h.answered [ inl r ↦ inl (ap (λ (o : Option Refusal). applied_unless o e w) r) | inr m ↦ inr m ]

-- the heap is legal
pub applied_event_keeps_legal : (e : Event) (w v : HeapState) (r : Result (Answer × Undo) Refusal) → IsLegal w → IsApplied e w v r → IsLegal v
applied_event_keeps_legal e w v (Ok p) l h = subst IsLegal (sym h.state) (keeps_legal e w l h.answered)
applied_event_keeps_legal e w v (Err d) l h = subst IsLegal (sym h.unchanged) l

-- what is marked or sheltered stays so
pub applied_event_keeps_found : (e : Event) (w v : HeapState) (r : Result (Answer × Undo) Refusal) → IsLegal w → IsApplied e w v r → OnOk r (StaysFound w v)
applied_event_keeps_found e w v (Ok p) l h = subst (StaysFound w) (sym h.state) (stays_found e w l h.answered)
applied_event_keeps_found e w v (Err d) l h = tt

-- where the event is `was`
pub as_event : (e was : Event) (w v : HeapState) (r : Result (Answer × Undo) Refusal) → e ≡ was → IsApplied was w v r → IsApplied e w v r
as_event e was w v r is h = subst (λ d. IsApplied d w v r) (sym is) h
