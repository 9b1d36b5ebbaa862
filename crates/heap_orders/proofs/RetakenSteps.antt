-- Steps that are undone and taken again.
use Rattle.std.proofs.Common.{◌≡◌, ◌∙◌, ℕ, zero, suc, ◌+◌, ◌-◌, ◌<◌, ◌≤◌, Bool, true, false, cond, List, [], ◌∷◌, length, take, drop, Option, Some, None, refl, sym, ap, subst, inl, inr, arith}
use Rattle.std.specs.Prelude.{◌⊎◌, nat_le, slice_get, slice_index_or}
use Rattle.std.proofs.lemmas.Bool.{leb-false, leb-true}
use Rattle.std.proofs.lemmas.List.{take_all}
use Rattle.circular_buffer.specs.Buffer.{Buffer, buffer, keep_last}
use Rattle.heap_class.specs.declared.Refusal.{Refusal}
use Rattle.heap_class.specs.declared.Refusal.TheVariants.{ChronicleFull, NoMemory}
use Rattle.heap_world.specs.State.{HeapState}
use Rattle.heap_step.specs.declared.Answer.{Answer}
use Rattle.heap_step.specs.declared.Event.{Event}
use Rattle.heap_step.specs.declared.Undo.{Undo}
use Rattle.heap_step.specs.Apply.{answer_of, applied, applied_unless, refusal_of, state_after}
use Rattle.heap_step.specs.Laws.{IsStep}
use Rattle.heap_step.specs.Records.{undo_record}
use Rattle.heap_trail.specs.declared.Action.{Action}
use Rattle.heap_trail.specs.declared.Action.TheVariants.{Step, Rewind, OpenPin, NextPiece, ClosePin}
use Rattle.heap_trail.specs.declared.Reply.{Reply}
use Rattle.heap_trail.specs.declared.Reply.TheVariants.{Answered, Place, Refused}
use Rattle.heap_trail.specs.Laws.{IsTrail}
use Rattle.heap_trail.specs.Limits.{last_place}
use Rattle.heap_trail.specs.Machine.{Machine, Allocation, Granted, Denied, LosesPins, MayFail, MayReply, acted, acted_under, after_result, after_step_at, is_dump_action, machine_after}
use Rattle.heap_trail.specs.Pins.{Pins}
use Rattle.heap_trail.specs.Trail.{Trail, retained, rewound, state_ago, stepped}
use Rattle.heap_trail.proofs.ByTrail.{dumps_leave}
use Rattle.heap_trail.proofs.KeptTrails.{trails_stay}
use Rattle.heap_trail.proofs.RetainedStates.{as_many_records_as_states, recorded_state_is_legal}
use Rattle.heap_trail.proofs.Rewinds.{rewound_parts}
use Rattle.heap_trail.proofs.RewindsOver.{step_raises_place_by_one}
use Rattle.heap_trail.proofs.RewoundMachines.{machine_refuses_far_rewind, rewind_done, rewound_none}
use Rattle.session_text.specs.Local.{LocalActs}
use Rattle.heap_orders.specs.Redos.{AreLastEvents, IsRedoOf, IsStopped, LeadsTo, Redo, StopsBefore, TakesAgain, event_at, no_redo, noted, retaken, with_step, with_undone}

-- ---- what a step and a rewind make of a trail

-- the trail and how much of it is kept stay
abbrev pub LeavesTrail : Machine → Machine → Type 0
LeavesTrail m n = (n.trail ≡ m.trail) × (n.keep ≡ m.keep)

-- a step that was answered
pub record IsMade (m : Machine) (e : Event) (n : Machine) : Type 0 where
  pub free : refusal_of e m.trail.current ≡ None
  pub below : m.trail.place < last_place
  pub trail : n.trail ≡ stepped m.keep (undo_record e m.trail.current) (state_after e m.trail.current) m.trail
  pub keep : n.keep ≡ m.keep

-- what comes of a step: it is answered, or refused and the trail stays
abbrev ComesOfStep : Machine → Event → Machine → Reply → Type 0
ComesOfStep m e n r =
    ((a : Answer) × (r ≡ Answered a) × IsMade m e n) ⊎ ((x : Refusal) × (r ≡ Refused x) × LeavesTrail m n)

step_acted : (m : Machine) (e : Event) → ComesOfStep m e (acted m (Step e)).0 (acted m (Step e)).1
unfolding acted after_step_at after_result applied applied_unless
step_acted m e = at (nat_le last_place m.trail.place) refl
  where
    of : (x : Option Refusal) → m.trail.place < last_place → refusal_of e m.trail.current ≡ x
        → ComesOfStep m e (after_result e m (applied_unless x e m.trail.current)).0 (after_result e m (applied_unless x e m.trail.current)).1
    of None lt h = inl (answer_of e m.trail.current (state_after e m.trail.current), refl, record { free = h; below = lt; trail = refl; keep = refl })
    of (Some x) lt h = inr (x, refl, (refl, refl))

    at : (b : Bool) → nat_le last_place m.trail.place ≡ b → ComesOfStep m e (after_step_at b e m).0 (after_step_at b e m).1
    at true h = inr (ChronicleFull, refl, (refl, refl))
    at false h = of (refusal_of e m.trail.current) (leb-false last_place m.trail.place h) refl

step_loses : (m n : Machine) (e : Event) (r : Reply) (pins : Pins) → ComesOfStep m e n r → ComesOfStep m e (record n { pins = pins }) r
step_loses m n e r pins (inl h) =
    inl (h.0, h.1, record { free = h.2.free; below = h.2.below; trail = h.2.trail; keep = h.2.keep })
step_loses m n e r pins (inr h) = inr (h.0, h.1, h.2)

step_comes : (m n : Machine) (e : Event) (r : Reply) (mark : Allocation) → acted_under m (Step e, mark) ≡ (n, r) → ComesOfStep m e n r
unfolding acted_under
step_comes m n e r Granted is = subst (λ (p : Machine × Reply). ComesOfStep m e p.0 p.1) is (step_acted m e)
step_comes m n e r Denied is =
    inr (NoMemory, sym (ap (λ (p : Machine × Reply). p.1) is), (sym (ap (λ (p : Machine × Reply). p.0.trail) is), sym (ap (λ (p : Machine × Reply). p.0.keep) is)))
step_comes m n e r (LosesPins pins) is =
    subst (λ (p : Machine × Reply). ComesOfStep m e p.0 p.1) is (step_loses m (acted m (Step e)).0 e (acted m (Step e)).1 _ (step_acted m e))

answered_is_made : (m n : Machine) (e : Event) (a : Answer) → ComesOfStep m e n (Answered a) → IsMade m e n
answered_is_made m n e a (inl h) = h.2
answered_is_made m n e a (inr h) = absurd (cc (h.1))

pub answered_step_is_made : (m n : Machine) (e : Event) (a : Answer) → MayReply m (Step e) n (Answered a) → IsMade m e n
answered_step_is_made m n e a h = answered_is_made m n e a (step_comes m n e (Answered a) h.0 h.2)

-- a rewind of retained steps
pub record IsUndone (m : Machine) (count : ℕ) (n : Machine) : Type 0 where
  pub few : count ≤ retained m.trail
  pub trail : n.trail ≡ rewound count m.trail
  pub keep : n.keep ≡ m.keep

-- what comes of a rewind: it is done, or refused and the trail stays
abbrev ComesOfRewind : Machine → ℕ → Machine → Reply → Type 0
ComesOfRewind m count n r =
    ((p : ℕ) × (r ≡ Place p) × IsUndone m count n) ⊎ ((x : Refusal) × (r ≡ Refused x) × LeavesTrail m n)

rewind_acted : (m : Machine) (count : ℕ) → ComesOfRewind m count (acted m (Rewind count)).0 (acted m (Rewind count)).1
rewind_acted m count = go (nat_le count (retained m.trail)) refl
  where
    go : (b : Bool) → nat_le count (retained m.trail) ≡ b → ComesOfRewind m count (acted m (Rewind count)).0 (acted m (Rewind count)).1
    go true h =
        let few = leb-true count (retained m.trail) h in
        subst (λ (p : Machine × Reply). ComesOfRewind m count p.0 p.1) (sym (rewind_done m count few)) (inl (_, refl, record { few = few; trail = refl; keep = refl }))
    go false h =
        subst (λ (p : Machine × Reply). ComesOfRewind m count p.0 p.1) (sym (machine_refuses_far_rewind m count (leb-false count (retained m.trail) h))) (inr (_, refl, (refl, refl)))

rewind_loses : (m n : Machine) (count : ℕ) (r : Reply) (pins : Pins) → ComesOfRewind m count n r → ComesOfRewind m count (record n { pins = pins }) r
rewind_loses m n count r pins (inl h) = inl (h.0, h.1, record { few = h.2.few; trail = h.2.trail; keep = h.2.keep })
rewind_loses m n count r pins (inr h) = inr (h.0, h.1, h.2)

rewind_comes : (m n : Machine) (count : ℕ) (r : Reply) (mark : Allocation) → acted_under m (Rewind count, mark) ≡ (n, r) → ComesOfRewind m count n r
unfolding acted_under
rewind_comes m n count r Granted is = subst (λ (p : Machine × Reply). ComesOfRewind m count p.0 p.1) is (rewind_acted m count)
rewind_comes m n count r Denied is =
    inr (NoMemory, sym (ap (λ (p : Machine × Reply). p.1) is), (sym (ap (λ (p : Machine × Reply). p.0.trail) is), sym (ap (λ (p : Machine × Reply). p.0.keep) is)))
rewind_comes m n count r (LosesPins pins) is =
    subst (λ (p : Machine × Reply). ComesOfRewind m count p.0 p.1) is (rewind_loses m (acted m (Rewind count)).0 count (acted m (Rewind count)).1 _ (rewind_acted m count))

placed_is_undone : (m n : Machine) (count p : ℕ) → ComesOfRewind m count n (Place p) → IsUndone m count n
placed_is_undone m n count p (inl h) = h.2
placed_is_undone m n count p (inr h) = absurd (cc (h.1))

pub local_rewind_is_undone : (m n : Machine) (count p : ℕ) → LocalActs m (Rewind count) (Place p) n → IsUndone m count n
local_rewind_is_undone m n count p h = placed_is_undone m n count p (rewind_comes m n count (Place p) h.0 h.2)

stays_legal : (m n : Machine) (a : Action) (r : Reply) → LocalActs m a r n → IsTrail m.keep m.trail → IsTrail n.keep n.trail
unfolding machine_after
stays_legal m n a r h t = subst (λ (p : Machine × Reply). IsTrail p.0.keep p.0.trail) h.2 (trails_stay m ((a, h.0) ∷ []) t)

-- ---- what is forgotten

-- what a buffer holds, of which nothing is undone
abbrev of_buffer : Buffer Event → Redo
of_buffer b = record { events = b.items; ahead = 0; limit = b.capacity }

pub undone_forgotten : (b cut : Buffer Event) (ahead len : ℕ) (r : Redo) → cut ≡ buffer (keep_last (len - ahead) b.items) b.capacity → len ≡ length b.items → ahead ≤ length b.items → record { events = b.items; ahead = ahead; limit = b.capacity } ≡ r
    → record { events = cut.items; ahead = 0; limit = cut.capacity } ≡ record r { events = drop r.ahead r.events; ahead = 0 }
undone_forgotten b cut ahead len r told is few shown =
    let first : length b.items - (len - ahead) ≡ ahead = omega (arith, is, few) in
    ap of_buffer (told ∙ ap (λ (n : ℕ). buffer (drop n b.items) b.capacity) first) ∙ ap (λ (x : Redo). record x { events = drop x.ahead x.events; ahead = 0 }) shown

-- ---- lists of events

few_events : (events : List Event) (w : HeapState) (past : List HeapState) (records : List Undo) → AreLastEvents events w past records → length events ≤ length past
few_events [] w past records h = omega arith
few_events (e ∷ events) w (v ∷ past) (left ∷ records) h = let few = few_events events v past records h.1 in omega (arith, few)
few_events (e ∷ events) w [] records h = absurd h
few_events (e ∷ events) w (v ∷ past) [] h = absurd h

newest_events : (limit keep : ℕ) (events : List Event) (w : HeapState) (past : List HeapState) (records : List Undo) → limit ≤ keep → AreLastEvents events w past records
    → AreLastEvents (take limit events) w (take keep past) (take keep records)
newest_events zero keep events w past records le h = tt
newest_events (suc limit) zero events w past records le h = absurd (omega (arith, le))
newest_events (suc limit) (suc keep) [] w past records le h = tt
newest_events (suc limit) (suc keep) (e ∷ events) w (v ∷ past) (left ∷ records) le h = (h.0, newest_events limit keep events v past records (omega (arith, le)) h.1)
newest_events (suc limit) (suc keep) (e ∷ events) w [] records le h = absurd h
newest_events (suc limit) (suc keep) (e ∷ events) w (v ∷ past) [] le h = absurd h

older_events : (n : ℕ) (events : List Event) (w d : HeapState) (past : List HeapState) (records : List Undo) → n ≤ length events → AreLastEvents events w past records
    → AreLastEvents (drop n events) (slice_index_or (w ∷ past) n d) (drop n past) (drop n records)
older_events zero events w d past records few h = h
older_events (suc n) [] w d past records few h = absurd (omega (arith, few))
older_events (suc n) (e ∷ events) w d (v ∷ past) (left ∷ records) few h = older_events n events v d past records (omega (arith, few)) h.1
older_events (suc n) (e ∷ events) w d [] records few h = absurd h
older_events (suc n) (e ∷ events) w d (v ∷ past) [] few h = absurd h

-- the event number n led from the state before it back to where it led
record LeadsUp (n keep : ℕ) (e : Event) (w d : HeapState) (past : List HeapState) (records : List Undo) : Type 0 where
  free : refusal_of e (slice_index_or (w ∷ past) (suc n) d) ≡ None
  state : state_after e (slice_index_or (w ∷ past) (suc n) d) ≡ slice_index_or (w ∷ past) n d
  states : take keep (slice_index_or (w ∷ past) (suc n) d ∷ drop (suc n) past) ≡ drop n past
  lefts : take keep (undo_record e (slice_index_or (w ∷ past) (suc n) d) ∷ drop (suc n) records) ≡ drop n records
  there : n < length past

leads_up : (n keep : ℕ) (e : Event) (events : List Event) (w d : HeapState) (past : List HeapState) (records : List Undo) → length past ≤ keep → length records ≤ keep
    → AreLastEvents events w past records → slice_get events n ≡ Some e → LeadsUp n keep e w d past records
leads_up zero keep e [] w d past records few light h is = absurd (cc is)
leads_up (suc n) keep e [] w d past records few light h is = absurd (cc is)
leads_up zero keep e (x ∷ events) w d (v ∷ past) (left ∷ records) few light h is =
    let same : x ≡ e = cc is in
    let step : IsStep e v w left = subst (λ (y : Event). IsStep y v w left) same h.0 in
    record {
      free = step.accepted;
      state = sym step.gave;
      states = take_all keep (v ∷ past) few;
      lefts = ap (λ (y : Undo). take keep (y ∷ records)) (sym step.recorded) ∙ take_all keep (left ∷ records) light;
      there = omega arith;
    }
leads_up (suc n) keep e (x ∷ events) w d (v ∷ past) (left ∷ records) few light h is =
    let u = leads_up n keep e events v d past records (omega (arith, few)) (omega (arith, light)) h.1 is in
    let there = u.there in
    record { free = u.free; state = u.state; states = u.states; lefts = u.lefts; there = omega (arith, there) }
leads_up n keep e (x ∷ events) w d [] records few light h is = absurd h
leads_up n keep e (x ∷ events) w d (v ∷ past) [] few light h is = absurd h

-- ---- one step again

-- the undone step in this place of the events
up_from : (m : Machine) (r : Redo) (last : Trail) (n : ℕ) (e : Event) → LeadsTo m r last → slice_get r.events n ≡ Some e → LeadsUp n m.keep e last.current last.current last.past last.records
up_from m r last n e l is =
    let few = l.legal.few in
    let same = as_many_records_as_states last.current last.past last.records l.legal.steps in
    leads_up n m.keep e r.events last.current last.current last.past last.records few (omega (arith, few, same)) l.events is

stepped_up : (n keep place : ℕ) (e : Event) (last : Trail) → n < place → place ≡ last.place → LeadsUp n keep e last.current last.current last.past last.records
    → stepped keep (undo_record e (rewound (suc n) last).current) (state_after e (rewound (suc n) last).current) (rewound (suc n) last) ≡ rewound n last
unfolding stepped rewound state_ago
stepped_up n keep place e last lt is u = λ i. record {
  place = (let p : last.place - suc n + 1 ≡ last.place - n = omega (arith, lt, is) in p) i;
  current = u.state i;
  past = u.states i;
  records = u.lefts i;
}

current_before : (m : Machine) (n : ℕ) (last : Trail) → m.trail ≡ rewound n last → m.trail.current ≡ slice_index_or (last.current ∷ last.past) n last.current
unfolding rewound state_ago
current_before m n last is = ap (λ (t : Trail). t.current) is

place_before : (m : Machine) (n : ℕ) (last : Trail) → m.trail ≡ rewound n last → m.trail.place ≡ last.place - n
unfolding rewound
place_before m n last is = ap (λ (t : Trail). t.place) is

-- from the next undone step on
up_by_one : (m k : Machine) (r : Redo) (last : Trail) (n : ℕ) (e : Event) → r.ahead ≡ suc n → LeadsTo m r last → slice_get r.events n ≡ Some e → IsMade m e k → LeadsTo k (retaken r) last
up_by_one m k r last n e ahead l is d =
    let u = up_from m r last n e l is in
    let there = u.there in
    let placed = l.legal.placed in
    let few = l.few in
    let before : m.trail ≡ rewound (suc n) last = l.undone ∙ ap (λ (x : ℕ). rewound x last) ahead in
    let up = stepped_up n m.keep last.place e last (omega (arith, there, placed)) refl u in
    record {
      legal = subst (λ (keep : ℕ). IsTrail keep last) (sym d.keep) l.legal;
      placed = l.placed;
      events = l.events;
      undone = d.trail ∙ ap (λ (t : Trail). stepped m.keep (undo_record e t.current) (state_after e t.current) t) before ∙ up ∙ ap (λ (x : ℕ). rewound x last) (let one : n ≡ r.ahead - 1 = omega (arith, ahead) in one);
      few = omega (arith, few);
      kept = subst (λ (keep : ℕ). r.limit ≤ keep) (sym d.keep) l.kept;
    }

next_up : (m k : Machine) (r : Redo) (last : Trail) (n : ℕ) (e : Event) → r.ahead ≡ n → LeadsTo m r last → event_at n r.events ≡ Some e → IsMade m e k → LeadsTo k (retaken r) last
next_up m k r last zero e ahead l is d = absurd (cc is)
next_up m k r last (suc n) e ahead l is d = up_by_one m k r last n e ahead l is d

-- the event that is next
pub event_there : (n : ℕ) (events : List Event) (e : Event) → 0 < n → slice_get events (n - 1) ≡ Some e → event_at n events ≡ Some e
event_there zero events e some is = absurd (omega (arith, some))
event_there (suc n) events e some is = ap (slice_get events) (let one : n ≡ suc n - 1 = omega arith in one) ∙ is

pub none_is_past : (n : ℕ) (events : List Event) → slice_get events n ≡ None → length events ≤ n
none_is_past n [] is = omega arith
none_is_past zero (e ∷ events) is = absurd (cc is)
none_is_past (suc n) (e ∷ events) is = let past = none_is_past n events is in omega (arith, past)

-- ---- several

pub again_up : (n : ℕ) (m : Machine) (r : Redo) (k : Machine) (s : Redo) (last : Trail) → LeadsTo m r last → TakesAgain n m r k s → LeadsTo k s last × (s ≡ record r { ahead = r.ahead - n })
again_up zero m r k s last l h =
    (subst (λ (x : Redo). LeadsTo k x last) (sym h.1) (subst (λ (x : Machine). LeadsTo x r last) (sym h.0) l), h.1 ∙ ap (λ (x : ℕ). record r { ahead = x }) (let e : r.ahead ≡ r.ahead - 0 = omega arith in e))
again_up (suc n) m r k s last l h =
    let one = next_up m h.2 r last r.ahead h.0 refl l h.3 (answered_step_is_made m h.2 h.0 h.1 h.4) in
    let more = again_up n h.2 (retaken r) k s last one h.5 in
    (more.0, more.1 ∙ ap (λ (x : ℕ). record r { ahead = x }) (let e : r.ahead - 1 - n ≡ r.ahead - suc n = omega arith in e))

-- one more, at the end
again_more : (n : ℕ) (m : Machine) (r : Redo) (k : Machine) (s : Redo) (l : Machine) (t : Redo) → TakesAgain n m r k s → TakesAgain 1 k s l t → TakesAgain (suc n) m r l t
again_more zero m r k s l t h one = subst (λ (x : Redo). TakesAgain 1 m x l t) h.1 (subst (λ (x : Machine). TakesAgain 1 x s l t) h.0 one)
again_more (suc n) m r k s l t h one = (h.0, h.1, h.2, h.3, h.4, again_more n h.2 (retaken r) k s l t h.5 one)

pub again_next : (n : ℕ) (m : Machine) (r : Redo) (k : Machine) (s : Redo) (l : Machine) (t : Redo) → TakesAgain n m r k s → TakesAgain 1 k s l t → TakesAgain (n + 1) m r l t
again_next n m r k s l t h one =
    subst (λ (x : ℕ). TakesAgain x m r l t) (let e : suc n ≡ n + 1 = omega arith in e) (again_more n m r k s l t h one)

-- the next is refused, and leaves all
pub stops_before : (count n : ℕ) (m : Machine) (r : Redo) (k : Machine) (s : Redo) (l : Machine) (t : Redo) (e : Refusal) → n < count → TakesAgain n m r k s → l ≡ k → t ≡ s → IsStopped k s e → StopsBefore count m r e l t
stops_before count n m r k s l t e lt h same redo stopped = (
  n,
  lt,
  subst (λ (x : Redo). TakesAgain n m r l x) (sym redo) (subst (λ (x : Machine). TakesAgain n m r x s) (sym same) h),
  subst (λ (x : Redo). IsStopped l x e) (sym redo) (subst (λ (x : Machine). IsStopped x s e) (sym same) stopped),
)

-- ---- a refusal

not_refused : (m : Machine) (x : Event) (e : Refusal) → refusal_of x m.trail.current ≡ None → m.trail.place < last_place → acted m (Step x) ≡ (m, Refused e) → ⊥
unfolding acted after_step_at after_result applied applied_unless
not_refused m x e free below = at (nat_le last_place m.trail.place) refl
  where
    of : (o : Option Refusal) → o ≡ None → after_result x m (applied_unless o x m.trail.current) ≡ (m, Refused e) → ⊥
    of None is h = let clash : Answered (answer_of x m.trail.current (state_after x m.trail.current)) ≡ Refused e = ap (λ (p : Machine × Reply). p.1) h in cc clash
    of (Some y) is h = cc is

    at : (b : Bool) → nat_le last_place m.trail.place ≡ b → after_step_at b x m ≡ (m, Refused e) → ⊥
    at true h is = let over = leb-true last_place m.trail.place h in omega (arith, over, below)
    at false h is = of (refusal_of x m.trail.current) free is

stopped_at : (m : Machine) (r : Redo) (last : Trail) (n : ℕ) (x : Event) (e : Refusal) → r.ahead ≡ suc n → LeadsTo m r last → slice_get r.events n ≡ Some x → acted m (Step x) ≡ (m, Refused e) → ⊥
stopped_at m r last n x e ahead l is h =
    let u = up_from m r last n x l is in
    let there = u.there in
    let retained_placed = l.legal.placed in
    let placed = l.placed in
    let before : m.trail ≡ rewound (suc n) last = l.undone ∙ ap (λ (y : ℕ). rewound y last) ahead in
    let place = place_before m (suc n) last before in
    not_refused m x e (ap (refusal_of x) (current_before m (suc n) last before) ∙ u.free) (omega (arith, place, placed, there, retained_placed)) h

stopped_next : (m : Machine) (r : Redo) (last : Trail) (n : ℕ) (x : Event) (e : Refusal) → r.ahead ≡ n → LeadsTo m r last → event_at n r.events ≡ Some x → MayFail m (Step x) m e → e ≡ NoMemory
stopped_next m r last n x e ahead l is (inr h) = h.1
stopped_next m r last zero x e ahead l is (inl h) = absurd (cc is)
stopped_next m r last (suc n) x e ahead l is (inl h) = absurd (stopped_at m r last n x e ahead l is h)

-- an undone step is refused for lack of memory alone
pub stopped_for_memory : (m : Machine) (r : Redo) (e : Refusal) → IsRedoOf m r → IsStopped m r e → e ≡ NoMemory
stopped_for_memory m r e l h = stopped_next m r l.0 r.ahead h.0 e refl l.1 h.1 h.2

-- ---- an action

same_lead : (m k : Machine) (r : Redo) → LeavesTrail m k → IsRedoOf m r → IsRedoOf k r
same_lead m k r same l = (
  l.0,
  record {
    legal = subst (λ (keep : ℕ). IsTrail keep l.0) (sym same.1) l.1.legal;
    placed = l.1.placed;
    events = l.1.events;
    undone = same.0 ∙ l.1.undone;
    few = l.1.few;
    kept = subst (λ (keep : ℕ). r.limit ≤ keep) (sym same.1) l.1.kept;
  },
)

legal_after_rewind : (there : Machine) (n : ℕ) → IsTrail there.keep there.trail → IsTrail (acted there (Rewind n)).0.keep (acted there (Rewind n)).0.trail
unfolding machine_after acted_under
legal_after_rewind there n legal = trails_stay there ((Rewind n, Granted) ∷ []) legal

rewound_legal : (m : Machine) (n : ℕ) (last : Trail) → n ≤ retained last → IsTrail m.keep last → IsTrail m.keep (rewound n last)
rewound_legal m n last few legal =
    let there : Machine = record m { trail = last } in
    subst (λ (p : Machine × Reply). IsTrail p.0.keep p.0.trail) (rewind_done there n few) (legal_after_rewind there n legal)

legal_here : (m : Machine) (r : Redo) (last : Trail) → LeadsTo m r last → IsTrail m.keep m.trail
legal_here m r last l =
    let few = l.few in
    let there = few_events r.events last.current last.past last.records l.events in
    subst (IsTrail m.keep) (sym l.undone) (rewound_legal m r.ahead last (omega (arith, few, there)) l.legal)

events_here : (m : Machine) (r : Redo) (last : Trail) → LeadsTo m r last → AreLastEvents (drop r.ahead r.events) m.trail.current m.trail.past m.trail.records
unfolding rewound state_ago
events_here m r last l =
    subst (λ (t : Trail). AreLastEvents (drop r.ahead r.events) t.current t.past t.records) (sym l.undone) (older_events r.ahead r.events last.current last.current last.past last.records l.few l.events)

-- the events with one more
events_on : (limit : ℕ) (e : Event) (events : List Event) (m : Machine) → limit ≤ m.keep → IsTrail m.keep m.trail → refusal_of e m.trail.current ≡ None → AreLastEvents events m.trail.current m.trail.past m.trail.records
    → let t = stepped m.keep (undo_record e m.trail.current) (state_after e m.trail.current) m.trail in AreLastEvents (take limit (e ∷ events)) t.current t.past t.records
unfolding stepped
events_on limit e events m le legal free h =
    let step : IsStep e m.trail.current (state_after e m.trail.current) (undo_record e m.trail.current) = record {
      legal = recorded_state_is_legal m.trail.current m.trail.past m.trail.records legal.steps;
      accepted = free;
      gave = refl;
      recorded = refl;
    } in
    newest_events limit m.keep (e ∷ events) (state_after e m.trail.current) (m.trail.current ∷ m.trail.past) (undo_record e m.trail.current ∷ m.trail.records) le (step, h)

-- a trail from which nothing is undone
pub leads_here : (k : Machine) (events : List Event) (limit : ℕ) → IsTrail k.keep k.trail → k.trail.place ≤ last_place → AreLastEvents events k.trail.current k.trail.past k.trail.records → limit ≤ k.keep
    → IsRedoOf k (record { events = events; ahead = 0; limit = limit })
leads_here k events limit legal placed are kept =
    (k.trail, record { legal = legal; placed = placed; events = are; undone = sym (rewound_none k.trail); few = omega arith; kept = kept })

step_noted : (m k : Machine) (r : Redo) (e : Event) → IsTrail k.keep k.trail → IsMade m e k → IsRedoOf m r → IsRedoOf k (with_step e r)
step_noted m k r e legal d l =
    let here = legal_here m r l.0 l.1 in
    let below = d.below in
    let place = ap (λ (t : Trail). t.place) d.trail ∙ step_raises_place_by_one m.keep (undo_record e m.trail.current) (state_after e m.trail.current) m.trail in
    let are = events_on r.limit e (drop r.ahead r.events) m l.1.kept here d.free (events_here m r l.0 l.1) in
    leads_here k (take r.limit (e ∷ drop r.ahead r.events)) r.limit legal (omega (arith, below, place))
    (subst (λ (t : Trail). AreLastEvents (take r.limit (e ∷ drop r.ahead r.events)) t.current t.past t.records) (sym d.trail) are)
    (subst (λ (keep : ℕ). r.limit ≤ keep) (sym d.keep) l.1.kept)

-- a rewind of steps that are all there
pub rewind_leads : (m k : Machine) (r : Redo) (count : ℕ) (last : Trail) → r.ahead + count ≤ length r.events → IsUndone m count k → LeadsTo m r last → LeadsTo k (record r { ahead = r.ahead + count }) last
rewind_leads m k r count last few d l =
    let there = few_events r.events last.current last.past last.records l.events in
    record {
      legal = subst (λ (keep : ℕ). IsTrail keep last) (sym d.keep) l.legal;
      placed = l.placed;
      events = l.events;
      undone = d.trail ∙ ap (rewound count) l.undone ∙ rewound_parts r.ahead count last (omega (arith, few, there));
      few = few;
      kept = subst (λ (keep : ℕ). r.limit ≤ keep) (sym d.keep) l.kept;
    }

placed_here : (m : Machine) (r : Redo) (last : Trail) → LeadsTo m r last → m.trail.place ≤ last_place
placed_here m r last l = let place = place_before m r.ahead last l.undone in let most = l.placed in omega (arith, place, most)

rewind_noted : (m k : Machine) (r : Redo) (count : ℕ) → IsTrail k.keep k.trail → IsUndone m count k → IsRedoOf m r → IsRedoOf k (with_undone count r)
rewind_noted m k r count legal d l = go (nat_le (r.ahead + count) (length r.events)) refl
  where
    go : (b : Bool) → nat_le (r.ahead + count) (length r.events) ≡ b → IsRedoOf k (cond b (record r { ahead = r.ahead + count }) (no_redo r.limit))
    go true h = (l.0, rewind_leads m k r count l.0 (leb-true (r.ahead + count) (length r.events) h) d l.1)
    go false h =
        let placed = placed_here m r l.0 l.1 in
        let place = place_before k count m.trail d.trail in
        leads_here k [] r.limit legal (omega (arith, placed, place)) tt (subst (λ (keep : ℕ). r.limit ≤ keep) (sym d.keep) l.1.kept)

step_keeps : (m k : Machine) (r : Redo) (e : Event) (reply : Reply) → IsTrail k.keep k.trail → ComesOfStep m e k reply → IsRedoOf m r → IsRedoOf k (noted (Step e) reply r)
step_keeps m k r e reply legal (inl h) l = subst (λ (x : Reply). IsRedoOf k (noted (Step e) x r)) (sym h.1) (step_noted m k r e legal h.2 l)
step_keeps m k r e reply legal (inr h) l = subst (λ (x : Reply). IsRedoOf k (noted (Step e) x r)) (sym h.1) (same_lead m k r h.2 l)

rewind_keeps : (m k : Machine) (r : Redo) (count : ℕ) (reply : Reply) → IsTrail k.keep k.trail → ComesOfRewind m count k reply → IsRedoOf m r → IsRedoOf k (noted (Rewind count) reply r)
rewind_keeps m k r count reply legal (inl h) l = subst (λ (x : Reply). IsRedoOf k (noted (Rewind count) x r)) (sym h.1) (rewind_noted m k r count legal h.2 l)
rewind_keeps m k r count reply legal (inr h) l = subst (λ (x : Reply). IsRedoOf k (noted (Rewind count) x r)) (sym h.1) (same_lead m k r h.2 l)

dump_keeps : (m k : Machine) (r : Redo) (a : Action) (reply : Reply) → is_dump_action a ≡ true → LocalActs m a reply k → IsRedoOf m r → IsRedoOf k r
dump_keeps m k r a reply dump h l = let same = dumps_leave m k a h.0 reply dump h.2 in same_lead m k r (same.0, same.1) l

-- each action keeps them
pub action_keeps : (m k : Machine) (r : Redo) (a : Action) (reply : Reply) → LocalActs m a reply k → IsRedoOf m r → IsRedoOf k (noted a reply r)
action_keeps m k r (Step e) reply h l =
    step_keeps m k r e reply (stays_legal m k (Step e) reply h (legal_here m r l.0 l.1)) (step_comes m k e reply h.0 h.2) l
action_keeps m k r (Rewind count) reply h l =
    rewind_keeps m k r count reply (stays_legal m k (Rewind count) reply h (legal_here m r l.0 l.1)) (rewind_comes m k count reply h.0 h.2) l
action_keeps m k r (OpenPin at) reply h l = dump_keeps m k r (OpenPin at) reply refl h l
action_keeps m k r (NextPiece pin time) reply h l = dump_keeps m k r (NextPiece pin time) reply refl h l
action_keeps m k r (ClosePin pin) reply h l = dump_keeps m k r (ClosePin pin) reply refl h l
