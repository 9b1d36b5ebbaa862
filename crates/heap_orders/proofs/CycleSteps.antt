-- Steps of a cycle, one after another.
use Rattle.std.proofs.Common.{◌≡◌, ◌∙◌, ◌+◌, ◌*◌, ◌<◌, ◌≤◌, ℕ, Bool, true, false, cond, not, List, [], ◌∷◌, ◌++◌, Option, Some, None, length, drop, nat_lt, refl, sym, ap, ap₂, subst, inl, inr, true≢false, arith}
use Rattle.std.specs.Prelude.{◌⊎◌, ◌||◌, Result, Ok, Err, nat_le, slice_get, slice_index, sum_by}
use Rattle.std.specs.Option.{option_map_or}
use Rattle.std.specs.List.{enumerate_from}
use Rattle.std.proofs.lemmas.Bool.{leb-false, ltb-false, ltb-true}
use Rattle.std.proofs.lemmas.List.{append-nil, append_assoc}
use Rattle.std.proofs.lemmas.List.FromFn.{length-enumerate_from}
use Rattle.std.proofs.lemmas.List.Sums.{sum_by-append}
use Rattle.heap_class.specs.declared.Refusal.{Refusal}
use Rattle.heap_class.specs.declared.Refusal.TheVariants.{ChronicleFull, NothingToSweep}
use Rattle.heap_class.specs.Refusals.{first_refusal}
use Rattle.heap_mark.specs.MarkSteps.{children_of, is_marking, pending_regions, snapped, marked, drained_once, finished}
use Rattle.heap_mark.specs.declared.Phase.TheVariants.{Idle}
use Rattle.heap_mark.proofs.Calls.{snap_free, mark_free, drain_free}
use Rattle.heap_mark.proofs.Finishes.{finish_free, pending_number}
use Rattle.heap_world.specs.Events.{after_snap, after_mark, after_drain, after_finish, after_sweep}
use Rattle.heap_world.specs.Live.{cells_of}
use Rattle.heap_world.specs.RegionLimits.{cell_limit, region_limit}
use Rattle.heap_world.specs.Regions.{UsedRegion, used_at}
use Rattle.heap_world.specs.Legal.{IsLegal}
use Rattle.heap_world.specs.State.{HeapState, marking_of, pool_of}
use Rattle.heap_world.specs.Sweep.{dead_at, sweep_refusal}
use Rattle.heap_world.proofs.SweptCells.{dead_in, dead_one, dead_pairs, cell_table_has_few_cells}
use Rattle.heap_pins.proofs.LiveCounts.{length-filter_map}
use Rattle.heap_questions.proofs.Sizes.{table_of}
use Rattle.heap_step.specs.Apply.{answer_of, applied, applied_unless, refusal_of, state_after}
use Rattle.heap_step.specs.declared.Answer.{Answer}
use Rattle.heap_step.specs.declared.Event.{Event}
use Rattle.heap_step.specs.declared.Event.TheVariants.{Snap, Mark, Drain, Finish, Sweep}
use Rattle.heap_trail.specs.declared.Action.TheVariants.{Step}
use Rattle.heap_trail.specs.declared.Reply.{Reply}
use Rattle.heap_trail.specs.declared.Reply.TheVariants.{Answered, Refused}
use Rattle.heap_trail.specs.Limits.{last_place}
use Rattle.heap_trail.specs.Machine.{Machine, Allocation, Granted, Denied, LosesPins, MayFail, MayReply, acted, acted_under, after_result, after_step_at}
use Rattle.heap_trail.specs.Trail.{stepped}
use Rattle.heap_orders.specs.declared.cycle.CycleCounts.{CycleCounts}
use Rattle.question_words.specs.Places.{IsTextOrNoMemory}
use Rattle.heap_orders.specs.Collections.{AreNext, AreSwept, IsCycleAnswer, IsShortage, IsSwept, IsWholeCycle, LeadOn, MarksLead, MayStop, MovesOn, StepsLead, StopsAt, TakenStep, collected_text, condemned_of, ends_cycle, next_mark, next_step, swept_of, waiting_region}
use Rattle.heap_orders.proofs.WaitingRegions.{all_shaded, first_swept, first_waits}

-- ---- lists of steps

next_on : (b c d : Bool) (m n k : Machine) (xs ys : List TakenStep) → AreNext b m xs c n → AreNext c n ys d k → AreNext b m (xs ++ ys) d k
next_on b c d m n k [] ys h f = subst (λ (x : Bool). AreNext x m ys d k) h.0 (subst (λ (x : Machine). AreNext c x ys d k) h.1 f)
next_on b c d m n k (x ∷ xs) ys h f = (h.0, (h.1.0, h.1.1, next_on (ends_cycle x.0 || b) c d h.1.0 n k xs ys h.1.2 f))

pub none_lead : (b : Bool) (m : Machine) → StepsLead b m [] b m 0 0
none_lead b m = ((refl, refl), refl, refl)

pub leads_on : (b c d : Bool) (m n k : Machine) (xs ys : List TakenStep) (x y v w : ℕ) → StepsLead b m xs c n x y → StepsLead c n ys d k v w → StepsLead b m (xs ++ ys) d k (x + v) (y + w)
leads_on b c d m n k xs ys x y v w s t = (
  next_on b c d m n k xs ys s.0 t.0,
  ap₂ (λ (i j : ℕ). i + j) s.1 t.1 ∙ sym (sum_by-append (λ (z : TakenStep). condemned_of z.1) xs ys),
  ap₂ (λ (i j : ℕ). i + j) s.2 t.2 ∙ sym (sum_by-append (λ (z : TakenStep). swept_of z.1) xs ys),
)

one_leads : (b : Bool) (m n : Machine) (e : Event) (a : Answer) → next_step b m.trail.current ≡ Some e → MayReply m (Step e) n (Answered a) → StepsLead b m ((e, a) ∷ []) (ends_cycle e || b) n (condemned_of a) (swept_of a)
one_leads b m n e a h r = ((h, (n, r, (refl, refl))), omega arith, omega arith)

pub stops_on : (D : Refusal → Type 0) (b c : Bool) (m n k : Machine) (xs ys : List TakenStep) (x y : ℕ) (e : Refusal) → StepsLead b m xs c n x y → StopsAt D c n ys e k → StopsAt D b m (xs ++ ys) e k
stops_on D b c m n k xs ys x y e s t = (t.0, next_on b c t.0 m n k xs ys s.0 t.1, t.2)

-- refused before any other
pub stops_now : (D : Refusal → Type 0) (b : Bool) (m n : Machine) (e : Refusal) → MayStop D b m e → n ≡ m → StopsAt D b m [] e n
stops_now D b m n e r h = (b, (refl, h), subst (λ (x : Machine). MayStop D b x e) (sym h) r)

-- ---- what has come of them

abbrev Since : Type 0 → Type 0 → Type 1
Since H B = H → B → List TakenStep → Type 0

pub led_none : {H B : Type 0} (P : Since H B) → LeadOn P [] P
led_none P h b before p = subst (λ (l : List TakenStep). P h b l) (sym (append-nil before)) p

pub led_on : {H B : Type 0} (P Q R : Since H B) (xs ys : List TakenStep) → LeadOn P xs Q → LeadOn Q ys R → LeadOn P (xs ++ ys) R
led_on P Q R xs ys f g h b before p = subst (λ (l : List TakenStep). R h b l) (append_assoc before xs ys) (g h b (before ++ xs) (f h b before p))

-- ---- one step

-- a step that is answered with no mark
abbrev IsAnswered : Machine → Event → Machine → Answer → Type 0
IsAnswered m e n a = acted m (Step e) ≡ (n, Answered a)

without_mark : (m n : Machine) (e : Event) (a : Answer) → MayReply m (Step e) n (Answered a) → (k : Machine) × IsAnswered m e k a × (n.trail ≡ k.trail)
unfolding acted_under
without_mark m n e a r = go r.0 r.2
  where
    go : (mark : Allocation) → acted_under m (Step e, mark) ≡ (n, Answered a) → (k : Machine) × IsAnswered m e k a × (n.trail ≡ k.trail)
    go Granted is = (n, is, refl)
    go Denied is = let clash : Refused Refusal.NoMemory ≡ Answered a = ap (λ (x : Machine × Reply). x.1) is in absurd (cc clash)
    go (LosesPins pins) is =
        let k : Machine = (acted m (Step e)).0 in
        let same : (acted m (Step e)).1 ≡ Answered a = ap (λ (x : Machine × Reply). x.1) is in
        (k, ap (λ (r : Reply). (k, r)) same, sym (ap (λ (x : Machine × Reply). x.0.trail) is))

-- an answered step
pub record IsTaken (m : Machine) (e : Event) (n : Machine) (a : Answer) : Type 0 where
  pub below : m.trail.place < last_place
  pub place : n.trail.place ≡ m.trail.place + 1
  pub state : n.trail.current ≡ state_after e m.trail.current
  pub answer : a ≡ answer_of e m.trail.current (state_after e m.trail.current)

applied_so : (e : Event) (w v : HeapState) (a : Answer) → applied e w ≡ Ok (v, a) → (v ≡ state_after e w) × (a ≡ answer_of e w (state_after e w))
unfolding applied applied_unless
applied_so e w v a = go (refusal_of e w)
  where
    go : (x : Option Refusal) → applied_unless x e w ≡ Ok (v, a) → (v ≡ state_after e w) × (a ≡ answer_of e w (state_after e w))
    go None h =
        let same : Ok (state_after e w, answer_of e w (state_after e w)) ≡ Ok (v, a) = h in
        let pair : (state_after e w, answer_of e w (state_after e w)) ≡ (v, a) = cc same in
        (sym (ap (λ (p : HeapState × Answer). p.0) pair), sym (ap (λ (p : HeapState × Answer). p.1) pair))
    go (Some r) h = absurd (cc h)

answered_taken : (m n : Machine) (e : Event) (a : Answer) → IsAnswered m e n a → IsTaken m e n a
unfolding acted after_result after_step_at stepped
answered_taken m n e a is = at (nat_le last_place m.trail.place) refl is
  where
    of : (r : Result (HeapState × Answer) Refusal) → m.trail.place < last_place → applied e m.trail.current ≡ r → after_result e m r ≡ (n, Answered a) → IsTaken m e n a
    of (Ok r) lt h is =
        let same : Answered r.1 ≡ Answered a = ap (λ (x : Machine × Reply). x.1) is in
        let answer : r.1 ≡ a = cc same in
        let s = applied_so e m.trail.current r.0 r.1 h in
        record {
          below = lt;
          place = sym (ap (λ (x : Machine × Reply). x.0.trail.place) is);
          state = sym (ap (λ (x : Machine × Reply). x.0.trail.current) is) ∙ s.0;
          answer = sym answer ∙ s.1;
        }
    of (Err r) lt h is = let clash : Refused r ≡ Answered a = ap (λ (x : Machine × Reply). x.1) is in absurd (cc clash)

    at : (b : Bool) → nat_le last_place m.trail.place ≡ b → after_step_at b e m ≡ (n, Answered a) → IsTaken m e n a
    at true h is = let clash : Refused ChronicleFull ≡ Answered a = ap (λ (x : Machine × Reply). x.1) is in absurd (cc clash)
    at false h is = of (applied e m.trail.current) (omega (arith, leb-false last_place m.trail.place h)) refl is

-- what an answered step did, also if it lost pins
pub answered_step_is_taken : (m n : Machine) (e : Event) (a : Answer) → MayReply m (Step e) n (Answered a) → IsTaken m e n a
answered_step_is_taken m n e a r =
    let k = without_mark m n e a r in
    let s = answered_taken m k.0 e a k.1 in
    record { below = s.below; place = ap (λ t. t.place) k.2 ∙ s.place; state = ap (λ t. t.current) k.2 ∙ s.state; answer = s.answer }

-- ---- a step that the state allows

-- it is refused for a shortage alone
pub failure_of_accepted_step_is_shortage : (m : Machine) (x : Event) (e : Refusal) → refusal_of x m.trail.current ≡ None → MayFail m (Step x) m e → IsShortage e
unfolding acted after_result after_step_at applied applied_unless
failure_of_accepted_step_is_shortage m x e free (inr h) = inl h.1
failure_of_accepted_step_is_shortage m x e free (inl h) = at (nat_le last_place m.trail.place) h
  where
    of : (o : Option Refusal) → o ≡ None → after_result x m (applied_unless o x m.trail.current) ≡ (m, Refused e) → IsShortage e
    of None is h = let clash : Answered (answer_of x m.trail.current (state_after x m.trail.current)) ≡ Refused e = ap (λ (p : Machine × Reply). p.1) h in absurd (cc clash)
    of (Some r) is h = absurd (cc is)

    at : (b : Bool) → after_step_at b x m ≡ (m, Refused e) → IsShortage e
    at true h = let same : Refused ChronicleFull ≡ Refused e = ap (λ (p : Machine × Reply). p.1) h in inr (cc same)
    at false h = of (refusal_of x m.trail.current) free h

failure_stops_cycle : (D : Refusal → Type 0) (b : Bool) (m : Machine) (x : Event) (e : Refusal) → next_step b m.trail.current ≡ Some x → refusal_of x m.trail.current ≡ None → MayFail m (Step x) m e ⊎ D e → MayStop D b m e
failure_stops_cycle D b m x e next free (inl h) = (x, next, inl (h, failure_of_accepted_step_is_shortage m x e free h))
failure_stops_cycle D b m x e next free (inr h) = (x, next, inr h)

-- ---- sweeps

few_dead : (w : HeapState) (r : ℕ) → IsLegal w → length (dead_at r (pool_of w)) ≤ cell_limit
few_dead w r legal = omega (arith, ap length (dead_in r (pool_of w)), go (used_at w.regions r) refl)
  where
    go : (x : Option UsedRegion) → used_at w.regions r ≡ x → length (dead_pairs 0 (cells_of x)) ≤ cell_limit
    go None h = omega arith
    go (Some u) h = omega (arith, length-filter_map dead_one (enumerate_from 0 u.cells), length-enumerate_from 0 u.cells, (cell_table_has_few_cells u (table_of w r u legal h)).1)

next_sweep : (b : Bool) (w : HeapState) (r : ℕ) → waiting_region w ≡ Some r → next_step b w ≡ Some (Sweep r)
unfolding next_step
next_sweep b w r h = ap (λ (o : Option ℕ). option_map_or (λ r. Some (Sweep r)) o (cond b None (Some (next_mark w)))) h

pub sweep_allowed : (w : HeapState) (r : ℕ) → waiting_region w ≡ Some r → refusal_of (Sweep r) w ≡ None
unfolding refusal_of sweep_refusal first_refusal
sweep_allowed w r h = ap (λ (b : Bool). cond (not b) (Some (NothingToSweep r)) None) (first_waits w.regions r h)

pub sweep_stopped : (D : Refusal → Type 0) (b : Bool) (m : Machine) (r : ℕ) (e : Refusal) → waiting_region m.trail.current ≡ Some r → MayFail m (Step (Sweep r)) m e ⊎ D e → MayStop D b m e
sweep_stopped D b m r e h f = failure_stops_cycle D b m (Sweep r) e (next_sweep b m.trail.current r h) (sweep_allowed m.trail.current r h) f

-- what the sweep of a region says
swept_answer : (w v : HeapState) (r : ℕ) → IsLegal w → (condemned_of (answer_of (Sweep r) w v) ≡ 0) × (swept_of (answer_of (Sweep r) w v) ≤ cell_limit)
unfolding answer_of
swept_answer w v r legal = (refl, few_dead w r legal)

swept_state : (w : HeapState) (r : ℕ) → waiting_region w ≡ Some r → (pending_regions (state_after (Sweep r) w).regions ≡ drop 1 (pending_regions w.regions)) × ((state_after (Sweep r) w).phase ≡ w.phase)
unfolding state_after after_sweep
swept_state w r h = (first_swept (pool_of w) r h, refl)

pub one_swept : (m n : Machine) (r : ℕ) (a : Answer) → IsLegal m.trail.current → waiting_region m.trail.current ≡ Some r → MayReply m (Step (Sweep r)) n (Answered a) → IsSwept m ((Sweep r, a) ∷ []) (swept_of a) n
one_swept m n r a legal h reply =
    let w = m.trail.current in
    let t = answered_step_is_taken m n (Sweep r) a reply in
    let told = swept_answer w (state_after (Sweep r) w) r legal in
    let none : condemned_of a ≡ 0 = ap (λ (x : Answer). condemned_of x) t.answer ∙ told.0 in
    let state = swept_state w r h in
    record {
      step = λ b. subst (λ (k : ℕ). StepsLead b m ((Sweep r, a) ∷ []) b n k (swept_of a)) none (one_leads b m n (Sweep r) a (next_sweep b w r h) reply);
      few = subst (λ (x : Answer). swept_of x ≤ cell_limit) (sym t.answer) told.1;
      waiting = ap (λ (v : HeapState). pending_regions v.regions) t.state ∙ state.0;
      phase = ap (λ (v : HeapState). v.phase) t.state ∙ state.1;
    }

-- no more regions wait than there are
pub few_wait : (w : HeapState) → IsLegal w → length (pending_regions w.regions) ≤ region_limit
unfolding pending_regions
few_wait w legal =
    let most : length w.regions ≤ region_limit = legal.sized.regions.1 in
    omega (arith, length-filter_map pending_number (enumerate_from 0 w.regions), length-enumerate_from 0 w.regions, most)

one_fewer : (p : List ℕ) (r : ℕ) → slice_get p 0 ≡ Some r → length (drop 1 p) + 1 ≡ length p
one_fewer [] r h = absurd (cc h)
one_fewer (x ∷ xs) r h = omega arith

none_first : (p : List ℕ) → slice_get p 0 ≡ None → p ≡ []
none_first [] h = refl
none_first (x ∷ xs) h = absurd (cc h)

-- the sweeps so far lead from m to n, and remove this number of objects; each region that still waits may have as many more as it
-- has cells
pub record AreSweeping (m : Machine) (steps : List TakenStep) (count : ℕ) (n : Machine) : Type 0 where
  pub lead : (b : Bool) → StepsLead b m steps b n 0 count
  pub few : count + cell_limit * length (pending_regions n.trail.current.regions) ≤ region_limit * cell_limit
  pub phase : n.trail.current.phase ≡ m.trail.current.phase

pub sweeping_begins : (m : Machine) → IsLegal m.trail.current → AreSweeping m [] 0 m
sweeping_begins m legal = record { lead = λ b. none_lead b m; few = let most = few_wait m.trail.current legal in omega (arith, most); phase = refl }

pub sweeping_on : (m n k : Machine) (xs ys : List TakenStep) (x y r : ℕ) → waiting_region n.trail.current ≡ Some r → AreSweeping m xs x n → IsSwept n ys y k → AreSweeping m (xs ++ ys) (x + y) k
sweeping_on m n k xs ys x y r h s t =
    let fewer = one_fewer (pending_regions n.trail.current.regions) r h in
    let left = ap length t.waiting in
    let few = s.few in
    let one = t.few in
    record {
      lead = λ b. leads_on b b b m n k xs ys 0 x 0 y (s.lead b) (t.step b);
      few = omega (arith, fewer, left, few, one);
      phase = t.phase ∙ s.phase;
    }

pub waits_less : (n k : Machine) (ys : List TakenStep) (y r : ℕ) → waiting_region n.trail.current ≡ Some r → IsSwept n ys y k → length (pending_regions k.trail.current.regions) < length (pending_regions n.trail.current.regions)
waits_less n k ys y r h t =
    let fewer = one_fewer (pending_regions n.trail.current.regions) r h in
    let left = ap length t.waiting in
    omega (arith, fewer, left)

pub none_waits : (o : Option ℕ) → ((r : ℕ) → o ≡ Some r → ⊥) → o ≡ None
none_waits None h = refl
none_waits (Some r) h = absurd (h r refl)

pub sweeping_ends : (m n : Machine) (xs : List TakenStep) (x : ℕ) → waiting_region n.trail.current ≡ None → AreSweeping m xs x n → AreSwept m xs x n
sweeping_ends m n xs x h s =
    let few = s.few in
    record { lead = s.lead; few = omega (arith, few); none = none_first (pending_regions n.trail.current.regions) h; phase = s.phase }

-- ---- steps of the marker

-- which step of the marker is next
abbrev Marks : HeapState → Event → Type 0
Marks w e =
    ((e ≡ Snap) × (is_marking w.phase ≡ false))
    ⊎ ((e ≡ Mark) × (is_marking w.phase ≡ true) × (0 < length w.gray))
    ⊎ ((e ≡ Drain) × (is_marking w.phase ≡ true) × (w.drained < length w.log))
    ⊎ ((e ≡ Finish) × (is_marking w.phase ≡ true) × (length w.gray ≤ 0) × (length w.log ≤ w.drained))

next_mark_marks : (w : HeapState) → Marks w (next_mark w)
unfolding next_mark
next_mark_marks w = phase (is_marking w.phase) refl
  where
    log : is_marking w.phase ≡ true → length w.gray ≤ 0 → (b : Bool) → nat_lt w.drained (length w.log) ≡ b → Marks w (cond b Drain Finish)
    log m g true h = inr (inr (inl (refl, m, ltb-true w.drained (length w.log) h)))
    log m g false h = inr (inr (inr (refl, m, g, ltb-false w.drained (length w.log) h)))

    gray : is_marking w.phase ≡ true → (b : Bool) → nat_lt 0 (length w.gray) ≡ b → Marks w (cond b Mark (cond (nat_lt w.drained (length w.log)) Drain Finish))
    gray m true h = inr (inl (refl, m, ltb-true 0 (length w.gray) h))
    gray m false h = log m (ltb-false 0 (length w.gray) h) (nat_lt w.drained (length w.log)) refl

    phase : (b : Bool) → is_marking w.phase ≡ b → Marks w (cond (not b) Snap (cond (nat_lt 0 (length w.gray)) Mark (cond (nat_lt w.drained (length w.log)) Drain Finish)))
    phase false h = inl (refl, h)
    phase true h = gray h (nat_lt 0 (length w.gray)) refl

next_marks : (w : HeapState) → pending_regions w.regions ≡ [] → next_step false w ≡ Some (next_mark w)
unfolding next_step
next_marks w h = ap (λ (l : List ℕ). option_map_or (λ r. Some (Sweep r)) (slice_get l 0) (Some (next_mark w))) h

marks_allowed : (w : HeapState) (e : Event) → pending_regions w.regions ≡ [] → Marks w e → refusal_of e w ≡ None
unfolding refusal_of
marks_allowed w e none (inl h) = ap (λ (x : Event). refusal_of x w) h.0 ∙ snap_free (marking_of w) h.1
marks_allowed w e none (inr (inl h)) = ap (λ (x : Event). refusal_of x w) h.0 ∙ mark_free (marking_of w) h.1 h.2
marks_allowed w e none (inr (inr (inl h))) = ap (λ (x : Event). refusal_of x w) h.0 ∙ drain_free (marking_of w) h.1 h.2
marks_allowed w e none (inr (inr (inr h))) =
    let gray = h.2 in
    let log = h.3 in
    ap (λ (x : Event). refusal_of x w) h.0 ∙ finish_free (marking_of w) h.1 (omega (arith, gray, log)) (sym (ap (λ (l : List ℕ). slice_get l 0) none))

pub mark_allowed : (w : HeapState) (x : Event) → x ≡ next_mark w → pending_regions w.regions ≡ [] → refusal_of x w ≡ None
mark_allowed w x is none = marks_allowed w x none (subst (Marks w) (sym is) (next_mark_marks w))

pub mark_stopped : (D : Refusal → Type 0) (m : Machine) (x : Event) (e : Refusal) → x ≡ next_mark m.trail.current → pending_regions m.trail.current.regions ≡ [] → MayFail m (Step x) m e ⊎ D e → MayStop D false m e
mark_stopped D m x e is none f =
    let w = m.trail.current in
    failure_stops_cycle D false m x e (next_marks w none ∙ ap (λ (y : Event). Some y) (sym is)) (mark_allowed w x is none) f

-- a step of the marker before its finish leaves which regions wait, and condemns and removes nothing
abbrev Leaves : HeapState → Event → Type 0
Leaves w e =
    (pending_regions (state_after e w).regions ≡ pending_regions w.regions)
    × (condemned_of (answer_of e w (state_after e w)) ≡ 0) × (swept_of (answer_of e w (state_after e w)) ≡ 0)

snap_leaves : (w : HeapState) → Leaves w Snap
unfolding state_after answer_of after_snap snapped
snap_leaves w = (all_shaded w.registers _, refl, refl)

mark_leaves : (w : HeapState) → Leaves w Mark
unfolding state_after answer_of after_mark marked
mark_leaves w = (all_shaded (children_of w.classes w.regions (slice_index w.gray 0)) (record (marking_of w) { gray = drop 1 w.gray }), refl, refl)

drain_leaves : (w : HeapState) → Leaves w Drain
unfolding state_after answer_of after_drain drained_once
drain_leaves w = (all_shaded (_ ∷ []) _, refl, refl)

marks_leave : (w : HeapState) (e : Event) → Marks w e → ends_cycle e ≡ false → Leaves w e
marks_leave w e (inl h) f = subst (Leaves w) (sym h.0) (snap_leaves w)
marks_leave w e (inr (inl h)) f = subst (Leaves w) (sym h.0) (mark_leaves w)
marks_leave w e (inr (inr (inl h))) f = subst (Leaves w) (sym h.0) (drain_leaves w)
marks_leave w e (inr (inr (inr h))) f = absurd (true≢false (sym (ap ends_cycle h.0) ∙ f))

mark_that_ends_cycle_is_finish : (w : HeapState) (e : Event) → Marks w e → ends_cycle e ≡ true → e ≡ Finish
mark_that_ends_cycle_is_finish w e (inl h) f = absurd (true≢false (sym f ∙ ap ends_cycle h.0))
mark_that_ends_cycle_is_finish w e (inr (inl h)) f = absurd (true≢false (sym f ∙ ap ends_cycle h.0))
mark_that_ends_cycle_is_finish w e (inr (inr (inl h))) f = absurd (true≢false (sym f ∙ ap ends_cycle h.0))
mark_that_ends_cycle_is_finish w e (inr (inr (inr h))) f = h.0

finish_ends : (w : HeapState) → ((state_after Finish w).phase ≡ Idle) × (swept_of (answer_of Finish w (state_after Finish w)) ≡ 0)
unfolding state_after answer_of after_finish finished
finish_ends w = (refl, refl)

pub marked_on : (m n : Machine) (e : Event) (a : Answer) (b : Bool) → e ≡ next_mark m.trail.current → pending_regions m.trail.current.regions ≡ [] → MayReply m (Step e) n (Answered a) → b ≡ ends_cycle e → b ≡ false → MovesOn m ((e, a) ∷ []) None n
marked_on m n e a b is none reply told going =
    let w = m.trail.current in
    let f : ends_cycle e ≡ false = sym told ∙ going in
    let t = answered_step_is_taken m n e a reply in
    let kept = marks_leave w e (subst (Marks w) (sym is) (next_mark_marks w)) f in
    let one = one_leads false m n e a (next_marks w none ∙ ap (λ (y : Event). Some y) (sym is)) reply in (
      subst (λ (b : Bool). StepsLead false m ((e, a) ∷ []) (b || false) n 0 0) f
          (subst (λ (k : ℕ). StepsLead false m ((e, a) ∷ []) (ends_cycle e || false) n k 0) (ap (λ (x : Answer). condemned_of x) t.answer ∙ kept.1)
          (subst (λ (k : ℕ). StepsLead false m ((e, a) ∷ []) (ends_cycle e || false) n (condemned_of a) k) (ap (λ (x : Answer). swept_of x) t.answer ∙ kept.2) one)),
      ap (λ (v : HeapState). pending_regions v.regions) t.state ∙ kept.0 ∙ none,
      t.below,
      t.place,
    )

pub marked_last : (m n : Machine) (e : Event) (a : Answer) (b : Bool) (count : ℕ) → e ≡ next_mark m.trail.current → pending_regions m.trail.current.regions ≡ [] → MayReply m (Step e) n (Answered a) → b ≡ ends_cycle e → b ≡ true → count ≡ condemned_of a → MovesOn m ((e, a) ∷ []) (Some count) n
marked_last m n e a b count is none reply told last same =
    let w = m.trail.current in
    let f : ends_cycle e ≡ true = sym told ∙ last in
    let finish = mark_that_ends_cycle_is_finish w e (subst (Marks w) (sym is) (next_mark_marks w)) f in
    let t = answered_step_is_taken m n e a reply in
    let ends = subst (λ (x : Event). ((state_after x w).phase ≡ Idle) × (swept_of (answer_of x w (state_after x w)) ≡ 0)) (sym finish) (finish_ends w) in
    let one = one_leads false m n e a (next_marks w none ∙ ap (λ (y : Event). Some y) (sym is)) reply in
    subst (λ (k : ℕ). MovesOn m ((e, a) ∷ []) (Some k) n) (sym same) (
      subst (λ (b : Bool). StepsLead false m ((e, a) ∷ []) (b || false) n (condemned_of a) 0) f
          (subst (λ (k : ℕ). StepsLead false m ((e, a) ∷ []) (ends_cycle e || false) n (condemned_of a) k) (ap (λ (x : Answer). swept_of x) t.answer ∙ ends.1) one),
      ap (λ (v : HeapState). v.phase) t.state ∙ ends.0,
    )

-- the marker's steps so far
pub marking_on : (m n k : Machine) (xs ys : List TakenStep) (o : Option ℕ) → o ≡ None → StepsLead false m xs false n 0 0 → MovesOn n ys o k → StepsLead false m (xs ++ ys) false k 0 0 × (pending_regions k.trail.current.regions ≡ [])
marking_on m n k xs ys None is s t = (leads_on false false false m n k xs ys 0 0 0 0 s t.0, t.1)
marking_on m n k xs ys (Some x) is s t = absurd (cc is)

pub place_on : (m n : Machine) (ys : List TakenStep) (o : Option ℕ) → o ≡ None → MovesOn m ys o n → (m.trail.place < last_place) × (n.trail.place ≡ m.trail.place + 1)
place_on m n ys None is t = (t.2, t.3)
place_on m n ys (Some x) is t = absurd (cc is)

pub marking_ends : (m n k : Machine) (xs ys : List TakenStep) (o : Option ℕ) (x : ℕ) → o ≡ Some x → StepsLead false m xs false n 0 0 → MovesOn n ys o k → MarksLead m (xs ++ ys) x k
marking_ends m n k xs ys None x is s t = absurd (cc is)
marking_ends m n k xs ys (Some y) x is s t =
    let same : 0 + y ≡ x = (let e : y ≡ x = cc is in omega (arith, e)) in
    (subst (λ (z : ℕ). StepsLead false m (xs ++ ys) true k z 0) same (leads_on false false true m n k xs ys 0 0 y 0 s t.0), t.1)

-- ---- a whole cycle

pub whole_cycle : (m x y n : Machine) (xs ys zs : List TakenStep) (a b d : ℕ) → AreSwept m xs a x → MarksLead x ys b y → AreSwept y zs d n → IsWholeCycle m ((xs ++ ys) ++ zs) b (a + d) n
whole_cycle m x y n xs ys zs a b d s t f =
    let condemned : (0 + b) + 0 ≡ b = omega arith in
    let swept : (a + 0) + d ≡ a + d = omega arith in
    let all = (xs ++ ys) ++ zs in
    let steps = leads_on false true true m y n (xs ++ ys) zs (0 + b) (a + 0) 0 d (leads_on false false true m x y xs ys 0 a b 0 (s.lead false) t.0) (f.lead true) in (
      subst (λ (k : ℕ). StepsLead false m all true n k (a + d)) condemned (subst (λ (k : ℕ). StepsLead false m all true n ((0 + b) + 0) k) swept steps),
      (f.phase ∙ t.1, f.none),
    )

-- the answer about a whole cycle
pub cycle_told : (cycle : Result CycleCounts Refusal) (c : CycleCounts) (text : List ℕ) → cycle ≡ Ok c → IsTextOrNoMemory (λ text. text ≡ collected_text c.condemned c.swept) text → IsCycleAnswer cycle text
cycle_told cycle c text is h = subst (λ (x : Result CycleCounts Refusal). IsCycleAnswer x text) (sym is) h

-- ---- one list of steps

abbrev pub now : Machine → HeapState
now m = m.trail.current

same_steps : (b c d : Bool) (m k n l : Machine) (xs ys : List TakenStep) → now m ≡ now k → AreNext b m xs c n → AreNext b k ys d l → next_step c (now n) ≡ None → next_step d (now l) ≡ None → (xs ≡ ys) × (now n ≡ now l)
same_steps b c d m k n l [] [] same h j hn jn = (refl, ap now h.1 ∙ same ∙ sym (ap now j.1))
same_steps b c d m k n l [] (y ∷ ys) same h j hn jn =
    let there : next_step c (now n) ≡ next_step b (now k) = ap₂ next_step h.0 (ap now h.1 ∙ same) in
    let clash : None ≡ Some y.0 = sym hn ∙ there ∙ j.0 in
    absurd (cc clash)
same_steps b c d m k n l (x ∷ xs) [] same h j hn jn =
    let there : next_step d (now l) ≡ next_step b (now m) = ap₂ next_step j.0 (ap now j.1 ∙ sym same) in
    let clash : None ≡ Some x.0 = sym jn ∙ there ∙ h.0 in
    absurd (cc clash)
same_steps b c d m k n l (x ∷ xs) (y ∷ ys) same h j hn jn =
    let both : Some x.0 ≡ Some y.0 = sym h.0 ∙ ap (next_step b) same ∙ j.0 in
    let event : x.0 ≡ y.0 = cc both in
    let t = answered_step_is_taken m h.1.0 x.0 x.1 h.1.1 in
    let u = answered_step_is_taken k j.1.0 y.0 y.1 j.1.1 in
    let answer : x.1 ≡ y.1 = t.answer ∙ ap₂ (λ (e : Event) (w : HeapState). answer_of e w (state_after e w)) event same ∙ sym u.answer in
    let state : now h.1.0 ≡ now j.1.0 = t.state ∙ ap₂ state_after event same ∙ sym u.state in
    let others = subst (λ (e : Event). AreNext (ends_cycle e || b) h.1.0 xs c n) event h.1.2 in
    let rest = same_steps (ends_cycle y.0 || b) c d h.1.0 j.1.0 n l xs ys state others j.1.2 hn jn in
    (λ i. (event i, answer i) ∷ rest.0 i, rest.1)

none_next : (w : HeapState) → pending_regions w.regions ≡ [] → next_step true w ≡ None
unfolding next_step
none_next w h = ap (λ (p : List ℕ). option_map_or (λ r. Some (Sweep r)) (slice_get p 0) None) h

-- from one state two whole cycles do the same
pub one_cycle : (m k n l : Machine) (steps others : List TakenStep) (condemned swept doomed removed : ℕ) → now m ≡ now k → IsWholeCycle m steps condemned swept n → IsWholeCycle k others doomed removed l
    → (steps ≡ others) × (condemned ≡ doomed) × (swept ≡ removed) × (now n ≡ now l)
one_cycle m k n l steps others condemned swept doomed removed same h j =
    let s = same_steps false true true m k n l steps others same h.0.0 j.0.0 (none_next (now n) h.1.1) (none_next (now l) j.1.1) in (
      s.0,
      h.0.1 ∙ ap (λ (xs : List TakenStep). sum_by (λ (z : TakenStep). condemned_of z.1) xs) s.0 ∙ sym j.0.1,
      h.0.2 ∙ ap (λ (xs : List TakenStep). sum_by (λ (z : TakenStep). swept_of z.1) xs) s.0 ∙ sym j.0.2,
      s.1,
    )
