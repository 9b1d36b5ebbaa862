-- What a rewind makes of a machine.
use Rattle.std.proofs.Common.{◌≡◌, ℕ, zero, suc, ◌+◌, ◌-◌, ◌<◌, ◌≤◌, false, true, List, [], ◌∷◌, length, length-drop, drop, get_or, refl, sym, ap, subst, ◌∙◌, cond, Option, Some, None, arith}
use Rattle.std.specs.Prelude.{nat_lt, slice_get}
use Rattle.circular_buffer.specs.Buffer.{Buffer, buffer}
use Rattle.heap_class.specs.Refusals.{first_refusal}
use Rattle.heap_class.specs.declared.Refusal.{Refusal}
use Rattle.heap_class.specs.declared.Refusal.TheVariants.{TooFar}
use Rattle.heap_world.specs.State.{HeapState}
use Rattle.heap_world.specs.Legal.{IsLegal}
use Rattle.heap_step.specs.declared.Event.{Event}
use Rattle.heap_step.specs.declared.Undo.{Undo}
use Rattle.heap_step.specs.Records.{undone}
use Rattle.heap_step.specs.Laws.{IsStep}
use Rattle.heap_trail.specs.declared.Action.TheVariants.{Rewind}
use Rattle.heap_trail.specs.declared.Reply.TheVariants.{Place, Refused}
use Rattle.heap_trail.specs.Trail.{Trail, retained, rewound, state_ago, rewind_refusal}
use Rattle.heap_trail.specs.Machine.{Machine, acted, unless, after_rewind_by}
use Rattle.heap_trail.specs.Records.{AreRecorded, IsRetaining}
use Rattle.heap_trail.specs.Pins.{after_rewind}
use Rattle.heap_trail.proofs.RecordedPast.{limits_stay}

-- ---- one step

-- a ring without its newest record
abbrev pub popped : Buffer Undo → Buffer Undo
popped ring = buffer (drop 1 ring.items) ring.capacity

-- the record that is undone is of such a step
abbrev pub WasStep : HeapState → Undo → Type 0
WasStep w left = (e : Event) × (before : HeapState) × IsStep e before w left

no_first_record : (left : Undo) → ◌≡◌ {A = Option Undo} None (Some left) → ⊥
no_first_record left h = cc

first_record_is_left : (r left : Undo) → ◌≡◌ {A = Option Undo} (Some r) (Some left) → r ≡ left
first_record_is_left r left h = cc

pub recorded_step_was_made : (w : HeapState) (items : List Undo) (left : Undo) → AreRecorded w items → slice_get items 0 ≡ Some left → WasStep w left
recorded_step_was_made w [] left told first = absurd (no_first_record left first)
recorded_step_was_made w (r ∷ rs) left told first =
    let e : r ≡ left = first_record_is_left r left first in
    subst (WasStep w) e (told.0.0, undone r w, told.0.1)

-- every state from which such a step led here
abbrev pub LeadsTo : HeapState → HeapState → Undo → Type 0
LeadsTo v w left = (e : Event) (before : HeapState) → IsStep e before w left → v ≡ before

pub last_record_is_undone : (v w : HeapState) (left r : Undo) (rs : List Undo) → r ≡ left → AreRecorded w (r ∷ rs) → LeadsTo v w left → v ≡ undone r w
last_record_is_undone v w left r rs e told leads = leads told.0.0 (undone r w) (subst (IsStep told.0.0 (undone r w) w) e told.0.1)

pub kept_after_undo : (w v : HeapState) (left : Undo) (ring : Buffer Undo) (place keep : ℕ) → IsRetaining w ring place keep → slice_get ring.items 0 ≡ Some left → LeadsTo v w left → IsRetaining v (popped ring) (place - 1) keep
kept_after_undo w v left ring place keep k first leads = go ring.items first k.recorded k.few k.placed
  where
    go : (items : List Undo) → slice_get items 0 ≡ Some left → AreRecorded w items → length items ≤ keep → length items ≤ place → IsRetaining v (buffer (drop 1 items) ring.capacity) (place - 1) keep
    go [] h told few placed = absurd (no_first_record left h)
    go (r ∷ rs) h told few placed =
        let e : r ≡ left = first_record_is_left r left h in
        let back : v ≡ undone r w = last_record_is_undone v w left r rs e told leads in
        record {
          legal = subst IsLegal (sym back) told.0.1.legal;
          recorded = subst (λ u. AreRecorded u rs) (sym back) told.1;
          few = omega (arith, few);
          room = k.room;
          within = k.within;
          placed = omega (arith, placed);
          counted = omega (arith, k.counted);
        }

-- the heap allows as much as before
pub limits_before : (w v : HeapState) (left : Undo) (items : List Undo) → AreRecorded w items → slice_get items 0 ≡ Some left → LeadsTo v w left → v.limits ≡ w.limits
limits_before w v left [] told first leads = absurd (no_first_record left first)
limits_before w v left (r ∷ rs) told first leads = limits_stay r v w (sym (last_record_is_undone v w left r rs (first_record_is_left r left first) told leads))

-- ---- several

pub rewound_none : (t : Trail) → rewound 0 t ≡ t
unfolding rewound state_ago
rewound_none t = ap (λ n. record t { place = n }) (let e : t.place - 0 ≡ t.place = omega arith in e)

past_ago : (i : ℕ) (xs : List HeapState) (d c : HeapState) → i < length xs → get_or (drop i xs) 0 d ≡ get_or xs i c
past_ago i [] d c h = absurd (omega (arith, h))
past_ago zero (x ∷ xs) d c h = refl
past_ago (suc i) (x ∷ xs) d c h = past_ago i xs d c (omega (arith, h))

drop_next : {A : Type 0} (i : ℕ) (xs : List A) → drop 1 (drop i xs) ≡ drop (suc i) xs
drop_next zero [] = refl
drop_next zero (x ∷ xs) = refl
drop_next (suc i) [] = refl
drop_next (suc i) (x ∷ xs) = drop_next i xs

drop_of_one_more_record : {A : Type 0} (i : ℕ) (xs : List A) → drop 1 (drop i xs) ≡ drop (i + 1) xs
drop_of_one_more_record i xs = drop_next i xs ∙ ap (λ n. drop n xs) (let e : suc i ≡ i + 1 = omega arith in e)

pub rewound_place : (i : ℕ) (t : Trail) → (rewound i t).place ≡ t.place - i
unfolding rewound
rewound_place i t = refl

-- one step more
pub rewound_more : (i : ℕ) (t : Trail) → i < retained t → rewound 1 (rewound i t) ≡ rewound (i + 1) t
unfolding rewound state_ago
rewound_more i t h = λ k. record {
  place = (let e : t.place - i - 1 ≡ t.place - (i + 1) = omega arith in e) k;
  current = (past_ago i t.past (state_ago i t) t.current h ∙ ap (λ n. get_or (t.current ∷ t.past) n t.current) (let e : suc i ≡ i + 1 = omega arith in e)) k;
  past = drop_of_one_more_record i t.past k;
  records = drop_of_one_more_record i t.records k;
}

pub rewound_trail_retains_more : (i : ℕ) (t : Trail) → i < retained t → 0 < retained (rewound i t)
unfolding rewound
rewound_trail_retains_more i t h = omega (arith, h, length-drop i t.past)

-- ---- replies

rewind_is_near_enough : (n k : ℕ) → n ≤ k → nat_lt k n ≡ false
rewind_is_near_enough n k h = grind arith

rewind_is_too_far : (n k : ℕ) → k < n → nat_lt k n ≡ true
rewind_is_too_far n k h = grind arith

rewind_within_retained_accepted : (n : ℕ) (t : Trail) → n ≤ retained t → rewind_refusal n t ≡ None
unfolding rewind_refusal first_refusal
rewind_within_retained_accepted n t h = ap (λ b. cond b (Some (TooFar n (retained t))) None) (rewind_is_near_enough n (retained t) h)

rewind_past_retained_refused : (n : ℕ) (t : Trail) → retained t < n → rewind_refusal n t ≡ Some (TooFar n (retained t))
unfolding rewind_refusal first_refusal
rewind_past_retained_refused n t h = ap (λ b. cond b (Some (TooFar n (retained t))) None) (rewind_is_too_far n (retained t) h)

pub rewind_done : (m : Machine) (n : ℕ) → n ≤ retained m.trail → acted m (Rewind n) ≡ (record m { trail = rewound n m.trail; pins = after_rewind (rewound n m.trail).place m.pins }, Place (rewound n m.trail).place)
unfolding acted unless after_rewind_by
rewind_done m n h = ap (λ (r : Option Refusal). unless r (after_rewind_by n) m) (rewind_within_retained_accepted n m.trail h)

pub machine_refuses_far_rewind : (m : Machine) (n : ℕ) → retained m.trail < n → acted m (Rewind n) ≡ (m, Refused (TooFar n (retained m.trail)))
unfolding acted unless
machine_refuses_far_rewind m n h = ap (λ (r : Option Refusal). unless r (after_rewind_by n) m) (rewind_past_retained_refused n m.trail h)
