-- A rewind undoes steps, several as one by one.
use Rattle.std.proofs.Common.{◌≡◌, ℕ, zero, suc, ◌+◌, ◌-◌, ◌<◌, ◌≤◌, Bool, true, false, List, [], ◌∷◌, length, length-drop, map, get_or, refl, sym, ap, subst, ◌∙◌, Option, Some, None, arith}
use Rattle.std.specs.Prelude.{nat_lt, slice_get, if◌then◌else◌}
use Rattle.heap_class.specs.declared.LostCause.TheVariants.{Rewound}
use Rattle.heap_class.specs.declared.Refusal.{Refusal}
use Rattle.heap_world.specs.State.{HeapState}
use Rattle.heap_step.specs.declared.Event.{Event}
use Rattle.heap_step.specs.declared.Answer.{Answer}
use Rattle.hprof_text.specs.Image.{Image}
use Rattle.heap_trail.specs.declared.Action.TheVariants.{Step, Rewind}
use Rattle.heap_trail.specs.declared.Reply.{Reply}
use Rattle.heap_trail.specs.declared.Reply.TheVariants.{Answered, Place, Refused}
use Rattle.heap_trail.specs.Trail.{Trail, retained, rewound, state_ago, rewind_refusal}
use Rattle.heap_trail.specs.Pins.{Pins, PinState, Kept, Gone, if_kept, each_kept, after_rewind, with_lost}
use Rattle.heap_trail.specs.Machine.{Machine, Granted, Denied, LosesPins, acted, acted_under, unless, after_rewind_by}
use Rattle.heap_trail.specs.Headline.{IsRewound, IsBackAt, UndoesStep, RewindsRetained, RewindsInParts}
use Rattle.heap_trail.proofs.Alone.{action_alike_when_bared}
use Rattle.heap_trail.proofs.Back.{answered_step_leads_back}
use Rattle.heap_trail.proofs.RewoundMachines.{rewound_none, rewound_more, rewind_done}

-- ---- one step

-- the place that a rewind replies is that of the machine after it
place_replied_unless_refused : (o : Option Refusal) (n : ℕ) (m : Machine) (place : ℕ) → (unless o (after_rewind_by n) m).1 ≡ Place place → (unless o (after_rewind_by n) m).0.trail.place ≡ place
unfolding unless after_rewind_by
place_replied_unless_refused None n m place h =
    let e : (rewound n m.trail).place ≡ place = cc h in
    e
place_replied_unless_refused (Some r) n m place h = absurd (clash h)
  where
    clash : Refused r ≡ Place place → ⊥
    clash e = cc

place_replied_by_rewind : (n : ℕ) (m : Machine) (place : ℕ) → (acted m (Rewind n)).1 ≡ Place place → (acted m (Rewind n)).0.trail.place ≡ place
unfolding acted
place_replied_by_rewind n m place h = place_replied_unless_refused (rewind_refusal n m.trail) n m place h

rewind_restores_step : (m : Machine) (e : Event) (n : Machine) (a : Answer) → 1 ≤ m.keep → acted m (Step e) ≡ (n, Answered a) → IsBackAt m (acted n (Rewind 1))
rewind_restores_step m e n a some done =
    let b = answered_step_leads_back m e n a some done in
    (b.0, place_replied_by_rewind 1 n m.trail.place b.1, b.1)

-- pins that are lost change nothing of it
restored_losing : (m n : Machine) (pins : Pins) → IsBackAt m (acted n (Rewind 1)) → IsBackAt m (acted (record n { pins = pins }) (Rewind 1))
restored_losing m n pins r =
    let with_pins : Machine = record n { pins = pins } in
    let x = action_alike_when_bared n.ids with_pins (Rewind 1) refl in
    let y = action_alike_when_bared n.ids n (Rewind 1) refl in
    let t : (acted with_pins (Rewind 1)).0.trail ≡ (acted n (Rewind 1)).0.trail = x.0 ∙ sym y.0 in
    (ap (λ (u : Trail). u.current) t ∙ r.0, ap (λ (u : Trail). u.place) t ∙ r.1, x.1 ∙ sym y.1 ∙ r.2)

pub undoes_step : (m : Machine) → UndoesStep m
unfolding acted_under
undoes_step m e Granted n a some done = rewind_restores_step m e n a some done
undoes_step m e Denied n a some done = absurd (clash (ap (λ (p : Machine × Reply). p.1) done))
  where
    clash : {r : Refusal} → Refused r ≡ Answered a → ⊥
    clash e = cc
undoes_step m e (LosesPins pins) n a some done =
    let r = acted m (Step e) in
    let answered : r.1 ≡ Answered a = ap (λ (p : Machine × Reply). p.1) done in
    let is : record r.0 { pins = with_lost pins r.0.pins } ≡ n = ap (λ (p : Machine × Reply). p.0) done in
    subst (λ x. IsBackAt m (acted x (Rewind 1))) is (restored_losing m r.0 (with_lost pins r.0.pins) (rewind_restores_step m e r.0 a some (λ i. (r.0, answered i))))

-- ---- several steps

nth_there : (n : ℕ) (xs : List HeapState) (d : HeapState) → n < length xs → slice_get xs n ≡ Some (get_or xs n d)
nth_there n [] d h = absurd (omega (arith, h))
nth_there zero (x ∷ xs) d h = refl
nth_there (suc n) (x ∷ xs) d h = nth_there n xs d (omega (arith, h))

pub rewinds_retained : (m : Machine) → RewindsRetained m
unfolding rewound state_ago
rewinds_retained m n few = subst (IsRewound n m) (sym (rewind_done m n few)) record {
  state = nth_there n (m.trail.current ∷ m.trail.past) m.trail.current (omega (arith, few));
  past = refl;
  records = refl;
  place = refl;
  reply = refl;
}

-- ---- some and then the rest

pub retained_after_rewind : (a : ℕ) (t : Trail) → retained (rewound a t) ≡ retained t - a
unfolding rewound
retained_after_rewind a t = omega (arith, length-drop a t.past)

pub rewound_parts : (a b : ℕ) (t : Trail) → a + b ≤ retained t → rewound b (rewound a t) ≡ rewound (a + b) t
rewound_parts a zero t few = rewound_none (rewound a t) ∙ ap (λ n. rewound n t) (let e : a ≡ a + 0 = omega arith in e)
rewound_parts a (suc b) t few =
    ap (λ n. rewound n (rewound a t)) (let e : suc b ≡ b + 1 = omega arith in e)
    ∙ sym (rewound_more b (rewound a t) (omega (arith, few, retained_after_rewind a t)))
    ∙ ap (rewound 1) (rewound_parts a b t (omega (arith, few)))
    ∙ rewound_more (a + b) t (omega (arith, few))
    ∙ ap (λ n. rewound n t) (let e : a + b + 1 ≡ a + suc b = omega arith in e)

-- a pin above a place is lost
abbrev pin_lost_above_place : ℕ → ℕ → Image → ℕ → PinState
pin_lost_above_place to place image given = if nat_lt to place then Gone place Rewound else Kept place image given

pin_lost_above_lower_place : (low high place : ℕ) → low ≤ high → nat_lt high place ≡ true → nat_lt low place ≡ true
pin_lost_above_lower_place low high place le h = grind arith

pin_lost_in_two_rewinds : (low high : ℕ) → low ≤ high → (s : PinState) → if_kept (pin_lost_above_place low) (if_kept (pin_lost_above_place high) s) ≡ if_kept (pin_lost_above_place low) s
unfolding if_kept
pin_lost_in_two_rewinds low high le (Kept place image given) = go (nat_lt high place) refl
  where
    go : (b : Bool) → nat_lt high place ≡ b → if_kept (pin_lost_above_place low) (if b then Gone place Rewound else Kept place image given) ≡ pin_lost_above_place low place image given
    go true h = sym (ap (λ (b : Bool). if b then Gone place Rewound else Kept place image given) (pin_lost_above_lower_place low high place le h))
    go false h = refl
pin_lost_in_two_rewinds low high le (Gone place cause) = refl

pins_lost_in_two_rewinds : (low high : ℕ) → low ≤ high → (xs : List (ℕ × PinState))
    → map {B = ℕ × PinState} (λ e. (e.0, if_kept (pin_lost_above_place low) e.1)) (map {B = ℕ × PinState} (λ e. (e.0, if_kept (pin_lost_above_place high) e.1)) xs) ≡ map {B = ℕ × PinState} (λ e. (e.0, if_kept (pin_lost_above_place low) e.1)) xs
pins_lost_in_two_rewinds low high le [] = refl
pins_lost_in_two_rewinds low high le (x ∷ xs) = λ i. (x.0, pin_lost_in_two_rewinds low high le x.1 i) ∷ pins_lost_in_two_rewinds low high le xs i

pins_parts : (low high : ℕ) → low ≤ high → (p : Pins) → after_rewind low (after_rewind high p) ≡ after_rewind low p
unfolding after_rewind each_kept
pins_parts low high le p = ap (λ l. record { next = p.next; open_pins = l }) (pins_lost_in_two_rewinds low high le p.open_pins)

-- what a rewind of n steps leaves and replies, if n are retained
abbrev rewound_by : ℕ → Machine → Machine × Reply
rewound_by n m = (record m { trail = rewound n m.trail; pins = after_rewind (rewound n m.trail).place m.pins }, Place (rewound n m.trail).place)

places_fall : (a b : ℕ) (t : Trail) → (rewound b (rewound a t)).place ≤ (rewound a t).place
unfolding rewound
places_fall a b t = omega arith

two_rewinds_are_one : (a b : ℕ) (m : Machine) → a + b ≤ retained m.trail → rewound_by b (rewound_by a m).0 ≡ rewound_by (a + b) m
two_rewinds_are_one a b m few =
    ap (λ p. (record m { trail = rewound b (rewound a m.trail); pins = p }, Place (rewound b (rewound a m.trail)).place)) (pins_parts (rewound b (rewound a m.trail)).place (rewound a m.trail).place (places_fall a b m.trail) m.pins)
    ∙ ap (λ (t : Trail). (record m { trail = t; pins = after_rewind t.place m.pins }, Place t.place)) (rewound_parts a b m.trail few)

pub rewinds_in_parts : (m : Machine) → RewindsInParts m
rewinds_in_parts m a b few =
    ap (λ (r : Machine × Reply). acted r.0 (Rewind b)) (rewind_done m a (omega (arith, few)))
    ∙ rewind_done (rewound_by a m).0 b (omega (arith, few, retained_after_rewind a m.trail))
    ∙ two_rewinds_are_one a b m few
    ∙ sym (rewind_done m (a + b) few)
