-- No event is refused NoMemory or ChronicleFull by the model.
use Rattle.std.proofs.Common.{◌≡◌, ℕ, ◌<◌, Bool, true, false, cond, List, [], ◌∷◌, Option, Some, None, refl, sym, ap, subst, ◌∙◌, inl, inr, arith, rules}
use Rattle.std.specs.Prelude.{nat_le, ◌≢◌, ◌⊎◌}
use Rattle.heap_class.specs.declared.Refusal.{Refusal}
use Rattle.heap_class.specs.declared.Refusal.TheVariants.{NoMemory, ChronicleFull}
use Rattle.heap_class.specs.Classes.{class_refusal}
use Rattle.heap_class.specs.Refusals.{first_refusal}
use Rattle.heap_trail.specs.MarkSteps.{snap_refusal, mark_refusal, drain_refusal, finish_refusal}
use Rattle.heap_trail.specs.Sweep.{sweep_refusal}
use Rattle.heap_trail.specs.State.{HeapState}
use Rattle.heap_trail.specs.HeapEvents.{new_refusal, new_array_refusal, new_prim_refusal, load_refusal, store_refusal, put_refusal, move_refusal, clear_refusal}
use Rattle.heap_step.specs.declared.Answer.{Answer}
use Rattle.heap_step.specs.declared.Event.{Event}
use Rattle.heap_step.specs.declared.Event.TheVariants.{Snap}
use Rattle.heap_step.specs.Apply.{refusal_of, applied, applied_unless}
use Rattle.heap_trail.specs.declared.Action.{Action}
use Rattle.heap_trail.specs.declared.Action.TheVariants.{Step, Rewind, OpenPin, NextPiece, ClosePin}
use Rattle.heap_trail.specs.declared.Reply.{Reply}
use Rattle.heap_trail.specs.declared.Reply.TheVariants.{Answered, Place, Pinned, Part, Closed, Refused}
use Rattle.heap_trail.specs.Limits.{last_place}
use Rattle.heap_trail.specs.Trail.{rewind_refusal}
use Rattle.heap_trail.specs.Machine.{MayReply, Machine, Granted, Denied, MayStand, acted, acted_under, after_step_at, after_result, unless, after_rewind_by, is_dump_action}
use Rattle.heap_history.specs.History.{MayEnter}

is_rare_refusal : Refusal → Bool
is_rare_refusal NoMemory = true
is_rare_refusal ChronicleFull = true
is_rare_refusal r = false

abbrev IsNoRareRefusal : Option Refusal → Type 0
IsNoRareRefusal None = Unit {0}
IsNoRareRefusal (Some r) = is_rare_refusal r ≡ false

abbrev AreNoRareRefusals : List (Bool × Refusal) → Type 0
AreNoRareRefusals [] = Unit {0}
AreNoRareRefusals (t ∷ ts) = (is_rare_refusal t.1 ≡ false) × AreNoRareRefusals ts

plain_refusal_before_plain_rest : (b : Bool) (r : Refusal) (rest : Option Refusal) → is_rare_refusal r ≡ false → IsNoRareRefusal rest → IsNoRareRefusal (cond b (Some r) rest)
plain_refusal_before_plain_rest true r rest here later = here
plain_refusal_before_plain_rest false r rest here later = later

first_of_plain_refusals_plain : (ts : List (Bool × Refusal)) → AreNoRareRefusals ts → IsNoRareRefusal (first_refusal ts)
unfolding first_refusal
first_of_plain_refusals_plain [] all = tt
first_of_plain_refusals_plain (t ∷ ts) all = plain_refusal_before_plain_rest t.0 t.1 (first_refusal ts) all.0 (first_of_plain_refusals_plain ts all.1)

event_plain : (e : Event) (w : HeapState) → IsNoRareRefusal (refusal_of e w)
unfolding is_rare_refusal refusal_of class_refusal new_refusal new_array_refusal new_prim_refusal load_refusal store_refusal put_refusal move_refusal clear_refusal snap_refusal mark_refusal drain_refusal finish_refusal sweep_refusal
event_plain Snap w = first_of_plain_refusals_plain _ (refl, tt)
event_plain e w = first_of_plain_refusals_plain _ (search rules)

abbrev IsReplyWithoutRareRefusal : Reply → Type 0
IsReplyWithoutRareRefusal (Answered a) = Unit {0}
IsReplyWithoutRareRefusal (Place p) = Unit {0}
IsReplyWithoutRareRefusal (Pinned pin at) = Unit {0}
IsReplyWithoutRareRefusal (Part p) = Unit {0}
IsReplyWithoutRareRefusal Closed = Unit {0}
IsReplyWithoutRareRefusal (Refused r) = is_rare_refusal r ≡ false

true_is_not_false : true ≡ false → {A : Type 0} → A
true_is_not_false e = cc e

plain_enters : (r : Reply) → IsReplyWithoutRareRefusal r → MayEnter r
unfolding is_rare_refusal
plain_enters r p = (λ e. true_is_not_false (subst IsReplyWithoutRareRefusal e p), λ e. true_is_not_false (subst IsReplyWithoutRareRefusal e p))

applied_plain : (o : Option Refusal) (e : Event) (m : Machine) → IsNoRareRefusal o → IsReplyWithoutRareRefusal (after_result e m (applied_unless o e m.trail.current)).1
unfolding applied_unless after_result
applied_plain None e m p = tt
applied_plain (Some r) e m p = p

stepped_plain : (b : Bool) (e : Event) (m : Machine) → b ≡ false → IsReplyWithoutRareRefusal (after_step_at b e m).1
unfolding after_step_at applied
stepped_plain true e m h = true_is_not_false h
stepped_plain false e m h = applied_plain (refusal_of e m.trail.current) e m (event_plain e m.trail.current)

rewound_plain : (o : Option Refusal) (n : ℕ) (m : Machine) → IsNoRareRefusal o → IsReplyWithoutRareRefusal (unless o (after_rewind_by n) m).1
unfolding unless after_rewind_by
rewound_plain None n m p = tt
rewound_plain (Some r) n m p = p

rewind_refusal_is_plain : (n : ℕ) (m : Machine) → IsNoRareRefusal (rewind_refusal n m.trail)
unfolding is_rare_refusal rewind_refusal
rewind_refusal_is_plain n m = first_of_plain_refusals_plain _ (refl, tt)

acted_plain : (m : Machine) (a : Action) → is_dump_action a ≡ false → m.trail.place < last_place → IsReplyWithoutRareRefusal (acted m a).1
unfolding acted
acted_plain m (Step e) deed h = stepped_plain (nat_le last_place m.trail.place) e m (not_last m.trail.place h)
  where
    not_last : (place : ℕ) → place < last_place → nat_le last_place place ≡ false
    not_last place h = grind (arith, h)
acted_plain m (Rewind n) deed h = rewound_plain (rewind_refusal n m.trail) n m (rewind_refusal_is_plain n m)
acted_plain m (OpenPin at) deed h = true_is_not_false deed
acted_plain m (NextPiece pin time) deed h = true_is_not_false deed
acted_plain m (ClosePin pin) deed h = true_is_not_false deed

-- what a machine replies before the last place may be an entry
reply_enters : (m m' : Machine) (a : Action) (r : Reply) → is_dump_action a ≡ false → m.trail.place < last_place → acted m a ≡ (m', r) → MayEnter r
reply_enters m m' a r deed h is = plain_enters r (subst IsReplyWithoutRareRefusal (ap (λ (x : Machine × Reply). x.1) is) (acted_plain m a deed h))

-- an action that is done or refused for another reason than memory
pub fine_enters : (m m' : Machine) (a b : Action) (r : Reply) → is_dump_action b ≡ false → m.trail.place < last_place → a ≡ b → acted m b ≡ (m', r) → MayReply m a m' r × MayEnter r
unfolding acted_under
fine_enters m m' a b r deed h same is = ((Granted, tt, ap (acted m) same ∙ is), reply_enters m m' b r deed h is)

-- a refusal other than NoMemory
pub refused_enters : (m m' : Machine) (a b : Action) (r : Refusal) → is_dump_action b ≡ false → m.trail.place < last_place → a ≡ b → r ≢ NoMemory → (acted m b ≡ (m', Refused r)) ⊎ (MayStand m (b, Denied) × (r ≡ NoMemory)) → MayReply m a m' (Refused r) × MayEnter (Refused r)
refused_enters m m' a b r deed h same ne (inl is) = fine_enters m m' a b (Refused r) deed h same is
refused_enters m m' a b r deed h same ne (inr t) = absurd (ne t.1)

-- a step that is answered, whatever pins it loses
pub answer_enters : (m m' : Machine) (a b : Action) (answer : Answer) → a ≡ b → MayReply m b m' (Answered answer) → MayReply m a m' (Answered answer) × MayEnter (Answered answer)
answer_enters m m' a b answer same move = (subst (λ (c : Action). MayReply m c m' (Answered answer)) (sym same) move, plain_enters (Answered answer) tt)
