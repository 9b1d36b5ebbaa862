-- What an act under the lock is as a step of the machine.
use Rattle.std.proofs.Common.{◌≡◌, ◌∙◌, ℕ, ◌+◌, Bool, true, false, Some, None, refl, sym, ap, ap₂, subst, inl, inr, List, [], ◌∷◌, ◌++◌, length, map, arith}
use Rattle.std.specs.Prelude.{Option, Result, Ok, Err, nat_le}
use Rattle.std.specs.List.{enumerate_from}
use Rattle.std.proofs.lemmas.List.{append_assoc, append-nil, length-append, length_push, map-append}
use Rattle.heap_lock.specs.Refusal.{Refusal}
use Rattle.heap_lock.specs.Refusal.TheVariants.{NoMemory, ChronicleFull}
use mathlib.Core.List.{IsPrefix}
use Rattle.heap_lock.specs.HeapLimits.{HeapSettings}
use Rattle.heap_lock.specs.Calls.{Call, call_of}
use Rattle.heap_lock.specs.State.{HeapState}
use Rattle.heap_lock.specs.Apply.{applied, refusal_of}
use Rattle.heap_lock.specs.Answer.{Answer}
use Rattle.heap_lock.specs.Event.{Event}
use Rattle.heap_lock.specs.Action.{Action}
use Rattle.heap_lock.specs.Action.TheVariants.{Step}
use Rattle.heap_lock.specs.Reply.{Reply}
use Rattle.heap_lock.specs.Reply.TheVariants.{Answered, Refused, Place}
use Rattle.heap_lock.specs.TrailLimits.{last_place}
use Rattle.heap_lock.specs.Machine.{Machine, Allocation, Granted, Denied, LosesPins, MayFail, MayReply, MayStand, acted, acted_under, after_result, after_step_at, is_accepted}
use Rattle.heap_lock.specs.Outcome.{Outcome}
use Rattle.heap_lock.specs.Entry.{Entry}
use Rattle.heap_lock.specs.Outcome.TheVariants as outcome
use Rattle.heap_lock.specs.Receipt.{Receipt}
use Rattle.heap_lock.specs.History.{MayEnter, entry, reply_of}
use Rattle.heap_lock.specs.LockStates.{SeatModel, IsAct, IsHeldAct, IsNoEntry, IsRefused, LockState}
use Rattle.heap_lock.proofs.Histories.{numbered_entries_of_one_more}
use Rattle.heap_lock.proofs.StepReplies.{step_replies_no_place}
use Rattle.heap_orders.specs.Collections.{IsShortage, TakenStep}
use Rattle.question_grammar.specs.declared.order.Order.{Order}
use Rattle.question_grammar.specs.declared.order.Order.TheVariants.{Act, Collect, Forward, ForwardTo, RewindTo}
use Rattle.question_grammar.specs.Orders.{MayTakeMemory}
use Rattle.heap_orders.proofs.CycleSteps.{failure_of_accepted_step_is_shortage}
use Rattle.question_grammar.specs.Bookmarks.{Bookmarks}
use Rattle.seat_session.specs.JoinedAnswers.{ActsHeld, AnswersForSeat, AnswersHeld, DoesHeld, Gains, IsHeapOfSeat, IsRefusedHeld, LeavesSeen, entries_of_steps, order_obeyed}

-- a step that is refused leaves the machine
refused_step_leaves_machine : (m n : Machine) (e : Event) (r : Refusal) → acted m (Step e) ≡ (n, Refused r) → n ≡ m
unfolding acted after_result after_step_at
refused_step_leaves_machine m n e r is = at (nat_le last_place m.trail.place) is
  where
    of : (x : Result (HeapState × Answer) Refusal) → after_result e m x ≡ (n, Refused r) → n ≡ m
    of (Ok v) h = let clash : Answered v.1 ≡ Refused r = ap (λ (x : Machine × Reply). x.1) h in absurd (cc clash)
    of (Err x) h = sym (ap (λ (x : Machine × Reply). x.0) h)

    at : (b : Bool) → after_step_at b e m ≡ (n, Refused r) → n ≡ m
    at true h = sym (ap (λ (x : Machine × Reply). x.0) h)
    at false h = of (applied e m.trail.current) h

pub step_reply_refused_leaves_machine : (m n : Machine) (e : Event) (r : Refusal) → MayReply m (Step e) n (Refused r) → (n ≡ m) × MayFail m (Step e) m r
unfolding acted_under is_accepted
step_reply_refused_leaves_machine m n e r h = go h.0 h.1 h.2
  where
    go : (mark : Allocation) → MayStand m (Step e, mark) → acted_under m (Step e, mark) ≡ (n, Refused r) → (n ≡ m) × MayFail m (Step e) m r
    go Granted s is = let same : n ≡ m = refused_step_leaves_machine m n e r is in (same, inl (is ∙ ap (λ (k : Machine). let x : Machine × Reply = (k, Refused r) in x) same))
    go Denied s is =
        let told : Refused NoMemory ≡ Refused r = ap (λ (x : Machine × Reply). x.1) is in
        let same : NoMemory ≡ r = cc told in
        (sym (ap (λ (x : Machine × Reply). x.0) is), inr (s, sym same))
    go (LosesPins pins) s is =
        let told : (acted m (Step e)).1 ≡ Refused r = ap (λ (x : Machine × Reply). x.1) is in
        let clash : false ≡ true = sym (ap is_accepted told) ∙ s.1 in
        absurd (cc clash)

pub not_at_place : (m n : Machine) (e : Event) (p : ℕ) → MayReply m (Step e) n (Place p) → ⊥
unfolding acted_under
not_at_place m n e p h = go h.0 h.2
  where
    go : (mark : Allocation) → acted_under m (Step e, mark) ≡ (n, Place p) → ⊥
    go Granted is = step_replies_no_place m e p (ap (λ (x : Machine × Reply). x.1) is)
    go Denied is = let clash : Refused NoMemory ≡ Place p = ap (λ (x : Machine × Reply). x.1) is in cc clash
    go (LosesPins pins) is = step_replies_no_place m e p (ap (λ (x : Machine × Reply). x.1) is)

-- ---- an outcome that is one of its variants

pub outcome_answered_is_reply : (m n : Machine) (e : Event) (o : Outcome) (a : Answer) → MayReply m (Step e) n (reply_of o) → o ≡ outcome.Answered a → MayReply m (Step e) n (Answered a)
outcome_answered_is_reply m n e o a h is = subst (λ (x : Outcome). MayReply m (Step e) n (reply_of x)) is h

pub refused_reply_leaves_machine : (m n : Machine) (e : Event) (o : Outcome) (r : Refusal) → MayReply m (Step e) n (reply_of o) → o ≡ outcome.Refused r → (n ≡ m) × MayFail m (Step e) m r
refused_reply_leaves_machine m n e o r h is = step_reply_refused_leaves_machine m n e r (subst (λ (x : Outcome). MayReply m (Step e) n (reply_of x)) is h)

pub step_reply_is_never_place : (m n : Machine) (e : Event) (o : Outcome) (p : ℕ) → MayReply m (Step e) n (reply_of o) → o ≡ outcome.Place p → ⊥
step_reply_is_never_place m n e o p h is = not_at_place m n e p (subst (λ (x : Outcome). MayReply m (Step e) n (reply_of x)) is h)

-- which refusal without an entry it is
pub refused_act_has_no_entry : (k : LockState) (e : Refusal) → IsRefused k e → IsNoEntry e
refused_act_has_no_entry k e (inl h) = inl h.0
refused_act_has_no_entry k e (inr h) = inr h.0

-- an act that the state allows is never refused with an entry
pub allowed_act_never_refused : (m n : Machine) (e : Event) (o : Outcome) (r : Refusal) → refusal_of e m.trail.current ≡ None → MayReply m (Step e) n (reply_of o) → MayEnter (reply_of o) → o ≡ outcome.Refused r → ⊥
allowed_act_never_refused m n e o r free h enters is = go (failure_of_accepted_step_is_shortage m e r free (refused_reply_leaves_machine m n e o r h is).1)
  where
    told : (x : Refusal) → r ≡ x → reply_of o ≡ Refused x
    told x same = ap (λ (y : Outcome). reply_of y) is ∙ ap (λ (y : Refusal). Refused y) same

    go : IsShortage r → ⊥
    go (inl same) = enters.0 (told NoMemory same)
    go (inr same) = enters.1 (told ChronicleFull same)

-- ---- what chronicle, calls and share gain

pub lock_gains_no_entries : (k : LockState) (s : SeatModel) → Gains k s [] k s
lock_gains_no_entries k s = record {
  chronicle = sym (append-nil k.chronicle);
  calls = sym (append-nil k.ledger);
  seat = sym (ap (λ (l : List (ℕ × Entry)). let c : SeatModel = record s { share = l } in c) (append-nil s.share));
  rolls = refl;
}

lock_gains_one_entry_more : (k : LockState) (s : SeatModel) (es : List Entry) (e : Entry) (turn : ℕ) (l : LockState) (t : SeatModel) (l' : LockState) (t' : SeatModel) → Gains k s es l t → l'.chronicle ≡ l.chronicle ++ e ∷ [] → l'.ledger ≡ l.ledger ++ call_of e ∷ [] → turn ≡ length l'.chronicle → t' ≡ record t { share = t.share ++ (turn, e) ∷ [] } → l'.rolls ≡ l.rolls
    → Gains k s (es ++ e ∷ []) l' t'
lock_gains_one_entry_more k s es e turn l t l' t' g chronicle ledger is share rolls =
    let first = length k.chronicle + 1 in
    let place : turn ≡ first + length es = omega (arith, is, ap length chronicle, length_push l.chronicle e, ap length g.chronicle, length-append k.chronicle es) in
    let turns : enumerate_from first es ++ (turn, e) ∷ [] ≡ enumerate_from first (es ++ e ∷ []) = ap (λ (n : ℕ). enumerate_from first es ++ (n, e) ∷ []) place ∙ sym (numbered_entries_of_one_more first es e) in
    record {
      chronicle = chronicle ∙ ap (λ (x : List Entry). x ++ e ∷ []) g.chronicle ∙ append_assoc k.chronicle es (e ∷ []);
      calls = ledger ∙ ap (λ (x : List Call). x ++ call_of e ∷ []) g.calls ∙ append_assoc k.ledger (map call_of es) (call_of e ∷ []) ∙ ap (λ (x : List Call). k.ledger ++ x) (sym (map-append call_of es (e ∷ [])));
      seat =
          share ∙ ap (λ (x : SeatModel). let c : SeatModel = record x { share = x.share ++ (turn, e) ∷ [] } in c) g.seat
          ∙ ap (λ (x : List (ℕ × Entry)). let c : SeatModel = record s { share = x } in c) (append_assoc s.share (enumerate_from first es) ((turn, e) ∷ []) ∙ ap (λ (x : List (ℕ × Entry)). s.share ++ x) turns);
      rolls = rolls ∙ g.rolls;
    }

-- an act that is answered is a step more
pub step_gained : (k : LockState) (s : SeatModel) (steps : List TakenStep) (l : LockState) (t : SeatModel) (event : Event) (a : Answer) (r : Receipt) (l' : LockState) (t' : SeatModel) → IsAct (Step event) l t r l' t' → r.answer ≡ outcome.Answered a → Gains k s (entries_of_steps s.number steps) l t → Gains k s (entries_of_steps s.number (steps ++ (event, a) ∷ [])) l' t'
step_gained k s steps l t event a r l' t' act told g =
    let e = entry t.number (Step event) r.answer in
    let more = lock_gains_one_entry_more k s (entries_of_steps s.number steps) e r.turn l t l' t' g act.0 act.1 act.4 act.5 act.6 in
    let number : t.number ≡ s.number = ap (λ (c : SeatModel). c.number) g.seat in
    let same : e ≡ entry s.number (Step event) (outcome.Answered a) = ap₂ (λ (n : ℕ) (o : Outcome). entry n (Step event) o) number told in
    let all = map-append (λ (step : TakenStep). entry s.number (Step step.0) (outcome.Answered step.1)) steps ((event, a) ∷ []) in
    subst (λ (es : List Entry). Gains k s es l' t') (ap (λ (x : Entry). entries_of_steps s.number steps ++ x ∷ []) same ∙ sym all) more

-- an act without an entry is none
pub none_gained : (k : LockState) (s : SeatModel) (steps : List TakenStep) (l : LockState) (t : SeatModel) (l' : LockState) (t' : SeatModel) → l' ≡ l → t' ≡ t → Gains k s (entries_of_steps s.number steps) l t → Gains k s (entries_of_steps s.number (steps ++ [])) l' t'
none_gained k s steps l t l' t' lock seat g =
    subst (λ (xs : List TakenStep). Gains k s (entries_of_steps s.number xs) l' t') (sym (append-nil steps))
    (subst (λ (x : LockState). Gains k s (entries_of_steps s.number steps) x t') (sym lock) (subst (λ (x : SeatModel). Gains k s (entries_of_steps s.number steps) l x) (sym seat) g))

-- ---- an answer

-- an act under the lock leaves the seat its role
pub held_act_keeps_role : (config : HeapSettings) (action : Action) (k : LockState) (s : SeatModel) (done : Result Receipt Refusal) (k' : LockState) (s' : SeatModel) → IsHeldAct config action k s done k' s' → s'.role ≡ s.role
held_act_keeps_role config action k s (Ok r) k' s' h = ap (λ (x : SeatModel). x.role) h.act.5
held_act_keeps_role config action k s (Err e) k' s' h = ap (λ (x : SeatModel). x.role) h.unchanged.1

-- a heap that was seen, where the seat stays as it is then
pub leaves_seen : (config : HeapSettings) (Leads : LockState → SeatModel → Type 0) (last : LockState) (s s' : SeatModel) (seen : List Call) → Leads last s → IsHeapOfSeat config last.machine last.chronicle last.ledger s → s' ≡ s → seen ≡ last.ledger → LeavesSeen config (λ (k : LockState). Leads k s') s' seen
leaves_seen config Leads last s s' seen leads heap same sees =
    (last, subst (Leads last) (sym same) leads, subst (λ (x : SeatModel). IsHeapOfSeat config last.machine last.chronicle last.ledger x) (sym same) heap, sees)

-- what is done as a line asks changes no bookmarks
pub done_under_lock : (config : HeapSettings) (order : Order) (line : List ℕ) (k : LockState) (s s' : SeatModel) (b b' : Bookmarks) (text : List ℕ) (asked : Option Order) (seen' : List Call) → asked ≡ Some order → b' ≡ b
    → LeavesSeen config (λ (last : LockState). DoesHeld config order k s text last s') s' seen' → LeavesSeen config (λ (last : LockState). AnswersHeld config asked line k s b text last s' b') s' seen'
done_under_lock config order line k s s' b b' text asked seen' is same h =
    (h.0, subst (λ (o : Option Order). AnswersHeld config o line k s b text h.0 s' b') (sym is) (h.1, same), h.2, h.3)

-- a step, as an event by a name
pub taken_under_lock : (config : HeapSettings) (order : Order) (e : Event) (k : LockState) (s s' : SeatModel) (text : List ℕ) (seen' : List Call) → order ≡ Act e
    → LeavesSeen config (λ (last : LockState). ActsHeld config (Step e) k s text last s') s' seen' → LeavesSeen config (λ (last : LockState). DoesHeld config order k s text last s') s' seen'
taken_under_lock config order e k s s' text seen' is h =
    (h.0, subst (λ (o : Order). DoesHeld config o k s text h.0 s') (sym is) (inl h.1), h.2, h.3)

-- nothing is done for a line of which reading takes memory, if there is none
unread_held : (config : HeapSettings) (order : Option Order) (line : List ℕ) (k last : LockState) (s s' : SeatModel) (b : Bookmarks) (text : List ℕ) → MayTakeMemory order → IsRefusedHeld NoMemory k s text last s' → AnswersHeld config order line k s b text last s' b
unread_held config None line k last s s' b text h refused = absurd h
unread_held config (Some Collect) line k last s s' b text h refused = absurd h
unread_held config (Some (RewindTo place)) line k last s s' b text h refused = absurd h
unread_held config (Some (Forward n)) line k last s s' b text h refused = absurd h
unread_held config (Some (ForwardTo place)) line k last s s' b text h refused = absurd h
unread_held config (Some (Act e)) line k last s s' b text h refused = (inr (h, refused), refl)

pub unread_under_lock : (config : HeapSettings) (order : Option Order) (line : List ℕ) (k : LockState) (s s' : SeatModel) (b : Bookmarks) (text : List ℕ) (seen' : List Call) → MayTakeMemory order
    → LeavesSeen config (λ (last : LockState). IsRefusedHeld NoMemory k s text last s') s' seen' → LeavesSeen config (λ (last : LockState). AnswersHeld config order line k s b text last s' b) s' seen'
unread_under_lock config order line k s s' b text seen' takes h = (h.0, unread_held config order line k h.0 s s' b text takes h.1, h.2, h.3)

-- an answer that one gives who saw the heap before, under the same lock
pub answer_under_lock : (config : HeapSettings) (obeys : Bool) (line : List ℕ) (seen seen' : List Call) (order : Option Order) (text : List ℕ) (k k1 : LockState) (s s1 s' : SeatModel) (b b' : Bookmarks) → IsHeapOfSeat config k.machine k.chronicle k.ledger s → IsPrefix seen k.ledger → k1 ≡ k → s1 ≡ s → order ≡ order_obeyed obeys b k1.machine.trail.current line
    → LeavesSeen config (λ (last : LockState). AnswersHeld config order line k1 s1 b text last s' b') s' seen' → AnswersForSeat config obeys line s seen b text s' seen' b'
answer_under_lock config obeys line seen seen' order text k k1 s s1 s' b b' heap begins same seat asked h =
    record {
      first = k;
      last = h.0;
      begins = begins;
      from = heap;
      answers =
          subst (λ (x : SeatModel). AnswersHeld config (order_obeyed obeys b k.machine.trail.current line) line k x b text h.0 s' b') seat
          (subst (λ (x : LockState). AnswersHeld config (order_obeyed obeys b x.machine.trail.current line) line x s1 b text h.0 s' b') same
          (subst (λ (o : Option Order). AnswersHeld config o line k1 s1 b text h.0 s' b') asked h.1));
      to = h.2;
      sees = h.3;
    }
