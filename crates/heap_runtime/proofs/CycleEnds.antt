-- The claim of the end of a cycle is that of its last act.
use Rattle.std.proofs.Common.{◌≡◌, ℕ, Bool, true, false, List, [], ◌∷◌, ◌++◌, Option, Some, None, refl, sym, ap, ◌∙◌, subst, append_assoc, append-nil}
use Rattle.std.specs.Prelude.{nat_le, if◌then◌else◌, ◌==◌}
use Rattle.std.proofs.lemmas.Option.{none-some}
use Rattle.heap_lock.specs.Refusal.{Refusal}
use Rattle.heap_lock.specs.HeapLimits.{HeapSettings}
use Rattle.heap_lock.specs.State.{HeapState}
use Rattle.heap_lock.specs.Apply.{applied, applied_unless, answer_of, model_of, object_or_null, refusal_of, state_after}
use Rattle.heap_lock.specs.Answer.{Answer}
use Rattle.heap_lock.specs.Event.{Event}
use Rattle.heap_lock.specs.Action.{Action}
use Rattle.heap_lock.specs.Action.TheVariants.{Step}
use Rattle.heap_lock.specs.Reply.{Reply}
use Rattle.heap_lock.specs.TrailLimits.{last_place}
use Rattle.heap_lock.specs.Machine.{Machine, acted, after_result, after_step_at}
use Rattle.heap_history.specs.declared.entry.Entry.{Entry}
use Rattle.heap_history.specs.declared.entry.Outcome.{Outcome}
use Rattle.heap_lock.specs.Receipt.{Receipt}
use Rattle.heap_history.specs.History.{entry, machine_at, opening, reply_at}
use Rattle.heap_lock.specs.LockStates.{SeatModel, Stands}
use Rattle.heap_lock.proofs.Histories.{last_entry_of_history_due}
use Rattle.heap_work.specs.declared.MarkEnd.{MarkEnd}
use Rattle.heap_work.specs.declared.MarkEnd.TheVariants.{Finished, NotMarking, Pending, Stopped, TurnsOver}
use Rattle.heap_work.specs.declared.SweepEnd.{SweepEnd}
use Rattle.heap_work.specs.Rule.{IsMarkWork, IsSweepWork, event_of, mark_end_by, with_more}
use Rattle.heap_runtime.specs.Actors.{AreEntries, claimed_entry, end_claims}
use Rattle.heap_runtime.proofs.OwnClaims.{claims_with_entry_of_claim, claims_in_longer_share}

-- ---- what is answered by a number of condemned objects

object_answer_is_not_condemned : (b : Bool) (x n : ℕ) → (if b then Answer.Null else Answer.Object x) ≡ Answer.Condemned n → ⊥
object_answer_is_not_condemned true x n e = cc e
object_answer_is_not_condemned false x n e = cc e

word_answer_is_not_condemned : (b : Bool) (x y n : ℕ) → (if b then object_or_null x else Answer.Value y) ≡ Answer.Condemned n → ⊥
unfolding object_or_null
word_answer_is_not_condemned true x y n e = object_answer_is_not_condemned (x == 0) x n e
word_answer_is_not_condemned false x y n e = cc e

condemned_answer_is_of_finish : (e : Event) (w v : HeapState) (n : ℕ) → (model_of e).answer w v ≡ Answer.Condemned n → e ≡ Event.Finish
condemned_answer_is_of_finish (Event.Class name sup fields) w v n e = absurd (cc e)
condemned_answer_is_of_finish (Event.ArrayClass name) w v n e = absurd (cc e)
condemned_answer_is_of_finish (Event.New m r class) w v n e = absurd (cc e)
condemned_answer_is_of_finish (Event.NewArray m r class len) w v n e = absurd (cc e)
condemned_answer_is_of_finish (Event.NewPrim m r kind len) w v n e = absurd (cc e)
condemned_answer_is_of_finish (Event.Load m to from slot) w v n e = absurd (word_answer_is_not_condemned _ _ _ n e)
condemned_answer_is_of_finish (Event.Store m target slot source) w v n e = absurd (cc e)
condemned_answer_is_of_finish (Event.Put m target slot value) w v n e = absurd (cc e)
condemned_answer_is_of_finish (Event.Move m to from_m from) w v n e = absurd (cc e)
condemned_answer_is_of_finish (Event.Clear m r) w v n e = absurd (cc e)
condemned_answer_is_of_finish Event.Snap w v n e = absurd (cc e)
condemned_answer_is_of_finish Event.Mark w v n e = absurd (cc e)
condemned_answer_is_of_finish Event.Drain w v n e = absurd (cc e)
condemned_answer_is_of_finish Event.Finish w v n e = refl
condemned_answer_is_of_finish (Event.Sweep region) w v n e = absurd (cc e)

condemned_reply_is_of_finish : (m : Machine) (e : Event) (n : ℕ) → (acted m (Step e)).1 ≡ Reply.Answered (Answer.Condemned n) → e ≡ Event.Finish
unfolding acted after_result after_step_at applied applied_unless answer_of
condemned_reply_is_of_finish m e n is = at (nat_le last_place m.trail.place) is
  where
    of : (o : Option Refusal) → (after_result e m (applied_unless o e m.trail.current)).1 ≡ Reply.Answered (Answer.Condemned n) → e ≡ Event.Finish
    of None h = condemned_answer_is_of_finish e m.trail.current (state_after e m.trail.current) n (cc h)
    of (Some r) h = absurd (cc h)

    at : (b : Bool) → (after_step_at b e m).1 ≡ Reply.Answered (Answer.Condemned n) → e ≡ Event.Finish
    at true h = absurd (cc h)
    at false h = of (refusal_of e m.trail.current) h

standing_condemned_is_finish : (config : HeapSettings) (s : SeatModel) (turn : ℕ) (e : Event) (n : ℕ) → Stands config s turn (Step e) (Outcome.Answered (Answer.Condemned n)) → e ≡ Event.Finish
unfolding reply_at
standing_condemned_is_finish config s turn e n stands =
    let due = last_entry_of_history_due config.keep (opening config) stands.0 (entry s.number (Step e) (Outcome.Answered (Answer.Condemned n))) stands.1 in
    condemned_reply_is_of_finish (machine_at config.keep _) e n (sym due.answer)

-- ---- the answer that ends a cycle

finished_mark_has_condemned : (o : Outcome) (r : Receipt) → mark_end_by o r ≡ Some (Finished r) → (n : ℕ) × (o ≡ Outcome.Answered (Answer.Condemned n))
finished_mark_has_condemned (Outcome.Answered (Answer.Class n)) r e = absurd (none-some (Finished r) e)
finished_mark_has_condemned (Outcome.Answered (Answer.Object x)) r e = absurd (none-some (Finished r) e)
finished_mark_has_condemned (Outcome.Answered Answer.Null) r e = absurd (none-some (Finished r) e)
finished_mark_has_condemned (Outcome.Answered (Answer.Value v)) r e = absurd (none-some (Finished r) e)
finished_mark_has_condemned (Outcome.Answered Answer.Done) r e = absurd (none-some (Finished r) e)
finished_mark_has_condemned (Outcome.Answered (Answer.Pushed n)) r e = absurd (none-some (Finished r) e)
finished_mark_has_condemned (Outcome.Answered (Answer.Condemned n)) r e = (n, refl)
finished_mark_has_condemned (Outcome.Answered (Answer.Swept emptied dead)) r e = absurd (none-some (Finished r) e)
finished_mark_has_condemned (Outcome.Place k) r e = absurd (none-some (Finished r) e)
finished_mark_has_condemned (Outcome.Refused Refusal.NoMemory) r e = absurd (none-some (Finished r) e)
finished_mark_has_condemned (Outcome.Refused Refusal.NoClass) r e = absurd (none-some (Finished r) e)
finished_mark_has_condemned (Outcome.Refused Refusal.ClassLimit) r e = absurd (none-some (Finished r) e)
finished_mark_has_condemned (Outcome.Refused Refusal.BadName) r e = absurd (none-some (Finished r) e)
finished_mark_has_condemned (Outcome.Refused Refusal.DuplicateName) r e = absurd (none-some (Finished r) e)
finished_mark_has_condemned (Outcome.Refused Refusal.FieldLimit) r e = absurd (none-some (Finished r) e)
finished_mark_has_condemned (Outcome.Refused Refusal.BadRegister) r e = absurd (none-some (Finished r) e)
finished_mark_has_condemned (Outcome.Refused Refusal.NullRegister) r e = absurd (none-some (Finished r) e)
finished_mark_has_condemned (Outcome.Refused Refusal.BadSlot) r e = absurd (none-some (Finished r) e)
finished_mark_has_condemned (Outcome.Refused Refusal.WrongKind) r e = absurd (none-some (Finished r) e)
finished_mark_has_condemned (Outcome.Refused Refusal.OutOfRange) r e = absurd (none-some (Finished r) e)
finished_mark_has_condemned (Outcome.Refused Refusal.TooLarge) r e = absurd (none-some (Finished r) e)
finished_mark_has_condemned (Outcome.Refused Refusal.HeapFull) r e = absurd (none-some (Finished r) e)
finished_mark_has_condemned (Outcome.Refused Refusal.AlreadyMarking) r e = absurd (none-some (Finished r) e)
finished_mark_has_condemned (Outcome.Refused Refusal.NotMarking) r e = absurd (cc e)
finished_mark_has_condemned (Outcome.Refused Refusal.NothingToMark) r e = absurd (none-some (Finished r) e)
finished_mark_has_condemned (Outcome.Refused Refusal.NothingToDrain) r e = absurd (none-some (Finished r) e)
finished_mark_has_condemned (Outcome.Refused (Refusal.NotDone gray undrained)) r e = absurd (none-some (Finished r) e)
finished_mark_has_condemned (Outcome.Refused (Refusal.SweepPending region)) r e = absurd (cc e)
finished_mark_has_condemned (Outcome.Refused (Refusal.NothingToSweep region)) r e = absurd (none-some (Finished r) e)
finished_mark_has_condemned (Outcome.Refused (Refusal.TooFar asked retained)) r e = absurd (none-some (Finished r) e)
finished_mark_has_condemned (Outcome.Refused Refusal.NoPin) r e = absurd (none-some (Finished r) e)
finished_mark_has_condemned (Outcome.Refused (Refusal.Lost cause)) r e = absurd (none-some (Finished r) e)
finished_mark_has_condemned (Outcome.Refused Refusal.NotRetained) r e = absurd (none-some (Finished r) e)
finished_mark_has_condemned (Outcome.Refused Refusal.PinLimit) r e = absurd (none-some (Finished r) e)
finished_mark_has_condemned (Outcome.Refused Refusal.ChronicleFull) r e = absurd (none-some (Finished r) e)

-- ---- the claims of workers

claims_still_entries_of_share : (cs cs' : List (Action × Receipt)) (s s' : SeatModel) (gained : List (ℕ × Entry)) → AreEntries cs s.share → s' ≡ with_more gained s → cs' ≡ cs ++ [] → AreEntries cs' s'.share
claims_still_entries_of_share cs cs' s s' gained own is same =
    subst (λ (x : List (Action × Receipt) × List (ℕ × Entry)). AreEntries x.0 x.1) (λ i. (sym (same ∙ append-nil cs) i, sym (ap (λ (c : SeatModel). c.share) is) i)) (claims_in_longer_share cs s.share gained own)

pub mark_work_claims_own_entries : (config : HeapSettings) (cs cs' : List (Action × Receipt)) (s s' : SeatModel) (turns : ℕ) (end : MarkEnd) → AreEntries cs s.share → IsMarkWork config s s' turns end → cs' ≡ cs ++ end_claims end → AreEntries cs' s'.share
mark_work_claims_own_entries config cs cs' s s' turns (Finished r) own w same =
    let e = w.ends in
    let o = finished_mark_has_condemned r.answer r e.1 in
    let finish : event_of w.next ≡ Event.Finish = standing_condemned_is_finish config s' r.turn (event_of w.next) o.0 (subst (λ (x : Outcome). Stands config s' r.turn (Step (event_of w.next)) x) o.1 e.4) in
    let last : (r.turn, entry r.seat (Step Event.Finish) r.answer) ≡ (r.turn, entry s.number (Step (event_of w.next)) r.answer) = λ i. (r.turn, entry (e.2 i) (Step (sym finish i)) r.answer) in
    let grown : (s.share ++ w.gained) ++ claimed_entry (Step Event.Finish, r) ∷ [] ≡ s'.share
    = append_assoc s.share w.gained (claimed_entry (Step Event.Finish, r) ∷ []) ∙ ap (λ (x : ℕ × Entry). s.share ++ (w.gained ++ x ∷ [])) last ∙ sym (ap (λ (c : SeatModel). c.share) e.3) in
    subst (λ (x : List (Action × Receipt) × List (ℕ × Entry)). AreEntries x.0 x.1) (λ i. (sym same i, grown i)) (claims_with_entry_of_claim cs (s.share ++ w.gained) (Step Event.Finish, r) (claims_in_longer_share cs s.share w.gained own))
mark_work_claims_own_entries config cs cs' s s' turns (NotMarking r) own w same = claims_still_entries_of_share cs cs' s s' (w.gained ++ (r.turn, entry s.number (Step (event_of w.next)) r.answer) ∷ []) own w.ends.3 same
mark_work_claims_own_entries config cs cs' s s' turns (Pending r) own w same = claims_still_entries_of_share cs cs' s s' (w.gained ++ (r.turn, entry s.number (Step (event_of w.next)) r.answer) ∷ []) own w.ends.3 same
mark_work_claims_own_entries config cs cs' s s' turns (MarkEnd.Refused e) own w same = claims_still_entries_of_share cs cs' s s' w.gained own w.ends.1 same
mark_work_claims_own_entries config cs cs' s s' turns Stopped own w same = claims_still_entries_of_share cs cs' s s' w.gained own w.ends.1 same
mark_work_claims_own_entries config cs cs' s s' turns TurnsOver own w same = claims_still_entries_of_share cs cs' s s' w.gained own w.ends.1 same

pub sweep_work_claims_own_entries : (config : HeapSettings) (cs : List (Action × Receipt)) (s s' : SeatModel) (turns : ℕ) (end : SweepEnd) → AreEntries cs s.share → IsSweepWork config s s' turns end → AreEntries cs s'.share
sweep_work_claims_own_entries config cs s s' turns end own w = claims_still_entries_of_share cs cs s s' w.gained own w.seat (sym (append-nil cs))

-- an end that isn't finished is not claimed
pub no_claims : (end : MarkEnd) → ((r : Receipt) → end ≡ Finished r → ⊥) → [] ≡ end_claims end
no_claims (Finished r) never = absurd (never r refl)
no_claims (NotMarking r) never = refl
no_claims (Pending r) never = refl
no_claims (MarkEnd.Refused e) never = refl
no_claims Stopped never = refl
no_claims TurnsOver never = refl
