-- Runs of a worker, one after another.
use Rattle.std.proofs.Common.{◌≡◌, ℕ, Bool, true, false, List, [], ◌∷◌, ◌++◌, refl, sym, ap, ◌∙◌, subst, inl, inr, append_assoc, append-nil}
use Rattle.std.specs.List.{AllByRecursion}
use Rattle.heap_lock.specs.HeapLimits.{HeapSettings}
use Rattle.heap_lock.specs.Entry.{Entry}
use Rattle.heap_lock.specs.declared.role.Role.TheVariants.{Marker, Sweeper}
use Rattle.heap_lock.specs.Calls.{Call}
use Rattle.heap_lock.specs.Collector.{SeesState}
use Rattle.heap_lock.specs.LockStates.{SeatModel}
use Rattle.heap_work.specs.declared.MarkEnd.{MarkEnd}
use Rattle.heap_work.specs.declared.MarkEnd.TheVariants.{Finished, NotMarking, Pending, Refused, Stopped, TurnsOver}
use Rattle.heap_work.specs.declared.Stage.{Stage}
use Rattle.heap_work.specs.declared.SweepEnd.{SweepEnd}
use Rattle.heap_work.specs.Rule.{BeginsNoCycle, EndsMarking, IsMarkWorkFrom, IsNoSnap, IsResumedWork}
use Rattle.heap_work.specs.PendingSweeps.{IsPendingWork}
use Rattle.heap_server.specs.Tending.{AreRuns, MarksOnce, SweepsOnce, TakesTurn, Tends, rests_in, role_for, turn_limit}
use Rattle.heap_server.specs.declared.tending.Duty.{Duty}
use Rattle.heap_server.specs.declared.tending.Duty.TheVariants.{Mark, Sweep}

worker_runs_joined : {E : Type 0} (W : SeatModel → SeatModel → E → Type 0) (runs more : List (SeatModel × E)) (s m s' : SeatModel) → AreRuns W s runs m → AreRuns W m more s' → AreRuns W s (runs ++ more) s'
worker_runs_joined W [] more s m s' is next = subst (λ t. AreRuns W t more s') is next
worker_runs_joined W (run ∷ runs) more s m s' is next = (is.0, worker_runs_joined W runs more run.0 m s' is.1 next)

worker_runs_then_more_runs : {E : Type 0} (W : SeatModel → SeatModel → E → Type 0) (s m s' : SeatModel) → (runs : List (SeatModel × E)) × AreRuns W s runs m → (more : List (SeatModel × E)) × AreRuns W m more s'
    → (all : List (SeatModel × E)) × AreRuns W s all s'
worker_runs_then_more_runs W s m s' a b = (a.0 ++ b.0, worker_runs_joined W a.0 b.0 s m s' a.1 b.1)

joined_entries_keep_property : (P : ℕ × Entry → Type 0) (xs ys : List (ℕ × Entry)) → AllByRecursion P xs → AllByRecursion P ys → AllByRecursion P (xs ++ ys)
joined_entries_keep_property P [] ys h k = k
joined_entries_keep_property P (x ∷ xs) ys h k = (h.0, joined_entries_keep_property P xs ys h.1 k)

no_cycle_begun_in_turn : (s m s' : SeatModel) → BeginsNoCycle s m → BeginsNoCycle m s' → BeginsNoCycle s s'
no_cycle_begun_in_turn s m s' a b =
    (a.0 ++ b.0, b.1 ∙ ap (λ l. l ++ b.0) a.1 ∙ append_assoc s.share a.0 b.0, joined_entries_keep_property IsNoSnap a.0 b.0 a.2 b.2)

-- ---- runs of a work

pub works_none : (duty : Duty) (config : HeapSettings) (s : SeatModel) → Tends duty config s s
works_none Mark config s = record { runs = []; each = refl; begins = ([], sym (append-nil s.share), tt) }
works_none Sweep config s = ([], refl)

pub works_more : (duty : Duty) (config : HeapSettings) (s m s' : SeatModel) → Tends duty config s m → Tends duty config m s' → Tends duty config s s'
works_more Mark config s m s' a b =
    let all = worker_runs_then_more_runs (MarksOnce config) s m s' (a.runs, a.each) (b.runs, b.each) in
    record { runs = all.0; each = all.1; begins = no_cycle_begun_in_turn s m s' a.begins b.begins }
works_more Sweep config s m s' a b = worker_runs_then_more_runs (SweepsOnce config) s m s' a b

-- ---- one run

marking_end_keeps_role : (config : HeapSettings) (s s' : SeatModel) (turns : ℕ) (gained : List (ℕ × Entry)) (next : Stage) (end : MarkEnd) → EndsMarking config s s' turns gained next end → s'.role ≡ s.role
marking_end_keeps_role config s s' turns gained next (Finished r) e = ap (λ (c : SeatModel). c.role) e.3
marking_end_keeps_role config s s' turns gained next (NotMarking r) e = ap (λ (c : SeatModel). c.role) e.3
marking_end_keeps_role config s s' turns gained next (Pending r) e = ap (λ (c : SeatModel). c.role) e.3
marking_end_keeps_role config s s' turns gained next (Refused f) e = ap (λ (c : SeatModel). c.role) e.1
marking_end_keeps_role config s s' turns gained next Stopped e = ap (λ (c : SeatModel). c.role) e.1
marking_end_keeps_role config s s' turns gained next TurnsOver e = ap (λ (c : SeatModel). c.role) e.1

pub is_marker : (duty : Duty) (s : SeatModel) → duty ≡ Mark → s.role ≡ role_for duty → s.role ≡ Marker
is_marker Mark s is role = role
is_marker Sweep s is role = absurd cc

rest_seen_by_equal_answer : (config : HeapSettings) (duty : Duty) (seen seen' : List Call) (b d : Bool) → b ≡ d → SeesState config seen (λ w. b ≡ rests_in duty w) seen' → SeesState config seen (λ w. rests_in duty w ≡ d) seen'
rest_seen_by_equal_answer config duty seen seen' b d is h = (h.0, h.1, sym h.2 ∙ is)

-- a worker with nothing to do
pub worker_with_nothing_rests : (duty : Duty) (config : HeapSettings) (s s' : SeatModel) (seen seen' : List Call) (b : Bool) → b ≡ true → SeesState config seen (λ w. b ≡ rests_in duty w) seen' → s' ≡ s → TakesTurn duty config s seen s' seen'
worker_with_nothing_rests duty config s s' seen seen' b is h same = inl (rest_seen_by_equal_answer config duty seen seen' b true is h, same)

pub marking_worker_takes_turn : (duty : Duty) (config : HeapSettings) (s s' : SeatModel) (seen seen' : List Call) (b : Bool) (end : MarkEnd) → duty ≡ Mark → b ≡ false → SeesState config seen (λ w. b ≡ rests_in duty w) seen' → IsResumedWork config s s' turn_limit end → BeginsNoCycle s s' → TakesTurn duty config s seen s' seen'
marking_worker_takes_turn Mark config s s' seen seen' b end is off h w none = inr (seen', rest_seen_by_equal_answer config Mark seen seen' b false off h, (end, w, none, refl))
marking_worker_takes_turn Sweep config s s' seen seen' b end is off h w none = absurd cc

pub role_stays : {first : Stage} (duty : Duty) (config : HeapSettings) (s s' : SeatModel) (turns : ℕ) (end : MarkEnd) → IsMarkWorkFrom first config s s' turns end → s.role ≡ role_for duty → s'.role ≡ role_for duty
role_stays {first} duty config s s' turns end w is = marking_end_keeps_role config s s' turns w.gained w.next end w.ends ∙ is

pub is_sweeper : (duty : Duty) (s : SeatModel) → duty ≡ Sweep → s.role ≡ role_for duty → s.role ≡ Sweeper
is_sweeper Mark s is role = absurd cc
is_sweeper Sweep s is role = role

pub sweeping_worker_takes_turn : (duty : Duty) (config : HeapSettings) (s s' : SeatModel) (seen now seen' : List Call) (b : Bool) (end : SweepEnd) → duty ≡ Sweep → b ≡ false → SeesState config seen (λ w. b ≡ rests_in duty w) now → IsPendingWork config s now s' seen' turn_limit end → TakesTurn duty config s seen s' seen'
sweeping_worker_takes_turn Mark config s s' seen now seen' b end is off h w = absurd cc
sweeping_worker_takes_turn Sweep config s s' seen now seen' b end is off h w = inr (now, rest_seen_by_equal_answer config Sweep seen now b false off h, (end, w))

pub role_keeps : (duty : Duty) (config : HeapSettings) (s s' : SeatModel) (seen seen' : List Call) (turns : ℕ) (end : SweepEnd) → IsPendingWork config s seen s' seen' turns end → s.role ≡ role_for duty → s'.role ≡ role_for duty
role_keeps duty config s s' seen seen' turns end w is = ap (λ (c : SeatModel). c.role) w.seat ∙ is

-- a turn is a run, or none
pub taken_turn_is_tending : (duty : Duty) (config : HeapSettings) (s s' : SeatModel) (seen seen' : List Call) → TakesTurn duty config s seen s' seen' → Tends duty config s s'
taken_turn_is_tending duty config s s' seen seen' (inl t) = subst (λ (x : SeatModel). Tends duty config s x) (sym t.1) (works_none duty config s)
taken_turn_is_tending Mark config s s' seen seen' (inr t) = record { runs = (s', t.2.0) ∷ []; each = (t.2.1, refl); begins = t.2.2 }
taken_turn_is_tending Sweep config s s' seen seen' (inr t) = ((s', t.2.0) ∷ [], ((t.0, seen', t.2.1), refl))
