-- A worker on its way, and how it ends.
use Rattle.std.proofs.Common.{◌≡◌, ◌⊎◌, ℕ, suc, ◌+◌, ◌<◌, ◌≤◌, Bool, true, false, List, [], ◌∷◌, ◌++◌, length, Option, Some, None, refl, sym, ap, ◌∙◌, subst, append-nil, append_assoc, length-append, arith}
use Rattle.std.proofs.lemmas.Option.{none-some}
use Rattle.std.specs.Prelude.{unwrap_or}
use Rattle.heap_lock.specs.Refusal.{Refusal}
use Rattle.heap_lock.specs.HeapLimits.{HeapSettings}
use Rattle.heap_lock.specs.Answer.{Answer}
use Rattle.heap_lock.specs.Event.{Event}
use Rattle.heap_lock.specs.Action.{Action}
use Rattle.heap_lock.specs.Action.TheVariants.{Step}
use Rattle.heap_lock.specs.Entry.{Entry}
use Rattle.heap_lock.specs.Outcome.{Outcome}
use Rattle.heap_lock.specs.Receipt.{Receipt}
use Rattle.heap_lock.specs.History.{entry}
use Rattle.heap_lock.specs.LockStates.{SeatModel, Stands, with_entry}
use Rattle.heap_work.specs.declared.MarkEnd.{MarkEnd}
use Rattle.heap_work.specs.declared.MarkEnd.TheVariants.{Finished, NotMarking, Pending}
use Rattle.heap_work.specs.declared.Stage.{Stage}
use Rattle.heap_work.specs.declared.Stage.TheVariants.{Mark, Drain, Finish}
use Rattle.heap_work.specs.declared.SweepEnd.{SweepEnd}
use Rattle.heap_work.specs.Rule.{IsSweepWork, event_of, stage_after, mark_end_by, mark_end_of, with_more, GoesOn, IsEnd, EndsMarking, IsMarkWorkFrom, IsResumedWork, AreSweeps, WasStopped, MarkStops, BeginsNoCycle, IsNoSnap}
use Rattle.heap_work.specs.Gates.{LetsBegin, Gains, AsksForEach, AsksForOneMore, AsksUntilStopped, MarkAsks}
use Rattle.std.specs.List.{AllByRecursion}

-- after i acts of a mark worker that began at a stage, none an end
pub record IsMarking (first : Stage) (s s' : SeatModel) (stage : Stage) (i : ℕ) : Type 0 where
  pub gained : List (ℕ × Entry)
  pub goes_on : GoesOn first gained stage
  pub count : length gained ≡ i
  pub seat : s' ≡ with_more gained s

pub seat_with_no_more_entries : (s : SeatModel) → s ≡ with_more [] s
seat_with_no_more_entries s = ap (λ l. let c : SeatModel = record s { share = l } in c) (sym (append-nil s.share))

-- an entry more
pub seat_with_one_more_entry : (s s' s'' : SeatModel) (gained : List (ℕ × Entry)) (turn : ℕ) (action : Action) (answer : Outcome) → s' ≡ with_more gained s → s'' ≡ with_entry turn action answer s' → s'' ≡ with_more (gained ++ (turn, entry s.number action answer) ∷ []) s
seat_with_one_more_entry s s' s'' gained turn action answer was is =
    is ∙ ap (with_entry turn action answer) was ∙ ap (λ l. let c : SeatModel = record s { share = l } in c) (append_assoc s.share gained ((turn, entry s.number action answer) ∷ []))

pub marking_begins : (first : Stage) (s : SeatModel) → IsMarking first s s first 0
marking_begins first s = record { gained = []; goes_on = refl; count = refl; seat = seat_with_no_more_entries s }

marking_entries_of_one_more : (first last : Stage) (ms : List (ℕ × Entry)) (m : ℕ × Entry) → GoesOn first ms last → m.1.action ≡ Step (event_of last) → mark_end_by m.1.answer (record { seat = m.1.seat; turn = m.0; answer = m.1.answer }) ≡ None → GoesOn first (ms ++ m ∷ []) (stage_after m.1.answer)
marking_entries_of_one_more first last [] m h is none = (is ∙ ap (λ k. Step (event_of k)) (sym h), none, refl)
marking_entries_of_one_more first last (x ∷ ms) m h is none = (h.0, h.1, marking_entries_of_one_more (stage_after x.1.answer) last ms m h.2 is none)

pub marking_goes : (first : Stage) (s s' s'' : SeatModel) (stage : Stage) (i : ℕ) (r : Receipt) → IsMarking first s s' stage i → r.seat ≡ s'.number → s'' ≡ with_entry r.turn (Step (event_of stage)) r.answer s' → mark_end_of r ≡ None → IsMarking first s s'' (stage_after r.answer) (i + 1)
marking_goes first s s' s'' stage i r h seat is none =
    let number : r.seat ≡ s.number = seat ∙ ap (λ (c : SeatModel). c.number) h.seat in
    let m : ℕ × Entry = (r.turn, entry s.number (Step (event_of stage)) r.answer) in record {
      gained = h.gained ++ m ∷ [];
      goes_on = marking_entries_of_one_more first stage h.gained m h.goes_on refl (ap (λ k. mark_end_by r.answer (record { seat = k; turn = r.turn; answer = r.answer })) (sym number) ∙ none);
      count = omega (arith, length-append h.gained (m ∷ []), h.count);
      seat = seat_with_one_more_entry s s' s'' h.gained r.turn (Step (event_of stage)) r.answer h.seat is;
    }

equal_some_mark_ends : (x y : MarkEnd) → Some x ≡ Some y → x ≡ y
equal_some_mark_ends x y e = ap (λ (o : Option MarkEnd). unwrap_or o x) e

-- what an end is
mark_end_is_one_of_three : (o : Outcome) (r : Receipt) (end : MarkEnd) (P : MarkEnd → Type 0) → mark_end_by o r ≡ Some end → P (Finished r) → P (NotMarking r) → P (Pending r) → P end
mark_end_is_one_of_three (Outcome.Answered (Answer.Class n)) r end P e fin non pen = absurd (none-some end e)
mark_end_is_one_of_three (Outcome.Answered (Answer.Object x)) r end P e fin non pen = absurd (none-some end e)
mark_end_is_one_of_three (Outcome.Answered Answer.Null) r end P e fin non pen = absurd (none-some end e)
mark_end_is_one_of_three (Outcome.Answered (Answer.Value v)) r end P e fin non pen = absurd (none-some end e)
mark_end_is_one_of_three (Outcome.Answered Answer.Done) r end P e fin non pen = absurd (none-some end e)
mark_end_is_one_of_three (Outcome.Answered (Answer.Pushed n)) r end P e fin non pen = absurd (none-some end e)
mark_end_is_one_of_three (Outcome.Answered (Answer.Condemned n)) r end P e fin non pen = subst P (equal_some_mark_ends (Finished r) end e) fin
mark_end_is_one_of_three (Outcome.Answered (Answer.Swept emptied dead)) r end P e fin non pen = absurd (none-some end e)
mark_end_is_one_of_three (Outcome.Place k) r end P e fin non pen = absurd (none-some end e)
mark_end_is_one_of_three (Outcome.Refused Refusal.NoMemory) r end P e fin non pen = absurd (none-some end e)
mark_end_is_one_of_three (Outcome.Refused Refusal.NoClass) r end P e fin non pen = absurd (none-some end e)
mark_end_is_one_of_three (Outcome.Refused Refusal.ClassLimit) r end P e fin non pen = absurd (none-some end e)
mark_end_is_one_of_three (Outcome.Refused Refusal.BadName) r end P e fin non pen = absurd (none-some end e)
mark_end_is_one_of_three (Outcome.Refused Refusal.DuplicateName) r end P e fin non pen = absurd (none-some end e)
mark_end_is_one_of_three (Outcome.Refused Refusal.FieldLimit) r end P e fin non pen = absurd (none-some end e)
mark_end_is_one_of_three (Outcome.Refused Refusal.BadRegister) r end P e fin non pen = absurd (none-some end e)
mark_end_is_one_of_three (Outcome.Refused Refusal.NullRegister) r end P e fin non pen = absurd (none-some end e)
mark_end_is_one_of_three (Outcome.Refused Refusal.BadSlot) r end P e fin non pen = absurd (none-some end e)
mark_end_is_one_of_three (Outcome.Refused Refusal.WrongKind) r end P e fin non pen = absurd (none-some end e)
mark_end_is_one_of_three (Outcome.Refused Refusal.OutOfRange) r end P e fin non pen = absurd (none-some end e)
mark_end_is_one_of_three (Outcome.Refused Refusal.TooLarge) r end P e fin non pen = absurd (none-some end e)
mark_end_is_one_of_three (Outcome.Refused Refusal.HeapFull) r end P e fin non pen = absurd (none-some end e)
mark_end_is_one_of_three (Outcome.Refused Refusal.AlreadyMarking) r end P e fin non pen = absurd (none-some end e)
mark_end_is_one_of_three (Outcome.Refused Refusal.NotMarking) r end P e fin non pen = subst P (equal_some_mark_ends (NotMarking r) end e) non
mark_end_is_one_of_three (Outcome.Refused Refusal.NothingToMark) r end P e fin non pen = absurd (none-some end e)
mark_end_is_one_of_three (Outcome.Refused Refusal.NothingToDrain) r end P e fin non pen = absurd (none-some end e)
mark_end_is_one_of_three (Outcome.Refused (Refusal.NotDone gray undrained)) r end P e fin non pen = absurd (none-some end e)
mark_end_is_one_of_three (Outcome.Refused (Refusal.SweepPending region)) r end P e fin non pen = subst P (equal_some_mark_ends (Pending r) end e) pen
mark_end_is_one_of_three (Outcome.Refused (Refusal.NothingToSweep region)) r end P e fin non pen = absurd (none-some end e)
mark_end_is_one_of_three (Outcome.Refused (Refusal.TooFar asked retained)) r end P e fin non pen = absurd (none-some end e)
mark_end_is_one_of_three (Outcome.Refused Refusal.NoPin) r end P e fin non pen = absurd (none-some end e)
mark_end_is_one_of_three (Outcome.Refused (Refusal.Lost cause)) r end P e fin non pen = absurd (none-some end e)
mark_end_is_one_of_three (Outcome.Refused Refusal.NotRetained) r end P e fin non pen = absurd (none-some end e)
mark_end_is_one_of_three (Outcome.Refused Refusal.PinLimit) r end P e fin non pen = absurd (none-some end e)
mark_end_is_one_of_three (Outcome.Refused Refusal.ChronicleFull) r end P e fin non pen = absurd (none-some end e)

pub marking_ends_at_receipt : (first : Stage) (config : HeapSettings) (s s' s'' : SeatModel) (stage : Stage) (i turns : ℕ) (r : Receipt) (end : MarkEnd) → IsMarking first s s' stage i → i < turns → r.seat ≡ s'.number → s'' ≡ with_entry r.turn (Step (event_of stage)) r.answer s' → Stands config s'' r.turn (Step (event_of stage)) r.answer
    → mark_end_of r ≡ Some end → IsMarkWorkFrom first config s s'' turns end
marking_ends_at_receipt first config s s' s'' stage i turns r end h lt seat is stands ends =
    let number : r.seat ≡ s.number = seat ∙ ap (λ (c : SeatModel). c.number) h.seat in
    let share = seat_with_one_more_entry s s' s'' h.gained r.turn (Step (event_of stage)) r.answer h.seat is in
    let under : length h.gained < turns = omega (arith, h.count, lt) in
    record {
      gained = h.gained;
      next = stage;
      goes_on = h.goes_on;
      ends = mark_end_is_one_of_three r.answer r end (λ z. mark_end_of r ≡ Some z → EndsMarking config s s'' turns h.gained stage z) ends
          (λ e. (under, e, number, share, stands)) (λ e. (under, e, number, share, stands)) (λ e. (under, e, number, share, stands)) ends;
    }

pub marking_refused : (first : Stage) (config : HeapSettings) (s s' s'' : SeatModel) (stage : Stage) (i turns : ℕ) (e : Refusal) → IsMarking first s s' stage i → i < turns → s'' ≡ s' → (e ≡ Refusal.NoMemory) ⊎ (e ≡ Refusal.ChronicleFull) → IsMarkWorkFrom first config s s'' turns (MarkEnd.Refused e)
marking_refused first config s s' s'' stage i turns e h lt same why = record { gained = h.gained; next = stage; goes_on = h.goes_on; ends = (omega (arith, h.count, lt), same ∙ h.seat, why) }

pub marking_stopped : (first : Stage) (config : HeapSettings) (s s' : SeatModel) (stage : Stage) (i turns : ℕ) → IsMarking first s s' stage i → i < turns → IsMarkWorkFrom first config s s' turns MarkEnd.Stopped
marking_stopped first config s s' stage i turns h lt = record { gained = h.gained; next = stage; goes_on = h.goes_on; ends = (omega (arith, h.count, lt), h.seat) }

pub marking_turns_are_over : (first : Stage) (config : HeapSettings) (s s' : SeatModel) (stage : Stage) (turns : ℕ) → IsMarking first s s' stage turns → IsMarkWorkFrom first config s s' turns MarkEnd.TurnsOver
marking_turns_are_over first config s s' stage turns h = record { gained = h.gained; next = stage; goes_on = h.goes_on; ends = (h.count, h.seat) }

-- ---- the sweeper, after i of its acts

pub record IsSweeping (s s' : SeatModel) (turns i : ℕ) : Type 0 where
  pub gained : List (ℕ × Entry)
  pub sweeps : AreSweeps 0 gained
  pub count : length gained ≡ i
  pub within : i ≤ turns
  pub seat : s' ≡ with_more gained s

pub sweeping_before_first_turn : (s : SeatModel) (turns : ℕ) → IsSweeping s s turns 0
sweeping_before_first_turn s turns = record { gained = []; sweeps = tt; count = refl; within = omega arith; seat = seat_with_no_more_entries s }

sweep_entries_of_one_more : (region : ℕ) (ms : List (ℕ × Entry)) (m : ℕ × Entry) → AreSweeps region ms → m.1.action ≡ Step (Event.Sweep (region + length ms)) → AreSweeps region (ms ++ m ∷ [])
sweep_entries_of_one_more region [] m h is = (is ∙ ap (λ k. Step (Event.Sweep k)) (omega arith), tt)
sweep_entries_of_one_more region (x ∷ ms) m h is = (h.0, sweep_entries_of_one_more (region + 1) ms m h.1 (is ∙ ap (λ k. Step (Event.Sweep k)) (omega arith)))

pub sweeping_goes : (s s' s'' : SeatModel) (turns i turn : ℕ) (answer : Outcome) → IsSweeping s s' turns i → i < turns → s'' ≡ with_entry turn (Step (Event.Sweep i)) answer s' → IsSweeping s s'' turns (i + 1)
sweeping_goes s s' s'' turns i turn answer h lt is =
    let m : ℕ × Entry = (turn, entry s.number (Step (Event.Sweep i)) answer) in record {
      gained = h.gained ++ m ∷ [];
      sweeps = sweep_entries_of_one_more 0 h.gained m h.sweeps (ap (λ k. Step (Event.Sweep k)) (omega (arith, h.count)));
      count = omega (arith, length-append h.gained (m ∷ []), h.count);
      within = omega (arith, lt);
      seat = seat_with_one_more_entry s s' s'' h.gained turn (Step (Event.Sweep i)) answer h.seat is;
    }

pub sweeping_over : (config : HeapSettings) (s s' : SeatModel) (turns i : ℕ) → IsSweeping s s' turns i → turns ≤ i → IsSweepWork config s s' turns SweepEnd.TurnsOver
sweeping_over config s s' turns i h over = record { gained = h.gained; sweeps = h.sweeps; seat = h.seat; ends = omega (arith, h.count, h.within, over) }

pub sweeping_done : (config : HeapSettings) (s s' : SeatModel) (turns i : ℕ) → IsSweeping s s' turns i → i ≡ config.regions → IsSweepWork config s s' turns SweepEnd.Swept
sweeping_done config s s' turns i h whole = record { gained = h.gained; sweeps = h.sweeps; seat = h.seat; ends = (h.count ∙ whole, omega (arith, h.count, h.within)) }

pub sweeping_refused : (config : HeapSettings) (s s' s'' : SeatModel) (turns i : ℕ) (e : Refusal) → IsSweeping s s' turns i → i < turns → s'' ≡ s' → (e ≡ Refusal.NoMemory) ⊎ (e ≡ Refusal.ChronicleFull) → IsSweepWork config s s'' turns (SweepEnd.Refused e)
sweeping_refused config s s' s'' turns i e h lt same why = record { gained = h.gained; sweeps = h.sweeps; seat = same ∙ h.seat; ends = (omega (arith, h.count, lt), why) }

pub sweeping_stopped : (config : HeapSettings) (s s' : SeatModel) (turns i : ℕ) → IsSweeping s s' turns i → i < turns → i < config.regions → IsSweepWork config s s' turns SweepEnd.Stopped
sweeping_stopped config s s' turns i h lt left = record { gained = h.gained; sweeps = h.sweeps; seat = h.seat; ends = (omega (arith, h.count, lt), omega (arith, h.count, left)) }

-- ---- the gate

-- an end that a receipt stands for is no stop
pub receipt_end_is_no_stop : {G : Type 0} (says : G → ℕ → Bool → G → Type 0) (s s' : SeatModel) (after : G) (r : Receipt) (end : MarkEnd) → mark_end_of r ≡ Some end → MarkStops says s s' after end
receipt_end_is_no_stop says s s' after r end is = mark_end_is_one_of_three r.answer r end (λ z. MarkStops says s s' after z) is tt tt tt

-- a gate that lets no act begin, after this number of acts
pub marking_halts : {G : Type 0} (says : G → ℕ → Bool → G → Type 0) (first : Stage) (s s' : SeatModel) (stage : Stage) (i : ℕ) (before after : G) → IsMarking first s s' stage i → says before (i + 1) false after → WasStopped says s s' after
marking_halts says first s s' stage i before after h said =
    (before, i, ap (λ (c : SeatModel). length c.share) h.seat ∙ length-append s.share h.gained ∙ ap (λ n. length s.share + n) h.count, said)

pub sweeping_halts : {G : Type 0} (says : G → ℕ → Bool → G → Type 0) (s s' : SeatModel) (turns i : ℕ) (before after : G) → IsSweeping s s' turns i → says before (i + 1) false after → WasStopped says s s' after
sweeping_halts says s s' turns i before after h said =
    (before, i, ap (λ (c : SeatModel). length c.share) h.seat ∙ length-append s.share h.gained ∙ ap (λ n. length s.share + n) h.count, said)

-- ---- how often the gate was asked

pub seat_gains_entries_by_count : (s s' : SeatModel) (gained : List (ℕ × Entry)) → s' ≡ with_more gained s → Gains s s' (length gained)
seat_gains_entries_by_count s s' gained is = ap (λ (c : SeatModel). length c.share) is ∙ length-append s.share gained

pub gate_lets_one_more_begin : {G : Type 0} (says : G → ℕ → Bool → G → Type 0) (i : ℕ) (before between after : G) → LetsBegin says before i between → says between (i + 1) true after → LetsBegin says before (i + 1) after
gate_lets_one_more_begin says i before between after lets said =
    let equal_some_mark_ends : suc i ≡ i + 1 = omega arith in
    subst (λ n. LetsBegin says before n after) equal_some_mark_ends (between, lets, said)

pub marked_each : {G : Type 0} (says : G → ℕ → Bool → G → Type 0) (first : Stage) (s s' : SeatModel) (stage : Stage) (i : ℕ) (before after : G) → IsMarking first s s' stage i → LetsBegin says before i after → AsksForEach says before s s' after
marked_each says first s s' stage i before after h lets = (i, subst (Gains s s') h.count (seat_gains_entries_by_count s s' h.gained h.seat), lets)

pub marking_asks_for_one_more : {G : Type 0} (says : G → ℕ → Bool → G → Type 0) (first : Stage) (s s' s'' : SeatModel) (stage : Stage) (i : ℕ) (before between after : G) → IsMarking first s s' stage i → s'' ≡ s' → LetsBegin says before i between → says between (i + 1) true after → AsksForOneMore says before s s'' after
marking_asks_for_one_more says first s s' s'' stage i before between after h same lets said =
    (i, subst (λ (x : SeatModel). Gains s x i) (sym same) (subst (Gains s s') h.count (seat_gains_entries_by_count s s' h.gained h.seat)), gate_lets_one_more_begin says i before between after lets said)

pub marked_stopped : {G : Type 0} (says : G → ℕ → Bool → G → Type 0) (first : Stage) (s s' : SeatModel) (stage : Stage) (i : ℕ) (before between after : G) → IsMarking first s s' stage i → LetsBegin says before i between → says between (i + 1) false after → AsksUntilStopped says before s s' after
marked_stopped says first s s' stage i before between after h lets said =
    (i, subst (Gains s s') h.count (seat_gains_entries_by_count s s' h.gained h.seat), between, lets, said)

-- an act whose answer is an end
pub marking_asks_for_last_act : {G : Type 0} (says : G → ℕ → Bool → G → Type 0) (first : Stage) (s s' s'' : SeatModel) (stage : Stage) (i : ℕ) (before between after : G) (r : Receipt) (end : MarkEnd) → IsMarking first s s' stage i → s'' ≡ with_entry r.turn (Step (event_of stage)) r.answer s' → LetsBegin says before i between → says between (i + 1) true after → mark_end_of r ≡ Some end → MarkAsks says before s s'' after end
marking_asks_for_last_act says first s s' s'' stage i before between after r end h is lets said ends =
    let m : ℕ × Entry = (r.turn, entry s.number (Step (event_of stage)) r.answer) in
    let count : length (h.gained ++ m ∷ []) ≡ i + 1 = omega (arith, length-append h.gained (m ∷ []), h.count) in
    let all : AsksForEach says before s s'' after = (i + 1, subst (Gains s s'') count (seat_gains_entries_by_count s s'' (h.gained ++ m ∷ []) (seat_with_one_more_entry s s' s'' h.gained r.turn (Step (event_of stage)) r.answer h.seat is)), gate_lets_one_more_begin says i before between after lets said) in
    mark_end_is_one_of_three r.answer r end (λ z. MarkAsks says before s s'' after z) ends all all all

pub swept_each : {G : Type 0} (says : G → ℕ → Bool → G → Type 0) (s s' : SeatModel) (turns i : ℕ) (before after : G) → IsSweeping s s' turns i → LetsBegin says before i after → AsksForEach says before s s' after
swept_each says s s' turns i before after h lets = (i, subst (Gains s s') h.count (seat_gains_entries_by_count s s' h.gained h.seat), lets)

pub swept_more : {G : Type 0} (says : G → ℕ → Bool → G → Type 0) (s s' s'' : SeatModel) (turns i : ℕ) (before between after : G) → IsSweeping s s' turns i → s'' ≡ s' → LetsBegin says before i between → says between (i + 1) true after → AsksForOneMore says before s s'' after
swept_more says s s' s'' turns i before between after h same lets said =
    (i, subst (λ (x : SeatModel). Gains s x i) (sym same) (subst (Gains s s') h.count (seat_gains_entries_by_count s s' h.gained h.seat)), gate_lets_one_more_begin says i before between after lets said)

pub swept_stopped : {G : Type 0} (says : G → ℕ → Bool → G → Type 0) (s s' : SeatModel) (turns i : ℕ) (before between after : G) → IsSweeping s s' turns i → LetsBegin says before i between → says between (i + 1) false after → AsksUntilStopped says before s s' after
swept_stopped says s s' turns i before between after h lets said =
    (i, subst (Gains s s') h.count (seat_gains_entries_by_count s s' h.gained h.seat), between, lets, said)

-- ---- no cycle is begun

-- a stage at which no cycle is begun
abbrev IsStageWithoutSnap : Stage → Type 0
IsStageWithoutSnap stage = event_of stage ≡ Event.Snap → ⊥

mark_stage_without_snap : IsStageWithoutSnap Mark
mark_stage_without_snap is = cc

drain_stage_without_snap : IsStageWithoutSnap Drain
drain_stage_without_snap is = cc

finish_stage_without_snap : IsStageWithoutSnap Finish
finish_stage_without_snap is = cc

stage_after_outcome_without_snap : (o : Outcome) → IsStageWithoutSnap (stage_after o)
stage_after_outcome_without_snap (Outcome.Answered (Answer.Class n)) = mark_stage_without_snap
stage_after_outcome_without_snap (Outcome.Answered (Answer.Object x)) = mark_stage_without_snap
stage_after_outcome_without_snap (Outcome.Answered Answer.Null) = mark_stage_without_snap
stage_after_outcome_without_snap (Outcome.Answered (Answer.Value v)) = mark_stage_without_snap
stage_after_outcome_without_snap (Outcome.Answered Answer.Done) = mark_stage_without_snap
stage_after_outcome_without_snap (Outcome.Answered (Answer.Pushed n)) = mark_stage_without_snap
stage_after_outcome_without_snap (Outcome.Answered (Answer.Condemned n)) = mark_stage_without_snap
stage_after_outcome_without_snap (Outcome.Answered (Answer.Swept emptied dead)) = mark_stage_without_snap
stage_after_outcome_without_snap (Outcome.Place k) = mark_stage_without_snap
stage_after_outcome_without_snap (Outcome.Refused Refusal.NoMemory) = mark_stage_without_snap
stage_after_outcome_without_snap (Outcome.Refused Refusal.NoClass) = mark_stage_without_snap
stage_after_outcome_without_snap (Outcome.Refused Refusal.ClassLimit) = mark_stage_without_snap
stage_after_outcome_without_snap (Outcome.Refused Refusal.BadName) = mark_stage_without_snap
stage_after_outcome_without_snap (Outcome.Refused Refusal.DuplicateName) = mark_stage_without_snap
stage_after_outcome_without_snap (Outcome.Refused Refusal.FieldLimit) = mark_stage_without_snap
stage_after_outcome_without_snap (Outcome.Refused Refusal.BadRegister) = mark_stage_without_snap
stage_after_outcome_without_snap (Outcome.Refused Refusal.NullRegister) = mark_stage_without_snap
stage_after_outcome_without_snap (Outcome.Refused Refusal.BadSlot) = mark_stage_without_snap
stage_after_outcome_without_snap (Outcome.Refused Refusal.WrongKind) = mark_stage_without_snap
stage_after_outcome_without_snap (Outcome.Refused Refusal.OutOfRange) = mark_stage_without_snap
stage_after_outcome_without_snap (Outcome.Refused Refusal.TooLarge) = mark_stage_without_snap
stage_after_outcome_without_snap (Outcome.Refused Refusal.HeapFull) = mark_stage_without_snap
stage_after_outcome_without_snap (Outcome.Refused Refusal.AlreadyMarking) = mark_stage_without_snap
stage_after_outcome_without_snap (Outcome.Refused Refusal.NotMarking) = mark_stage_without_snap
stage_after_outcome_without_snap (Outcome.Refused Refusal.NothingToMark) = drain_stage_without_snap
stage_after_outcome_without_snap (Outcome.Refused Refusal.NothingToDrain) = finish_stage_without_snap
stage_after_outcome_without_snap (Outcome.Refused (Refusal.NotDone gray undrained)) = mark_stage_without_snap
stage_after_outcome_without_snap (Outcome.Refused (Refusal.SweepPending region)) = mark_stage_without_snap
stage_after_outcome_without_snap (Outcome.Refused (Refusal.NothingToSweep region)) = mark_stage_without_snap
stage_after_outcome_without_snap (Outcome.Refused (Refusal.TooFar asked retained)) = mark_stage_without_snap
stage_after_outcome_without_snap (Outcome.Refused Refusal.NoPin) = mark_stage_without_snap
stage_after_outcome_without_snap (Outcome.Refused (Refusal.Lost cause)) = mark_stage_without_snap
stage_after_outcome_without_snap (Outcome.Refused Refusal.NotRetained) = mark_stage_without_snap
stage_after_outcome_without_snap (Outcome.Refused Refusal.PinLimit) = mark_stage_without_snap
stage_after_outcome_without_snap (Outcome.Refused Refusal.ChronicleFull) = mark_stage_without_snap

step_is_injective : (e f : Event) → Step e ≡ Step f → e ≡ f
step_is_injective e f is = cc

stage_entry_is_no_snap : (stage : Stage) (m : ℕ × Entry) → IsStageWithoutSnap stage → m.1.action ≡ Step (event_of stage) → IsNoSnap m
stage_entry_is_no_snap stage m on is snap = on (step_is_injective (event_of stage) Event.Snap (sym is ∙ snap))

stage_entries_have_no_snap : (stage next : Stage) (ms : List (ℕ × Entry)) → IsStageWithoutSnap stage → GoesOn stage ms next → AllByRecursion IsNoSnap ms × IsStageWithoutSnap next
stage_entries_have_no_snap stage next [] on h = (tt, subst IsStageWithoutSnap h on)
stage_entries_have_no_snap stage next (m ∷ ms) on h =
    let rest = stage_entries_have_no_snap (stage_after m.1.answer) next ms (stage_after_outcome_without_snap m.1.answer) h.2 in
    ((stage_entry_is_no_snap stage m on h.0, rest.0), rest.1)

entries_without_snap_one_more : (ms : List (ℕ × Entry)) (m : ℕ × Entry) → AllByRecursion IsNoSnap ms → IsNoSnap m → AllByRecursion IsNoSnap (ms ++ m ∷ [])
entries_without_snap_one_more [] m h none = (none, tt)
entries_without_snap_one_more (x ∷ ms) m h none = (h.0, entries_without_snap_one_more ms m h.1 none)

share_with_gained_entries : (s s' : SeatModel) (gained : List (ℕ × Entry)) → s' ≡ with_more gained s → s'.share ≡ s.share ++ gained
share_with_gained_entries s s' gained is = ap (λ (c : SeatModel). c.share) is

-- the acts, and one more that is an end
end_begins_no_cycle : (config : HeapSettings) (s s' : SeatModel) (turns : ℕ) (gained : List (ℕ × Entry)) (next : Stage) (r : Receipt) (end : MarkEnd) → AllByRecursion IsNoSnap gained → IsStageWithoutSnap next → IsEnd config s s' turns gained next r end → BeginsNoCycle s s'
end_begins_no_cycle config s s' turns gained next r end none on e =
    let m : ℕ × Entry = (r.turn, entry s.number (Step (event_of next)) r.answer) in
    (gained ++ m ∷ [], share_with_gained_entries s s' (gained ++ m ∷ []) e.3, entries_without_snap_one_more gained m none (stage_entry_is_no_snap next m on refl))

marking_end_begins_no_cycle : (config : HeapSettings) (s s' : SeatModel) (turns : ℕ) (gained : List (ℕ × Entry)) (next : Stage) (end : MarkEnd) → AllByRecursion IsNoSnap gained → IsStageWithoutSnap next → EndsMarking config s s' turns gained next end → BeginsNoCycle s s'
marking_end_begins_no_cycle config s s' turns gained next (Finished r) none on e = end_begins_no_cycle config s s' turns gained next r (Finished r) none on e
marking_end_begins_no_cycle config s s' turns gained next (NotMarking r) none on e = end_begins_no_cycle config s s' turns gained next r (NotMarking r) none on e
marking_end_begins_no_cycle config s s' turns gained next (Pending r) none on e = end_begins_no_cycle config s s' turns gained next r (Pending r) none on e
marking_end_begins_no_cycle config s s' turns gained next (MarkEnd.Refused f) none on e = (gained, share_with_gained_entries s s' gained e.1, none)
marking_end_begins_no_cycle config s s' turns gained next MarkEnd.Stopped none on e = (gained, share_with_gained_entries s s' gained e.1, none)
marking_end_begins_no_cycle config s s' turns gained next MarkEnd.TurnsOver none on e = (gained, share_with_gained_entries s s' gained e.1, none)

pub resumed_work_begins_no_cycle : (config : HeapSettings) (s s' : SeatModel) (turns : ℕ) (end : MarkEnd) → IsResumedWork config s s' turns end → BeginsNoCycle s s'
resumed_work_begins_no_cycle config s s' turns end w =
    let none = stage_entries_have_no_snap Mark w.next w.gained mark_stage_without_snap w.goes_on in
    marking_end_begins_no_cycle config s s' turns w.gained w.next end none.0 none.1 w.ends
