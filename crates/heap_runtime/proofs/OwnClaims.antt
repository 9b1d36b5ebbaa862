-- Claims of entries of a share, and what an audit says of them.
use Rattle.std.proofs.Common.{◌≡◌, ℕ, ◌+◌, ◌-◌, ◌<◌, ◌==◌, Bool, true, false, List, [], ◌∷◌, ◌++◌, length, filter, Some, refl, sym, ap, ◌∙◌, subst, inl, inr, append_assoc, length-append, arith}
use Rattle.std.specs.Prelude.{slice_get, if◌then◌else◌}
use Rattle.std.specs.List.{enumerate_from}
use mathlib.Core.List.{IsPrefix}
use Rattle.heap_lock.specs.HeapLimits.{HeapSettings}
use Rattle.heap_lock.specs.Action.{Action}
use Rattle.heap_lock.specs.Receipt.{Receipt}
use Rattle.heap_lock.specs.Verdict.{Verdict}
use Rattle.heap_lock.specs.Verdict.TheVariants.{Fails}
use Rattle.heap_lock.specs.Audits.{Audits, AuditsKept, IsVerdict, NamesEntry}
use Rattle.heap_history.specs.Chronicles.{dropped_of}
use Rattle.heap_history.specs.declared.entry.Entry.{Entry}
use Rattle.heap_history.specs.History.{entry, entries_by}
use Rattle.heap_lock.specs.Calls.{Call, IsHeapLedger}
use Rattle.heap_lock.specs.LockStates.{SeatModel, LockState, IsReceived}
use Rattle.heap_runtime.specs.Actors.{AreEntries, IsAudited, claimed_entry}

-- ---- claims and shares that grow

abbrev ClaimedAct : Type 0
ClaimedAct = Action × Receipt

pub claims_in_longer_share : (cs : List ClaimedAct) (ms more : List (ℕ × Entry)) → AreEntries cs ms → AreEntries cs (ms ++ more)
claims_in_longer_share [] ms more h = tt
claims_in_longer_share (c ∷ cs) [] more h = absurd h
claims_in_longer_share (c ∷ cs) (m ∷ ms) more (inl h) = inl (h.0, claims_in_longer_share cs ms more h.1)
claims_in_longer_share (c ∷ cs) (m ∷ ms) more (inr h) = inr (claims_in_longer_share (c ∷ cs) ms more h)

last_claim_is_last_entry : (c : ClaimedAct) (ms : List (ℕ × Entry)) → AreEntries (c ∷ []) (ms ++ claimed_entry c ∷ [])
last_claim_is_last_entry c [] = inl (refl, tt)
last_claim_is_last_entry c (m ∷ ms) = inr (last_claim_is_last_entry c ms)

pub claims_with_entry_of_claim : (cs : List ClaimedAct) (ms : List (ℕ × Entry)) (c : ClaimedAct) → AreEntries cs ms → AreEntries (cs ++ c ∷ []) (ms ++ claimed_entry c ∷ [])
claims_with_entry_of_claim [] ms c h = last_claim_is_last_entry c ms
claims_with_entry_of_claim (d ∷ cs) [] c h = absurd h
claims_with_entry_of_claim (d ∷ cs) (m ∷ ms) c (inl h) = inl (h.0, claims_with_entry_of_claim cs ms c h.1)
claims_with_entry_of_claim (d ∷ cs) (m ∷ ms) c (inr h) = inr (claims_with_entry_of_claim (d ∷ cs) ms c h)

-- an act, and the claim of it
pub act_adds_claim_and_entry : (cs cs' : List ClaimedAct) (s s' : SeatModel) (action : Action) (r : Receipt) → AreEntries cs s.share → IsReceived action s r s' → cs' ≡ cs ++ (action, r) ∷ [] → AreEntries cs' s'.share
act_adds_claim_and_entry cs cs' s s' action r own received gained =
    let grown : s.share ++ claimed_entry (action, r) ∷ [] ≡ s'.share = ap (λ (n : ℕ). s.share ++ (r.turn, entry n action r.answer) ∷ []) received.0 ∙ sym (ap (λ (c : SeatModel). c.share) received.1) in
    subst (λ (x : List ClaimedAct × List (ℕ × Entry)). AreEntries x.0 x.1) (λ i. (sym gained i, grown i)) (claims_with_entry_of_claim cs s.share (action, r) own)

-- ---- what an audit of them says

entry_past_earlier_entries : (es : List Entry) (pre : List Entry) (e : Entry) → slice_get (pre ++ e ∷ es) (length pre) ≡ Some e
entry_past_earlier_entries es [] e = refl
entry_past_earlier_entries es (x ∷ pre) e = entry_past_earlier_entries es pre e

abbrev IsEntryOfSeat : ℕ → ℕ × Entry → Bool
IsEntryOfSeat n p = p.1.seat == n

own_claims_audited_from_entry : (n last : ℕ) (pre es : List Entry) (cs : List ClaimedAct) → last < 1 + length pre → AreEntries cs (filter (IsEntryOfSeat n) (enumerate_from (1 + length pre) es)) → Audits (pre ++ es) last cs
own_claims_audited_from_entry n last pre es [] lt h = tt
own_claims_audited_from_entry n last pre [] (c ∷ cs) lt h = absurd h
own_claims_audited_from_entry n last pre (e ∷ es) (c ∷ cs) lt h = go (λ k ds below r. own_claims_audited_from_entry n k (pre ++ e ∷ []) es ds below r) (e.seat == n) h
  where
    rest : List (ℕ × Entry)
    rest = filter (IsEntryOfSeat n) (enumerate_from (1 + length pre + 1) es)

    Later : Type 0
    Later = (k : ℕ) (ds : List ClaimedAct) → k < 1 + length (pre ++ e ∷ []) → AreEntries ds (filter (IsEntryOfSeat n) (enumerate_from (1 + length (pre ++ e ∷ [])) es)) → Audits ((pre ++ e ∷ []) ++ es) k ds

    next : 1 + length (pre ++ e ∷ []) ≡ 1 + length pre + 1
    next = omega (arith, length-append pre (e ∷ []))

    on : Later → (k : ℕ) (ds : List ClaimedAct) → k < 1 + length (pre ++ e ∷ []) → AreEntries ds rest → Audits (pre ++ e ∷ es) k ds
    on later k ds below r =
        subst (λ l. Audits l k ds) (append_assoc pre (e ∷ []) es)
        (later k ds below (subst (λ (j : ℕ). AreEntries ds (filter (IsEntryOfSeat n) (enumerate_from j es))) (sym next) r))

    here : (1 + length pre, e) ≡ claimed_entry c → NamesEntry (pre ++ e ∷ es) c.0 c.1
    here is =
        let turn : 1 + length pre ≡ c.1.turn = ap (λ (m : ℕ × Entry). m.0) is in
        let place : length pre ≡ c.1.turn - 1 = omega (arith, turn) in
        (omega (arith, turn), ap (slice_get (pre ++ e ∷ es)) (sym place) ∙ entry_past_earlier_entries es pre e ∙ ap (λ (m : ℕ × Entry). Some m.1) is)

    go : Later → (b : Bool) → AreEntries (c ∷ cs) (if b then (1 + length pre, e) ∷ rest else rest) → Audits (pre ++ e ∷ es) last (c ∷ cs)
    go later true (inl t) =
        let turn : 1 + length pre ≡ c.1.turn = ap (λ (m : ℕ × Entry). m.0) t.0 in
        (omega (arith, turn, lt), here t.0, on later c.1.turn cs (omega (arith, turn, next)) t.1)
    go later true (inr t) = on later last (c ∷ cs) (omega (arith, lt, next)) t
    go later false t = on later last (c ∷ cs) (omega (arith, lt, next)) t

audited_claims_are_kept : (dropped : ℕ) (es : List Entry) (last : ℕ) (cs : List ClaimedAct) → Audits es last cs → AuditsKept dropped es last cs
audited_claims_are_kept dropped es last [] h = tt
audited_claims_are_kept dropped es last (c ∷ cs) h = (h.0, λ lt. h.1, audited_claims_are_kept dropped es c.1.turn cs h.2)

-- claims of entries of the seat's share never fail
pub never_fails : (config : HeapSettings) (rolls : Bool) (s : SeatModel) (seen : List Call) (claims : List ClaimedAct) (verdict : Verdict) (seen' : List Call) → AreEntries claims s.share → IsAudited config rolls s seen claims verdict seen' → verdict ≡ Fails → ⊥
unfolding entries_by
never_fails config rolls s seen claims verdict seen' own (m, history, heap, begins, share, said) is =
    let stand : Audits history 0 claims = own_claims_audited_from_entry s.number 0 [] history claims (omega arith) (subst (AreEntries claims) (sym share) own) in
    let fails : IsVerdict (dropped_of rolls (length history)) history claims Fails = subst (IsVerdict (dropped_of rolls (length history)) history claims) is said in
    fails (audited_claims_are_kept (dropped_of rolls (length history)) history 0 claims stand)

-- an audit between looks at one moment under the lock
pub audit_under_lock_tells_claims : (config : HeapSettings) (rolls : Bool) (s : SeatModel) (seen seen' : List Call) (claims : List ClaimedAct) (verdict : Verdict) (k k1 k2 : LockState) → entries_by s.number k.chronicle ≡ s.share → k1 ≡ k → IsPrefix seen k1.ledger → IsHeapLedger config k1.machine k1.chronicle k1.ledger → seen' ≡ k1.ledger → k2 ≡ k1 → k2.rolls ≡ rolls
    → IsVerdict (dropped_of k2.rolls (length k2.chronicle)) k2.chronicle claims verdict → IsAudited config rolls s seen claims verdict seen'
audit_under_lock_tells_claims config rolls s seen seen' claims verdict k k1 k2 share same begins heap is here rolled said = (
  k1.machine,
  k1.chronicle,
  subst (IsHeapLedger config k1.machine k1.chronicle) (sym is) heap,
  subst (IsPrefix seen) (sym is) begins,
  ap (λ (x : LockState). entries_by s.number x.chronicle) same ∙ share,
  subst (λ (x : Bool × List Entry). IsVerdict (dropped_of x.0 (length x.1)) x.1 claims verdict) (λ i. (rolled i, (here i).chronicle)) said,
)
