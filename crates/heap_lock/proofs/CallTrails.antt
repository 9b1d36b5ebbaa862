-- The trail that calls leave is what their events and rewinds leave.
use Rattle.std.proofs.Common.{◌≡◌, ℕ, Bool, true, false, List, [], ◌∷◌, ◌++◌, map, filter, refl, sym, ap, ◌∙◌, subst}
use Rattle.std.specs.Prelude.{All, not, if◌then◌else◌}
use Rattle.std.proofs.lemmas.List.Elements.{All-nil, All-cons, All-head, All-tail}
use Rattle.heap_world.specs.Limits.{HeapSettings}
use Rattle.heap_trail.specs.declared.Action.{Action}
use Rattle.heap_trail.specs.Trail.{Trail}
use Rattle.heap_trail.specs.Machine.{Machine, Granted, MayReply, acted, acted_under, opening_machine, machine_after, is_dump_action}
use Rattle.heap_trail.proofs.ByTrail.{dumps_leave}
use Rattle.heap_history.specs.declared.entry.Entry.{Entry}
use Rattle.heap_history.specs.History.{opening, machine_at, trail_after, MayEnter, IsLegalHistory}
use Rattle.heap_lock.specs.Calls.{Call, call_of, acts_in, LeadsTo, IsLedger}
use Rattle.heap_lock.specs.Laws.{trail_by}
use Rattle.heap_lock.proofs.Histories.{entered_act_follows_trail}
use Rattle.heap_lock.proofs.CallLists.{Leads, first_call_leads_to_middle}

-- each event or rewind among the calls may be an entry
abbrev MayAllEnter : List Call → Type 0
MayAllEnter [] = Unit {0}
MayAllEnter (c ∷ cs) = (is_dump_action c.0 ≡ false → MayEnter c.1) × MayAllEnter cs

abbrev MayCallEnter : Call → Type 0
MayCallEnter c = MayEnter c.1

entries_enter : (keep : ℕ) (t : Trail) (es : List Entry) → IsLegalHistory keep t es → All MayCallEnter (map call_of es)
entries_enter keep t [] legal = All-nil MayCallEnter
entries_enter keep t (e ∷ es) legal = All-cons MayCallEnter (call_of e) (map call_of es) legal.0.enters (entries_enter keep (trail_after keep t e.action) es legal.1)

acts_enter : (cs : List Call) → All MayCallEnter (acts_in cs) → MayAllEnter cs
unfolding acts_in
acts_enter [] all = tt
acts_enter (c ∷ cs) all = go (is_dump_action c.0) refl (acts_enter cs) all
  where
    rest : List Call
    rest = filter (λ (x : Call). not (is_dump_action x.0)) cs

    go : (b : Bool) → is_dump_action c.0 ≡ b → (All MayCallEnter rest → MayAllEnter cs) → All MayCallEnter (if not b then c ∷ rest else rest) → MayAllEnter (c ∷ cs)
    go true is later h = (λ no. absurd (clash (sym is ∙ no)), later h)
      where
        clash : true ≡ false → ⊥
        clash e = cc
    go false is later h = (λ no. All-head MayCallEnter c rest h, later (All-tail MayCallEnter c rest h))

front_calls_may_enter : (cs ds : List Call) → MayAllEnter (cs ++ ds) → MayAllEnter cs
front_calls_may_enter [] ds h = tt
front_calls_may_enter (c ∷ cs) ds h = (h.0, front_calls_may_enter cs ds h.1)

-- ---- one call

abbrev CallLeavesTrail : Machine → Action → Machine → Type 0
CallLeavesTrail m a n = (n.trail ≡ trail_after m.keep m.trail a) × (n.keep ≡ m.keep) × (n.ids ≡ m.ids)

dump_action_leaves_trail : (keep : ℕ) (t : Trail) (a : Action) → is_dump_action a ≡ true → trail_after keep t a ≡ t
unfolding trail_after acted_under
dump_action_leaves_trail keep t a dump = (dumps_leave (machine_at keep t) (acted (machine_at keep t) a).0 a Granted (acted (machine_at keep t) a).1 dump refl).0

call_leaves_its_trail : (m n : Machine) (c : Call) → (is_dump_action c.0 ≡ false → MayEnter c.1) → MayReply m c.0 n c.1 → CallLeavesTrail m c.0 n
call_leaves_its_trail m n c enters may = go (is_dump_action c.0) refl
  where
    go : (b : Bool) → is_dump_action c.0 ≡ b → CallLeavesTrail m c.0 n
    go true is =
        let left = dumps_leave m n c.0 may.0 c.1 is may.2 in
        (left.0 ∙ sym (dump_action_leaves_trail m.keep m.trail c.0 is), left.1, left.2)
    go false is =
        let left = entered_act_follows_trail m n c.0 c.1 is may (enters is) in
        (left.0, left.2, left.3)

-- ---- all calls

abbrev CallsLeaveTrail : Machine → List Call → Machine → Type 0
CallsLeaveTrail m cs n = (n.trail ≡ trail_by m.keep m.trail cs) × (n.keep ≡ m.keep) × (n.ids ≡ m.ids)

no_call_leaves_machine : (m n : Machine) → Leads m [] n → n ≡ m
unfolding machine_after
no_call_leaves_machine m n ([], actions, may, replies, ends) = ends
no_call_leaves_machine m n (x ∷ paired, actions, may, replies, ends) = absurd (clash actions)
  where
    clash : x.0 ∷ map (λ a. a.0) paired ≡ [] → ⊥
    clash e = cc

leading_calls_leave_trail : (m n : Machine) (cs : List Call) → Leads m cs n → MayAllEnter cs → CallsLeaveTrail m cs n
unfolding trail_by
leading_calls_leave_trail m n [] l enter = let here = no_call_leaves_machine m n l in (ap (λ (x : Machine). x.trail) here, ap (λ (x : Machine). x.keep) here, ap (λ (x : Machine). x.ids) here)
leading_calls_leave_trail m n (c ∷ cs) l enter =
    let h = first_call_leads_to_middle m n c cs l in
    let first = call_leaves_its_trail m h.0 c enter.0 h.1 in
    let rest = leading_calls_leave_trail h.0 n cs h.2 enter.1 in
    (rest.0 ∙ (λ i. trail_by (first.1 i) (first.0 i) cs), rest.1 ∙ first.1, rest.2 ∙ first.2)

-- after the first calls of a heap the trail is theirs, and the size of ids the heap's
pub trail_of_first_calls : (config : HeapSettings) (k m : Machine) (es : List Entry) (before after : List Call) → LeadsTo config before k → IsLedger config m es (before ++ after) → IsLegalHistory config.keep (opening config) es
    → (k.trail ≡ trail_by config.keep (opening config) before) × (k.ids ≡ config.ids)
unfolding opening_machine
trail_of_first_calls config k m es before after leads ledger legal =
    let enter = acts_enter (before ++ after) (subst (All MayCallEnter) (sym ledger.acts) (entries_enter config.keep (opening config) es legal)) in
    let by = leading_calls_leave_trail (opening_machine config.limits config.ids config.regions config.mutators config.keep) k before leads (front_calls_may_enter before after enter) in
    (by.0, by.2)

-- the trail of a heap's machine is that of all its calls
pub ledger_trail : (config : HeapSettings) (m : Machine) (es : List Entry) (calls : List Call) → IsLedger config m es calls → IsLegalHistory config.keep (opening config) es → m.trail ≡ trail_by config.keep (opening config) calls
unfolding opening_machine
ledger_trail config m es calls ledger legal =
    let enter = acts_enter calls (subst (All MayCallEnter) (sym ledger.acts) (entries_enter config.keep (opening config) es legal)) in
    (leading_calls_leave_trail (opening_machine config.limits config.ids config.regions config.mutators config.keep) m calls ledger.leads enter).0
