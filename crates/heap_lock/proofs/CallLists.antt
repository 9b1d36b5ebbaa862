-- A ledger with a call more.
use Rattle.std.proofs.Common.{◌≡◌, Bool, true, false, List, [], ◌∷◌, ◌++◌, map, filter, append-nil, refl, sym, ap, ◌∙◌, subst}
use Rattle.std.specs.Prelude.{not, if◌then◌else◌}
use Rattle.std.proofs.lemmas.List.Elements.{filter-append}
use Rattle.heap_world.specs.Limits.{HeapSettings}
use Rattle.heap_trail.specs.declared.Action.{Action}
use Rattle.heap_trail.specs.declared.Reply.{Reply}
use Rattle.heap_trail.specs.Machine.{Machine, MayStand, AreAllocations, MayDrive, MayReply, opening_machine, acted_under, machine_after, replies_of, is_dump_action}
use Rattle.heap_trail.proofs.ActionLists.{driven_none, driven_more}
use Rattle.heap_history.specs.declared.entry.Entry.{Entry}
use Rattle.heap_history.specs.History.{reply_of}
use Rattle.heap_lock.specs.Calls.{Call, call_of, acts_in, LeadsTo, IsLedger}

pub actions_push : (cs : List Call) (c : Call) → map (λ (x : Call). x.0) (cs ++ c ∷ []) ≡ map (λ (x : Call). x.0) cs ++ c.0 ∷ []
actions_push [] c = refl
actions_push (x ∷ cs) c = ap (λ l. x.0 ∷ l) (actions_push cs c)

pub replies_push : (cs : List Call) (c : Call) → map (λ (x : Call). x.1) (cs ++ c ∷ []) ≡ map (λ (x : Call). x.1) cs ++ c.1 ∷ []
replies_push [] c = refl
replies_push (x ∷ cs) c = ap (λ l. x.1 ∷ l) (replies_push cs c)

calls_push : (es : List Entry) (e : Entry) → map call_of (es ++ e ∷ []) ≡ map call_of es ++ call_of e ∷ []
calls_push [] e = refl
calls_push (x ∷ es) e = ap (λ l. call_of x ∷ l) (calls_push es e)

calls_lead_one_further : (config : HeapSettings) (cs : List Call) (m m' : Machine) (c : Call) → LeadsTo config cs m → MayReply m c.0 m' c.1 → LeadsTo config (cs ++ c ∷ []) m'
calls_lead_one_further config cs m m' c leads may =
    let start = opening_machine config.limits config.ids config.regions config.mutators config.keep in
    subst (λ (x : List Action × List Reply). MayDrive start x.0 x.1 m') (λ i. (sym (actions_push cs c) i, sym (replies_push cs c) i))
    (driven_more start (map (λ (x : Call). x.0) cs) (map (λ (x : Call). x.1) cs) m m' c.0 c.1 leads may)

acts_push : (cs : List Call) (c : Call) (b : Bool) → is_dump_action c.0 ≡ b → acts_in (cs ++ c ∷ []) ≡ acts_in cs ++ (if not b then c ∷ [] else [])
unfolding acts_in
acts_push cs c b is =
    filter-append (λ (x : Call). not (is_dump_action x.0)) cs (c ∷ [])
    ∙ ap (λ (l : List Call). filter (λ (x : Call). not (is_dump_action x.0)) cs ++ l) (ap (λ (d : Bool). if not d then c ∷ [] else []) is)

-- an act, with its entry
pub act_with_entry_in_ledger : (config : HeapSettings) (m m' : Machine) (es : List Entry) (cs : List Call) (e : Entry) → IsLedger config m es cs → is_dump_action e.action ≡ false → MayReply m e.action m' (reply_of e.answer)
    → IsLedger config m' (es ++ e ∷ []) (cs ++ call_of e ∷ [])
act_with_entry_in_ledger config m m' es cs e l deed may = record {
  leads = calls_lead_one_further config cs m m' (call_of e) l.leads may;
  acts = acts_push cs (call_of e) false deed ∙ ap (λ x. x ++ call_of e ∷ []) l.acts ∙ sym (calls_push es e);
}

-- a dumper's call, which has none
pub dump_call_in_ledger : (config : HeapSettings) (m m' : Machine) (es : List Entry) (cs : List Call) (c : Call) → IsLedger config m es cs → is_dump_action c.0 ≡ true → MayReply m c.0 m' c.1 → IsLedger config m' es (cs ++ c ∷ [])
dump_call_in_ledger config m m' es cs c l dump may = record {
  leads = calls_lead_one_further config cs m m' c l.leads may;
  acts = acts_push cs c true dump ∙ append-nil _ ∙ l.acts;
}

-- no call leads to the opening machine
pub opening_ledger_has_no_calls : (config : HeapSettings) → IsLedger config (opening_machine config.limits config.ids config.regions config.mutators config.keep) [] []
unfolding acts_in
opening_ledger_has_no_calls config = record { leads = driven_none _; acts = refl }

-- ---- a list of calls in two

abbrev pub Leads : Machine → List Call → Machine → Type 0
Leads m cs n = MayDrive m (map (λ c. c.0) cs) (map (λ c. c.1) cs) n

pub first_call_leads_to_middle : (m n : Machine) (c : Call) (cs : List Call) → Leads m (c ∷ cs) n → (k : Machine) × MayReply m c.0 k c.1 × Leads k cs n
unfolding machine_after replies_of
first_call_leads_to_middle m n c cs ([], actions, may, replies, ends) = absurd (cc actions)
first_call_leads_to_middle m n c cs (x ∷ paired, actions, may, replies, ends) =
    let first : x.0 ≡ c.0 = cc actions in
    let rest : map (λ a. a.0) paired ≡ map (λ (y : Call). y.0) cs = cc actions in
    let reply : c.1 ≡ (acted_under m x).1 = cc replies in
    let later : map (λ (y : Call). y.1) cs ≡ replies_of (acted_under m x).0 paired = cc replies in (
      (acted_under m x).0,
      (x.1, subst (λ (a : Action). MayStand m (a, x.1)) first may.0, ap (λ (a : Action). acted_under m (a, x.1)) (sym first) ∙ (λ i. ((acted_under m x).0, sym reply i))),
      (paired, rest, may.1, later, ends),
    )

calls_lead_from_first_call : (m k n : Machine) (c : Call) (cs : List Call) → MayReply m c.0 k c.1 → Leads k cs n → Leads m (c ∷ cs) n
unfolding machine_after replies_of
calls_lead_from_first_call m k n c cs may l = (
  (c.0, may.0) ∷ l.0,
  ap (λ t. c.0 ∷ t) l.1,
  (may.1, subst (λ (x : Machine). AreAllocations x l.0) (sym (ap (λ (x : Machine × Reply). x.0) may.2)) l.2),
  ap (λ t. c.1 ∷ t) l.3 ∙ (λ i. (sym may.2 i).1 ∷ replies_of (sym may.2 i).0 l.0),
  l.4 ∙ (λ i. machine_after (sym may.2 i).0 l.0),
)

-- the machine between
pub calls_split_at_middle_machine : (m n : Machine) (cs ds : List Call) → Leads m (cs ++ ds) n → (k : Machine) × Leads m cs k × Leads k ds n
calls_split_at_middle_machine m n [] ds l = (m, driven_none m, l)
calls_split_at_middle_machine m n (c ∷ cs) ds l =
    let h = first_call_leads_to_middle m n c (cs ++ ds) l in
    let t = calls_split_at_middle_machine h.0 n cs ds h.2 in
    (t.0, calls_lead_from_first_call m h.0 t.0 c cs h.1 t.1, t.2)

-- some machine replied so to the last call
pub last_call_was_replied : (m n : Machine) (cs : List Call) (c : Call) → Leads m (cs ++ c ∷ []) n → (k : Machine) × (l : Machine) × MayReply k c.0 l c.1
last_call_was_replied m n cs c l =
    let s = calls_split_at_middle_machine m n cs (c ∷ []) l in
    let h = first_call_leads_to_middle s.0 n c [] s.2 in
    (s.0, h.0, h.1)
