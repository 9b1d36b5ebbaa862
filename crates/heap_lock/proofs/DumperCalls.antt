-- A dumper's call moves the machine and leaves what else lies under the lock.
use Rattle.std.proofs.Common.{◌≡◌, List, [], ◌∷◌, ◌++◌, true, false, Result, Ok, Err, IfOk, IfErr, OnErr, refl, sym, ap, ◌∙◌, subst, inl, inr}
use Rattle.atomic_table.specs.Seated.{TableId}
use Rattle.heap_class.specs.declared.Refusal.{Refusal}
use Rattle.heap_world.specs.Limits.{HeapSettings}
use Rattle.heap_trail.specs.declared.Action.{Action}
use Rattle.heap_trail.specs.declared.Reply.{Reply}
use Rattle.heap_trail.specs.declared.Reply.TheVariants.{Refused}
use Rattle.heap_trail.specs.Machine.{MayFail, MayReply, Machine, Granted, Denied, acted, acted_under, is_dump_action}
use Rattle.heap_lock.specs.HomeTables.{SeatTable, Ledger, table_of}
use Rattle.heap_history.specs.declared.entry.Entry.{Entry}
use Rattle.atomic_table.specs.declared.badge.Badge.{Badge}
use Rattle.heap_lock.specs.declared.ledger_side.LedgerSide.{LedgerSide}
use Rattle.heap_lock.specs.declared.ledger_side.LedgerSide.TheVariants.{Full, Seen}
use Rattle.heap_lock.specs.Calls.{Call, call_of, IsHeapLedger, IsLedger, IsLegalLedger}
use Rattle.heap_history.specs.History.{reply_of}
use Rattle.heap_lock.specs.LedgerSides.{calls_of}
use Rattle.heap_lock.specs.Ledgers.{all_in, calls_in, HasCalls, HasLedger, AreSeenCalls, CallsAs}
use Rattle.heap_history.specs.Chronicles.{ChronicleState}
use Rattle.heap_lock.specs.LockStates.{LockState, IsDumperAct, IsUnderLock, lock_state}
use Rattle.heap_lock.proofs.CallLists.{act_with_entry_in_ledger, dump_call_in_ledger}

plain_action_may_reply : (m m' : Machine) (a : Action) (r : Reply) → acted m a ≡ (m', r) → MayReply m a m' r
unfolding acted_under
plain_action_may_reply m m' a r is = (Granted, tt, is)

refused_action_may_reply : (m m' : Machine) (a : Action) (e : Refusal) → MayFail m a m' e → m' ≡ m → MayReply m a m' (Refused e)
unfolding acted_under
refused_action_may_reply m m' a e (inl is) same = plain_action_may_reply m m' a (Refused e) is
refused_action_may_reply m m' a e (inr t) same = (Denied, t.0, λ i. (sym same i, Refused (sym t.1 i)))

all_calls_of_ledger : (l l' : Ledger) (calls : List Call) → CallsAs l l' calls → all_in l' ≡ calls
all_calls_of_ledger l l' calls as' = ap (λ m. calls_of m.0) as'.1.1

-- a ledger that has these calls now
pub ledger_holds_these_calls : (config : HeapSettings) (table : TableId) (m : Machine) (es : List Entry) (l l' : Ledger) (calls : List Call) → HasCalls table (all_in l) l → IsLedger config m es calls → CallsAs l l' calls → HasLedger config table m es l'
ledger_holds_these_calls config table m es l l' calls has is as' =
    let all = all_calls_of_ledger l l' calls as' in
    ((has.0, as'.0 ∙ has.1, (as'.1.0 ∙ has.2.0, as'.1.1 ∙ ap (λ cs. (Full cs, [])) (sym all))), subst (IsLedger config m es) (sym all) is)

-- a ledger that gained the call of an act has all calls
pub ledger_holds_call_of_act : (config : HeapSettings) (table : TableId) (m m' : Machine) (es : List Entry) (l l' : Ledger) (e : Entry) → HasLedger config table m es l → is_dump_action e.action ≡ false → MayReply m e.action m' (reply_of e.answer)
    → CallsAs l l' (all_in l ++ call_of e ∷ []) → HasLedger config table m' (es ++ e ∷ []) l'
ledger_holds_call_of_act config table m m' es l l' e has deed may as' = ledger_holds_these_calls config table m' (es ++ e ∷ []) l l' (all_in l ++ call_of e ∷ []) has.0 (act_with_entry_in_ledger config m m' es (all_in l) e has.1 deed may) as'

-- the ledger's own table is the one it is to have
pub ledger_has_own_table : (table : TableId) (calls : List Call) (l : Ledger) → HasCalls table calls l → HasCalls (table_of l) calls l
ledger_has_own_table table calls l h = subst (λ t. HasCalls t calls l) (sym h.1) h

-- the reply that a call's result is
abbrev pub replied : {A : Type 0} → (A → Reply) → Result A Refusal → Reply
replied reply (Ok p) = reply p
replied reply (Err e) = Refused e

-- whatever a call's result is, the machine may reply it
pub result_may_be_replied : {A : Type 0} (m m' : Machine) (a : Action) (reply : A → Reply) (r : Result A Refusal)
    → IfOk r (λ p. acted m a ≡ (m', reply p)) → IfErr r (λ e. MayFail m a m' e) → OnErr r (m' ≡ m) → MayReply m a m' (replied reply r)
result_may_be_replied m m' a reply (Ok p) done refused same = plain_action_may_reply m m' a (reply p) done
result_may_be_replied m m' a reply (Err e) done refused same = refused_action_may_reply m m' a e refused same

-- a ledger that gained the call has all calls
pub ledger_holds_dump_call : (config : HeapSettings) (table : TableId) (m m' : Machine) (es : List Entry) (l l' : Ledger) (c : Call) → HasLedger config table m es l → is_dump_action c.0 ≡ true → MayReply m c.0 m' c.1
    → CallsAs l l' (all_in l ++ c ∷ []) → HasLedger config table m' es l'
ledger_holds_dump_call config table m m' es l l' c has dump may as' =
    let more : IsLedger config m' es (all_in l ++ c ∷ []) = dump_call_in_ledger config m m' es (all_in l) c has.1 dump may in
    ledger_holds_these_calls config table m' es l l' (all_in l ++ c ∷ []) has.0 more as'

pub dumper_act_done_under_lock : {A : Type 0} (k : LockState) (m m' : Machine) (ch : ChronicleState) (l l' : Ledger) (a : Action) (reply : A → Reply) (r : Result A Refusal)
    → lock_state m ch (all_in l) ≡ k → MayReply m a m' (replied reply r) → CallsAs l l' (all_in l ++ (a, replied reply r) ∷ [])
    → IfOk r (λ p. IsDumperAct a k (reply p) (lock_state m' ch (all_in l'))) × IfErr r (λ e. IsDumperAct a k (Refused e) (lock_state m' ch (all_in l')))
dumper_act_done_under_lock k m m' ch l l' a reply (Ok p) was may as' =
    (subst (λ (h : LockState). IsDumperAct a h (reply p) (lock_state m' ch (all_in l'))) was (may, refl, all_calls_of_ledger l l' _ as', refl), tt)
dumper_act_done_under_lock k m m' ch l l' a reply (Err e) was may as' =
    (tt, subst (λ (h : LockState). IsDumperAct a h (Refused e) (lock_state m' ch (all_in l'))) was (may, refl, all_calls_of_ledger l l' _ as', refl))

-- a call that takes no memory
pub memoryless_error_may_fail : {A : Type 0} (m m' : Machine) (a : Action) (r : Result A Refusal) → IfErr r (λ e. acted m a ≡ (m', Refused e)) → IfErr r (λ e. MayFail m a m' e)
memoryless_error_may_fail m m' a (Ok p) refused = tt
memoryless_error_may_fail m m' a (Err e) refused = inl refused

-- all calls of a heap under its lock are a legal ledger
pub ledger_under_lock_is_legal : (config : HeapSettings) (tables : List TableId) (table : TableId) (m : Machine) (es : List Entry) (seat_tables : List SeatTable) (l : Ledger) → IsUnderLock config tables m es seat_tables → HasLedger config table m es l → IsLegalLedger config (all_in l)
ledger_under_lock_is_legal config tables table m es seat_tables l k has = (m, es, has.1, k.legal)

-- one who has seen all calls of the ledger has seen a legal ledger
pub seen_ledger_is_legal : (config : HeapSettings) (tables : List TableId) (table : TableId) (m : Machine) (es : List Entry) (seat_tables : List SeatTable) (l : Ledger) (b : Badge LedgerSide) → IsUnderLock config tables m es seat_tables → HasLedger config table m es l → AreSeenCalls (table_of l) (all_in l) b
    → AreSeenCalls table (calls_in b.views) b × IsLegalLedger config (calls_in b.views)
seen_ledger_is_legal config tables table m es seat_tables l b k has s =
    let here : calls_in b.views ≡ all_in l = ap calls_in s.1 in
    ((s.0 ∙ has.0.1, s.1 ∙ ap (λ (cs : List Call). Seen cs ∷ []) (sym here)), subst (IsLegalLedger config) (sym here) (ledger_under_lock_is_legal config tables table m es seat_tables l k has))

-- they are those of its machine and its chronicle
pub ledger_under_lock_is_heaps : (config : HeapSettings) (tables : List TableId) (table : TableId) (m : Machine) (es : List Entry) (seat_tables : List SeatTable) (l : Ledger) → IsUnderLock config tables m es seat_tables → HasLedger config table m es l → IsHeapLedger config m es (all_in l)
ledger_under_lock_is_heaps config tables table m es seat_tables l k has = (has.1, k.legal)
