-- Calls: what was asked of a heap, each with what it replied, dumps too.
use Rattle.std.specs.Prelude.{◌≡◌, not, List, [], ◌∷◌, ◌++◌, map, filter, Result, IfOk, IfErr}
use Rattle.heap_class.specs.declared.Refusal.{Refusal}
use Rattle.heap_world.specs.Limits.{HeapSettings}
use Rattle.heap_trail.specs.declared.Action.{Action}
use Rattle.heap_trail.specs.declared.Action.TheVariants.{Rewind}
use Rattle.heap_trail.specs.declared.Reply.{Reply}
use Rattle.heap_trail.specs.declared.Reply.TheVariants.{Place, Refused}
use Rattle.heap_trail.specs.Machine.{Machine, MayDrive, opening_machine, is_dump_action}
use Rattle.heap_history.specs.declared.entry.Entry.{Entry}
use Rattle.heap_history.specs.History.{reply_of, opening, IsLegalHistory}

-- an action and its reply
abbrev pub Call : Type 0
Call = Action × Reply

-- a call that stands for none
abbrev pub no_call : Call
no_call = (Rewind 0, Place 0)

-- an entry as a call
abbrev pub call_of : Entry → Call
call_of e = (e.action, reply_of e.answer)

-- the events and rewinds among the calls
unfoldable pub acts_in : List Call → List Call
acts_in calls = filter (λ c. not (is_dump_action c.0)) calls

-- a machine of these settings may reply so to these actions, one after another, and then be this one
abbrev pub LeadsTo : HeapSettings → List Call → Machine → Type 0
LeadsTo config calls m =
    MayDrive (opening_machine config.limits config.ids config.regions config.mutators config.keep)
    (map (λ c. c.0) calls) (map (λ c. c.1) calls) m

-- these are all calls of a heap with this machine and this chronicle
pub record IsLedger (config : HeapSettings) (m : Machine) (chronicle : List Entry)
    (calls : List Call) : Type 0 where
  pub leads : LeadsTo config calls m
  pub acts : acts_in calls ≡ map call_of chronicle

-- so they are, and the chronicle is a legal history
abbrev pub IsHeapLedger : HeapSettings → Machine → List Entry → List Call → Type 0
IsHeapLedger config m chronicle calls =
    IsLedger config m chronicle calls × IsLegalHistory config.keep (opening config) chronicle

-- these may be all calls of a heap
abbrev pub IsLegalLedger : HeapSettings → List Call → Type 0
IsLegalLedger config calls =
    (m : Machine) × (chronicle : List Entry) × IsLedger config m chronicle calls
    × IsLegalHistory config.keep (opening config) chronicle

-- from `before` on, others made the calls between, and then this one was made; all of them may be all calls of a heap
abbrev pub Witnesses : HeapSettings → List Call → Action → Reply → List Call → Type 0
Witnesses config before action reply after =
    (between : List Call) × (after ≡ (before ++ between) ++ (action, reply) ∷ [])
    × IsLegalLedger config after

-- a call with this result is the last of all calls, with the reply that its result is
pub record IsWitnessed {A : Type 0} (config : HeapSettings) (before : List Call) (action : Action)
    (reply : A → Reply) (result : Result A Refusal) (after : List Call) : Type 0 where
  pub done : IfOk result (λ a. Witnesses config before action (reply a) after)
  pub refused : IfErr result (λ e. Witnesses config before action (Refused e) after)
