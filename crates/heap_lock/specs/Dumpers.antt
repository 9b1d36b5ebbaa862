-- Those who dump a heap, and the calls that they make.
use Rattle.std.specs.Prelude.{◌≡◌, ◌≢◌, ◌⊎◌, ℕ, List, [], ◌∷◌, ◌++◌, Result, IfOk, IfErr}
use Rattle.heap_class.specs.declared.Refusal.{Refusal}
use Rattle.heap_world.specs.Limits.{HeapSettings}
use Rattle.heap_trail.specs.declared.Action.{Action}
use Rattle.heap_trail.specs.declared.Action.TheVariants.{NextPiece}
use Rattle.heap_trail.specs.declared.Reply.{Reply}
use Rattle.heap_trail.specs.declared.Reply.TheVariants.{Refused}
use Rattle.heap_lock.specs.Calls.{Call, Witnesses}

-- a dumper: the calls on the heap that it has seen, whoever made them, and its own ones
pub record DumperState : Type 0 where
  pub seen : List Call
  pub own : List Call

-- it has made this call more, which is the last that it has seen; others may have made calls before
abbrev pub Makes : HeapSettings → DumperState → Action → Reply → DumperState → Type 0
Makes config d action reply d' =
    Witnesses config d.seen action reply d'.seen × (d'.own ≡ d.own ++ (action, reply) ∷ [])

-- it has made a call with this result
pub record IsOwnCall {A : Type 0} (config : HeapSettings) (d : DumperState) (action : Action)
    (reply : A → Reply) (result : Result A Refusal) (d' : DumperState) : Type 0 where
  pub done : IfOk result (λ a. Makes config d action (reply a) d')
  pub refused : IfErr result (λ e. Makes config d action (Refused e) d')

-- the calls are requests for the pin's next piece, with this time
abbrev pub AllAsk : ℕ → ℕ → List Call → Type 0
AllAsk pin time [] = Unit {0}
AllAsk pin time (c ∷ cs) = (c.0 ≡ NextPiece pin time) × AllAsk pin time cs

-- a request for another pin's piece, or another call
abbrev pub AsksElsewhere : ℕ → Call → Type 0
AsksElsewhere pin c = (time : ℕ) → c.0 ≢ NextPiece pin time

-- of all these calls the first list has a dumper's own, and none of the others asks for a piece of the pin
abbrev pub OthersKeepOff : ℕ → List Call → List Call → Type 0
OthersKeepOff pin own [] = own ≡ []
OthersKeepOff pin own (c ∷ cs) =
    ((rest : List Call) × (own ≡ c ∷ rest) × OthersKeepOff pin rest cs)
    ⊎ (AsksElsewhere pin c × OthersKeepOff pin own cs)
