-- What a session reads in the line of an event.
use Rattle.std.specs.Prelude.{◌≡◌, ℕ, ◌<◌, ◌^◌, Bool, true, ◌&&◌, ◌==◌, not, nat_le, List, length, Option, Some, None}
use Rattle.std.specs.List.{list_all, AllByRecursion}
use Rattle.heap_class.specs.declared.Field.{Field}
use Rattle.heap_step.specs.declared.Event.{Event}
use Rattle.heap_step.specs.declared.Event.TheVariants.{Class, ArrayClass, New, NewArray, NewPrim, Load, Store, Put, Move, Clear, Snap, Mark, Drain, Finish, Sweep}
use Rattle.heap_trail.specs.declared.Action.TheVariants.{Step}
use Rattle.session_grammar.specs.declared.command.Command.TheVariants.{Ask}
use Rattle.session_grammar.specs.Grammar.{command_of, is_plain}
use Rattle.session_lines.specs.EventLines.{event_text}

-- a byte that prints a sign: none of the space and those that print nothing
abbrev pub is_sign : ℕ → Bool
is_sign b = nat_le 0x21 b && nat_le b 0x7e

-- a word: one or more such bytes
abbrev pub IsWord : List ℕ → Type 0
IsWord w = (0 < length w) × (list_all is_sign w ≡ true)

-- a field whose name is a word without a colon
abbrev pub IsFieldWord : Field → Type 0
IsFieldWord f = IsWord f.name × (list_all (λ b. not (b == 58)) f.name ≡ true)

-- a number of 64 bits
abbrev pub IsLong : ℕ → Type 0
IsLong n = n < 2 ^ 64

-- a number of 64 bits, or none
abbrev pub IsLongOrNone : Option ℕ → Type 0
IsLongOrNone (Some n) = IsLong n
IsLongOrNone None = Unit {0}

-- an event's numbers have 64 bits, and its names are words
abbrev pub HasLine : Event → Type 0
HasLine (Class name sup fields) = IsWord name × IsLongOrNone sup × AllByRecursion IsFieldWord fields
HasLine (ArrayClass name) = IsWord name
HasLine (New m r class) = IsLong m × IsLong r × IsLong class
HasLine (NewArray m r class len) = IsLong m × IsLong r × IsLong class × IsLong len
HasLine (NewPrim m r kind len) = IsLong m × IsLong r × IsLong len
HasLine (Load m to from slot) = IsLong m × IsLong to × IsLong from × IsLong slot
HasLine (Store m target slot source) = IsLong m × IsLong target × IsLong slot × IsLong source
HasLine (Put m target slot value) = IsLong m × IsLong target × IsLong slot × IsLong value
HasLine (Move m to from_m from) = IsLong m × IsLong to × IsLong from_m × IsLong from
HasLine (Clear m r) = IsLong m × IsLong r
HasLine Snap = Unit {0}
HasLine Mark = Unit {0}
HasLine Drain = Unit {0}
HasLine Finish = Unit {0}
HasLine (Sweep region) = IsLong region

-- the line of an event has only bytes that a line may have, and asks for that event
pub record IsLineOf (e : Event) : Type 0 where
  pub plain : is_plain (event_text e) ≡ true
  pub read : command_of (event_text e) ≡ Ask (Step e)

-- so it is with each event that has a line
abbrev pub AreLinesRead : Type 0
AreLinesRead = (e : Event) → HasLine e → IsLineOf e
