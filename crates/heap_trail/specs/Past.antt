-- A pin on a past state.
use Rattle.std.specs.Prelude.{ℕ, List, ◌∷◌, slice_index_or}
use Rattle.heap_world.specs.State.{HeapState}
use Rattle.heap_step.specs.declared.Undo.{Undo}
use Rattle.heap_pins.specs.Pin.{PinContents}
use Rattle.heap_pins.specs.Shows.{Holds}
use Rattle.heap_trail.specs.Records.{past_of}

-- the state of n steps ago, as the records tell it
abbrev pub past_state : HeapState → List Undo → ℕ → HeapState
past_state w records n = slice_index_or (w ∷ past_of w records) n w

-- the pin holds it
abbrev pub HoldsPast : PinContents → HeapState → List Undo → ℕ → Type 0
HoldsPast pin w records n = Holds pin (past_state w records n) n (w ∷ past_of w records)
