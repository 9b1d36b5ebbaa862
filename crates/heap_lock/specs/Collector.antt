-- What a worker sees of the collector.
use Rattle.std.specs.Prelude.{ℕ, List, Option, slice_get}
use mathlib.Core.List.{IsPrefix}
use Rattle.heap_mark.specs.MarkSteps.{pending_regions}
use Rattle.heap_world.specs.Limits.{HeapSettings}
use Rattle.heap_world.specs.State.{HeapState}
use Rattle.heap_history.specs.History.{opening}
use Rattle.heap_lock.specs.Calls.{Call, IsLegalLedger}
use Rattle.heap_lock.specs.Laws.{trail_by}

-- the state that calls on a heap leave
abbrev pub state_of_calls : HeapSettings → List Call → HeapState
state_of_calls config calls = (trail_by config.keep (opening config) calls).current

-- the lowest region that waits to be swept, if one does
abbrev pub pending_in : HeapState → Option ℕ
pending_in w = slice_get (pending_regions w.regions) 0

-- more calls of the heap were seen, maybe none, and the state that they leave is so
abbrev pub SeesState : HeapSettings → List Call → (HeapState → Type 0) → List Call → Type 0
SeesState config before is after =
    IsPrefix before after × IsLegalLedger config after × is (state_of_calls config after)
