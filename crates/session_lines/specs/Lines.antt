-- Lines, each of which is read as an event.
use Rattle.std.specs.Prelude.{◌≡◌, ℕ, List, flat_map}
use Rattle.std.specs.List.{AllByRecursion}
use Rattle.heap_step.specs.declared.Event.{Event}
use Rattle.session_lines.specs.EventLines.{line_of}
use Rattle.session_lines.specs.Laws.{HasLine}

-- the bytes are the lines of events that have one
pub record AreLines (text : List ℕ) : Type 0 where
  pub events : List Event
  pub spelled : text ≡ flat_map line_of events
  pub each : AllByRecursion HasLine events
