-- The supply of a source of a pin that had given no piece, and what no call changes.
use Rattle.std.specs.Prelude.{◌≡◌, ℕ, Option, Some, None}
use Rattle.dump_pump.specs.declared.source.SourceEnd.{SourceEnd}
use Rattle.dump_pump.specs.Sources.{Supply}
use Rattle.heap_trail.specs.Pins.{pin_at}
use Rattle.heap_trail.specs.Machine.{Machine}
use Rattle.machine_dump.specs.HandedPieces.{given_of, pieces_at, ungiven}
use Rattle.machine_dump.specs.SourceEnds.{pieces_left}
use Rattle.machine_dump.specs.PinSupplies.{PinOrigin}

-- `count` parts of m's pin were handed out, from the first
abbrev pub fresh_supply : ℕ → ℕ → Machine → ℕ → Option SourceEnd → Supply
fresh_supply pin time m count ended =
    record {
      told = Some (pieces_at m.ids time 0 count (pin_at pin m.pins));
      ended = ended;
      left = pieces_left ended count;
    }

-- the pin gave no piece, and its source handed out none and hasn't ended
abbrev pub IsFresh : ℕ → Machine → ℕ → Option SourceEnd → Type 0
IsFresh pin m count ended = (given_of (pin_at pin m.pins) ≡ 0) × (count ≡ 0) × (ended ≡ None)

-- what no call of such a source changes
abbrev pub fresh_pinned : ℕ → ℕ → ℕ → Machine → PinOrigin
fresh_pinned name pin time m =
    record { name = name; machine = ungiven pin m; pin = pin; time = time; first = 0 }
