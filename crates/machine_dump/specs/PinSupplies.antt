-- The supply of a source of a machine's pin, and what no call changes.
use Rattle.std.specs.Prelude.{◌≡◌, ℕ, ◌+◌, true, false, Option, Some}
use Rattle.dump_pump.specs.declared.source.SourceEnd.{SourceEnd}
use Rattle.dump_pump.specs.Sources.{Supply}
use Rattle.heap_trail.specs.Pins.{pin_at}
use Rattle.heap_trail.specs.Machine.{Machine}
use Rattle.machine_dump.specs.HandedPieces.{given_of, pieces_at, ungiven}
use Rattle.machine_dump.specs.SourceEnds.{is_whole_end, pieces_left, may_end}

-- the first piece of a source that was made at this machine
abbrev pub first_at : ℕ → Machine → ℕ
first_at pin start = given_of (pin_at pin start.pins)

-- `count` parts of m's pin were handed out, from the first of a source that was made at the machine `start`
abbrev pub pin_supply : ℕ → ℕ → Machine → Machine → ℕ → Option SourceEnd → Supply
pin_supply pin time start m count ended = record {
  told = Some (pieces_at m.ids time (first_at pin start) count (pin_at pin m.pins));
  ended = ended;
  left = pieces_left ended count;
}

-- what no call changes: the name of what the source borrows, the machine but for the number of pieces that the pin gave, the
-- pin, the time and the first piece
pub record PinOrigin : Type 0 where
  pub name : ℕ
  pub machine : Machine
  pub pin : ℕ
  pub time : ℕ
  pub first : ℕ

-- what no call of such a source changes
abbrev pub pin_origin : ℕ → ℕ → ℕ → Machine → Machine → PinOrigin
pin_origin name pin time start m =
    record {
      name = name;
      machine = ungiven pin m;
      pin = pin;
      time = time;
      first = first_at pin start;
    }

-- until the last part, the pin gave as many pieces as the source handed out
abbrev pub IsCounted : ℕ → Machine → Machine → ℕ → Option SourceEnd → Type 0
IsCounted pin start m count ended =
    is_whole_end ended ≡ false → given_of (pin_at pin m.pins) ≡ first_at pin start + count

-- a source of m's pin may have ended so
abbrev pub IsCaused : ℕ → Machine → Option SourceEnd → Type 0
IsCaused pin m ended = may_end (pin_at pin m.pins) ended ≡ true
