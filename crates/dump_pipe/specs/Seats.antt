-- The models of a meter's seats in contracts.
use Rattle.std.specs.Prelude.{ℕ, ◌+◌, ◌<◌, ◌^◌, Bool, false}
use Rattle.atomic_table.specs.Seated.{TableId}
use Rattle.dump_pipe.specs.declared.meter_side.MeterSide.{MeterSide}
use Rattle.dump_pipe.specs.declared.meter_side.MeterSide.TheVariants.{Whole, Out, Read, Ask, Feed, Met}
use Rattle.dump_pipe.specs.Pipes.{byte_limit}

-- the largest number of seats that read
abbrev pub meter_seat_limit : ℕ
meter_seat_limit = 16

-- a seat: its meter, and what it knows
pub record SeatState (T : Type 0) : Type 0 where
  pub meter : TableId
  pub known : T

-- the seat of this meter that knows this
abbrev pub knows : {T : Type 0} → TableId → T → SeatState T
knows m x = record { meter = m; known = x }

-- the seat once it added this many bytes more
abbrev pub after_bytes : SeatState ℕ → ℕ → SeatState ℕ
after_bytes s n = knows s.meter (s.known + n)

-- its sum has room for the bytes of a dump
abbrev pub HasDumpRoom : SeatState ℕ → Type 0
HasDumpRoom s = s.known + byte_limit < 2 ^ 64

-- the number that a seat knows
abbrev pub count_of_seat : MeterSide → ℕ
count_of_seat Whole = 0
count_of_seat (Out n) = n
count_of_seat (Read n) = n
count_of_seat (Ask b) = 0
count_of_seat (Feed b) = 0
count_of_seat (Met found b) = 0

-- the mark that a seat knows
abbrev pub flag : MeterSide → Bool
flag Whole = false
flag (Out n) = false
flag (Read n) = false
flag (Ask b) = b
flag (Feed b) = b
flag (Met found b) = b
