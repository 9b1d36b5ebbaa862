-- The effect of a stream.
use Rattle.std.specs.Prelude.{◌≡◌, ℕ, ◌<◌, [], Option, Some, None}
use Rattle.dump_pump.specs.declared.source.SourceEnd.{SourceEnd}
use Rattle.dump_pump.specs.declared.transfer.Pumped.{Pumped}
use Rattle.dump_pump.specs.Outlets.{Outgoing}
use Rattle.dump_pump.specs.Pumps.{IsPumped, bytes_of}
use Rattle.dump_pump.specs.Sources.{Supply}
use Rattle.dump_pipe.specs.Seats.{SeatState, HasDumpRoom}
use Rattle.dump_pipe.specs.declared.end_side.EndSide.{EndSide}
use Rattle.dump_pipe.specs.declared.end_side.EndSide.TheVariants.{Sends, Gets}
use Rattle.dump_pipe.specs.Feeds.{IsFed}
use Rattle.dump_pipe.specs.Drains.{IsDrained}

-- the effect is that of a pump
abbrev pub IsStreamed : Supply → Supply → Outgoing → Outgoing → Pumped → Type 0
IsStreamed a b w w' r = IsPumped a b w w' r

-- the source has parts left, and nothing was sent
abbrev pub CanFeed : Supply → EndSide → Type 0
CanFeed a v = (0 < a.left) × (v ≡ Sends [])

-- nothing was received, and the sum has room for the bytes of a dump
abbrev pub CanDrain : EndSide → SeatState ℕ → Type 0
CanDrain v counted = (v ≡ Gets []) × HasDumpRoom counted

-- the source was fed, or nothing was asked of it and sent
abbrev pub MayFeed : Supply → Supply → EndSide → Option SourceEnd → Type 0
MayFeed a b v (Some e) = IsFed a b v e
MayFeed a b v None = (v ≡ Sends []) × (b ≡ a)

-- the pipe was drained, or nothing was received and put out
abbrev pub MayDrain : EndSide → Outgoing → Outgoing → Option Pumped → Type 0
MayDrain v w w' (Some r) = IsDrained [] v w w' r
MayDrain v w w' None = (v ≡ Gets []) × (w' ≡ w)

-- the source was fed and the pipe was drained, or neither end did anything
abbrev pub MayStream : Supply → Supply → EndSide → EndSide → Outgoing → Outgoing → Option Pumped
    → Type 0
MayStream a b v1 v2 w w' (Some r) =
    ((e : SourceEnd) × IsFed a b v1 e) × IsDrained [] v2 w w' r
MayStream a b v1 v2 w w' None = (b ≡ a) × (w' ≡ w)

-- the bytes that a drain put out, if there was one
abbrev pub drained_bytes : Option Pumped → ℕ
drained_bytes (Some r) = bytes_of r
drained_bytes None = 0
