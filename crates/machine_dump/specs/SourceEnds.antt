-- How a source of a machine's pin ended, and how many parts it has left.
use Rattle.std.specs.Prelude.{◌≡◌, ℕ, ◌+◌, ◌-◌, ◌<◌, ◌≤◌, Bool, true, false, length, Option, Some, None, if◌then◌else◌}
use Rattle.heap_class.specs.declared.LostCause.{LostCause}
use Rattle.heap_class.specs.declared.LostCause.TheVariants.{Rewound, Memory, Closed}
use Rattle.heap_class.specs.declared.Refusal.{Refusal}
use Rattle.heap_class.specs.declared.Refusal.TheVariants as Refused
use Rattle.dump_pump.specs.declared.source.SourceEnd.{SourceEnd}
use Rattle.dump_pump.specs.declared.source.SourceEnd.TheVariants.{Whole, Lost, Cancelled}
use Rattle.dump_pump.specs.declared.source.Next.{Next}
use Rattle.dump_pump.specs.declared.source.Next.TheVariants as Gave
use Rattle.hprof_text.specs.Laws.{piece_limit, piece_size_limit}
use Rattle.heap_trail.specs.Pins.{PinState, Kept, Gone, pin_at}
use Rattle.heap_trail.specs.Machine.{Machine}
use Rattle.machine_dump.specs.HandedPieces.{GivesPiece}

-- whether the source gave its last part
abbrev pub is_whole_end : Option SourceEnd → Bool
is_whole_end None = false
is_whole_end (Some Whole) = true
is_whole_end (Some (Lost cause)) = false
is_whole_end (Some Cancelled) = false

-- the largest number of parts left, after `count`
abbrev pub pieces_left : Option SourceEnd → ℕ → ℕ
pieces_left ended count = if is_whole_end ended then 0 else piece_limit - count

-- the cause by which a dump is lost whose piece meets this refusal
abbrev pub cause_of : Refusal → LostCause
cause_of Refused.NoMemory = Memory
cause_of (Refused.Lost cause) = cause
cause_of e = Closed

-- whether the dump of a pin may be lost by this cause: the pin is lost by it, or it isn't open; else for lack of memory
abbrev pub may_lose : Option PinState → LostCause → Bool
may_lose None Closed = true
may_lose None Rewound = false
may_lose None Memory = false
may_lose (Some (Gone place Rewound)) Rewound = true
may_lose (Some (Gone place Memory)) Memory = true
may_lose (Some (Gone place Closed)) Closed = true
may_lose (Some (Gone place cause)) said = false
may_lose (Some (Kept place image given)) Memory = true
may_lose (Some (Kept place image given)) Rewound = false
may_lose (Some (Kept place image given)) Closed = false

-- whether a source of a pin may have ended so
abbrev pub may_end : Option PinState → Option SourceEnd → Bool
may_end s None = true
may_end s (Some Whole) = true
may_end s (Some (Lost cause)) = may_lose s cause
may_end s (Some Cancelled) = false

-- the next part of a source of a machine's pin, or why there is none; the numbers are of the parts handed out
abbrev pub HandsOut : ℕ → ℕ → Machine → Machine → ℕ → ℕ → Option SourceEnd → Option SourceEnd → Next
    → Type 0
HandsOut pin time m m' n n' ended ended' (Gave.Part p) =
    GivesPiece pin time m m' p × (length p.bytes ≤ piece_size_limit) × (n' ≡ n + 1)
    × (ended' ≡ (if p.last then Some Whole else ended))
    × (p.last ≡ false → n' < piece_limit)
HandsOut pin time m m' n n' ended ended' (Gave.Lost cause) =
    (m' ≡ m) × (n' ≡ n) × (ended' ≡ Some (Lost cause)) × (may_lose (pin_at pin m.pins) cause ≡ true)
HandsOut pin time m m' n n' ended ended' Gave.Cancelled = ⊥
