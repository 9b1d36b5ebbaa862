-- What a source over the lock gives.
use Rattle.std.specs.Prelude.{◌≡◌, ℕ, ◌+◌, ◌-◌, ◌⊎◌, false, Option, None, ⊤}
use Rattle.heap_class.specs.declared.LostCause.{LostCause}
use Rattle.heap_class.specs.declared.LostCause.TheVariants.{Memory, Closed}
use Rattle.heap_class.specs.declared.Refusal.{Refusal}
use Rattle.heap_class.specs.declared.Refusal.TheVariants as No
use Rattle.heap_world.specs.Limits.{HeapSettings}
use Rattle.heap_trail.specs.declared.Action.TheVariants.{NextPiece}
use Rattle.heap_trail.specs.declared.Reply.TheVariants as Said
use Rattle.heap_trail.specs.Laws.{IsPieceOfLegal}
use Rattle.hprof_text.specs.declared.Piece.{Piece}
use Rattle.dump_pump.specs.declared.source.SourceEnd.{SourceEnd}
use Rattle.dump_pump.specs.declared.source.Next.{Next}
use Rattle.dump_pump.specs.declared.source.Next.TheVariants.{Part, Lost, Cancelled}
use Rattle.dump_pump.specs.Sources.{Supply}
use Rattle.hprof_text.specs.Laws.{piece_limit}
use Rattle.heap_lock.specs.Dumpers.{DumperState, Makes}

-- after `count` pieces, of which none is told
abbrev pub locked_supply : ℕ → Option SourceEnd → Supply
locked_supply count ended = record { told = None; ended = ended; left = piece_limit - count }

-- the refusals that a piece may get
abbrev pub IsPieceRefusal : Refusal → Type 0
IsPieceRefusal No.NoMemory = ⊤
IsPieceRefusal No.NoPin = ⊤
IsPieceRefusal (No.Lost cause) = ⊤
IsPieceRefusal e = ⊥

-- the cause that each of them is
abbrev pub IsLoss : Refusal → LostCause → Type 0
IsLoss No.NoMemory cause = cause ≡ Memory
IsLoss No.NoPin cause = cause ≡ Closed
IsLoss (No.Lost why) cause = cause ≡ why
IsLoss e cause = ⊥

-- a piece got after `count` others is given, or is one too many
abbrev pub GivesPart : ℕ → Piece → Next → Type 0
GivesPart count p (Part q) = q ≡ p
GivesPart count p (Lost cause) = (p.last ≡ false) × (count + 1 ≡ piece_limit) × (cause ≡ Closed)
GivesPart count p Cancelled = ⊥

-- the heap replied to a dumper's request for the pin's next piece: a piece of the dump of a legal state, or a refusal with this
-- cause
abbrev pub Supplies : HeapSettings → ℕ → ℕ → ℕ → DumperState → DumperState → Next → Type 0
Supplies config pin time count d d' next =
    ((p : Piece) × Makes config d (NextPiece pin time) (Said.Part p) d'
    × IsPieceOfLegal config.ids time p × GivesPart count p next)
    ⊎ ((e : Refusal) × (cause : LostCause)
    × Makes config d (NextPiece pin time) (Said.Refused e) d' × IsLoss e cause
    × (next ≡ Lost cause))

-- how many pieces were given after this one more, if it is one
abbrev pub count_after : ℕ → Next → ℕ
count_after count (Part p) = count + 1
count_after count (Lost cause) = count
count_after count Cancelled = count
