-- What a source over the lock gave, and how it ended.
use Rattle.std.specs.Prelude.{◌≡◌, ℕ, ◌+◌, ◌-◌, ◌≤◌, ◌⊎◌, false, List, [], ◌∷◌, ◌++◌, length, Option, Some, None, if◌then◌else◌}
use mathlib.Core.List.{IsPrefix}
use Rattle.heap_lock.specs.IdSize.{IdSize}
use Rattle.heap_lock.specs.LostCause.{LostCause}
use Rattle.heap_lock.specs.LostCause.TheVariants.{Closed}
use Rattle.heap_lock.specs.Refusal.{Refusal}
use Rattle.heap_lock.specs.HeapLimits.{HeapSettings}
use Rattle.heap_lock.specs.Action.TheVariants.{NextPiece}
use Rattle.heap_lock.specs.Reply.{Reply}
use Rattle.heap_lock.specs.Reply.TheVariants as Said
use Rattle.heap_lock.specs.TrailLaws.{IsPieceOfLegal}
use Rattle.heap_lock.specs.Piece.{Piece}
use Rattle.dump_pump.specs.declared.source.SourceEnd.{SourceEnd}
use Rattle.dump_pump.specs.declared.source.SourceEnd.TheVariants as End
use Rattle.dump_pump.specs.declared.source.Next.{Next}
use Rattle.dump_pump.specs.declared.source.Next.TheVariants.{Part, Lost, Cancelled}
use Rattle.dump_pump.specs.Sources.{Supply}
use Rattle.dump_pump.specs.PieceLaws.{piece_limit}
use Rattle.heap_lock.specs.Calls.{Call}
use Rattle.heap_lock.specs.Dumpers.{AllAsk, DumperState}
use Rattle.heap_lock.specs.Laws.{pieces_given}
use Rattle.heap_lock.specs.Sources.{IsLoss}

-- a source: its pin, the time in the header, its dumper as it was at first and as it is now, the pieces that it gave, how many it
-- counts, and how it ended
pub record ToldSupply : Type 0 where
  pub pin : ℕ
  pub time : ℕ
  pub start : DumperState
  pub dumper : DumperState
  pub given : List Piece
  pub count : ℕ
  pub ended : Option SourceEnd

-- one that gave nothing
abbrev pub nothing_of : ℕ → ℕ → DumperState → ToldSupply
nothing_of pin time d =
    record {
      pin = pin;
      time = time;
      start = d;
      dumper = d;
      given = [];
      count = 0;
      ended = None;
    }

-- one that gave these pieces, while its dumper came to be this one
abbrev pub supply_of : ℕ → ℕ → DumperState → DumperState → List Piece → ℕ → Option SourceEnd
    → ToldSupply
supply_of pin time start d given count ended =
    record (nothing_of pin time start) { dumper = d; given = given; count = count; ended = ended }

-- what is seen of a source that tells its pieces
abbrev pub told_supply : List Piece → ℕ → Option SourceEnd → Supply
told_supply given count ended =
    record { told = Some given; ended = ended; left = piece_limit - count }

-- the first dumper in a ghost list
abbrev pub first_dumper : List (DumperState × Unit {0}) → DumperState
first_dumper [] = record { seen = []; own = [] }
first_dumper (e ∷ es) = e.0

-- how a source ended, with what it gives next
abbrev pub ended_with : Option SourceEnd → Next → Option SourceEnd
ended_with ended (Part p) = if p.last then Some End.Whole else ended
ended_with ended (Lost cause) = Some (End.Lost cause)
ended_with ended Cancelled = Some End.Cancelled

-- from `start` to `seen`, these pieces were given in turn to requests for the pin's next one, with others' calls between
abbrev pub AreGiven : ℕ → ℕ → List Call → List Piece → List Call → Type 0
AreGiven pin time start [] seen = IsPrefix start seen
AreGiven pin time start (p ∷ ps) seen =
    (between : List Call)
    × AreGiven pin time ((start ++ between) ++ (NextPiece pin time, Said.Part p) ∷ []) ps seen

-- each is a piece of the dump of a legal state
abbrev pub AllLegal : IdSize → ℕ → List Piece → Type 0
AllLegal ids time [] = Unit {0}
AllLegal ids time (p ∷ ps) = IsPieceOfLegal ids time p × AllLegal ids time ps

-- between `start` and `seen` this was replied to a request for the pin's next piece
abbrev pub WasReplied : ℕ → ℕ → List Call → List Call → Reply → Type 0
WasReplied pin time start seen r =
    (before : List Call) × IsPrefix start before
    × IsPrefix (before ++ (NextPiece pin time, r) ∷ []) seen

-- a request for the pin's next piece was refused, with this cause
abbrev pub WasRefused : ℕ → ℕ → List Call → List Call → LostCause → Type 0
WasRefused pin time start seen cause =
    (e : Refusal) × WasReplied pin time start seen (Said.Refused e) × IsLoss e cause

-- a piece that isn't the last was one too many
abbrev pub WasTooMany : ℕ → ℕ → List Call → List Piece → List Call → LostCause → Type 0
WasTooMany pin time start given seen cause =
    (p : Piece) × WasReplied pin time start seen (Said.Part p) × (p.last ≡ false)
    × (piece_limit ≤ length given + 1) × (cause ≡ Closed)

-- why a source is lost
abbrev pub IsLost : ℕ → ℕ → List Call → List Piece → List Call → LostCause → Type 0
IsLost pin time start given seen cause =
    WasRefused pin time start seen cause ⊎ WasTooMany pin time start given seen cause

-- a source may have ended so
abbrev pub MayEnd : ℕ → ℕ → List Call → List Piece → List Call → Option SourceEnd → Type 0
MayEnd pin time start given seen None = Unit {0}
MayEnd pin time start given seen (Some End.Whole) = Unit {0}
MayEnd pin time start given seen (Some (End.Lost cause)) = IsLost pin time start given seen cause
MayEnd pin time start given seen (Some End.Cancelled) = ⊥

-- a source that isn't lost
abbrev pub IsNotLost : Option SourceEnd → Type 0
IsNotLost None = Unit {0}
IsNotLost (Some End.Whole) = Unit {0}
IsNotLost (Some (End.Lost cause)) = ⊥
IsNotLost (Some End.Cancelled) = Unit {0}

-- a dumper got these pieces: those that were given, and one that was too many
abbrev pub IsTooMany : List Piece → List Piece → Type 0
IsTooMany given got = (p : Piece) × (got ≡ given ++ p ∷ []) × (piece_limit ≤ length given + 1)

-- the pieces that a dumper got are those that were given; of a source that is lost, the last one may have been too many
abbrev pub AreGot : List Piece → Option SourceEnd → List Piece → Type 0
AreGot given (Some (End.Lost cause)) got = (got ≡ given) ⊎ IsTooMany given got
AreGot given (Some End.Whole) got = got ≡ given
AreGot given (Some End.Cancelled) got = got ≡ given
AreGot given None got = got ≡ given

-- all calls of the dumper's own since are requests for the pin's next piece, by which it got the pieces that were given
abbrev pub HasAsked : ℕ → ℕ → List Call → List Piece → Option SourceEnd → List Call → Type 0
HasAsked pin time own given ended own' =
    (asked : List Call) × (own' ≡ own ++ asked) × AllAsk pin time asked
    × AreGot given ended (pieces_given pin asked)

-- what is known of a source's pieces and of how it ended
pub record IsSupplied (config : HeapSettings) (t : ToldSupply) : Type 0 where
  pub given : AreGiven t.pin t.time t.start.seen t.given t.dumper.seen
  pub legal : AllLegal config.ids t.time t.given
  pub counted : t.count ≡ length t.given
  pub ended : MayEnd t.pin t.time t.start.seen t.given t.dumper.seen t.ended
  pub asked : HasAsked t.pin t.time t.start.own t.given t.ended t.dumper.own
