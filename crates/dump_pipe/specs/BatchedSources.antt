-- Sources whose parts are batches.
use Rattle.std.specs.Prelude.{◌≡◌, ℕ, List, [], Option, Some, None, if◌then◌else◌}
use Rattle.hprof_text.specs.declared.Piece.{Piece}
use Rattle.dump_pump.specs.declared.source.SourceEnd.{SourceEnd}
use Rattle.dump_pump.specs.declared.source.SourceEnd.TheVariants as End
use Rattle.dump_pump.specs.declared.source.Next.{Next}
use Rattle.dump_pump.specs.declared.source.Next.TheVariants.{Part, Lost, Cancelled}
use Rattle.dump_pump.specs.Pumps.{joined, ends}
use Rattle.dump_pump.specs.Sources.{Supply, more}
use Rattle.dump_pipe.specs.declared.surplus.Surplus.{Surplus}
use Rattle.dump_pipe.specs.Batches.{IsAhead, parts_left}

-- a source, the batches given of it, how that ended, and the surplus
pub record BatchingState (S : Type 0) : Type 0 where
  pub source : S
  pub given : List Piece
  pub ended : Option SourceEnd
  pub surplus : Option Surplus

-- no batch was given
abbrev pub unbatched : {S : Type 0} → S → BatchingState S
unbatched source = record { source = source; given = []; ended = None; surplus = None }

-- the supply by batches of a source that has this number of parts left
abbrev pub batched_supply : List Piece → Option SourceEnd → Option Surplus → ℕ → Supply
batched_supply given ended surplus left =
    record { told = Some given; ended = ended; left = parts_left surplus left }

-- how a source ended whose last answer this is
abbrev pub ended_by_batch : Next → Option SourceEnd
ended_by_batch (Part batch) = if batch.last then Some End.Whole else None
ended_by_batch (Lost cause) = Some (End.Lost cause)
ended_by_batch Cancelled = Some End.Cancelled

-- the batches ended as their source did, and nothing is left over
abbrev pub EndsAsSource : Supply → Option Surplus → Option SourceEnd → Type 0
EndsAsSource s surplus None = Unit {0}
EndsAsSource s surplus (Some e) = (surplus ≡ None) × (s.ended ≡ Some e)

-- the batches that were given are the parts, joined, that the source told since it had told `start`, but for the surplus
pub record AreBatches (start : Option (List Piece)) (s : Supply) (given : List Piece)
    (ended : Option SourceEnd) (surplus : Option Surplus) : Type 0 where
  pub parts : List Piece
  pub same : joined parts ≡ joined given
  pub ends : ends parts ≡ ends given
  pub ahead : IsAhead (more start parts) s surplus
  pub whole : EndsAsSource s surplus ended
