-- Batches of the parts of a source.
use Rattle.std.specs.Prelude.{◌≡◌, ℕ, ◌<◌, ◌≤◌, Bool, true, false, List, [], ◌∷◌, ◌++◌, length, Option, Some, None}
use Rattle.hprof_text.specs.declared.Piece.{Piece}
use Rattle.dump_pump.specs.declared.source.SourceEnd.TheVariants as End
use Rattle.dump_pump.specs.declared.source.Next.{Next}
use Rattle.dump_pump.specs.declared.source.Next.TheVariants.{Part, Lost, Cancelled}
use Rattle.dump_pump.specs.Pumps.{joined, ends}
use Rattle.dump_pump.specs.Sources.{Supply, IsNextPart, more}
use Rattle.hprof_text.specs.Laws.{piece_limit, piece_size_limit}
use Rattle.dump_pipe.specs.declared.surplus.Surplus.{Surplus}

-- the largest number of bytes of a batch that has several parts
abbrev pub batch_room : ℕ
batch_room = 65536

-- ---- the surplus: an answer of a source that is in no batch yet

-- the largest number of parts left
abbrev pub parts_left : Option Surplus → ℕ → ℕ
parts_left None left = left
parts_left (Some x) left = x.left

-- a source that told these parts and has this number left
abbrev pub supply_at : Option (List Piece) → ℕ → Supply
supply_at told left = record { told = told; ended = None; left = left }

-- the source told these parts, and then the surplus
abbrev pub IsAhead : Option (List Piece) → Supply → Option Surplus → Type 0
IsAhead told s None = s.told ≡ told
IsAhead told s (Some x) = IsNextPart (supply_at told x.left) s x.next × (x.left ≤ piece_limit)

-- there are parts left
abbrev pub IsReady : Supply → Option Surplus → Type 0
IsReady s surplus =
    (told : Option (List Piece)) × IsAhead told s surplus × (0 < parts_left surplus s.left)

-- the surplus was taken, or else the next answer of the source
abbrev pub IsDrawn : Supply → Supply → Option Surplus → Next → Type 0
IsDrawn a b surplus r =
    (told : Option (List Piece)) → IsAhead told a surplus
    → IsNextPart (supply_at told (parts_left surplus a.left)) b r

-- ---- a batch

-- the rest of a source after a batch
pub record IsLeft (told : Option (List Piece)) (most : ℕ) (b : Supply) (surplus : Option Surplus)
    (last : Bool) : Type 0 where
  pub ahead : IsAhead told b surplus
  pub less : parts_left surplus b.left ≤ most
  pub some : last ≡ false → 0 < parts_left surplus b.left
  pub whole : last ≡ true → (surplus ≡ None) × (b.ended ≡ Some End.Whole)

-- a part was appended to a batch, or nothing
abbrev pub IsAppended : List ℕ → List ℕ → Next → Option Bool → Type 0
IsAppended batch batch' next None = batch' ≡ batch
IsAppended batch batch' (Part p) (Some last) =
    (batch' ≡ batch ++ p.bytes) × (length batch' ≤ batch_room) × (last ≡ p.last)
IsAppended batch batch' (Lost cause) (Some last) = ⊥
IsAppended batch batch' Cancelled (Some last) = ⊥

-- parts of a source were appended to a batch
pub record IsFilled (a b : Supply) (batch batch' : List ℕ) (surplus : Option Surplus)
    (last : Bool) : Type 0 where
  pub parts : List Piece
  pub bytes : batch' ≡ batch ++ joined parts
  pub room : length batch' ≤ batch_room
  pub ends : ends parts ≡ last
  pub rest : IsLeft (more a.told parts) a.left b surplus last

-- a batch of a part and of others that the source gave after it
pub record IsBatch (a b : Supply) (first batch : Piece) (surplus : Option Surplus) : Type 0 where
  pub parts : List Piece
  pub bytes : batch.bytes ≡ joined (first ∷ parts)
  pub last : batch.last ≡ ends (first ∷ parts)
  pub small : length batch.bytes ≤ piece_size_limit
  pub rest : IsLeft (more a.told parts) a.left b surplus batch.last

-- the next batch fits its parts, or the reason why there is none fits the end of the source
abbrev pub SaysOfBatch : List Piece → ℕ → Supply → Option Surplus → Next → Type 0
SaysOfBatch parts left b surplus (Part batch) =
    (batch.bytes ≡ joined parts) × (batch.last ≡ ends parts) × (0 < length parts)
    × (length batch.bytes ≤ piece_size_limit)
    × (parts_left surplus b.left < left) × (batch.last ≡ false → 0 < parts_left surplus b.left)
    × (batch.last ≡ true → (surplus ≡ None) × (b.ended ≡ Some End.Whole))
SaysOfBatch parts left b surplus (Lost cause) =
    (parts ≡ []) × (surplus ≡ None) × (b.ended ≡ Some (End.Lost cause))
SaysOfBatch parts left b surplus Cancelled =
    (parts ≡ []) × (surplus ≡ None) × (b.ended ≡ Some End.Cancelled)

-- the next batch of a source that told these parts and has this number left
pub record Batches (told : Option (List Piece)) (left : ℕ) (b : Supply) (surplus : Option Surplus)
    (r : Next) : Type 0 where
  pub parts : List Piece
  pub ahead : IsAhead (more told parts) b surplus
  pub says : SaysOfBatch parts left b surplus r

-- the next batch, whatever parts the source told
abbrev pub IsBatched : Supply → Supply → Option Surplus → Option Surplus → Next → Type 0
IsBatched a b surplus surplus' r =
    (told : Option (List Piece)) → IsAhead told a surplus
    → Batches told (parts_left surplus a.left) b surplus' r
