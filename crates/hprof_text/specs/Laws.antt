-- The laws of every text.
use Rattle.std.specs.Prelude.{◌≡◌, ℕ, ◌^◌, ◌<◌, ◌≤◌, List, length}
use Rattle.std.specs.List.{concat}
use Rattle.heap_class.specs.declared.IdSize.{IdSize}
use Rattle.hprof_text.specs.Image.{Image, IsDumpable}
use Rattle.hprof_text.specs.Segments.{AreSegments, segments_of, pieces_of, dump_text}
use Rattle.hprof_text.specs.Text.{id}
use Rattle.hprof_text.specs.Fits.{FitsId, HoldsWhole}

-- the pieces joined are the text
abbrev pub PiecesJoin : IdSize → Image → ℕ → Type 0
PiecesJoin ids image time = concat (pieces_of ids image time) ≡ dump_text ids image time

-- the sub-records are cut into segments as they should be
abbrev pub IsCut : ℕ → List (List ℕ) → Type 0
IsCut limit subs = AreSegments limit subs (segments_of limit subs)

-- within the limits of a dump, each number of the text fits in the bytes that it has there
abbrev pub NumbersFit : IdSize → Image → ℕ → Type 0
NumbersFit ids image time = IsDumpable image → time < 2 ^ 64 → HoldsWhole ids image time

-- the largest number of pieces of a dump: one for each of 2^24 objects, 4,096 classes, their roots and 128 registers, the
-- opening records and the end
abbrev pub piece_limit : ℕ
piece_limit = 16785538

-- the largest number of bytes of a piece
abbrev pub piece_size_limit : ℕ
piece_size_limit = 2 ^ 27

-- a dump has few pieces
abbrev pub PiecesFew : IdSize → Image → ℕ → Type 0
PiecesFew ids image time = IsDumpable image → length (pieces_of ids image time) ≤ piece_limit

-- identifiers that fit are equal if their bytes are
abbrev pub EqualIds : IdSize → ℕ → ℕ → Type 0
EqualIds ids a b = FitsId ids a → FitsId ids b → id ids a ≡ id ids b → a ≡ b
