-- The parts that a source gives.
use Rattle.std.specs.Prelude.{◌≡◌, ℕ, ◌<◌, ◌≤◌, true, false, List, [], ◌∷◌, ◌++◌, length, map, Option, Some, None}
use Rattle.hprof_text.specs.declared.Piece.{Piece}
use Rattle.hprof_text.specs.Laws.{piece_size_limit}
use Rattle.dump_pump.specs.declared.source.SourceEnd.{SourceEnd}
use Rattle.dump_pump.specs.declared.source.SourceEnd.TheVariants as End
use Rattle.dump_pump.specs.declared.source.Next.{Next}
use Rattle.dump_pump.specs.declared.source.Next.TheVariants.{Part, Lost, Cancelled}

-- the parts that a source gave since it was made, if it tells them, how it ended, and how many parts are left at most
pub record Supply : Type 0 where
  pub told : Option (List Piece)
  pub ended : Option SourceEnd
  pub left : ℕ

-- the parts told before, if any are, and then these
abbrev pub more : Option (List Piece) → List Piece → Option (List Piece)
more (Some before) parts = Some (before ++ parts)
more None parts = None

-- a source in the state a gave this answer, and is in the state b
abbrev pub IsNextPart : Supply → Supply → Next → Type 0
IsNextPart a b (Part p) =
    (b.told ≡ more a.told (p ∷ [])) × (length p.bytes ≤ piece_size_limit) × (b.left < a.left)
    × (p.last ≡ false → 0 < b.left) × (p.last ≡ true → b.ended ≡ Some End.Whole)
IsNextPart a b (Lost cause) = (b.told ≡ a.told) × (b.ended ≡ Some (End.Lost cause))
IsNextPart a b Cancelled = (b.told ≡ a.told) × (b.ended ≡ Some End.Cancelled)

-- the parts in a ghost list
abbrev pub parts_in : List (Piece × Unit {0}) → List Piece
parts_in entries = map (λ e. e.0) entries

-- the parts given, with what is given next
abbrev pub parts_with : List Piece → Next → List Piece
parts_with given (Part p) = given ++ p ∷ []
parts_with given (Lost cause) = given
parts_with given Cancelled = given
