-- The pieces that a source of a machine's pin hands out.
use Rattle.std.specs.Prelude.{◌≡◌, ℕ, ◌+◌, ◌==◌, false, List, [], map, Option, Some, None, if◌then◌else◌}
use Rattle.std.specs.List.{range_with_len}
use Rattle.heap_class.specs.declared.IdSize.{IdSize}
use Rattle.hprof_text.specs.Image.{Image}
use Rattle.hprof_text.specs.declared.Piece.{Piece}
use Rattle.hprof_text.specs.Segments.{piece_of}
use Rattle.heap_trail.specs.Pins.{PinState, Kept, Gone, pin_at, each_kept}
use Rattle.heap_trail.specs.Machine.{Machine}

-- the number of pieces that a pin gave
abbrev pub given_of : Option PinState → ℕ
given_of None = 0
given_of (Some (Gone place cause)) = 0
given_of (Some (Kept place image given)) = given

-- `count` pieces of a pin's dump, from this number on
abbrev pub pieces_at : IdSize → ℕ → ℕ → ℕ → Option PinState → List Piece
pieces_at ids time first count None = []
pieces_at ids time first count (Some (Gone place cause)) = []
pieces_at ids time first count (Some (Kept place image given)) =
    map (piece_of ids image time) (range_with_len first count)

-- `count` pieces of a machine's pin, from the first that it has not given
abbrev pub handed : Machine → ℕ → ℕ → ℕ → List Piece
handed m pin time count = let s = pin_at pin m.pins in pieces_at m.ids time (given_of s) count s

-- the machine, but for the number of pieces that the pin gave
unfoldable pub ungiven : ℕ → Machine → Machine
ungiven pin m =
    record m {
      pins = each_kept
          (λ number place image given. Kept place image (if number == pin then 0 else given))
          m.pins;
    }

-- the pin gave its next piece, and nothing else changed; after a piece that is not the last, one more is counted
pub record GivesPiece (pin time : ℕ) (m m' : Machine) (p : Piece) : Type 0 where
  pub place : ℕ
  pub image : Image
  pub given : ℕ
  pub after : ℕ
  pub here : pin_at pin m.pins ≡ Some (Kept place image given)
  pub there : pin_at pin m'.pins ≡ Some (Kept place image after)
  pub piece : p ≡ piece_of m.ids image time given
  pub goes : p.last ≡ false → after ≡ given + 1
  pub same : ungiven pin m' ≡ ungiven pin m
