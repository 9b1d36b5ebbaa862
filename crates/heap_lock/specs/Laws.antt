-- What a pin gives to all callers together.
use Rattle.std.specs.Prelude.{◌≡◌, ℕ, ◌-◌, ◌==◌, true, List, [], ◌∷◌, ◌++◌, flat_map, Option, if◌then◌else◌}
use Rattle.std.specs.List.{list_any}
use Rattle.heap_world.specs.Limits.{HeapSettings}
use Rattle.heap_world.specs.State.{HeapState}
use Rattle.hprof_text.specs.declared.Piece.{Piece}
use Rattle.hprof_text.specs.Segments.{dump_text}
use Rattle.heap_trail.specs.Images.{image_of}
use Rattle.heap_trail.specs.declared.Action.TheVariants.{NextPiece, OpenPin}
use Rattle.heap_trail.specs.declared.Reply.TheVariants.{Part, Pinned}
use Rattle.heap_trail.specs.Laws.{AsksAt}
use Rattle.heap_trail.specs.Trail.{Trail, state_ago}
use Rattle.dump_pump.specs.Pumps.{joined}
use Rattle.heap_history.specs.History.{opening, trail_after}
use Rattle.heap_lock.specs.Calls.{Call, IsLegalLedger}

-- the piece of the pin that a call was replied, if it was
unfoldable pub piece_replied : ℕ → Call → List Piece
piece_replied pin (NextPiece n time, Part p) = if n == pin then p ∷ [] else []
piece_replied pin c = []

-- the pieces of the pin that these calls were replied
unfoldable pub pieces_given : ℕ → List Call → List Piece
pieces_given pin calls = flat_map (piece_replied pin) calls

-- each call for a piece of the pin asks for it with this time
abbrev pub CallsAskAt : ℕ → ℕ → List Call → Type 0
CallsAskAt pin time [] = Unit {0}
CallsAskAt pin time (c ∷ cs) = AsksAt pin time c.0 × CallsAskAt pin time cs

-- of these calls one opened the pin at this place, and those after it ask for its pieces with this time and got just these
pub record IsAlone (pin place time : ℕ) (before after seen : List Call)
    (given : List Piece) : Type 0 where
  pub at : Option ℕ
  pub opened : seen ≡ before ++ (OpenPin at, Pinned pin place) ∷ after
  pub asks : CallsAskAt pin time after
  pub pieces : pieces_given pin after ≡ given

-- the trail after these calls
unfoldable pub trail_by : ℕ → Trail → List Call → Trail
trail_by keep t [] = t
trail_by keep t (c ∷ cs) = trail_by keep (trail_after keep t c.0) cs

-- the state at a place, after these calls on a heap
abbrev pub state_at : HeapSettings → List Call → ℕ → HeapState
state_at config calls place =
    let t = trail_by config.keep (opening config) calls in state_ago (t.place - place) t

-- in all calls of a heap, the pieces that a pin gives after its opening, if they are asked for with one time, are a beginning of
-- the dump of the state at its place, and all of it once the last was given
abbrev pub GiveText : HeapSettings → List Call → Option ℕ → ℕ → ℕ → List Call → ℕ → Type 0
GiveText config before at pin place after time =
    IsLegalLedger config (before ++ (OpenPin at, Pinned pin place) ∷ after)
    → CallsAskAt pin time after
    → (rest : List ℕ)
    × (joined (pieces_given pin after) ++ rest
    ≡ dump_text config.ids (image_of (state_at config before place)) time)
    × (list_any (λ p. p.last) (pieces_given pin after) ≡ true → rest ≡ [])
