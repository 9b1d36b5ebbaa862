-- The answers to `dump` lines over a shared heap, as texts of states.
use Rattle.std.specs.Prelude.{◌≡◌, ◌⊎◌, ℕ, Bool, true, false, List, [], ◌∷◌, ◌++◌, length, flat_map, None}
use mathlib.Core.List.{IsPrefix}
use Rattle.heap_lock.specs.HeapLimits.{HeapSettings}
use Rattle.heap_lock.specs.Piece.{Piece}
use Rattle.heap_lock.specs.Segments.{dump_text}
use Rattle.heap_lock.specs.Images.{image_of}
use Rattle.heap_lock.specs.Action.TheVariants.{OpenPin}
use Rattle.heap_lock.specs.Reply.{Reply}
use Rattle.heap_lock.specs.Reply.TheVariants.{Pinned}
use Rattle.dump_pump.specs.Pumps.{joined}
use Rattle.dump_pump.specs.PieceLaws.{piece_limit}
use Rattle.heap_lock.specs.Calls.{Call}
use Rattle.heap_lock.specs.LockStates.{AreMet, SeatModel}
use Rattle.heap_lock.specs.Laws.{IsAlone, state_at}
use Rattle.session_text.specs.Replies.{data_lines, reply_text, piece_in, pin_in}
use Rattle.session_text.specs.Dumps.{Acts, DumpsPin, DumpsNow, total_line}
use Rattle.seat_session.specs.JoinedActs.{IsJoined}

-- what commands with a seat and a witness do, as a seat on the heap does it
abbrev pub ActsJoined : {S : Type 0} → HeapSettings → (S → SeatModel) → (S → List Call) → Acts S
ActsJoined config seat seen c a r d = IsJoined config (seat c) (seen c) a r (seat d) (seen d)

-- the data lines of these pieces
abbrev pub lines_of_pieces : List Piece → List ℕ
lines_of_pieces pieces = flat_map (λ p. data_lines p.bytes) pieces

-- the line after a dump's data: the number of its bytes after all of them; or that of a reply without a piece, or none
abbrev pub EndsData : ℕ → Bool → List ℕ → Type 0
EndsData total true end = end ≡ total_line total
EndsData total false end =
    (end ≡ []) ⊎ ((r : Reply) × (piece_in r ≡ None) × (end ≡ reply_text r))

-- these bytes begin the text, and are all of it if the dump is whole
abbrev pub Spells : List ℕ → Bool → List ℕ → Type 0
Spells text whole bytes =
    (rest : List ℕ) × (bytes ++ rest ≡ text) × (whole ≡ true → rest ≡ [])

-- the answer has the data lines of the pieces that it was given; if these are all that the pin gave, they spell the dump of the
-- state at the pin's place
pub record IsDumpAnswer (config : HeapSettings) (pin time : ℕ) (seen : List Call)
    (text : List ℕ) : Type 0 where
  pub given : List Piece
  pub whole : Bool
  pub end : List ℕ
  pub lines : text ≡ lines_of_pieces given ++ end
  pub ends : EndsData (length (joined given)) whole end
  pub exact : (place : ℕ) (before after : List Call)
      → IsAlone pin place time before after seen given
      → Spells (dump_text config.ids (image_of (state_at config before place)) time) whole
      (joined given)

-- no pin was opened, and the answer is the line of that reply
abbrev pub IsUnopened : List ℕ → Type 0
IsUnopened text = (r : Reply) × (pin_in r ≡ None) × (text ≡ reply_text r)

-- a pin was opened after all that the witness had seen and the seat did, and the answer is that of its dump
abbrev pub IsOpenedDump : HeapSettings → SeatModel → ℕ → List Call → List Call → List ℕ → Type 0
IsOpenedDump config s time seen later text =
    (pin place : ℕ) × (met before after : List Call) × IsPrefix seen met × AreMet config s met
    × IsPrefix met before
    × (later ≡ before ++ (OpenPin None, Pinned pin place) ∷ after)
    × IsDumpAnswer config pin time later text

-- the answer to the line `dump` with a pin's number
abbrev pub AnswersPinDump : {S : Type 0} → HeapSettings → (S → SeatModel) → (S → List Call) → ℕ → ℕ → S
    → List ℕ → S → Type 0
AnswersPinDump config seat seen pin time c text d =
    DumpsPin (ActsJoined config seat seen) pin time piece_limit c text d
    → IsDumpAnswer config pin time (seen d) text

-- the answer to the line `dump -`
abbrev pub AnswersNewDump : {S : Type 0} → HeapSettings → (S → SeatModel) → (S → List Call) → ℕ → S
    → List ℕ → S → Type 0
AnswersNewDump config seat seen time c text d =
    DumpsNow (ActsJoined config seat seen) time piece_limit c text d
    → IsUnopened text ⊎ IsOpenedDump config (seat c) time (seen c) (seen d) text
