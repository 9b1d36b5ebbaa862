-- Seats of a heap that stays. The pins of a session are closed at its end, unless it kept them.
use Rattle.std.specs.Prelude.{◌≡◌, ◌⊎◌, ℕ, ◌==◌, not, Bool, true, false, List, [], ◌∷◌, ◌++◌, codes, filter, Option, Some, None, if◌then◌else◌}
use Rattle.std.specs.List.{list_any}
use Rattle.std.specs.Str.{bytes_eq}
use mathlib.Core.List.{IsPrefix}
use Rattle.heap_lock.specs.HeapLimits.{HeapSettings}
use Rattle.heap_lock.specs.Action.{Action}
use Rattle.heap_lock.specs.Action.TheVariants.{Step, Rewind, OpenPin, NextPiece, ClosePin}
use Rattle.heap_lock.specs.Reply.{Reply}
use Rattle.heap_lock.specs.Reply.TheVariants.{Refused}
use Rattle.heap_lock.specs.Refusal.TheVariants.{NoMemory, NoPin}
use Rattle.heap_lock.specs.Calls.{Call, Witnesses}
use Rattle.heap_lock.specs.Entry.{Entry}
use Rattle.heap_lock.specs.LockStates.{SeatModel}
use Rattle.heap_lock.specs.Machine.{Machine}
use Rattle.question_grammar.specs.Bookmarks.{Bookmarks, no_bookmarks}
use Rattle.question_grammar.specs.NoteLines.{place_opened}
use Rattle.question_grammar.specs.Questions.{question_of}
use Rattle.question_grammar.specs.declared.question.Question.{Question}
use Rattle.question_grammar.specs.declared.question.Question.TheVariants.{Pins}
use Rattle.session_grammar.specs.Grammar.{one_number, words_of_line}
use Rattle.session_text.specs.Answers.{AnswerRelation, all_bad}
use Rattle.session_text.specs.Dumps.{Acts}
use Rattle.session_text.specs.Replies.{pin_in, reply_text}
use Rattle.seat_session.specs.JoinedActs.{IsJoined}
use Rattle.seat_session.specs.JoinedAnswers.{AnswersForSeat, IsHeapOfSeat}

-- ---- lines

-- the pin that these words name, if the first is `keep` and one number follows
abbrev pub kept_in_words : List (List ℕ) → Option ℕ
kept_in_words [] = None
kept_in_words (w ∷ ws) = if bytes_eq w (codes "keep") then one_number ws else None

-- the pin of the line `keep PIN`
abbrev pub kept_pin : List ℕ → Option ℕ
kept_pin l = kept_in_words (words_of_line l)

-- the question is the one about the open pins
abbrev pub is_pins : Option Question → Bool
is_pins (Some Pins) = true
is_pins q = false

-- the line asks for the open pins
abbrev pub asks_pins : List ℕ → Bool
asks_pins l = is_pins (question_of no_bookmarks l)

-- ---- the pins of a session

-- a session's seat, the calls that its witness has seen, what the session notes of places, the pins that it opened and neither
-- closed nor kept, and whether questions are answered
pub record StayingStation : Type 0 where
  pub seat : SeatModel
  pub seen : List Call
  pub bookmarks : Bookmarks
  pub pins : List ℕ
  pub questions : Bool

-- that of a session that begins
abbrev pub first_staying : SeatModel → List Call → Bool → StayingStation
first_staying s seen questions =
    record { seat = s; seen = seen; bookmarks = no_bookmarks; pins = []; questions = questions }

-- whether this pin is open
abbrev pub is_open : Machine → ℕ → Bool
is_open m pin = list_any (λ e. e.0 == pin) m.pins.open_pins

-- the pins without this one
abbrev pub without : ℕ → List ℕ → List ℕ
without pin pins = filter (λ p. not (p == pin)) pins

-- the pins, and the one that was opened, if one was
abbrev pub with_opened : Option ℕ → List ℕ → List ℕ
with_opened (Some pin) pins = pins ++ pin ∷ []
with_opened None pins = pins

-- `left` are those of the pins that were open at a moment with all that the seat did; all calls up to then are seen
abbrev pub AreStillOpen : HeapSettings → SeatModel → List Call → List ℕ → List Call → List ℕ → Type 0
AreStillOpen config s seen pins seen' left =
    (m : Machine) × (chronicle : List Entry) × IsHeapOfSeat config m chronicle seen' s
    × IsPrefix seen seen' × (left ≡ filter (is_open m) pins)

-- the seat acts, and these are the pins then
abbrev pub ActsWith : HeapSettings → StayingStation → List Call → Action → Reply → StayingStation
    → List ℕ
    → Type 0
ActsWith config c seen a r d pins =
    IsJoined config c.seat seen a r d.seat d.seen × (d.pins ≡ pins)

-- pins that aren't open any more are forgotten, and then one is opened, or not; or memory to note it is refused, and nothing is
-- asked of the heap
abbrev pub OpensNoted : HeapSettings → StayingStation → Option ℕ → Reply → StayingStation → Type 0
OpensNoted config c at r d =
    (seen : List Call) × (left : List ℕ) × AreStillOpen config c.seat c.seen c.pins seen left
    × (ActsWith config c seen (OpenPin at) r d (with_opened (pin_in r) left)
    ⊎ ((r ≡ Refused NoMemory) × (d.seat ≡ c.seat) × (d.seen ≡ seen) × (d.pins ≡ left)))

-- what an action does: that of a seat, which notes the pins that it opens, and forgets one as it is asked to close it
abbrev pub ActsNoted : HeapSettings → StayingStation → Action → Reply → StayingStation → Type 0
ActsNoted config c (OpenPin at) r d = OpensNoted config c at r d
ActsNoted config c (ClosePin pin) r d =
    ActsWith config c c.seen (ClosePin pin) r d (without pin c.pins)
ActsNoted config c (Step event) r d = ActsWith config c c.seen (Step event) r d c.pins
ActsNoted config c (Rewind n) r d = ActsWith config c c.seen (Rewind n) r d c.pins
ActsNoted config c (NextPiece pin time) r d =
    ActsWith config c c.seen (NextPiece pin time) r d c.pins

-- the same, of a session that goes on to answer questions or not, by the same bookmarks
abbrev pub staying_acts : HeapSettings → Acts StayingStation
staying_acts config c a r d =
    ActsNoted config c a r d × (d.questions ≡ c.questions) × (d.bookmarks ≡ c.bookmarks)

-- ---- answers

-- the answer of `keep PIN`: ok, or that of a pin that isn't open
abbrev pub keep_text : Bool → List ℕ
keep_text true = codes "ok\n"
keep_text false = reply_text (Refused NoPin)

-- the pin is forgotten, if it is open and the session's; the heap is asked for nothing
abbrev pub KeepsPin : HeapSettings → ℕ → StayingStation → List ℕ → StayingStation → Type 0
KeepsPin config pin c text d =
    (left : List ℕ) × AreStillOpen config c.seat c.seen c.pins d.seen left
    × (d.seat ≡ c.seat) × (d.bookmarks ≡ c.bookmarks) × (d.pins ≡ without pin left)
    × (text ≡ keep_text (list_any (λ p. p == pin) left))

-- the answer of the seat to a line that the grammar of sessions doesn't know; it does what the line asks to be done, if
-- that may be asked
abbrev pub AnswersSeat : HeapSettings → Bool → List ℕ → StayingStation → List ℕ → StayingStation
    → Type 0
AnswersSeat config obeys l c text d =
    AnswersForSeat config obeys l c.seat c.seen c.bookmarks text d.seat d.seen d.bookmarks
    × (d.pins ≡ c.pins)

-- a pin is opened on the state at a place, or on the current one, and noted; or the seat answers a line
abbrev pub OpensOrAnswersSeat : HeapSettings → Option (Option ℕ) → List ℕ → StayingStation → List ℕ
    → StayingStation
    → Type 0
OpensOrAnswersSeat config (Some place) l c text d =
    (r : Reply) × ActsNoted config c (OpenPin place) r d × (d.bookmarks ≡ c.bookmarks)
    × (text ≡ reply_text r)
OpensOrAnswersSeat config None l c text d = AnswersSeat config true l c text d

-- the answer of a line that the grammar of sessions doesn't know: `keep PIN`; or, if questions are answered, that of the seat; or,
-- if they aren't, that of `pins` alone
abbrev pub AnswersStaying : HeapSettings → Option ℕ → Bool → Bool → List ℕ → StayingStation
    → List ℕ
    → StayingStation
    → Type 0
AnswersStaying config (Some pin) questions pins l c text d = KeepsPin config pin c text d
AnswersStaying config None true pins l c text d =
    OpensOrAnswersSeat config (place_opened c.bookmarks l) l c text d
AnswersStaying config None false true l c text d = AnswersSeat config false l c text d
AnswersStaying config None false false l c text d = all_bad l c text d

-- the same, of a session that goes on to answer questions or not
abbrev pub staying_answers : HeapSettings → AnswerRelation StayingStation
staying_answers config l c text d =
    AnswersStaying config (kept_pin l) c.questions (asks_pins l) l c text d
    × (d.questions ≡ c.questions)

-- ---- the end

-- each of the pins was asked to be closed, in order
abbrev pub ClosesEach : HeapSettings → List ℕ → List Call → List Call → Type 0
ClosesEach config [] seen seen' = seen' ≡ seen
ClosesEach config (pin ∷ pins) seen seen' =
    (r : Reply) × (mid : List Call) × Witnesses config seen (ClosePin pin) r mid
    × ClosesEach config pins mid seen'
