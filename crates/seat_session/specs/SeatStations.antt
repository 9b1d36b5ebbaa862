-- Where a session over a shared heap stands, and what it does from its seat.
use Rattle.std.specs.Prelude.{◌≡◌, ℕ, Bool, true, false, List, Option, Some, None}
use Rattle.heap_lock.specs.HeapLimits.{HeapSettings}
use Rattle.heap_lock.specs.Calls.{Call}
use Rattle.heap_lock.specs.LockStates.{SeatModel}
use Rattle.session_text.specs.Answers.{AnswerRelation, all_bad}
use Rattle.session_text.specs.Dumps.{Acts}
use Rattle.seat_session.specs.JoinedActs.{IsJoined}
use Rattle.seat_session.specs.JoinedAnswers.{AnswersForSeat}
use Rattle.question_grammar.specs.Bookmarks.{Bookmarks, no_bookmarks}
use Rattle.question_grammar.specs.NoteLines.{place_opened}
use Rattle.session_text.specs.Replies.{reply_text}
use Rattle.heap_lock.specs.Action.TheVariants.{OpenPin}
use Rattle.heap_lock.specs.Reply.{Reply}

-- a session's seat, the calls that its witness has seen, and what the session notes of places
pub record Station : Type 0 where
  pub seat : SeatModel
  pub seen : List Call
  pub bookmarks : Bookmarks

-- that of a session that begins
abbrev pub first_station : SeatModel → List Call → Station
first_station s seen = record { seat = s; seen = seen; bookmarks = no_bookmarks }

-- what an action does from a seat on a heap of these settings
abbrev pub seat_acts : HeapSettings → Acts Station
seat_acts config c a r d =
    IsJoined config c.seat c.seen a r d.seat d.seen × (d.bookmarks ≡ c.bookmarks)

-- a pin is opened on the state at a place, or on the current one; or the seat answers a line, as it stands and without opening one
abbrev pub OpensOrAnswers : HeapSettings → Option (Option ℕ) → AnswerRelation Station
OpensOrAnswers config (Some place) l c text d =
    (r : Reply) × seat_acts config c (OpenPin place) r d × (text ≡ reply_text r)
OpensOrAnswers config None l c text d =
    AnswersForSeat config true l c.seat c.seen c.bookmarks text d.seat d.seen d.bookmarks

-- what a line does there that the grammar of sessions doesn't know, if questions are answered or not
abbrev pub seat_answers : HeapSettings → Bool → AnswerRelation Station
seat_answers config true l c text d =
    OpensOrAnswers config (place_opened c.bookmarks l) l c text d
seat_answers config false l c text d = all_bad l c text d
