-- How sessions ended, in words.
use Rattle.std.specs.Prelude.{ℕ, ◌+◌, List, [], ◌∷◌, ◌++◌, codes, decimal}
use Rattle.session_text.specs.declared.Ended.{Ended}
use Rattle.session_text.specs.declared.Ended.TheVariants.{Quit, Eof, CutLine, TooLong, ReadFault, TooManyReads, WriteFault, NoMemory}
use Rattle.heap_server.specs.declared.client_session.SessionEnd.{SessionEnd}
use Rattle.heap_server.specs.declared.client_session.SessionEnd.TheVariants.{Ran, Http, Stranger, Idle}
use Rattle.heap_server.specs.declared.sessions.SeatEnd.{SeatEnd}

-- the word that names how a session ended
abbrev pub word_of_ending : Ended → List ℕ
word_of_ending Quit = codes "quit"
word_of_ending Eof = codes "eof"
word_of_ending CutLine = codes "cut"
word_of_ending TooLong = codes "long"
word_of_ending ReadFault = codes "read"
word_of_ending TooManyReads = codes "reads"
word_of_ending WriteFault = codes "write"
word_of_ending NoMemory = codes "memory"

-- the word that names a session's end
abbrev pub word_of_end : SessionEnd → List ℕ
word_of_end (Ran ended) = word_of_ending ended
word_of_end Http = codes "http"
word_of_end Stranger = codes "secret"
word_of_end Idle = codes "idle"

-- the line of a session of this number
abbrev pub line_of : ℕ → SessionEnd → List ℕ
line_of number end =
    codes "session " ++ (decimal number ++ (codes " " ++ (word_of_end end ++ codes "\n")))

-- the lines of all, the first with this number
abbrev pub report_of : ℕ → List SeatEnd → List ℕ
report_of number [] = []
report_of number (session ∷ more) = line_of number session.end ++ report_of (number + 1) more
