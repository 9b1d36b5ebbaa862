-- The endings of the program: its exit status, and the word on standard error.
use Rattle.std.specs.Prelude.{◌≡◌, ℕ, Bool, true, false, List, Result, Ok, Err, ◌++◌, codes, string_bytes}
use Rattle.session_text.specs.declared.Ended.{Ended}
use Rattle.session_text.specs.declared.Ended.TheVariants.{Quit, Eof, CutLine, TooLong, ReadFault, TooManyReads, WriteFault, NoMemory}
use Rattle.private_tasks.specs.declared.failure.Fault.{Fault}
use Rattle.private_tasks.specs.declared.failure.Fault.TheVariants as fault
use Rattle.private_tasks.specs.declared.failure.Failure.{Failure}
use Rattle.private_tasks.specs.declared.failure.Failure.TheVariants.{CommandText, Line, OptionText, Work}
use Rattle.heapdbg_options.specs.declared.settings.LineFault.{LineFault}
use Rattle.heapdbg_options.specs.declared.settings.LineFault.TheVariants as line

-- a session that ended by `end` or at the end of input is done, and any other is a fault
abbrev pub outcome_of : Ended → Result (Unit {0}) Fault
outcome_of Quit = Ok tt
outcome_of Eof = Ok tt
outcome_of CutLine = Err fault.Cut
outcome_of TooLong = Err fault.Long
outcome_of ReadFault = Err fault.Read
outcome_of TooManyReads = Err fault.Reads
outcome_of WriteFault = Err fault.Write
outcome_of NoMemory = Err fault.Memory

-- the word of a fault
abbrev pub word_of_fault : Fault → List ℕ
word_of_fault fault.Cut = codes "cut"
word_of_fault fault.Long = codes "long"
word_of_fault fault.Read = codes "read"
word_of_fault fault.Reads = codes "reads"
word_of_fault fault.Write = codes "write"
word_of_fault fault.Memory = codes "memory"
word_of_fault fault.Listen = codes "listen"
word_of_fault fault.Accept = codes "accept"
word_of_fault fault.Connect = codes "connect"
word_of_fault fault.Out = codes "out"
word_of_fault fault.From = codes "from"
word_of_fault fault.Hprof = codes "hprof"
word_of_fault fault.Lost = codes "lost"
word_of_fault fault.Secret = codes "secret"

-- the text for the user: that of a bad command line, one that is asked for, or a line with the word of the fault
abbrev pub message_of : Failure → List ℕ
message_of (Line text) = string_bytes text
message_of (OptionText text) = string_bytes text
message_of (CommandText text) = string_bytes text
message_of (Work f) = codes "heapdbg: " ++ (word_of_fault f ++ codes "\n")

-- a bad command line has its text, as one that asks for a text has, and a failed allocation is a fault like any other
abbrev pub failure_of : LineFault → Failure
failure_of (line.Bad text) = Line text
failure_of (line.OptionText text) = OptionText text
failure_of (line.CommandText text) = CommandText text
failure_of line.Memory = Work fault.Memory

-- a fault is the failure of the work
abbrev pub work_of : Result (Unit {0}) Fault → Result (Unit {0}) Failure
work_of (Ok done) = Ok done
work_of (Err f) = Err (Work f)

-- 0 if the work is done or a command asks for a text, 1 after a fault, and 2 after a bad command line or an option that asks
-- for a text
abbrev pub exit_status_of : Result (Unit {0}) Failure → ℕ
exit_status_of (Ok done) = 0
exit_status_of (Err (Work f)) = 1
exit_status_of (Err (Line text)) = 2
exit_status_of (Err (OptionText text)) = 2
exit_status_of (Err (CommandText text)) = 0

-- the command line asks for the text of this failure
abbrev pub is_asked : Failure → Bool
is_asked (Line text) = false
is_asked (OptionText text) = true
is_asked (CommandText text) = true
is_asked (Work f) = false

-- nothing is written to standard output, unless a text is asked for
abbrev pub IsOutKept : {A : Type 0} → Result (Unit {0}) Failure → A → A → Type 0
IsOutKept (Ok done) old new = new ≡ old
IsOutKept (Err f) old new = is_asked f ≡ false → new ≡ old

-- nothing is written to standard error, if a text is asked for or the work is done
abbrev pub IsErrorKept : {A : Type 0} → Result (Unit {0}) Failure → A → A → Type 0
IsErrorKept (Ok done) old new = new ≡ old
IsErrorKept (Err f) old new = is_asked f ≡ true → new ≡ old
