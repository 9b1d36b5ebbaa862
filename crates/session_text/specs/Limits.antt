-- The limits of a session, and the endings that are whole.
use Rattle.std.specs.Prelude.{ℕ, Bool, true, false}
use Rattle.session_text.specs.declared.limits.SessionLimits.{SessionLimits}
use Rattle.session_text.specs.declared.limits.SessionLimits.TheVariants.{Narrow, Wide}
use Rattle.session_text.specs.declared.limits.TheConstants.{NARROW_LINE, NARROW_READS, READ_LIMIT}
use Rattle.session_grammar.specs.declared.TheConstants.{LINE_LIMIT}
use Rattle.session_text.specs.declared.Ended.{Ended}
use Rattle.session_text.specs.declared.Ended.TheVariants.{Quit, Eof}

-- the largest number of bytes that a session holds of what it read and hasn't answered
abbrev pub buffer_limit : ℕ
buffer_limit = 65536

-- the largest number of reads of a session that may have at most this
abbrev pub most_reads : SessionLimits → ℕ
most_reads Narrow = NARROW_READS
most_reads Wide = READ_LIMIT

-- the largest number of bytes of a line of such a session, without its LF
abbrev pub longest_line : SessionLimits → ℕ
longest_line Narrow = NARROW_LINE
longest_line Wide = LINE_LIMIT

-- what a session may have at most whose heap is wide, or isn't
abbrev pub session_limits : Bool → SessionLimits
session_limits true = Wide
session_limits false = Narrow

-- whether each line was run
abbrev pub is_whole_session : Ended → Bool
is_whole_session Quit = true
is_whole_session Eof = true
is_whole_session e = false
