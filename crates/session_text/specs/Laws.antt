-- A session of a private machine is a list of actions.
use Rattle.std.specs.Prelude.{◌≡◌, ℕ, ◌⊎◌, List, [], ◌∷◌, ◌++◌, codes}
use Rattle.heap_trail.specs.declared.Action.{Action}
use Rattle.heap_trail.specs.Machine.{Machine, Allocation, MayStand, AreAllocations, machine_after, replies_of}
use Rattle.session_text.specs.declared.Ended.{Ended}
use Rattle.session_text.specs.declared.Ended.TheVariants.{Quit, Eof, CutLine, TooLong, ReadFault, TooManyReads, WriteFault, NoMemory as NoRoom}
use Rattle.session_text.specs.declared.ReadEnd.{ReadEnd}
use Rattle.session_text.specs.declared.limits.SessionLimits.{SessionLimits}
use Rattle.session_text.specs.Answers.{AnswersCommand, Begins, all_bad}
use Rattle.session_text.specs.Dumps.{Acts}
use Rattle.session_text.specs.Session.{AllocationsFit, StopsAfter, session_of}
use Rattle.session_text.specs.Talks.{IsLine, IsLong, IsQuit, IsTalk, BeginsWith}

-- the actions done on a machine so far, one more, with an allocation that is possible for it, and its reply
abbrev pub InTurn : Machine → Acts (List (Action × Allocation))
InTurn m before a r after =
    (allocation : Allocation) × MayStand (machine_after m before) (a, allocation)
    × (after ≡ before ++ (a, allocation) ∷ [])
    × (replies_of m after ≡ replies_of m before ++ r ∷ [])

-- no whole line is left, or `end` comes next, or a line that is too long
abbrev pub IsStop : SessionLimits → List ℕ → Type 0
IsStop limits rest = IsLine limits rest ⊎ (IsQuit limits rest ⊎ IsLong limits rest)

-- the line of an ending
abbrev pub ending_line : Ended → List ℕ
ending_line Quit = []
ending_line Eof = []
ending_line CutLine = codes "bad cut\n"
ending_line TooLong = codes "bad long\n"
ending_line ReadFault = codes "bad read\n"
ending_line TooManyReads = codes "bad reads\n"
ending_line WriteFault = []
ending_line NoRoom = []

-- the lines of the bytes asked for these actions, in order, and the text is that of their replies; they lead to the machine
-- m'
pub record IsList (limits : SessionLimits) (m : Machine) (time : ℕ) (bytes text : List ℕ) (m' : Machine) : Type 0 where
  pub actions : List (Action × Allocation)
  pub allocations : AreAllocations m actions
  pub rest : List ℕ
  pub talk : IsTalk limits (AnswersCommand (InTurn m) all_bad time) bytes [] rest text actions
  pub stop : IsStop limits rest
  pub machine : m' ≡ machine_after m actions

-- a session is a list of actions: it leaves their machine, and writes their replies and the line of its ending
abbrev pub IsListed : SessionLimits → Machine → List Allocation → ℕ → List ℕ → ReadEnd → Type 0
IsListed limits m allocations time bytes e =
    let s = session_of limits m allocations time bytes e in
    AllocationsFit m allocations time bytes
    → (text : List ℕ) × IsList limits m time bytes text s.0.machine
    × (s.0.written ≡ text ++ ending_line s.1)

-- no line of the rest was acted on, or the first one was, a dump up to some piece
abbrev pub IsBegun : SessionLimits → Machine → ℕ → List ℕ → List (Action × Allocation) → List (Action × Allocation)
    → Type 0
IsBegun limits m time rest before after =
    (after ≡ before)
    ⊎ ((l : List ℕ) × (tail : List ℕ) × BeginsWith limits l rest
    × Begins (InTurn m) all_bad time l before tail after)

-- the lines before the rest asked for the actions that were answered, in order, and all actions lead to the machine m'
pub record IsCutList (limits : SessionLimits) (m : Machine) (time : ℕ) (bytes : List ℕ) (m' : Machine) : Type 0 where
  pub actions : List (Action × Allocation)
  pub allocations : AreAllocations m actions
  pub answered : List (Action × Allocation)
  pub rest : List ℕ
  pub text : List ℕ
  pub talk : IsTalk limits (AnswersCommand (InTurn m) all_bad time) bytes [] rest text answered
  pub begun : IsBegun limits m time rest answered actions
  pub machine : m' ≡ machine_after m actions

-- a session in which a write failed leaves the machine of a list of actions
abbrev pub IsCutListed : SessionLimits → Machine → List Allocation → ℕ → List ℕ → ReadEnd → Type 0
IsCutListed limits m allocations time bytes e =
    AllocationsFit m allocations time bytes → (out : List ℕ) (m' : Machine)
    → StopsAfter limits m allocations time bytes e out m'
    → IsCutList limits m time bytes m'
