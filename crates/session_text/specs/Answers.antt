-- The answer of a line, for any commands.
use Rattle.std.specs.Prelude.{◌≡◌, ℕ, ◌≤◌, ◌⊎◌, List, [], codes}
use Rattle.heap_class.specs.declared.Refusal.TheVariants.{NoMemory}
use Rattle.heap_trail.specs.declared.Action.{Action}
use Rattle.heap_trail.specs.declared.Action.TheVariants.{NextPiece}
use Rattle.heap_trail.specs.declared.Reply.{Reply}
use Rattle.heap_trail.specs.declared.Reply.TheVariants.{Refused}
use Rattle.session_grammar.specs.declared.command.Command.{Command}
use Rattle.session_grammar.specs.declared.command.Command.TheVariants.{Blank, Bad, Ask, Piece, Dump, DumpNow, End}
use Rattle.session_grammar.specs.Grammar.{command_of, without_cr}
use Rattle.session_text.specs.Dumps.{Acts, DumpsPin, DumpsNow}
use Rattle.hprof_text.specs.Laws.{piece_limit}
use Rattle.session_grammar.specs.Reads.{ActionTakesMemory}
use Rattle.session_text.specs.Replies.{reply_text}

-- a relation between the commands before, the text of an answer and the commands after
abbrev pub Reaction : Type 0 → Type 1
Reaction S = S → List ℕ → S → Type 0

-- the relation that a command stands for
abbrev pub SaysTo : Type 0 → Type 1
SaysTo S = Command → Reaction S

-- the relation that a line stands for
abbrev pub AnswerRelation : Type 0 → Type 1
AnswerRelation S = List ℕ → Reaction S

-- the answer `bad command`, which changes nothing
abbrev pub IsBadCommand : {S : Type 0} → Reaction S
IsBadCommand c text c' = (text ≡ codes "bad command\n") × (c' ≡ c)

-- the commands act, or an allocation for the line failed and nothing is done
abbrev pub RepliesTo : {S : Type 0} → Acts S → S → Action → Reply → S → Type 0
RepliesTo acts c a r c' = acts c a r c' ⊎ (ActionTakesMemory a × (r ≡ Refused NoMemory) × (c' ≡ c))

-- the text of a command's answer, and the commands after it; `unknown` is the answer if the grammar doesn't know the line
abbrev pub AnswersTo : {S : Type 0} → Acts S → Reaction S → ℕ → SaysTo S
AnswersTo acts unknown time Blank c text c' = (text ≡ []) × (c' ≡ c)
AnswersTo acts unknown time Bad c text c' = unknown c text c'
AnswersTo acts unknown time (Ask a) c text c' =
    (r : Reply) × RepliesTo acts c a r c' × (text ≡ reply_text r)
AnswersTo acts unknown time (Piece pin) c text c' =
    (r : Reply) × acts c (NextPiece pin time) r c' × (text ≡ reply_text r)
AnswersTo acts unknown time (Dump pin) c text c' = DumpsPin acts pin time piece_limit c text c'
AnswersTo acts unknown time DumpNow c text c' = DumpsNow acts time piece_limit c text c'
AnswersTo acts unknown time End c text c' = ⊥

-- the same if a write fails in the answer: a dump goes up to some piece
abbrev pub BeginsTo : {S : Type 0} → Acts S → Reaction S → ℕ → SaysTo S
BeginsTo acts unknown time Blank c text c' = ⊥
BeginsTo acts unknown time Bad c text c' = AnswersTo acts unknown time Bad c text c'
BeginsTo acts unknown time (Ask a) c text c' = AnswersTo acts unknown time (Ask a) c text c'
BeginsTo acts unknown time (Piece pin) c text c' = AnswersTo acts unknown time (Piece pin) c text c'
BeginsTo acts unknown time (Dump pin) c text c' =
    (pieces : ℕ) × (pieces ≤ piece_limit) × DumpsPin acts pin time pieces c text c'
BeginsTo acts unknown time DumpNow c text c' =
    (pieces : ℕ) × (pieces ≤ piece_limit) × DumpsNow acts time pieces c text c'
BeginsTo acts unknown time End c text c' = ⊥

-- the answer of a line; `unknown` has those of the lines that the grammar doesn't know
abbrev pub AnswersCommand : {S : Type 0} → Acts S → AnswerRelation S → ℕ → AnswerRelation S
AnswersCommand acts unknown time l = AnswersTo acts (unknown (without_cr l)) time (command_of l)

-- the same if a write fails in it
abbrev pub Begins : {S : Type 0} → Acts S → AnswerRelation S → ℕ → AnswerRelation S
Begins acts unknown time l = BeginsTo acts (unknown (without_cr l)) time (command_of l)

-- the answer `bad command` to each line
abbrev pub all_bad : {S : Type 0} → AnswerRelation S
all_bad l = IsBadCommand
