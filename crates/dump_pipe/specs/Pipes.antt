-- The rule of a pipe.
use Rattle.std.specs.Prelude.{◌≡◌, ℕ, ◌+◌, ◌*◌, ◌≤◌, List, [], ◌∷◌, ◌++◌, map, length}
use mathlib.Core.Option.{some}
use lib.ListN.{get_elem?}
use Rattle.hprof_text.specs.declared.Piece.{Piece}
use Rattle.dump_pump.specs.declared.source.SourceEnd.{SourceEnd}
use Rattle.hprof_text.specs.Laws.{piece_limit, piece_size_limit}
use Rattle.dump_pipe.specs.declared.message.Message.{Message}
use Rattle.dump_pipe.specs.declared.message.Message.TheVariants.{Part, End}
use Rattle.dump_pipe.specs.declared.end_side.EndSide.{EndSide}
use Rattle.dump_pipe.specs.declared.end_side.EndSide.TheVariants.{Both, Sends, Gets, Spent}

-- parts, and then how the source ended
abbrev pub dump : List Piece → SourceEnd → List Message
dump parts e = map Part parts ++ End e ∷ []

-- the bytes of a message
abbrev pub message_size : Message → ℕ
message_size (Part p) = length p.bytes
message_size (End e) = 0

-- the bytes of all messages
abbrev pub weigh : List Message → ℕ
weigh [] = 0
weigh (m ∷ ms) = message_size m + weigh ms

-- the largest number of bytes that are sent through a pipe
abbrev pub byte_limit : ℕ
byte_limit = piece_limit * piece_size_limit

-- the messages that an end sent, or received
abbrev pub list_of : EndSide → List Message
list_of (Both xs ys) = xs
list_of (Sends xs) = xs
list_of (Gets ys) = ys
list_of Spent = []

-- an end that sends
abbrev pub IsSending : EndSide → Type 0
IsSending v = v ≡ Sends (list_of v)

-- an end that receives
abbrev pub IsReceiving : EndSide → Type 0
IsReceiving v = v ≡ Gets (list_of v)

-- the end that sends, split off a side
abbrev pub sends_of : EndSide → EndSide
sends_of v = Sends (list_of v)

-- the end that receives, split off a side
abbrev pub gets_of : EndSide → EndSide
gets_of (Both xs ys) = Gets ys
gets_of (Sends xs) = Gets []
gets_of (Gets ys) = Gets []
gets_of Spent = Gets []

-- both ends as one
abbrev pub both_of : EndSide → EndSide → EndSide
both_of v w = Both (list_of v) (list_of w)

-- the rule for one end, if `sent` was sent and `got` was received
abbrev pub SitsAtEnd : ℕ → ℕ → List Message → List Message → ℕ → EndSide → Type 0
SitsAtEnd sender receiver sent got seat (Both xs ys) =
    (seat ≡ sender) × (seat ≡ receiver) × (xs ≡ sent) × (ys ≡ got)
SitsAtEnd sender receiver sent got seat (Sends xs) = (seat ≡ sender) × (xs ≡ sent)
SitsAtEnd sender receiver sent got seat (Gets ys) = (seat ≡ receiver) × (ys ≡ got)
SitsAtEnd sender receiver sent got seat Spent = Unit {0}

-- the messages received, and then those in the pipe, are those sent
abbrev pub IsInOrder : List Message → List EndSide → Type 0
IsInOrder items views =
    (sender receiver : ℕ) × (sent got : List Message) × (got ++ items ≡ sent)
    × (weigh sent ≤ byte_limit)
    × ((seat : ℕ) (v : EndSide) → get_elem? views seat ≡ some v
    → SitsAtEnd sender receiver sent got seat v)

-- one more message was sent
abbrev pub HasSent : EndSide → Message → EndSide → Type 0
HasSent v x w = w ≡ Sends (list_of v ++ x ∷ [])

-- one more message was received
abbrev pub HasGot : EndSide → Message → EndSide → Type 0
HasGot v x w = (w ≡ Gets (list_of v ++ x ∷ [])) × (weigh (list_of v ++ x ∷ []) ≤ byte_limit)

-- the messages received are a beginning of those sent
abbrev pub HasOrder : EndSide → List Message → Type 0
HasOrder (Both xs ys) items = ys ++ items ≡ xs
HasOrder (Sends xs) items = Unit {0}
HasOrder (Gets ys) items = Unit {0}
HasOrder Spent items = Unit {0}
