-- Worked examples of pins, arrays, and allocations that fail.
use Rattle.std.specs.Prelude.{◌≡◌, ℕ, true, false, Bool, List, [], ◌∷◌, ◌++◌, length, map, replicate, codes, Some, None}
use Rattle.heap_class.specs.declared.LostCause.TheVariants.{Rewound, Memory}
use Rattle.heap_class.specs.declared.Refusal.TheVariants.{NoMemory, NoPin, NotRetained, PinLimit}
use Rattle.heap_class.specs.declared.Refusal.TheVariants.{Lost as IsLost}
use Rattle.heap_step.specs.declared.Event.TheVariants.{ArrayClass, New, NewArray, Load, Store, Put, Move, Clear}
use Rattle.heap_step.specs.declared.Answer.{Answer}
use Rattle.heap_step.specs.declared.Answer.TheVariants.{Object as Made, Null, Done}
use Rattle.heap_trail.specs.declared.Action.{Action}
use Rattle.heap_trail.specs.declared.Action.TheVariants.{Step, Rewind, OpenPin, NextPiece, ClosePin}
use Rattle.heap_trail.specs.declared.Reply.{Reply}
use Rattle.heap_trail.specs.declared.Reply.TheVariants.{Answered, Place, Pinned, Part, Closed, Refused}
use Rattle.heap_trail.specs.Pins.{Gone, pin_at}
use Rattle.heap_trail.specs.Machine.{Allocation, Granted, Denied, LosesPins, AreAllocations, machine_after, replies_of}
use Rattle.heap_trail.specs.Examples.{Script, RepliesAs, fresh_machine, machine_at_end, does, rewinds, point, node}

-- a line of a script: the next piece of a pin's dump, asked for with time 0
abbrev pub gives : ℕ → List ℕ → Bool → Action × Reply
gives pin bytes last = (NextPiece pin 0, Part (record { bytes = bytes; last = last }))

-- ---- a dump of 301 bytes

-- the header: 8 bytes an id, time 0
abbrev pub header_bytes : List ℕ
header_bytes = codes "JAVA PROFILE 1.0.2" ++ replicate 4 0 ++ 8 ∷ replicate 8 0

-- the one stack trace, without frames
abbrev pub trace_bytes : List ℕ
trace_bytes = 5 ∷ replicate 7 0 ++ 12 ∷ replicate 3 0 ++ 1 ∷ replicate 8 0

-- the names Point, x and y, with the ids 1, 2 and 3
abbrev pub name_bytes : List ℕ
name_bytes =
    (1 ∷ replicate 7 0 ++ 13 ∷ replicate 7 0 ++ 1 ∷ codes "Point")
    ++ (1 ∷ replicate 7 0 ++ 9 ∷ replicate 7 0 ++ 2 ∷ codes "x")
    ++ (1 ∷ replicate 7 0 ++ 9 ∷ replicate 7 0 ++ 3 ∷ codes "y")

-- the class is loaded: serial 1, id 0x100000, trace 1, name 1
abbrev pub load_bytes : List ℕ
load_bytes =
    2 ∷ replicate 7 0 ++ 24 ∷ replicate 3 0 ++ 1 ∷ replicate 5 0 ++ 0x10 ∷ replicate 5 0
    ++ 1 ∷ replicate 7 0 ++ 1 ∷ []

-- the class dump: trace 1, no super and no others, instance size 8, fields x and y of type int
abbrev pub class_bytes : List ℕ
class_bytes =
    0x20 ∷ replicate 5 0 ++ 0x10 ∷ replicate 5 0 ++ 1 ∷ replicate 51 0
    ++ 8 ∷ replicate 5 0 ++ 2 ∷ replicate 7 0 ++ 2 ∷ 10 ∷ replicate 7 0 ++ 3 ∷ 10 ∷ []

-- the class is a sticky root, the instance 0x10000000 has the values 7 and 0, and a register names it
abbrev pub object_bytes : List ℕ
object_bytes =
    (5 ∷ replicate 5 0 ++ 0x10 ∷ replicate 2 0)
    ++ (0x21 ∷ replicate 4 0 ++ 0x10 ∷ replicate 6 0 ++ 1 ∷ replicate 5 0 ++ 0x10
    ∷ replicate 5 0 ++ 8 ∷ replicate 3 0 ++ 7 ∷ replicate 4 0)
    ++ (0xff ∷ replicate 4 0 ++ 0x10 ∷ replicate 3 0)

-- the pieces of the dump: all before the segment; the segment, of 140 bytes; and the end
abbrev pub first_bytes : List ℕ
first_bytes = header_bytes ++ name_bytes ++ load_bytes ++ trace_bytes

abbrev pub segment_bytes : List ℕ
segment_bytes = 0x1c ∷ replicate 7 0 ++ 140 ∷ class_bytes ++ object_bytes

abbrev pub end_bytes : List ℕ
end_bytes = 0x2c ∷ replicate 8 0

-- a pin on a point gives its dump while the point is overwritten, then nothing, and is closed
abbrev pub PinGivesItsDump : Type 0
PinGivesItsDump = RepliesAs 1 1024
    (does point (Answer.Class 0)
    ∷ does (New 0 0 0) (Made 0x10000000)
    ∷ does (Put 0 0 0 7) Done
    ∷ (OpenPin None, Pinned 1 3)
    ∷ gives 1 first_bytes false
    ∷ does (Put 0 0 0 8) Done
    ∷ does (Clear 0 0) Done
    ∷ gives 1 segment_bytes false
    ∷ gives 1 end_bytes true
    ∷ gives 1 [] true
    ∷ (ClosePin 1, Closed)
    ∷ (NextPiece 1 0, Refused NoPin)
    ∷ [])

-- it has 301 bytes
abbrev pub DumpIsOf301 : Type 0
DumpIsOf301 = length (first_bytes ++ segment_bytes ++ end_bytes) ≡ 301

-- ---- pins that are lost, and the limits of pins

-- pins on the places 1 and 0, and a rewind to place 0
abbrev pub above_and_below : Script
above_and_below =
    does (Clear 0 0) Done
    ∷ (OpenPin None, Pinned 1 1)
    ∷ (OpenPin (Some 0), Pinned 2 0)
    ∷ rewinds 1 0
    ∷ (NextPiece 1 0, Refused (IsLost Rewound))
    ∷ gives 2 (header_bytes ++ trace_bytes) false
    ∷ gives 2 end_bytes true
    ∷ []

-- a rewind loses the pin above, and no other
pub record RewindLosesPin : Type 0 where
  pub replies : RepliesAs 1 1024 above_and_below
  pub lost : pin_at 1 (machine_at_end (fresh_machine 1 1024) above_and_below).pins
      ≡ Some (Gone 1 Rewound)

-- in a heap that isn't wide four pins may be open, each on a retained place, and a number is used once
abbrev pub FourPinsOpen : Type 0
FourPinsOpen = RepliesAs 1 1
    (does (Clear 0 0) Done
    ∷ does (Clear 0 0) Done
    ∷ (OpenPin (Some 0), Refused NotRetained)
    ∷ (OpenPin None, Pinned 1 2)
    ∷ (OpenPin (Some 1), Pinned 2 1)
    ∷ (OpenPin None, Pinned 3 2)
    ∷ (OpenPin None, Pinned 4 2)
    ∷ (OpenPin None, Refused PinLimit)
    ∷ (ClosePin 2, Closed)
    ∷ (OpenPin None, Pinned 5 2)
    ∷ (ClosePin 2, Refused NoPin)
    ∷ [])

-- ---- allocations that fail

-- actions with their allocations and the replies to them: a class, a pin and a piece that get no memory, then all three; a step
-- that loses the pin; and a rewind, which doesn't change the cause
abbrev pub starved : List (Action × Allocation × Reply)
starved =
    (Step point, Denied, Refused NoMemory)
    ∷ (Step point, Granted, Answered (Answer.Class 0))
    ∷ (Step (New 0 0 0), Granted, Answered (Made 0x10000000))
    ∷ (OpenPin None, Denied, Refused NoMemory)
    ∷ (OpenPin None, Granted, Pinned 1 2)
    ∷ (NextPiece 1 0, Denied, Refused NoMemory)
    ∷ (NextPiece 1 0, Granted, Part (record { bytes = first_bytes; last = false }))
    ∷ (Step (Put 0 0 0 7), LosesPins (1 ∷ []), Answered Done)
    ∷ (NextPiece 1 0, Granted, Refused (IsLost Memory))
    ∷ (Rewind 2, Granted, Place 1)
    ∷ (NextPiece 1 0, Granted, Refused (IsLost Memory))
    ∷ []

-- these actions, each with its allocation
abbrev pub starved_actions : List (Action × Allocation)
starved_actions = map (λ l. (l.0, l.1)) starved

-- the allocations are possible for the actions; an action that gets no memory changes nothing, and a lost pin keeps its cause
pub record StarvedPin : Type 0 where
  pub allocations : AreAllocations (fresh_machine 1 1024) starved_actions
  pub replies : replies_of (fresh_machine 1 1024) starved_actions ≡ map (λ l. l.2) starved
  pub lost : pin_at 1 (machine_after (fresh_machine 1 1024) starved_actions).pins
      ≡ Some (Gone 2 Memory)

-- ---- references

-- a node goes to an array of nodes, and is loaded from there
abbrev pub ReferencesLoaded : Type 0
ReferencesLoaded = RepliesAs 1 1024
    (does node (Answer.Class 0)
    ∷ does (ArrayClass (codes "Nodes")) (Answer.Class 1)
    ∷ does (New 0 0 0) (Made 0x10000000)
    ∷ does (NewArray 0 1 1 2) (Made 0x10000020)
    ∷ does (Store 0 1 1 0) Done
    ∷ does (Clear 0 0) Done
    ∷ does (Load 0 0 1 1) (Made 0x10000000)
    ∷ does (Load 0 2 1 0) Null
    ∷ does (Move 1 7 0 0) Done
    ∷ does (Load 1 0 7 0) Null
    ∷ rewinds 3 7
    ∷ does (Load 0 2 1 1) (Made 0x10000000)
    ∷ [])
