-- Worked examples: what a machine replies to actions, and the states that they lead to.
use Rattle.std.specs.Prelude.{◌≡◌, ℕ, true, false, List, [], ◌∷◌, ◌++◌, map, take, replicate, codes, Option, Some, None, option_map}
use Rattle.std.specs.List.{range_with_len}
use Rattle.heap_class.specs.declared.IdSize.TheVariants.{Eight}
use Rattle.heap_class.specs.declared.Kind.{Kind}
use Rattle.heap_class.specs.declared.Kind.TheVariants.{Int, Long}
use Rattle.heap_class.specs.declared.ObjKind.TheVariants.{Instance, Prim}
use Rattle.heap_class.specs.declared.Field.{Field}
use Rattle.heap_class.specs.declared.Refusal.{Refusal}
use Rattle.heap_class.specs.declared.Refusal.TheVariants.{NoClass, BadName, DuplicateName, NullRegister, BadSlot, WrongKind, OutOfRange, TooLarge, HeapFull, AlreadyMarking, NothingToMark, NothingToDrain, NotDone, SweepPending, NothingToSweep, TooFar}
use Rattle.heap_class.specs.Classes.{instance_class}
use Rattle.heap_world.specs.Regions.{InUse, object_of}
use Rattle.heap_world.specs.Phase.TheVariants.{Idle}
use Rattle.heap_world.specs.Limits.{narrow_limits}
use Rattle.heap_world.specs.State.{HeapState}
use Rattle.heap_step.specs.declared.Event.{Event}
use Rattle.heap_step.specs.declared.Event.TheVariants.{New, NewPrim, Load, Store, Put, Clear, Snap, Mark, Drain, Finish, Sweep}
use Rattle.heap_step.specs.declared.Answer.{Answer}
use Rattle.heap_step.specs.declared.Answer.TheVariants.{Object as Made, Value, Done, Pushed, Condemned, Swept}
use Rattle.heap_trail.specs.declared.Action.{Action}
use Rattle.heap_trail.specs.declared.Action.TheVariants.{Step, Rewind}
use Rattle.heap_trail.specs.declared.Reply.{Reply}
use Rattle.heap_trail.specs.declared.Reply.TheVariants.{Answered, Place, Refused}
use Rattle.heap_trail.specs.Machine.{Machine, opening_machine, acted}

-- ---- scripts

-- actions, each with the reply to it
abbrev pub Script : Type 0
Script = List (Action × Reply)

-- the machine after the script's actions, none of which fails for lack of memory
unfoldable pub machine_at_end : Machine → Script → Machine
machine_at_end m [] = m
machine_at_end m (l ∷ ls) = machine_at_end (acted m l.0).0 ls

-- the machine's replies to the actions
unfoldable pub replies_to : Machine → Script → List Reply
replies_to m [] = []
replies_to m (l ∷ ls) = let r = acted m l.0 in r.1 ∷ replies_to r.0 ls

-- a machine with this number of regions that keeps this number of records, with the registers of two mutators
abbrev pub fresh_machine : ℕ → ℕ → Machine
fresh_machine regions keep = opening_machine narrow_limits Eight regions 2 keep

-- such a machine replies as the script says
abbrev pub RepliesAs : ℕ → ℕ → Script → Type 0
RepliesAs regions keep script =
    replies_to (fresh_machine regions keep) script ≡ map (λ l. l.1) script

-- the state to which the script leads from such a machine
abbrev pub end_state : ℕ → ℕ → Script → HeapState
end_state regions keep script = (machine_at_end (fresh_machine regions keep) script).trail.current

-- a line of a script: an event and its answer
abbrev pub does : Event → Answer → Action × Reply
does e a = (Step e, Answered a)

-- a line of a script: an event and the refusal that it meets
abbrev pub refuses : Event → Refusal → Action × Reply
refuses e r = (Step e, Refused r)

-- a line of a script: a rewind of n steps and the place that it leads to
abbrev pub rewinds : ℕ → ℕ → Action × Reply
rewinds n place = (Rewind n, Place place)

-- ---- two classes

-- the fields of a point: two numbers of 32 bits
abbrev pub point_fields : List Field
point_fields =
    record { name = codes "x"; kind = Int } ∷ record { name = codes "y"; kind = Int } ∷ []

-- the event that defines the class Point
abbrev pub point : Event
point = Event.Class (codes "Point") None point_fields

-- the fields of a node: a reference and a number of 64 bits
abbrev pub node_fields : List Field
node_fields =
    record { name = codes "next"; kind = Kind.Object } ∷ record { name = codes "v"; kind = Long }
    ∷ []

-- the event that defines the class Node
abbrev pub node : Event
node = Event.Class (codes "Node") None node_fields

-- the first lines of a script: the event defines a class, and two instances of it go to the first registers
abbrev pub two_of : Event → Script
two_of class =
    does class (Answer.Class 0)
    ∷ does (New 0 0 0) (Made 0x10000000)
    ∷ does (New 0 1 0) (Made 0x10000020)
    ∷ []

-- ---- regions and cells

-- one region holds one array of 1,024 elements
abbrev pub LimitsOfOneRegion : Type 0
LimitsOfOneRegion = RepliesAs 1 1024
    (does (NewPrim 0 0 Long 1024) (Made 0x10000000)
    ∷ refuses (NewPrim 0 1 Long 1025) TooLarge
    ∷ refuses (NewPrim 0 1 Long 1024) HeapFull
    ∷ [])

-- an object goes to the lowest region with a free cell of its size, and opens a region only if there is none
abbrev pub LowestRegionFirst : Type 0
LowestRegionFirst = RepliesAs 2 1024
    (does node (Answer.Class 0)
    ∷ does (NewPrim 0 0 Long 5) (Made 0x10000000)
    ∷ does (New 0 1 0) (Made 0x10002000)
    ∷ does (NewPrim 0 2 Long 6) (Made 0x10000080)
    ∷ refuses (NewPrim 0 3 Long 17) HeapFull
    ∷ rewinds 1 3
    ∷ does (NewPrim 0 3 Int 16) (Made 0x10000080)
    ∷ [])

-- a rewind gives cells back
abbrev pub RewindGivesBackCells : Type 0
RewindGivesBackCells = RepliesAs 16 1024
    (two_of point
    ++ rewinds 2 1
    ∷ does (New 0 0 0) (Made 0x10000000)
    ∷ [])

-- ---- rewinds and what is kept

-- a machine that keeps one record rewinds one step, and no second one
abbrev pub KeepOne : Type 0
KeepOne = RepliesAs 16 1
    (two_of point
    ++ (Rewind 2, Refused (TooFar 2 1))
    ∷ rewinds 1 2
    ∷ does (New 0 2 0) (Made 0x10000020)
    ∷ rewinds 0 3
    ∷ [])

-- a rewind of more steps than are retained is refused
abbrev pub RewindTooFar : Type 0
RewindTooFar = RepliesAs 16 3
    (does (Clear 0 0) Done
    ∷ does (Clear 0 0) Done
    ∷ does (Clear 0 0) Done
    ∷ does (Clear 0 0) Done
    ∷ rewinds 3 1
    ∷ (Rewind 1, Refused (TooFar 1 0))
    ∷ [])

-- ---- refusals

-- events of classes and of mutators, each with the refusal that its error meets
abbrev pub RefusalsOfMutators : Type 0
RefusalsOfMutators = RepliesAs 16 1024
    (refuses
    (Event.Class (codes "A") None
    (record { name = codes "x"; kind = Int } ∷ record { name = codes "x"; kind = Int } ∷ []))
    DuplicateName
    ∷ refuses (Event.Class (codes "a+b") None []) BadName
    ∷ refuses (Event.Class (codes "A") (Some 3) []) NoClass
    ∷ does point (Answer.Class 0)
    ∷ does (New 0 0 0) (Made 0x10000000)
    ∷ refuses (Put 0 0 0 4294967296) OutOfRange
    ∷ refuses (Load 0 1 0 2) BadSlot
    ∷ refuses (Load 0 1 1 0) NullRegister
    ∷ refuses (Store 0 0 0 1) WrongKind
    ∷ does (Put 0 0 1 5) Done
    ∷ does (Load 0 1 0 1) (Value 5)
    ∷ [])

-- ---- marking

-- a finish is refused while the log is undrained, and while a region is yet to be swept
abbrev pub FinishRefusedUntilReady : Type 0
FinishRefusedUntilReady = RepliesAs 16 1024
    (two_of node
    ++ does (NewPrim 0 2 Long 5) (Made 0x10002000)
    ∷ does (Store 0 0 0 1) Done
    ∷ does Snap (Pushed 3)
    ∷ does (Store 0 0 0 0) Done
    ∷ does (Store 0 0 0 1) Done
    ∷ does Mark (Pushed 0)
    ∷ does Mark (Pushed 0)
    ∷ does Mark (Pushed 0)
    ∷ refuses Finish (NotDone 0 2)
    ∷ does Drain (Pushed 0)
    ∷ does Drain (Pushed 0)
    ∷ does Finish (Condemned 0)
    ∷ does (Sweep 0) (Swept false 0)
    ∷ does Snap (Pushed 3)
    ∷ does Mark (Pushed 0)
    ∷ does Mark (Pushed 0)
    ∷ does Mark (Pushed 0)
    ∷ refuses Finish (SweepPending 1)
    ∷ [])

-- a cycle begins with one node in a register, which names another
abbrev pub two_nodes_snapped : Script
two_nodes_snapped =
    two_of node
    ++ does (Store 0 0 0 1) Done
    ∷ does (Clear 0 1) Done
    ∷ does Snap (Pushed 1)
    ∷ []

-- a drain that is undone can be done again, and marks and drains have refusals of their own
abbrev pub MarkAndDrainRewound : Type 0
MarkAndDrainRewound = RepliesAs 16 1024
    (two_nodes_snapped
    ++ does (Store 0 0 0 2) Done
    ∷ does Mark (Pushed 0)
    ∷ refuses Mark NothingToMark
    ∷ does Drain (Pushed 1)
    ∷ rewinds 1 8
    ∷ does Drain (Pushed 1)
    ∷ does Mark (Pushed 0)
    ∷ refuses Snap AlreadyMarking
    ∷ [])

-- a mark that is undone makes its object gray again
abbrev pub MarkUndonePushesBack : Type 0
MarkUndonePushesBack = RepliesAs 16 1024
    (two_nodes_snapped
    ++ does Mark (Pushed 1)
    ∷ rewinds 1 6
    ∷ does Mark (Pushed 1)
    ∷ refuses Drain NothingToDrain
    ∷ [])

-- the cells of dead objects are used again, the highest first
abbrev pub SweepOrderAndReuse : Type 0
SweepOrderAndReuse = RepliesAs 16 1024
    (two_of point
    ++ does (New 0 2 0) (Made 0x10000040)
    ∷ does (Clear 0 0) Done
    ∷ does (Clear 0 1) Done
    ∷ does Snap (Pushed 1)
    ∷ does Mark (Pushed 0)
    ∷ does Finish (Condemned 2)
    ∷ does (New 0 3 0) (Made 0x10000060)
    ∷ does (Sweep 0) (Swept false 2)
    ∷ does (New 0 4 0) (Made 0x10000020)
    ∷ rewinds 1 11
    ∷ does (New 0 4 0) (Made 0x10000020)
    ∷ does (New 0 5 0) (Made 0x10000000)
    ∷ refuses (Sweep 0) (NothingToSweep 0)
    ∷ [])

-- ---- a swept region is used again, and all of it rewound

-- a cycle condemns a node, whose region is swept and used for an array; then three steps are rewound
abbrev pub swept_and_rewound : Script
swept_and_rewound =
    does node (Answer.Class 0)
    ∷ does (New 0 0 0) (Made 0x10000000)
    ∷ does (NewPrim 0 1 Long 5) (Made 0x10002000)
    ∷ does (Clear 0 0) Done
    ∷ does Snap (Pushed 1)
    ∷ does Mark (Pushed 0)
    ∷ does Finish (Condemned 1)
    ∷ does Snap (Pushed 1)
    ∷ does (Sweep 0) (Swept true 1)
    ∷ does (NewPrim 0 0 Long 17) (Made 0x10000000)
    ∷ rewinds 3 7
    ∷ []

-- the condemned node is in its cell of 4 words, the array lives, and both regions are pending
abbrev pub node_condemned : HeapState
node_condemned = record {
  limits = narrow_limits;
  classes = instance_class (codes "Node") None node_fields ∷ [];
  regions =
      InUse
      (record {
        cell_size = 4;
        pending = true;
        cells = Some (record { kind = Instance 0; words = 0 ∷ 0 ∷ []; live = false; mark = false })
            ∷ replicate 255 None;
        free = range_with_len 1 255;
      })
      ∷ InUse
      (record {
        cell_size = 16;
        pending = true;
        cells = Some (record { kind = Prim Long; words = replicate 5 0; live = true; mark = false })
            ∷ replicate 63 None;
        free = range_with_len 1 63;
      })
      ∷ [];
  pool = [];
  area_start = 2;
  registers = 0 ∷ 0x10002000 ∷ replicate 14 0;
  gray = [];
  log = [];
  drained = 0;
  phase = Idle;
}

-- the rewind of a sweep restores the condemned node in its region
abbrev pub SweepAndReuseRewound : Type 0
SweepAndReuseRewound =
    RepliesAs 2 1024 swept_and_rewound × (end_state 2 1024 swept_and_rewound ≡ node_condemned)

-- ---- the barrier

-- stores while a cycle runs: into a node of itself, and of it into a second, which then names itself
abbrev pub stores_logged : Script
stores_logged =
    does node (Answer.Class 0)
    ∷ does (New 0 0 0) (Made 0x10000000)
    ∷ does Snap (Pushed 1)
    ∷ does (Store 0 0 0 1) Done
    ∷ does (Store 0 0 0 0) Done
    ∷ does (Store 0 0 0 0) Done
    ∷ does (New 0 1 0) (Made 0x10000020)
    ∷ does (Store 0 1 0 0) Done
    ∷ does (Store 0 1 0 1) Done
    ∷ rewinds 1 8
    ∷ rewinds 3 5
    ∷ rewinds 2 3
    ∷ []

-- the log after the first n lines
abbrev pub log_after : ℕ → List ℕ
log_after n = (end_state 16 1024 (take n stores_logged)).log

-- the words of an object after the first n lines
abbrev pub words_after : ℕ → ℕ → Option (List ℕ)
words_after n x =
    option_map (λ o. o.words) (object_of (end_state 16 1024 (take n stores_logged)).regions x)

-- the log has the old value of each store that overwrote a reference, and a rewind takes it out again
pub record BarrierLogsOldValues : Type 0 where
  pub replies : RepliesAs 16 1024 stores_logged
  pub null_overwritten : log_after 4 ≡ []
  pub null_again : log_after 5 ≡ []
  pub itself_overwritten : log_after 6 ≡ 0x10000000 ∷ []
  pub second_null : log_after 8 ≡ 0x10000000 ∷ []
  pub second_overwritten : log_after 9 ≡ 0x10000000 ∷ 0x10000000 ∷ []
  pub rewound_one : (log_after 10 ≡ 0x10000000 ∷ [])
      × (words_after 10 0x10000020 ≡ Some (0x10000000 ∷ 0 ∷ []))
  pub rewound_three : (log_after 11 ≡ []) × (words_after 11 0x10000000 ≡ Some (0x10000000 ∷ 0 ∷ []))
  pub rewound_two : (log_after 12 ≡ []) × (words_after 12 0x10000000 ≡ Some (0 ∷ 0 ∷ []))
