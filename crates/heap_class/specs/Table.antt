-- The numbers and names of refusals.
use Rattle.std.specs.Prelude.{ℕ, List, codes}
use Rattle.heap_class.specs.declared.Refusal.{Refusal}
use Rattle.heap_class.specs.declared.Refusal.TheVariants.{NoMemory, NoClass, ClassLimit, BadName, DuplicateName, FieldLimit, BadRegister, NullRegister, BadSlot, WrongKind, OutOfRange, TooLarge, HeapFull, AlreadyMarking, NotMarking, NothingToMark, NothingToDrain, NotDone, SweepPending, NothingToSweep, TooFar, NoPin, Lost, NotRetained, PinLimit, ChronicleFull}

-- the number of a refusal in replies
abbrev pub refusal_number : Refusal → ℕ
refusal_number NoMemory = 1
refusal_number NoClass = 2
refusal_number ClassLimit = 3
refusal_number BadName = 4
refusal_number DuplicateName = 5
refusal_number FieldLimit = 6
refusal_number BadRegister = 7
refusal_number NullRegister = 8
refusal_number BadSlot = 9
refusal_number WrongKind = 10
refusal_number OutOfRange = 11
refusal_number TooLarge = 12
refusal_number HeapFull = 13
refusal_number AlreadyMarking = 14
refusal_number NotMarking = 15
refusal_number NothingToMark = 16
refusal_number NothingToDrain = 17
refusal_number (NotDone gray undrained) = 18
refusal_number (SweepPending region) = 19
refusal_number (NothingToSweep region) = 20
refusal_number (TooFar asked retained) = 21
refusal_number NoPin = 22
refusal_number (Lost cause) = 23
refusal_number NotRetained = 24
refusal_number PinLimit = 25
refusal_number ChronicleFull = 26

-- the name of a refusal in replies
abbrev pub refusal_name : Refusal → List ℕ
refusal_name NoMemory = codes "NoMemory"
refusal_name NoClass = codes "NoClass"
refusal_name ClassLimit = codes "ClassLimit"
refusal_name BadName = codes "BadName"
refusal_name DuplicateName = codes "DuplicateName"
refusal_name FieldLimit = codes "FieldLimit"
refusal_name BadRegister = codes "BadRegister"
refusal_name NullRegister = codes "NullRegister"
refusal_name BadSlot = codes "BadSlot"
refusal_name WrongKind = codes "WrongKind"
refusal_name OutOfRange = codes "OutOfRange"
refusal_name TooLarge = codes "TooLarge"
refusal_name HeapFull = codes "HeapFull"
refusal_name AlreadyMarking = codes "AlreadyMarking"
refusal_name NotMarking = codes "NotMarking"
refusal_name NothingToMark = codes "NothingToMark"
refusal_name NothingToDrain = codes "NothingToDrain"
refusal_name (NotDone gray undrained) = codes "NotDone"
refusal_name (SweepPending region) = codes "SweepPending"
refusal_name (NothingToSweep region) = codes "NothingToSweep"
refusal_name (TooFar asked retained) = codes "TooFar"
refusal_name NoPin = codes "NoPin"
refusal_name (Lost cause) = codes "Lost"
refusal_name NotRetained = codes "NotRetained"
refusal_name PinLimit = codes "PinLimit"
refusal_name ChronicleFull = codes "ChronicleFull"
