-- A refusal by its number and what it says besides its name.
use Rattle.std.specs.Prelude.{ℕ, ◌==◌, if◌then◌else◌}
use Rattle.heap_class.specs.declared.LostCause.{LostCause}
use Rattle.heap_class.specs.declared.LostCause.TheVariants.{Rewound, Memory, Closed}
use Rattle.heap_class.specs.declared.Refusal.{Refusal}
use Rattle.heap_class.specs.declared.Refusal.TheVariants.{NoMemory, NoClass, ClassLimit, BadName, DuplicateName, FieldLimit, BadRegister, NullRegister, BadSlot, WrongKind, OutOfRange, TooLarge, HeapFull, AlreadyMarking, NotMarking, NothingToMark, NothingToDrain, NotDone, SweepPending, NothingToSweep, TooFar, NoPin, Lost, NotRetained, PinLimit, ChronicleFull}

-- the number of a cause
abbrev pub cause_number : LostCause → ℕ
cause_number Rewound = 0
cause_number Memory = 1
cause_number Closed = 2

-- its numbers, or 0
abbrev pub details_of : Refusal → ℕ × ℕ
details_of (NotDone gray undrained) = (gray, undrained)
details_of (SweepPending region) = (region, 0)
details_of (NothingToSweep region) = (region, 0)
details_of (TooFar asked retained) = (asked, retained)
details_of (Lost cause) = (cause_number cause, 0)
details_of r = (0, 0)

-- the cause of this number
unfoldable pub cause_from : ℕ → LostCause
cause_from n = if n == 0 then Rewound else if n == 1 then Memory else Closed

-- the refusal of this number with these details
unfoldable pub refusal_from : ℕ → ℕ → ℕ → Refusal
refusal_from n a b =
    if n == 1 then NoMemory
    else if n == 2 then NoClass
    else if n == 3 then ClassLimit
    else if n == 4 then BadName
    else if n == 5 then DuplicateName
    else if n == 6 then FieldLimit
    else if n == 7 then BadRegister
    else if n == 8 then NullRegister
    else if n == 9 then BadSlot
    else if n == 10 then WrongKind
    else if n == 11 then OutOfRange
    else if n == 12 then TooLarge
    else if n == 13 then HeapFull
    else if n == 14 then AlreadyMarking
    else if n == 15 then NotMarking
    else if n == 16 then NothingToMark
    else if n == 17 then NothingToDrain
    else if n == 18 then NotDone a b
    else if n == 19 then SweepPending a
    else if n == 20 then NothingToSweep a
    else if n == 21 then TooFar a b
    else if n == 22 then NoPin
    else if n == 23 then Lost (cause_from a)
    else if n == 24 then NotRetained
    else if n == 25 then PinLimit
    else ChronicleFull
