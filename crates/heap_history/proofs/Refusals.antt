-- A refusal is known by its number and its details.
use Rattle.std.proofs.Common.{◌≡◌, refl, sym, ◌∙◌}
use Rattle.heap_class.specs.declared.LostCause.TheVariants.{Rewound, Memory, Closed}
use Rattle.heap_class.specs.declared.Refusal.{Refusal}
use Rattle.heap_class.specs.declared.Refusal.TheVariants.{NoMemory, NoClass, ClassLimit, BadName, DuplicateName, FieldLimit, BadRegister, NullRegister, BadSlot, WrongKind, OutOfRange, TooLarge, HeapFull, AlreadyMarking, NotMarking, NothingToMark, NothingToDrain, NotDone, SweepPending, NothingToSweep, TooFar, NoPin, Lost, NotRetained, PinLimit, ChronicleFull}
use Rattle.heap_class.specs.Table.{refusal_number}
use Rattle.heap_history.specs.Details.{cause_from, details_of, refusal_from}

pub refusal_back_from_its_number : (r : Refusal) → refusal_from (refusal_number r) (details_of r).0 (details_of r).1 ≡ r
unfolding refusal_from cause_from
refusal_back_from_its_number NoMemory = refl
refusal_back_from_its_number NoClass = refl
refusal_back_from_its_number ClassLimit = refl
refusal_back_from_its_number BadName = refl
refusal_back_from_its_number DuplicateName = refl
refusal_back_from_its_number FieldLimit = refl
refusal_back_from_its_number BadRegister = refl
refusal_back_from_its_number NullRegister = refl
refusal_back_from_its_number BadSlot = refl
refusal_back_from_its_number WrongKind = refl
refusal_back_from_its_number OutOfRange = refl
refusal_back_from_its_number TooLarge = refl
refusal_back_from_its_number HeapFull = refl
refusal_back_from_its_number AlreadyMarking = refl
refusal_back_from_its_number NotMarking = refl
refusal_back_from_its_number NothingToMark = refl
refusal_back_from_its_number NothingToDrain = refl
refusal_back_from_its_number (NotDone gray undrained) = refl
refusal_back_from_its_number (SweepPending region) = refl
refusal_back_from_its_number (NothingToSweep region) = refl
refusal_back_from_its_number (TooFar asked retained) = refl
refusal_back_from_its_number NoPin = refl
refusal_back_from_its_number (Lost Rewound) = refl
refusal_back_from_its_number (Lost Memory) = refl
refusal_back_from_its_number (Lost Closed) = refl
refusal_back_from_its_number NotRetained = refl
refusal_back_from_its_number PinLimit = refl
refusal_back_from_its_number ChronicleFull = refl

pub one_refusal : (a b : Refusal) → refusal_number a ≡ refusal_number b → details_of a ≡ details_of b → a ≡ b
one_refusal a b n d = sym (refusal_back_from_its_number a) ∙ (λ i. refusal_from (n i) (d i).0 (d i).1) ∙ refusal_back_from_its_number b
