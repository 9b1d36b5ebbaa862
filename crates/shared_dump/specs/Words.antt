-- How dumps ended, in words.
use Rattle.std.specs.Prelude.{ℕ, List, Option, Some, None, Result, Ok, Err, codes, option_map}
use Rattle.heap_lock.specs.LostCause.{LostCause}
use Rattle.heap_lock.specs.LostCause.TheVariants as cause
use Rattle.heap_lock.specs.Refusal.{Refusal}
use Rattle.heap_lock.specs.Refusal.TheVariants as No
use Rattle.heap_lock.specs.RefusalTable.{refusal_name}
use Rattle.dump_pump.specs.declared.transfer.Pumped.{Pumped}
use Rattle.dump_pump.specs.declared.transfer.Pumped.TheVariants.{Done, OutletFailed, Lost, Cancelled}

-- the word of a cause
abbrev pub word_of_cause : LostCause → List ℕ
word_of_cause cause.Rewound = codes "Rewound"
word_of_cause cause.Memory = codes "Memory"
word_of_cause cause.Closed = codes "Closed"

-- a refused dump has the refusal's name, and a lost one its cause; one that was cut off has the cause that was found, if one was
abbrev pub word_of_dump : Result Pumped Refusal → Option LostCause → Option (List ℕ)
word_of_dump (Ok (Lost why n)) found = Some (word_of_cause why)
word_of_dump (Ok (Done n)) found = None
word_of_dump (Ok (OutletFailed n)) found = option_map word_of_cause found
word_of_dump (Ok (Cancelled n)) found = option_map word_of_cause found
word_of_dump (Err e) found = Some (refusal_name e)

-- the cause of the loss of a pin whose view is refused
abbrev pub cause_of_refusal : Refusal → LostCause
cause_of_refusal (No.Lost why) = why
cause_of_refusal e = cause.Closed
