-- What an act does to the chronicle.
use Rattle.std.specs.Prelude.{◌≡◌, ◌<◌, ◌≤◌, ◌⊎◌, [], ◌∷◌, ◌++◌, length}
use Rattle.heap_class.specs.declared.Refusal.{Refusal}
use Rattle.heap_class.specs.declared.Refusal.TheVariants.{NoMemory, ChronicleFull}
use Rattle.heap_history.specs.declared.entry.Entry.{Entry}
use Rattle.heap_history.specs.Chronicles.{ChronicleState}
use Rattle.heap_history.specs.Limits.{entry_limit}

-- the chronicle wasn't full, and gained the entry
abbrev pub IsEntered : Entry → ChronicleState → ChronicleState → Type 0
IsEntered e c c' =
    (c'.entries ≡ c.entries ++ e ∷ []) × (length c.entries < entry_limit c.rolls)
    × (c'.rolls ≡ c.rolls)

-- the chronicle gained nothing, and the refusal tells whether it is full
abbrev pub IsNotEntered : Refusal → ChronicleState → ChronicleState → Type 0
IsNotEntered r c c' =
    (((r ≡ NoMemory) × (length c.entries < entry_limit c.rolls))
    ⊎ ((r ≡ ChronicleFull) × (entry_limit c.rolls ≤ length c.entries)))
    × (c'.entries ≡ c.entries) × (c'.rolls ≡ c.rolls)
