-- Texts that grow.
use Rattle.std.specs.Prelude.{◌≡◌, ◌++◌, ℕ, List, Result, IfErr, IfOk, OnOk}
use Rattle.std.specs.Global.{Vec}
use Rattle.std.specs.declared.alloc.AllocError.{AllocError}
use Rattle.heap_class.specs.declared.Refusal.{Refusal}
use Rattle.heap_class.specs.declared.Refusal.TheVariants.{NoMemory}

-- these bytes were appended, unless an allocation failed
abbrev pub Appends : {A : Type 0} → List ℕ → List ℕ → List ℕ → Result A AllocError → Type 0
Appends bytes old new result = OnOk result (new ≡ old ++ bytes)

-- a text of this kind was returned, unless an allocation failed
abbrev pub ReturnsText : (List ℕ → Type 0) → Result (Vec ℕ) Refusal → Type 0
ReturnsText Is result = IfOk result (λ text. Is text.items) × IfErr result (λ e. e ≡ NoMemory)
