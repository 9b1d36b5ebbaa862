-- What the guard of a dump said.
use Rattle.std.specs.Prelude.{◌≡◌, ℕ, zero, suc, Bool, true, Option, Some, ⊤}
use Rattle.dump_pump.specs.declared.transfer.Pumped.{Pumped}
use Rattle.dump_pump.specs.declared.transfer.Pumped.TheVariants.{Done, OutletFailed, Lost, Cancelled}

-- a guard was asked this many times, one after another, whatever it said
abbrev pub WasAsked : {G : Type 0} → (G → Bool → G → Type 0) → G → ℕ → G → Type 0
WasAsked says before zero after = after ≡ before
WasAsked says before (suc n) after =
    (between : _) × WasAsked says before n between × (over : Bool) × says between over after

-- it said once that the dump has to end
abbrev pub SaidOver : {G : Type 0} → (G → Bool → G → Type 0) → G → G → Type 0
SaidOver says before after =
    (earlier : ℕ) × (asked : _) × WasAsked says before earlier asked
    × (told : _) × says asked true told
    × (later : ℕ) × WasAsked says told later after

-- a guard that began so said it
abbrev pub SaidSince : {G : Type 0} → (G → Bool → G → Type 0) → Option G → G → Type 0
SaidSince says start guard = (first : _) × (start ≡ Some first) × SaidOver says first guard

-- a guard that began so was asked, and the meter's asker asked only if it said that the dump has to end
abbrev pub IsAsking : {G : Type 0} → (G → Bool → G → Type 0) → Option G → G → Bool → Type 0
IsAsking says start guard asked =
    (first : _) × (start ≡ Some first) × ((n : ℕ) × WasAsked says first n guard)
    × (asked ≡ true → SaidOver says first guard)

-- a dump is cancelled only if this holds
abbrev pub IsCancelledOnlyIf : Type 0 → Pumped → Type 0
IsCancelledOnlyIf P (Cancelled n) = P
IsCancelledOnlyIf P (Done n) = ⊤
IsCancelledOnlyIf P (OutletFailed n) = ⊤
IsCancelledOnlyIf P (Lost cause n) = ⊤
