-- Receipts against a chronicle.
use Rattle.std.specs.Prelude.{◌≡◌, ℕ, ◌-◌, ◌<◌, List, [], ◌∷◌, slice_get, IsTrue, Some}
use Rattle.heap_trail.specs.declared.Action.{Action}
use Rattle.heap_history.specs.declared.audits.Verdict.{Verdict}
use Rattle.heap_history.specs.declared.audits.Verdict.TheVariants.{Holds, Fails, Dropped}
use Rattle.heap_history.specs.declared.entry.Entry.{Entry}
use Rattle.heap_history.specs.declared.receipt.Receipt.{Receipt}
use Rattle.heap_history.specs.History.{entry}
use Rattle.heap_history.specs.Kept.{is_known_at}

-- the receipt names an entry, with this action
abbrev pub NamesEntry : List Entry → Action → Receipt → Type 0
NamesEntry es action r =
    (0 < r.turn) × (slice_get es (r.turn - 1) ≡ Some (entry r.seat action r.answer))

-- turns rise, from above `last`, and each receipt names an entry with the action beside it
abbrev pub Audits : List Entry → ℕ → List (Action × Receipt) → Type 0
Audits es last [] = Unit {0}
Audits es last (c ∷ cs) = (last < c.1.turn) × NamesEntry es c.0 c.1 × Audits es c.1.turn cs

-- if this number of entries was dropped: the entry of this turn is kept, or there is none
abbrev pub IsKnownTurn : ℕ → List Entry → ℕ → Type 0
IsKnownTurn dropped es turn = IsTrue (is_known_at dropped es (turn - 1))

-- as `Audits`, but a receipt whose entry was dropped or isn't kept may name any
abbrev pub AuditsKept : ℕ → List Entry → ℕ → List (Action × Receipt) → Type 0
AuditsKept dropped es last [] = Unit {0}
AuditsKept dropped es last (c ∷ cs) =
    (last < c.1.turn) × (IsKnownTurn dropped es c.1.turn → NamesEntry es c.0 c.1)
    × AuditsKept dropped es c.1.turn cs

-- no receipt is that of an entry that was dropped or isn't kept
abbrev pub AllAreKept : ℕ → List Entry → List (Action × Receipt) → Type 0
AllAreKept dropped es [] = Unit {0}
AllAreKept dropped es (c ∷ cs) = IsKnownTurn dropped es c.1.turn × AllAreKept dropped es cs

-- the verdict on receipts, if this number of entries was dropped
abbrev pub IsVerdict : ℕ → List Entry → List (Action × Receipt) → Verdict → Type 0
IsVerdict dropped es claims Holds = Audits es 0 claims × AllAreKept dropped es claims
IsVerdict dropped es claims Fails = AuditsKept dropped es 0 claims → ⊥
IsVerdict dropped es claims Dropped =
    AuditsKept dropped es 0 claims × (AllAreKept dropped es claims → ⊥)
