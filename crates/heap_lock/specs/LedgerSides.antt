-- A ledger: one side has all calls, and any number of sides the first ones.
use Rattle.std.specs.Prelude.{◌≡◌, ℕ, List, [], ◌∷◌, ◌++◌}
use mathlib.Core.Option.{some}
use mathlib.Core.List.{IsPrefix}
use lib.ListN.{get_elem?}
use Rattle.atomic_table.specs.Table.{Me}
use Rattle.heap_lock.specs.declared.ledger_side.LedgerSide.{LedgerSide}
use Rattle.heap_lock.specs.declared.ledger_side.LedgerSide.TheVariants.{Full, Seen, Both, NoCalls}
use Rattle.heap_lock.specs.Calls.{Call}

-- the calls of a side
abbrev pub calls_of : LedgerSide → List Call
calls_of (Full xs) = xs
calls_of (Seen ys) = ys
calls_of (Both xs ys) = xs
calls_of NoCalls = []

-- the same calls, as a full side
abbrev pub full_of : LedgerSide → LedgerSide
full_of v = Full (calls_of v)

-- the same calls, as seen
abbrev pub seen_of : LedgerSide → LedgerSide
seen_of v = Seen (calls_of v)

-- the calls of two sides beside each other
abbrev pub both_sides : LedgerSide → LedgerSide → LedgerSide
both_sides v w = Both (calls_of v) (calls_of w)

-- what the rule says of the side of one seat
abbrev pub IsLedgerSide : ℕ → List Call → ℕ → LedgerSide → Type 0
IsLedgerSide own all seat (Full xs) = (seat ≡ own) × (xs ≡ all)
IsLedgerSide own all seat (Seen ys) = IsPrefix ys all
IsLedgerSide own all seat (Both xs ys) = (seat ≡ own) × (xs ≡ all) × IsPrefix ys all
IsLedgerSide own all seat NoCalls = Unit {0}

-- one side has all calls, and each other one a beginning of them or nothing
abbrev pub IsOneLedger : List LedgerSide → Type 0
IsOneLedger views =
    (own : ℕ) × (all : List Call)
    × ((seat : ℕ) (v : LedgerSide) → get_elem? views seat ≡ some v → IsLedgerSide own all seat v)

-- the call is added to all calls
abbrev pub IsGained : Call → LedgerSide → LedgerSide → Type 0
IsGained call (Full xs) w = w ≡ Full (xs ++ call ∷ [])
IsGained call (Seen ys) w = Unit {0}
IsGained call (Both xs ys) w = Unit {0}
IsGained call NoCalls w = Unit {0}

-- the side after a call is added; the seat holds the same slots
abbrev pub Added : Call → Me (Unit {0}) LedgerSide → Me (Unit {0}) LedgerSide → Type 0
Added call m n = IsGained call m.0 n.0 × (n.1 ≡ m.1)

-- what was seen begins all calls
abbrev pub IsCompared : LedgerSide → LedgerSide → Type 0
IsCompared (Both xs ys) w = IsPrefix ys xs × (w ≡ Full xs)
IsCompared (Full xs) w = Unit {0}
IsCompared (Seen ys) w = Unit {0}
IsCompared NoCalls w = Unit {0}

-- the side after the two lists are compared; the seat holds the same slots
abbrev pub Compared : Me (Unit {0}) LedgerSide → Me (Unit {0}) LedgerSide → Type 0
Compared m n = IsCompared m.0 n.0 × (n.1 ≡ m.1)
