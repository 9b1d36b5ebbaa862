-- The rule of a start's word, the steps of its seats, and their models in contracts.
use Rattle.std.specs.Prelude.{◌≡◌, ◌≢◌, ℕ, ◌≤◌, ◌==◌, Bool, true, false, not, List, length, slice_index, Option, Some, None, IfSome}
use mathlib.Core.Option.{some}
use lib.ListN.{get_elem?}
use Rattle.atomic_table.specs.Seated.{TableId}
use Rattle.atomic_table.specs.Table.{Me, Step}
use Rattle.dump_pipe.specs.declared.start_side.StartSide.{StartSide}
use Rattle.dump_pipe.specs.declared.start_side.StartSide.TheVariants.{Begins, Waits, Both, Spent}

-- a seat: its start, and what it was told
pub record StartState : Type 0 where
  pub start : TableId
  pub told : Option Bool

-- the seat of this start that was told this
abbrev pub was_told : TableId → Option Bool → StartState
was_told t x = record { start = t; told = x }

-- what a seat was told
abbrev pub told_to : StartSide → Option Bool
told_to (Begins x) = x
told_to (Waits y) = y
told_to (Both x y) = x
told_to Spent = None

-- the word at which a seat is told this
abbrev pub start_word : Bool → ℕ
start_word true = 1
start_word false = 2

-- the word fits what a seat was told that alone sets it to `own`
abbrev pub FitsTold : ℕ → ℕ → Option Bool → Type 0
FitsTold own w None = w ≢ own
FitsTold own w (Some b) = w ≡ start_word b

-- the rule for one seat, if these seats begin and wait, and the word is w
abbrev pub SitsAtStart : ℕ → ℕ → ℕ → ℕ → StartSide → Type 0
SitsAtStart beginner waiter w seat (Begins x) = (seat ≡ beginner) × FitsTold 1 w x
SitsAtStart beginner waiter w seat (Waits y) = (seat ≡ waiter) × FitsTold 2 w y
SitsAtStart beginner waiter w seat (Both x y) =
    (seat ≡ beginner) × (seat ≡ waiter) × FitsTold 1 w x × FitsTold 2 w y
SitsAtStart beginner waiter w seat Spent = Unit {0}

-- the word is 0, 1 or 2, and fits what one seat that begins and one that waits were told
pub record IsStart (words : List ℕ) (views : List StartSide) : Type 0 where
  pub beginner : ℕ
  pub waiter : ℕ
  pub one : length words ≡ 1
  pub word : slice_index words 0 ≤ 2
  pub seats : (seat : ℕ) (v : StartSide) → get_elem? views seat ≡ some v
      → SitsAtStart beginner waiter (slice_index words 0) seat v

-- what the seat that begins is told, where it finds this word
abbrev pub may_begin : ℕ → Bool
may_begin found = not (found == 2)

-- what the seat that waits is told, where it finds this word
abbrev pub has_begun : ℕ → Bool
has_begun found = found == 1

-- a seat with its side
abbrev pub Seated : Type 0
Seated = Me (Unit {0}) StartSide

-- the step by which a seat of this kind is told this, as it was told before, if it was
abbrev pub WasToldBy : (Option Bool → StartSide) → Bool → Seated → Seated → Type 0
WasToldBy view told m n = (n ≡ (view (Some told), m.1)) × IfSome (told_to m.0) (λ b. b ≡ told)

-- what the seat that begins and the one that waits were told agrees
abbrev pub Agree : Option Bool → Option Bool → Type 0
Agree None None = Unit {0}
Agree None (Some c) = c ≡ false
Agree (Some b) None = b ≡ true
Agree (Some b) (Some c) = b ≡ c

-- both seats as one agree; other seats are free
abbrev pub AreAgreed : StartSide → Type 0
AreAgreed (Both x y) = Agree x y
AreAgreed (Begins x) = Unit {0}
AreAgreed (Waits y) = Unit {0}
AreAgreed Spent = Unit {0}

-- the step by which both seats compare
abbrev pub WereCompared : Step (Unit {0}) → Seated → ℕ → Seated → Type 0
WereCompared step m found n = AreAgreed m.0
