-- The rule of a meter's two words, and the steps of its seats.
use Rattle.std.specs.Prelude.{◌≡◌, ℕ, ◌+◌, ◌≤◌, ◌⊎◌, ◌==◌, Bool, true, List, [], ◌∷◌, length, slice_index}
use mathlib.Core.Option.{some}
use lib.ListN.{get_elem?}
use Rattle.atomic_table.specs.Table.{Me, Step}
use Rattle.dump_pipe.specs.declared.meter_side.MeterSide.{MeterSide}
use Rattle.dump_pipe.specs.declared.meter_side.MeterSide.TheVariants.{Whole, Out, Read, Ask, Feed, Met}

-- the cancel word is 1 exactly if its asker asked
abbrev pub IsAskedBy : ℕ → Bool → Type 0
IsAskedBy c b = (b ≡ true → c ≡ 1) × (c ≡ 1 → b ≡ true)

-- the rule for one seat, if these seats add and ask, and the words are p and c
abbrev pub SitsAtMeter : ℕ → ℕ → ℕ → ℕ → ℕ → MeterSide → Type 0
SitsAtMeter out asker p c seat Whole = ⊥
SitsAtMeter out asker p c seat (Out n) = (seat ≡ out) × (n ≡ p)
SitsAtMeter out asker p c seat (Read n) = n ≤ p
SitsAtMeter out asker p c seat (Ask b) = (seat ≡ asker) × IsAskedBy c b
SitsAtMeter out asker p c seat (Feed b) = b ≡ true → c ≡ 1
SitsAtMeter out asker p c seat (Met found b) =
    (seat ≡ asker) × IsAskedBy c b × (found ≡ true → c ≡ 1)

-- a seat that asks, and did
abbrev pub DidAsk : MeterSide → Type 0
DidAsk Whole = ⊥
DidAsk (Out n) = ⊥
DidAsk (Read n) = ⊥
DidAsk (Ask b) = b ≡ true
DidAsk (Feed b) = ⊥
DidAsk (Met found b) = b ≡ true

-- the cancel word is 0, or it is 1 and the asker asked
abbrev pub IsCancel : ℕ → ℕ → List MeterSide → Type 0
IsCancel c asker views =
    (c ≡ 0) ⊎ ((c ≡ 1) × (v : MeterSide) × (get_elem? views asker ≡ some v) × DidAsk v)

-- the progress word is the sum of the seat that adds, and no reader read more; one seat asks, and no feeder found the cancel
-- word set before it did
pub record IsMeterUsed (words : List ℕ) (views : List MeterSide) : Type 0 where
  pub out : ℕ
  pub asker : ℕ
  pub two : length words ≡ 2
  pub sum : get_elem? views out ≡ some (Out (slice_index words 0))
  pub seats : (seat : ℕ) (v : MeterSide) → get_elem? views seat ≡ some v
      → SitsAtMeter out asker (slice_index words 0) (slice_index words 1) seat v
  pub cancel : IsCancel (slice_index words 1) asker views

-- a meter that is new, or in use
abbrev pub IsMeter : List ℕ → List MeterSide → Type 0
IsMeter words views =
    ((words ≡ 0 ∷ 0 ∷ []) × (views ≡ Whole ∷ [])) ⊎ IsMeterUsed words views

-- a seat with its knowledge
abbrev pub Sat : Type 0
Sat = Me (Unit {0}) MeterSide

-- the out seat knows k more; other seats are free
abbrev pub IsCountAdded : ℕ → MeterSide → MeterSide → Type 0
IsCountAdded k (Out n) w = w ≡ Out (n + k)
IsCountAdded k Whole w = Unit {0}
IsCountAdded k (Read n) w = Unit {0}
IsCountAdded k (Ask b) w = Unit {0}
IsCountAdded k (Feed b) w = Unit {0}
IsCountAdded k (Met found b) w = Unit {0}

-- the step by which the out seat adds its argument
abbrev pub WasAdded : Step (Unit {0}) → Sat → ℕ → Sat → Type 0
WasAdded step m found n = IsCountAdded step.first m.0 n.0 × (n.1 ≡ m.1)

-- a reader read `found`, no less than before; other seats are free
abbrev pub IsSumRead : ℕ → MeterSide → MeterSide → Type 0
IsSumRead found (Read n) w = (n ≤ found) × (w ≡ Read found)
IsSumRead found Whole w = Unit {0}
IsSumRead found (Out n) w = Unit {0}
IsSumRead found (Ask b) w = Unit {0}
IsSumRead found (Feed b) w = Unit {0}
IsSumRead found (Met f b) w = Unit {0}

-- the step by which a reader reads
abbrev pub WasRead : Step (Unit {0}) → Sat → ℕ → Sat → Type 0
WasRead step m found n = IsSumRead found m.0 n.0 × (n.1 ≡ m.1)

-- the asker has asked; other seats are free
abbrev pub IsCancelAsked : MeterSide → MeterSide → Type 0
IsCancelAsked (Ask b) w = w ≡ Ask true
IsCancelAsked Whole w = Unit {0}
IsCancelAsked (Out n) w = Unit {0}
IsCancelAsked (Read n) w = Unit {0}
IsCancelAsked (Feed b) w = Unit {0}
IsCancelAsked (Met found b) w = Unit {0}

-- the step by which the asker asks
abbrev pub WasAsked : Step (Unit {0}) → Sat → ℕ → Sat → Type 0
WasAsked step m found n = IsCancelAsked m.0 n.0 × (n.1 ≡ m.1)

-- a feeder knows whether the cancel word that it found is 1, and it is if it was so before; other seats are free
abbrev pub IsCancelFound : ℕ → MeterSide → MeterSide → Type 0
IsCancelFound found (Feed b) w = (b ≡ true → found ≡ 1) × (w ≡ Feed (found == 1))
IsCancelFound found Whole w = Unit {0}
IsCancelFound found (Out n) w = Unit {0}
IsCancelFound found (Read n) w = Unit {0}
IsCancelFound found (Ask b) w = Unit {0}
IsCancelFound found (Met f b) w = Unit {0}

-- the step by which a feeder looks
abbrev pub WasLookedAt : Step (Unit {0}) → Sat → ℕ → Sat → Type 0
WasLookedAt step m found n = IsCancelFound found m.0 n.0 × (n.1 ≡ m.1)

-- a feeder that found that the asker had asked tells that it did; other seats are free
abbrev pub IsSettled : MeterSide → Type 0
IsSettled (Met found b) = found ≡ true → b ≡ true
IsSettled Whole = Unit {0}
IsSettled (Out n) = Unit {0}
IsSettled (Read n) = Unit {0}
IsSettled (Ask b) = Unit {0}
IsSettled (Feed b) = Unit {0}

-- the step by which a feeder and the asker compare
abbrev pub WasSettled : Step (Unit {0}) → Sat → ℕ → Sat → Type 0
WasSettled step m found n = IsSettled m.0
