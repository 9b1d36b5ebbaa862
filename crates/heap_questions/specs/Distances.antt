-- How far objects are from one of them, along references.
use Rattle.std.specs.Prelude.{◌≡◌, ◌≢◌, ◌⊎◌, ◌+◌, ◌<◌, ◌≤◌, ℕ, List, [], ◌∷◌, ◌++◌, length, nat_lt, ⊤, Option, Some, None, slice_get, slice_index_or, if◌then◌else◌}
use Rattle.std.specs.List.{AllByRecursion}
use Rattle.std.specs.Option.{option_map_or}
use Rattle.hprof_text.specs.Image.{DumpedObject, Image}
use Rattle.heap_questions.specs.Graph.{AreAtMost, followed, named, object_with}
use Rattle.heap_questions.specs.Hops.{AreHops, slots_of}
use Rattle.heap_questions.specs.Search.{node_with}
use Rattle.heap_questions.specs.declared.nearest.Start.{Start}
use Rattle.heap_questions.specs.declared.nodes.Node.{Node}
use Rattle.heap_questions.specs.declared.paths.Hop.{Hop}

-- what stands for a distance where no way leads
abbrev pub far : ℕ
far = 4294967295

-- the distance that a table has for the object x
abbrev pub distance_by : List Node → List ℕ → ℕ → ℕ
distance_by nodes table x =
    option_map_or (λ j. slice_index_or table j far) (node_with nodes x) far

-- the distance of what is named
abbrev pub distance_of : (ℕ → ℕ) → Option ℕ → ℕ
distance_of d n = option_map_or d n far

-- r is the least of the distances of what these slots name
pub record IsLeastOf (d : ℕ → ℕ) (names : ℕ → Option ℕ) (r : ℕ) : Type 0 where
  pub small : r ≤ far
  pub least : (s : ℕ) → r ≤ distance_of d (names s)
  pub met : r < far → (s : ℕ) × (r ≡ distance_of d (names s))

-- a slot of the object y leads one step nearer
abbrev pub HasNearer : Image → (ℕ → ℕ) → ℕ → Type 0
HasNearer image d y = (s z : ℕ) × (named image y s ≡ Some z) × (d y ≡ d z + 1)

-- the distance of the object y from x is that which one step more tells, and leaves room for one step more
pub record IsFit (image : Image) (d : ℕ → ℕ) (x y : ℕ) : Type 0 where
  pub goal : y ≡ x → d y ≡ 0
  pub near : y ≢ x → d y < far → HasNearer image d y
  pub least : (s z : ℕ) → named image y s ≡ Some z → d y ≤ d z + 1
  pub room : d y + 1 ≢ far

-- so is that of the object of node j
abbrev pub IsFitNode : Image → (ℕ → ℕ) → ℕ → List Node → ℕ → Type 0
IsFitNode image d x nodes j = (y : ℕ) → node_with nodes y ≡ Some j → IsFit image d x y

-- d has the distance from x for all objects, as far as one step more tells
abbrev pub AreDistances : Image → (ℕ → ℕ) → ℕ → Type 0
AreDistances image d x = (y : ℕ) → IsFit image d x y

-- these steps lead from y to x on a shortest way, the first of all by slot
pub record IsFirstWay (image : Image) (d : ℕ → ℕ) (y x : ℕ) (way : List Hop) : Type 0 where
  pub leads : followed image y (slots_of way) ≡ Some x
  pub ids : AreHops image y way
  pub long : length (slots_of way) ≡ d y
  pub first : (others : List ℕ) → followed image y others ≡ Some x → length others ≡ d y
      → AreAtMost (slots_of way) others

-- these steps were added
abbrev pub GoesOnTo : Image → (ℕ → ℕ) → ℕ → ℕ → List Hop → List Hop → Type 0
GoesOnTo image d y x old new =
    (way : List Hop) × (new ≡ old ++ way) × IsFirstWay image d y x way

-- of slots that name these, the first that leads on to what is `left - 1` slots away, and what it names; None if none does
abbrev pub IsFirstNearer : (ℕ → ℕ) → (ℕ → Option ℕ) → ℕ → Option Hop → Type 0
IsFirstNearer d names left None = (t z : ℕ) → names t ≡ Some z → d z + 1 ≢ left
IsFirstNearer d names left (Some h) =
    (names h.slot ≡ Some h.to) × (d h.to + 1 ≡ left)
    × ((t z : ℕ) → t < h.slot → names t ≡ Some z → d z + 1 ≢ left)

-- ---- starts

-- of the first n registers that name something near, the start is the first of the nearest
abbrev pub IsNearestOf : (ℕ → ℕ) → List ℕ → ℕ → Option Start → Type 0
IsNearestOf d registers n None =
    (q z : ℕ) → q < n → slice_get registers q ≡ Some z → far ≤ d z
IsNearestOf d registers n (Some b) =
    (b.number < n) × (slice_get registers b.number ≡ Some b.id) × (d b.id ≡ b.distance)
    × (b.distance < far)
    × ((q z : ℕ) → q < n → slice_get registers q ≡ Some z → d z < far
    → (b.distance < d z) ⊎ ((b.distance ≡ d z) × (b.number ≤ q)))

-- register r names this object
abbrev pub IsNamedBy : Image → ℕ → DumpedObject → Type 0
IsNamedBy image r o =
    (x : ℕ) × (slice_get image.registers r ≡ Some x) × (object_with image x ≡ Some o)

-- a comes before b: it is nearer, or as near with a lower number
abbrev pub IsNearerStart : Start → Start → Type 0
IsNearerStart a b =
    (a.distance < b.distance) ⊎ ((a.distance ≡ b.distance) × (a.number < b.number))

-- one of the first n registers, which names something near
pub record IsNearStart (d : ℕ → ℕ) (registers : List ℕ) (n : ℕ) (b : Start) : Type 0 where
  pub below : b.number < n
  pub names : slice_get registers b.number ≡ Some b.id
  pub told : d b.id ≡ b.distance
  pub near : b.distance < far

-- each comes before those behind it
abbrev pub AreInOrder : List Start → Type 0
AreInOrder [] = ⊤
AreInOrder (b ∷ bs) = AllByRecursion (IsNearerStart b) bs × AreInOrder bs

-- b is one of them
abbrev pub StandsIn : Start → List Start → Type 0
StandsIn b [] = ⊥
StandsIn b (c ∷ cs) = (c ≡ b) ⊎ StandsIn b cs

-- of the near ones among the first n registers these are the first `most`, or all
pub record AreNearest (d : ℕ → ℕ) (registers : List ℕ) (n most : ℕ) (starts : List Start) : Type 0 where
  pub each : AllByRecursion (IsNearStart d registers n) starts
  pub ordered : AreInOrder starts
  pub rest : (b : Start) → IsNearStart d registers n b
      → StandsIn b starts ⊎ ((length starts ≡ most) × AllByRecursion (λ a. IsNearerStart a b) starts)

-- a start is put before the first that is farther
abbrev pub with_start : Start → List Start → List Start
with_start b [] = b ∷ []
with_start b (c ∷ cs) =
    if nat_lt b.distance c.distance then b ∷ c ∷ cs else c ∷ with_start b cs

-- of the starts by which these paths could go, which are fewer than `most`, these are the nearest
abbrev pub AreNearestFor : (ℕ → ℕ) → List ℕ → ℕ → List Start → Type 0
AreNearestFor d registers paths starts =
    (most : ℕ) × (paths < most) × AreNearest d registers (length registers) most starts
