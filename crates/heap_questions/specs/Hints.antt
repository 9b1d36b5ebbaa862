-- Hints tell where nodes stand: as bits, for each step of 8 from the first id on, and how many nodes stand before each 64 steps.
use Rattle.std.specs.Prelude.{◌≡◌, ◌+◌, ◌-◌, ◌*◌, ◌/◌, ◌%◌, ◌^◌, ◌<◌, ◌==◌, ℕ, List, Option, Some, None, cond, length, slice_get, option_and_then, bit_and, count_ones}
use Rattle.heap_questions.specs.declared.nodes.Node.{Node}
use Rattle.heap_questions.specs.declared.hints.Hint.{Hint}

-- the number of steps from the first id to another, which wraps around if the other is smaller
unfoldable pub id_steps : ℕ → ℕ → ℕ
id_steps first id = (id + (2 ^ 64 - first)) % 2 ^ 64 / 8

-- the id this many steps from the first
unfoldable pub id_after : ℕ → ℕ → ℕ
id_after first steps = (first + steps * 8 % 2 ^ 64) % 2 ^ 64

-- the node that a hint tells for one of its steps, if its bit is set: all before the hint and at lower steps stand before it
unfoldable pub node_told_by : Hint → ℕ → Option ℕ
node_told_by h s =
    cond (h.bits / 2 ^ s % 2 == 0) None (Some (h.before + count_ones (bit_and h.bits (2 ^ s - 1))))

-- the node that hints tell for an id this many steps from the first, if they tell one
unfoldable pub node_told : List Hint → ℕ → Option ℕ
node_told hints s = option_and_then (λ h. node_told_by h (s % 64)) (slice_get hints (s / 64))

-- the hints tell where each of the first n nodes stands
abbrev pub IsEachTold : ℕ → List Hint → List Node → ℕ → Type 0
IsEachTold first hints nodes n =
    (k : ℕ) (a : Node) → k < n → slice_get nodes k ≡ Some a
    → node_told hints (id_steps first a.id) ≡ Some k

-- the node that the hints tell for this many steps has the id there
abbrev pub IsRightlyTold : ℕ → List Hint → List Node → ℕ → Type 0
IsRightlyTold first hints nodes s =
    (k : ℕ) → node_told hints s ≡ Some k
    → (a : Node) × (slice_get nodes k ≡ Some a) × (a.id ≡ id_after first s)

-- the hints tell where each node stands, and nothing else
pub record AreTold (first : ℕ) (hints : List Hint) (nodes : List Node) : Type 0 where
  pub each : IsEachTold first hints nodes (length nodes)
  pub only : (s : ℕ) → IsRightlyTold first hints nodes s

-- so they do of the first n nodes, and for fewer than this many steps
pub record AreToldTo (first : ℕ) (hints : List Hint) (nodes : List Node) (steps n : ℕ) : Type 0 where
  pub each : IsEachTold first hints nodes n
  pub only : (s : ℕ) → s < steps → IsRightlyTold first hints nodes s

-- they tell node k for this many steps, which lead to its id
pub record IsToldAt (first : ℕ) (hints : List Hint) (nodes : List Node) (steps k : ℕ) : Type 0 where
  pub told : node_told hints steps ≡ Some k
  pub node : Node
  pub there : slice_get nodes k ≡ Some node
  pub after : node.id ≡ id_after first steps
  pub before : id_steps first node.id ≡ steps
