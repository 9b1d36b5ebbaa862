-- Several paths to one object, of which no two start alike.
use Rattle.std.specs.Prelude.{◌≡◌, ◌⊎◌, ◌<◌, ℕ, List, ◌∷◌, All, length, slice_get, take, Some}
use Rattle.hprof_text.specs.Image.{Image}
use Rattle.heap_questions.specs.Graph.{AreAtMost, IsPathTo}
use Rattle.heap_questions.specs.Hops.{slots_of}
use Rattle.heap_questions.specs.declared.paths.Path.{Path}

-- a path: its register, and the slots that lead on
pub record Route : Type 0 where
  pub register : ℕ
  pub slots : List ℕ

-- the path that was found
abbrev pub route_of : Path → Route
route_of p = record { register = p.register; slots = slots_of p.hops.items }

-- both start at the same register, by the same slot or by none
abbrev pub StartAlike : Route → Route → Type 0
StartAlike p q = (p.register ≡ q.register) × (slice_get p.slots 0 ≡ slice_get q.slots 0)

-- p is a path to x, and starts like none of the earlier
pub record IsPathApart (image : Image) (earlier : List Route) (x : ℕ) (p : Route) : Type 0 where
  pub path : IsPathTo image p.register p.slots x
  pub apart : All (λ e. ¬ StartAlike e p) earlier

-- p comes before q, or is q: by length, then by register, then by slot
abbrev pub IsNoLater : Route → Route → Type 0
IsNoLater p q =
    (length p.slots < length q.slots)
    ⊎ ((length p.slots ≡ length q.slots) × AreAtMost (p.register ∷ p.slots) (q.register ∷ q.slots))

-- of all paths to x that start like none of the earlier, p is the first
pub record IsNextPath (image : Image) (earlier : List Route) (x : ℕ) (p : Route) : Type 0 where
  pub apart : IsPathApart image earlier x p
  pub first : (q : Route) → IsPathApart image earlier x q → IsNoLater p q

-- there is no such path
abbrev pub NoneIsLeft : Image → List Route → ℕ → Type 0
NoneIsLeft image earlier x = (p : Route) → ¬ IsPathApart image earlier x p

-- n paths to x, each the next after those before it, or fewer if none is left
pub record AreFirstPaths (image : Image) (n : ℕ) (x : ℕ) (paths : List Route) : Type 0 where
  pub next : (k : ℕ) (p : Route) → slice_get paths k ≡ Some p → IsNextPath image (take k paths) x p
  pub whole : (length paths ≡ n) ⊎ ((length paths < n) × NoneIsLeft image paths x)
