-- The steps of a path, with the ids to which they lead.
use Rattle.std.specs.Prelude.{◌≡◌, ℕ, List, [], ◌∷◌, map, slice_get, Some}
use Rattle.hprof_text.specs.Image.{Image}
use Rattle.heap_questions.specs.Graph.{named}
use Rattle.heap_questions.specs.declared.paths.Hop.{Hop}
use Rattle.heap_questions.specs.declared.paths.Path.{Path}

-- the slots that are followed
abbrev pub slots_of : List Hop → List ℕ
slots_of hops = map (λ h. h.slot) hops

-- each step leads to what its slot names in the object to which the one before it leads; the first goes on from y
abbrev pub AreHops : Image → ℕ → List Hop → Type 0
AreHops image y [] = Unit {0}
AreHops image y (h ∷ hs) = (named image y h.slot ≡ Some h.to) × AreHops image h.to hs

-- the register holds the id at which the path starts, and its steps go on from there
pub record TellsIds (image : Image) (p : Path) : Type 0 where
  pub start : slice_get image.registers p.register ≡ Some p.start
  pub hops : AreHops image p.start p.hops.items
