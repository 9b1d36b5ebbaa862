-- A walk over the whole of a dump.
use Rattle.std.specs.Prelude.{◌≡◌, ℕ, ◌+◌, List, length, Option, Some, None}
use Rattle.hprof_session.specs.Walks.{Left, ItemTold, IsNext, IsAtEnd, AreNext}
use Rattle.hprof_reader.specs.declared.fault.Fault.{Fault}
use Rattle.hprof_session.specs.declared.whole_walk.Survey.{Survey}

-- how many bytes are left
abbrev pub bytes_left : Left → ℕ
bytes_left w = length w.segment + length w.rest

-- a walk that ends here: at the end of the dump, or, with a fault, where no item is next
abbrev pub EndsAt : Left → Option Fault → Type 0
EndsAt w None = IsAtEnd w
EndsAt w (Some fault) = ¬ IsAtEnd w × ((i : ItemTold) (v : Left) → ¬ IsNext w i v)

-- `s.items` items are next, one after another, and then the walk ends, at this place if the first byte had the place `from`
pub record IsSurvey (w : Left) (from : ℕ) (s : Survey) : Type 0 where
  pub list : List ItemTold
  pub end : Left
  pub walked : AreNext w list end
  pub counted : length list ≡ s.items
  pub placed : s.place + bytes_left end ≡ from + bytes_left w
  pub ended : EndsAt end s.fault
