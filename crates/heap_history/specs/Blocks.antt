-- A block of entries as packs, and long packs beside them.
use Rattle.std.specs.Prelude.{◌≡◌, ℕ, ◌-◌, ◌<◌, List, [], ◌∷◌, Option, map, min, vec_len}
use Rattle.std.specs.Global.{Vec}
use Rattle.std.specs.Vec.{vec_capacity}
use Rattle.heap_history.specs.declared.entry.Entry.{Entry}
use Rattle.heap_history.specs.declared.pack.Form.TheVariants.{Long}
use Rattle.heap_history.specs.declared.pack.Pack.{Pack}
use Rattle.heap_history.specs.declared.pack.LongPack.{LongPack}
use Rattle.heap_history.specs.Packs.{entry_in}

-- what is kept of each entry, in order, and how many more it has room for
pub record BlockState : Type 0 where
  pub entries : List (Option Entry)
  pub room : ℕ

-- the place that the pack has is below n
abbrev pub HasPlace : ℕ → Pack → Type 0
HasPlace n p = p.form ≡ Long → p.first < n

-- each pack that has a place names one of the first n long packs
abbrev pub AllPlaced : ℕ → List Pack → Type 0
AllPlaced n [] = Unit {0}
AllPlaced n (p ∷ ps) = HasPlace n p × AllPlaced n ps

-- the entries that packs tell
unfoldable pub entries_in : List LongPack → List Pack → List (Option Entry)
entries_in longs packs = map (entry_in longs) packs

-- both lists have room for this number of entries more
abbrev pub room_in : Vec LongPack → Vec Pack → ℕ
room_in longs packs = min (vec_capacity packs - vec_len packs) (vec_capacity longs - vec_len longs)
