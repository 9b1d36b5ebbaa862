-- What the lemmas ask of a heap and of a dump.
use Rattle.std.specs.Prelude.{◌≡◌, ℕ, ◌<◌, ◌≤◌, ◌^◌, List, [], ◌∷◌, None, length, slice_index}
use Rattle.heap_region.specs.Regions.{object_of}
use Rattle.heap_world.specs.Legal.{IsLegal}
use Rattle.heap_world.specs.State.{HeapState}
use Rattle.hprof_reader.specs.SubRecords.{Sub, class, instance, prim}
use Rattle.hprof_session.specs.Walks.{ItemTold, record_told, sub_told}
use Rattle.hprof_lines.specs.Objects.{ObjectsTold}

-- a heap without an object
pub record IsBare (w : HeapState) : Type 0 where
  pub legal : IsLegal w
  pub empty : (x : ℕ) → object_of w.regions x ≡ None

-- each class with an object for its static fields has one, and these are few: then no two objects have one number
pub record AreNumberedFirst (o : ObjectsTold) : Type 0 where
  pub as_many : length o.statics ≡ length o.plan.statics.items
  pub few : length o.plan.statics.items ≤ 2 ^ 22

-- each of these numbers is a byte
abbrev pub AreBytes : List ℕ → Type 0
AreBytes bytes = (i : ℕ) → slice_index bytes i < 256

-- what a sub-record tells of values are bytes
abbrev pub AreSubBytes : Sub → Type 0
AreSubBytes (class c) = AreBytes c.statics.bytes
AreSubBytes (instance x trace k values) = AreBytes values
AreSubBytes (prim x trace count kind elements) = AreBytes elements
AreSubBytes _ = Unit {0}

abbrev pub AreItemBytes : ItemTold → Type 0
AreItemBytes (record_told r) = Unit {0}
AreItemBytes (sub_told s) = AreSubBytes s

-- the same of each item
abbrev pub AreItemsOfBytes : List ItemTold → Type 0
AreItemsOfBytes [] = Unit {0}
AreItemsOfBytes (it ∷ items) = AreItemBytes it × AreItemsOfBytes items
