-- A walk over a dump.
use Rattle.std.specs.Prelude.{◌≡◌, ℕ, ◌==◌, ◌||◌, List, [], ◌∷◌, ◌++◌, Option, option_map, if◌then◌else◌}
use Rattle.heap_class.specs.declared.IdSize.{IdSize}
use Rattle.hprof_reader.specs.Records.{Told, told, record_text, FitsRecord}
use Rattle.hprof_reader.specs.SubRecords.{Sub, sub_record, sub_text, FitsSub}
use Rattle.hprof_session.specs.declared.walk.Item.{Item}
use Rattle.hprof_session.specs.declared.walk.Item.TheVariants as items
use Rattle.hprof_session.specs.declared.walk.Walk.{Walk}

-- what is left of a dump, wherever its bytes lie in memory
pub record Left : Type 0 where
  pub ids : IdSize
  pub segment : List ℕ
  pub rest : List ℕ

-- what a walk comes to, wherever its bytes lie in memory
pub data ItemTold : Type 0 where
  record_told : Told → ItemTold
  sub_told : Sub → ItemTold

-- ---- what was read

abbrev pub left : Walk → Left
left w = record { ids = w.ids; segment = w.segment.now; rest = w.rest.now }

abbrev pub item_told : Item → ItemTold
item_told (items.Record r) = record_told (told r)
item_told (items.Sub s) = sub_told (sub_record s)

-- an item, and what is left after it
abbrev pub step_told : Item × Walk → ItemTold × Left
step_told x = (item_told x.0, left x.1)

-- the same, if there is an item
abbrev pub next_told : Option (Item × Walk) → Option (ItemTold × Left)
next_told o = option_map step_told o

-- ---- what is next

-- the sub-records of a record with this tag and this body: those of a HEAP DUMP 0C or of a HEAP DUMP SEGMENT 1C
abbrev pub segment_of : ℕ → List ℕ → List ℕ
segment_of tag body = if tag == 0x0c || tag == 0x1c then body else []

-- the segment that was entered goes on with this sub-record
pub record IsNextSub (w : Left) (s : Sub) (v : Left) : Type 0 where
  pub ids : v.ids ≡ w.ids
  pub fits : FitsSub w.ids s
  pub segment : w.segment ≡ sub_text w.ids s ++ v.segment
  pub rest : v.rest ≡ w.rest

-- no segment goes on, and this record is next
pub record IsNextRecord (w : Left) (r : Told) (v : Left) : Type 0 where
  pub ids : v.ids ≡ w.ids
  pub past : w.segment ≡ []
  pub fits : FitsRecord r
  pub rest : w.rest ≡ record_text r ++ v.rest
  pub segment : v.segment ≡ segment_of r.tag r.body

-- this item is next, and leaves this
abbrev pub IsNext : Left → ItemTold → Left → Type 0
IsNext w (record_told r) v = IsNextRecord w r v
IsNext w (sub_told s) v = IsNextSub w s v

-- nothing is left
abbrev pub IsAtEnd : Left → Type 0
IsAtEnd w = (w.segment ≡ []) × (w.rest ≡ [])

-- these items are next, one after another, and leave this
abbrev pub AreNext : Left → List ItemTold → Left → Type 0
AreNext w [] v = w ≡ v
AreNext w (i ∷ is) v = (u : Left) × IsNext w i u × AreNext u is v

-- this is the end of a dump, after these bytes of it
abbrev pub IsAfter : List ℕ → List ℕ → Left → Type 0
IsAfter before bytes w = bytes ≡ before ++ w.segment ++ w.rest
