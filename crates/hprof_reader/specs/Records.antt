-- Records as bytes.
use Rattle.std.specs.Prelude.{ℕ, ◌<◌, ◌^◌, List, ◌++◌, length}
use Rattle.hprof_records.specs.Heads.{u1, u4}
use Rattle.hprof_reader.specs.declared.records.Record.{Record}

-- a record, wherever its bytes lie in memory
pub record Told : Type 0 where
  pub tag : ℕ
  pub time : ℕ
  pub body : List ℕ

-- a record that was read
abbrev pub told : Record → Told
told r = record { tag = r.tag; time = r.time; body = r.body.now }

-- the bytes of a record: its tag, its time, the size of its body, and the body
abbrev pub record_text : Told → List ℕ
record_text r = u1 r.tag ++ u4 r.time ++ u4 (length r.body) ++ r.body

-- the numbers of a record fit in the bytes that they have there
pub record FitsRecord (r : Told) : Type 0 where
  pub tag : r.tag < 2 ^ 8
  pub time : r.time < 2 ^ 32
  pub body : length r.body < 2 ^ 32
