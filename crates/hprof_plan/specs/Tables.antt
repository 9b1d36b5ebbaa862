-- Tables of a dump, wherever their bytes lie in memory.
use Rattle.std.specs.Prelude.{ℕ, List, map}
use Rattle.std.specs.Borrow.{Bor}
use Rattle.hprof_reader.specs.SubRecords.{ClassTold, class_told}
use Rattle.hprof_reader.specs.declared.class_dumps.ClassDump.{ClassDump}

-- names, by their ids
abbrev pub names_told : List (ℕ × Bor (List ℕ)) → List (ℕ × List ℕ)
names_told entries = map (λ (e : ℕ × Bor (List ℕ)). (e.0, e.1.now)) entries

-- classes, by their ids
abbrev pub classes_told : List (ℕ × ClassDump) → List (ℕ × ClassTold)
classes_told entries = map (λ (e : ℕ × ClassDump). (e.0, class_told e.1)) entries
