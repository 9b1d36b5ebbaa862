use Rattle.std.proofs.Common.{◌≡◌, ◌-◌, ◌<◌, Some, length}
use Rattle.std.specs.Prelude.{IfSome, slice_get}
use Rattle.question_words.specs.Names.{fields_up}
use Rattle.question_rows.proofs.SlotNames.{name_in}
use Rattle.question_rows.proofs.tree.slot_name.Given as goal

abbrev pub invariant-loop-depth : goal.invariant-loop-depth
invariant-loop-depth l = record {
  there : IfSome l.here (λ k. k < length l.classes);
  name : name_in (slice_get (fields_up l.classes (length l.classes - l.depth) l.here) l.left) ≡ name_in (slice_get (fields_up l.classes (length l.classes) (Some l.class)) l.slot);
}
