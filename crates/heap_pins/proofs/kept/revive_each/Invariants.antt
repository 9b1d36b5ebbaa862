use Rattle.std.proofs.Common.{◌≡◌, ℕ, ◌<◌, ◌≤◌, length}
use Rattle.std.specs.Prelude.{slice_get}
use Rattle.std.specs.Vec.{vec_capacity}
use Rattle.heap_pins.specs.Slots.{IsItemRevived}
use Rattle.heap_pins.proofs.kept.revive_each.Given as goal

abbrev pub invariant-loop-i : goal.invariant-loop-i
invariant-loop-i l = record {
  count : length l.kept.items ≡ length l.fn.kept.items;
  done : (j : ℕ) → j < l.i → IsItemRevived (slice_get l.fn.kept.items j) (slice_get l.kept.items j);
  capacity : vec_capacity l.kept ≡ vec_capacity l.fn.kept;
  others : (j : ℕ) → l.i ≤ j → slice_get l.kept.items j ≡ slice_get l.fn.kept.items j;
}
