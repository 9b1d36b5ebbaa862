use Rattle.std.proofs.Common.{◌≡◌, ℕ, ◌<◌, ◌≤◌, ◌==◌, if◌then◌else◌, length, slice_index_or}
use Rattle.heap_pins.proofs.kept.make_live.Given as goal

abbrev pub invariant-loop-k : goal.invariant-loop-k
invariant-loop-k l = record {
  count : length l.bytes ≡ length l.fn.bytes;
  done : (c : ℕ) → c < l.k → slice_index_or l.bytes c 0 ≡ (if slice_index_or l.fn.bytes c 0 == 0 then 0 else 1);
  others : (c : ℕ) → l.k ≤ c → slice_index_or l.bytes c 0 ≡ slice_index_or l.fn.bytes c 0;
}
