use Rattle.std.proofs.Common.{◌≡◌, ◌++◌, replicate}
use Rattle.std.specs.Vec.{vec_capacity}
use Rattle.heap_pins.proofs.numbers.push_page.Given as goal

abbrev pub invariant-loop-i : goal.invariant-loop-i
invariant-loop-i l = record {
  items : l.numbers.items ≡ l.fn.numbers.items ++ replicate l.i 0;
  capacity : vec_capacity l.numbers ≡ vec_capacity l.fn.numbers;
}
