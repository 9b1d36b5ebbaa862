use Rattle.std.proofs.Common.{ℕ, length, replicate, ap, arith}
use Rattle.std.proofs.lemmas.List.{length-append, length-replicate}
use Rattle.heap_pins.proofs.numbers.push_page.Goals as goal

pub push_reserved-requires : goal.push_reserved-requires
push_reserved-requires c =
    omega (arith, ap length c.loop-i.invariant.items, length-append c.args.numbers.now.items (replicate c.loop-i.i 0), length-replicate {A = ℕ} c.loop-i.i 0, c.loop-i.invariant.capacity, c.loop-i.numbers.ok.0, c.loop-i-test.true, c.requires)
