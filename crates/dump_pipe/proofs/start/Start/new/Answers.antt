use Rattle.std.proofs.Common.{arith}
use Rattle.dump_pipe.proofs.StartSteps.{new_start_is_a_start, whole_side_parts}
use Rattle.dump_pipe.proofs.start.Start.new.Goals as goal

pub of_words-requires : goal.of_words-requires
of_words-requires c = new_start_is_a_start

pub split_seat-waiter-requires : goal.split_seat-waiter-requires
split_seat-waiter-requires c =
    let t = c.in_ok-table.ensures in
    (t.2, omega (arith, t.0), whole_side_parts _ _ t.4)
