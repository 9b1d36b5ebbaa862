use Rattle.std.proofs.Common.{[]}
use Rattle.dump_pipe.proofs.PipeSteps.{empty_pipe_is_in_order, both_side_forks}
use Rattle.dump_pipe.proofs.channel.pipe.Goals as goal

pub bounded_with-requires-clause-rule : goal.bounded_with-requires-clause-rule
bounded_with-requires-clause-rule c = empty_pipe_is_in_order

pub another-other-requires-clause-rule : goal.another-other-requires-clause-rule
another-other-requires-clause-rule c = both_side_forks _ _ [] [] c.in_ok-sender.ensures.3
