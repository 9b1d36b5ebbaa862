use Rattle.crossbeam_channel.specs.Claims.{view, IsSeatAt}
use Rattle.crossbeam_channel.specs.Ends.{receives_on}
use Rattle.dump_pipe.specs.Pipes.{list_of}
use Rattle.dump_pipe.proofs.DrainSteps.{IsSkipping}
use Rattle.dump_pipe.proofs.drainer.skip.Given as goal

abbrev pub invariant-loop : goal.invariant-loop
invariant-loop g l =
    (goal.iterator-loop g).can_next l.iterator' × (goal.iterator-loop g).is_finite l.iterator'
    × IsSeatAt (receives_on l.receiver) l.end × IsSkipping (list_of (view l.initial.end)) (view l.end)
