use Rattle.std.proofs.Common.{sym, ap, ◌∙◌}
use Rattle.crossbeam_channel.specs.Claims.{view}
use Rattle.dump_pipe.specs.declared.end_side.EndSide.{EndSide}
use Rattle.dump_pipe.specs.declared.end_side.EndSide.TheVariants.{Gets}
use Rattle.dump_pipe.specs.Pipes.{list_of}
use Rattle.dump_pipe.proofs.PipeSteps.{receiving_side_pops_message}
use Rattle.dump_pipe.proofs.channel.receive.Goals as goal

pub recv_as-requires-clause-rule : goal.recv_as-requires-clause-rule
recv_as-requires-clause-rule g c =
    let same = c.loop.invariant.3 in
    (receiving_side_pops_message _ (view c.loop.end) (same ∙ c.requires.1 ∙ ap (λ (v : EndSide). Gets (list_of v)) (sym same)), λ items views h at. tt)
