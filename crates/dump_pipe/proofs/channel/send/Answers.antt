use Rattle.std.proofs.Common.{◌≤◌, [], ◌∷◌, ◌++◌, sym, ap, ◌∙◌, subst}
use Rattle.crossbeam_channel.specs.Claims.{view}
use Rattle.dump_pipe.specs.declared.message.Message.{Message}
use Rattle.dump_pipe.specs.declared.end_side.EndSide.{EndSide}
use Rattle.dump_pipe.specs.declared.end_side.EndSide.TheVariants.{Sends}
use Rattle.dump_pipe.specs.Pipes.{weigh, list_of, byte_limit}
use Rattle.dump_pipe.proofs.PipeSteps.{sending_side_pushes_message}
use Rattle.dump_pipe.proofs.channel.send.Goals as goal

pub send_as-requires-clause-rule : goal.send_as-requires-clause-rule
send_as-requires-clause-rule g c =
    let i = c.loop.invariant in
    let same = i.3 in
    (sending_side_pushes_message _ _ (view c.loop.end) c.loop.next (same ∙ c.requires.end.1 ∙ ap (λ (v : EndSide). Sends (list_of v)) (sym same)) (subst (λ (p : EndSide × Message). weigh (list_of p.0 ++ p.1 ∷ []) ≤ byte_limit) (λ k. (sym same k, sym i.4 k)) c.requires.room), λ items views h at. tt)
