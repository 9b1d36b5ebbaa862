use Rattle.heap_trail.specs.declared.Action.TheVariants.{Step}
use Rattle.heap_trail.proofs.Replies.{replies_refusing}
use Rattle.heap_trail.proofs.Machine.reply_to.Goals as goal

pub returns-in-Err-clause-reply : goal.returns-in-Err-clause-reply
returns-in-Err-clause-reply g c = replies_refusing c.args.self.now (Step (g.E.ApplyEvent.event c.args.event.now)) c.step_sort.new.self c.in-Err.refusal c.in-Err.ensures.unchanged c.in-Err.ensures.refused
