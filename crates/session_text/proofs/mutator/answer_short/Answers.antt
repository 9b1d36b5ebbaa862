use Rattle.heap_trail.specs.declared.Action.TheVariants.{Step}
use Rattle.session_text.proofs.QuickLines.{done_action_is_quick}
use Rattle.session_text.proofs.mutator.answer_short.Goals as goal

pub returns : goal.returns
returns g c = done_action_is_quick g.C.Commands.acts c.args.text.now c.in-Some.n (Step (g.E.ApplyEvent.event c.in-Some.event)) c.args.commands.now c.args.page.now (g.O.Outlet.seen c.args.writer.now) c.answer_step.new.commands c.answer_step.new.page (g.O.Outlet.seen c.answer_step.new.writer) c.answer_step.result c.quick_of-quick.result c.in-Some.ensures.line c.in-Some.ensures.asks c.answer_step.ensures c.quick_of-quick.ensures
