use Rattle.heap_orders.proofs.RetakenSteps.{undone_forgotten}
use Rattle.heap_orders.proofs.redo.Redo.forget_undone.Goals as goal

pub returns : goal.returns
returns c = undone_forgotten c.self.inside.events c.truncate_front.new.self c.self.inside.ahead c.len.result c.args.self.now c.truncate_front.ensures c.len.ensures.len c.self.invariant c.self.view_is
