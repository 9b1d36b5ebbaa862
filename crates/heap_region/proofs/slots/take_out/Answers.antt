use Rattle.std.proofs.Common.{Some, sym, ap, ◌∙◌}
use Rattle.heap_region.specs.Slots.{shown_slot}
use Rattle.heap_region.proofs.slots.take_out.Goals as goal

pub returns-clause-storage : goal.returns-clause-storage
returns-clause-storage c = ap (shown_slot c.args.turns) (sym c.in-Used.ensures.value) ∙ ap Some (sym c.settle.ensures.storage)
