use Rattle.std.proofs.Common.{arith, sym}
use Rattle.heap_region.proofs.CellChanges.{free_list_head_by_link, first_free_cell_below_256, head_has_link}
use Rattle.heap_region.proofs.storage.Storage.free_head.Goals as goal

pub overflow_sub-result : goal.overflow_sub-result
overflow_sub-result c = head_has_link _ _ _ _ c.self.invariant.linked (rw (← c.self.view_is) at c.requires)

pub returns-clause-value : goal.returns-clause-value
returns-clause-value c =
    let some = head_has_link _ _ _ _ c.self.invariant.linked (rw (← c.self.view_is) at c.requires) in
    rw (← c.self.view_is) (sym (free_list_head_by_link _ _ _ _ c.self.invariant.linked (λ e. omega (arith, some, e))))

pub returns-clause-limit : goal.returns-clause-limit
returns-clause-limit c =
    let some = head_has_link _ _ _ _ c.self.invariant.linked (rw (← c.self.view_is) at c.requires) in
    first_free_cell_below_256 _ _ _ _ _ c.self.invariant (λ e. omega (arith, some, e))
