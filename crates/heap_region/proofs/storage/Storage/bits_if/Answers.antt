use Rattle.std.proofs.Common.{sym, ◌∙◌}
use Rattle.heap_region.proofs.Cells.{bits_shown}
use Rattle.heap_region.proofs.storage.Storage.bits_if.Goals as goal

pub returns : goal.returns
returns c =
    let i = c.self.inside in
    let is = rw c.headers.ensures at c.bits_at.ensures in
    rw (← c.self.view_is) (is ∙ sym (bits_shown i.cell_size i.block.words i.block.headers c.args.cell))
