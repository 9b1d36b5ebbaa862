use Rattle.heap_region.proofs.Cells.{bit_of_cell_shown, header_here}
use Rattle.heap_region.proofs.CellChanges.{bit_written, whole_shown}
use Rattle.heap_region.proofs.storage.Storage.set_bit.Goals as goal

pub invariant_of-self : goal.invariant_of-self
invariant_of-self c =
    let i = c.self.inside in
    let there = header_here i.cell_size i.block.words i.block.headers c.args.cell (rw (← c.self.view_is) at c.requires) in
    rw (c.set_bit.ensures.state) (bit_written i.cell_size i.pending i.block.words i.block.headers i.head c.self.invariant c.args.cell c.args.bit c.args.on there).0

pub returns-clause-value : goal.returns-clause-value
returns-clause-value c =
    let i = c.self.inside in
    let there = header_here i.cell_size i.block.words i.block.headers c.args.cell (rw (← c.self.view_is) at c.requires) in
    rw (← c.self.view_is, c.set_bit.ensures.state) (bit_written i.cell_size i.pending i.block.words i.block.headers i.head c.self.invariant c.args.cell c.args.bit c.args.on there).1

pub returns-clause-whole : goal.returns-clause-whole
returns-clause-whole c =
    let i = c.self.inside in
    let there = header_here i.cell_size i.block.words i.block.headers c.args.cell (rw (← c.self.view_is) at c.requires) in
    rw (c.set_bit.ensures.state) (whole_shown i.cell_size i.pending i.block.words _ i.head (bit_written i.cell_size i.pending i.block.words i.block.headers i.head c.self.invariant c.args.cell c.args.bit c.args.on there).0)

pub returns-clause-was : goal.returns-clause-was
returns-clause-was c =
    let i = c.self.inside in
    rw (← c.self.view_is) (bit_of_cell_shown i.cell_size i.block.words i.block.headers c.args.cell c.args.bit _ c.set_bit.ensures.was)
