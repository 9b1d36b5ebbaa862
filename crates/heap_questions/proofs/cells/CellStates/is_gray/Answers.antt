use Rattle.std.proofs.Common.{◌∙◌, false, sym, arith}
use Rattle.std.proofs.lemmas.Bool.{le-ltb}
use Rattle.std.proofs.lemmas.List.{get_or_default, get_or_past}
use Rattle.heap_questions.proofs.GrayMarks.{mark_told}
use Rattle.heap_questions.proofs.cells.CellStates.is_gray.Goals as goal

pub returns-then-number-len : goal.returns-then-number-len
returns-then-number-len c =
    let marks = c.self.inside.gray.items in
    let k = c.cell_number-number.result in
    c.index.ensures
    ∙ get_or_default marks k _ false (omega (arith, c.if-number-len.true, c.len.ensures))
    ∙ mark_told c.self.inside.world.now c.args.self.now marks c.args.at k c.self.invariant c.self.view_is c.cell_number-number.ensures c.requires

pub returns-else-number-len : goal.returns-else-number-len
returns-else-number-len c =
    let marks = c.self.inside.gray.items in
    let k = c.cell_number-number.result in
    le-ltb k c.len.result c.if-number-len.false
    ∙ sym (get_or_past marks k false (omega (arith, c.if-number-len.false, c.len.ensures)))
    ∙ mark_told c.self.inside.world.now c.args.self.now marks c.args.at k c.self.invariant c.self.view_is c.cell_number-number.ensures c.requires
