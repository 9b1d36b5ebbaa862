use Rattle.std.proofs.Common.{◌∙◌, [], ap, sym}
use Rattle.std.specs.Prelude.{slice_index_or, slice_set}
use Rattle.heap_pins.specs.KeptCopies.{bytes_with}
use Rattle.heap_pins.specs.Pin.{PinContents}
use Rattle.heap_pins.proofs.AddedCopies.{bytes_are_set}
use Rattle.heap_pins.proofs.pin.Pin.set_byte.Goals as goal

pub returns-then-fresh : goal.returns-then-fresh
unfolding bytes_with
returns-then-fresh c =
    c.fill.ensures ∙ ap (λ l. (let t : PinContents = record c.args.self.now { cells = slice_set c.args.self.now.cells c.args.at.region l } in t))
    (sym (ap (λ b. bytes_with c.args.at.cell b c.args.byte (slice_index_or c.args.self.now.cells c.args.at.region [])) c.if-fresh.true))

pub returns-else-fresh : goal.returns-else-fresh
unfolding bytes_with
returns-else-fresh c =
    let bytes = slice_index_or c.self.inside.kept.cells c.args.at.region [] in
    bytes_are_set c.args.self.now _ c.set_byte.new.self c.args.at c.args.fresh c.args.byte (slice_set bytes c.args.at.cell c.args.byte) c.self.view_is c.set_byte.ensures
    (sym (ap (λ b. bytes_with c.args.at.cell b c.args.byte bytes) c.if-fresh.false))
