use Rattle.std.proofs.Common.{◌∙◌, [], ap, sym}
use Rattle.std.specs.Prelude.{slice_index_or}
use Rattle.heap_pins.specs.Pin.{PinContents}
use Rattle.heap_pins.proofs.FirstCells.{first_of_bytes, none_in_blank}
use Rattle.heap_pins.proofs.pin.Pin.first_kept.Goals as goal

pub returns-in-Some : goal.returns-in-Some
returns-in-Some c = first_of_bytes c.args.self.now.cells c.args.region c.args.from c.in-Some.bytes.now c.first_state.result (ap (λ (p : PinContents). slice_index_or p.cells c.args.region []) (sym c.self.view_is) ∙ c.in-Some.ensures) (c.first_state.ensures c.args.region)

pub returns-in-None : goal.returns-in-None
returns-in-None c = none_in_blank c.args.self.now.cells c.args.region c.args.from (ap (λ (p : PinContents). slice_index_or p.cells c.args.region []) (sym c.self.view_is) ∙ c.in-None.ensures)
