use Rattle.std.proofs.Common.{◌∙◌, [], ap, sym, subst}
use Rattle.std.specs.Prelude.{slice_index_or}
use Rattle.heap_pins.specs.Pin.{PinContents}
use Rattle.heap_pins.specs.States.{IsFirstIn, state_by}
use Rattle.heap_pins.proofs.FirstCells.{first_by_bytes, first_by_no_bytes}
use Rattle.heap_pins.proofs.pin.Pin.first_of.Goals as goal

pub returns-in-Some : goal.returns-in-Some
returns-in-Some c = first_by_bytes c.args.self.now c.args.storage.now c.args.region c.args.from c.in-Some.bytes.now c.first_by.result
    (ap (λ (p : PinContents). slice_index_or p.cells c.args.region []) (sym c.self.view_is) ∙ c.in-Some.ensures)
    (subst (λ (p : PinContents). IsFirstIn (state_by p.ended c.in-Some.bytes.now c.args.storage.now) c.args.region c.args.from c.first_by.result) c.self.view_is (c.first_by.ensures c.args.region))

pub returns-in-None : goal.returns-in-None
returns-in-None c = first_by_no_bytes c.args.self.now c.args.storage.now c.args.region c.args.from c.first_untaken.result
    (ap (λ (p : PinContents). slice_index_or p.cells c.args.region []) (sym c.self.view_is) ∙ c.in-None.ensures)
    (subst (λ (p : PinContents). IsFirstIn (state_by p.ended [] c.args.storage.now) c.args.region c.args.from c.first_untaken.result) c.self.view_is (c.first_untaken.ensures c.args.region))
