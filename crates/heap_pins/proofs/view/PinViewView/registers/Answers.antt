use Rattle.std.proofs.Common.{ap, ◌∙◌}
use Rattle.heap_pins.specs.Pin.{pin_image}
use Rattle.heap_pins.specs.View.{PinShown}
use Rattle.heap_pins.proofs.view.PinViewView.registers.Goals as goal

pub returns : goal.returns
unfolding pin_image
returns c = c.registers.ensures ∙ ap (λ (v : PinShown). v.pin.registers) c.self.view_is
