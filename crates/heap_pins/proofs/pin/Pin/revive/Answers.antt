use Rattle.heap_pins.proofs.AddedCopies.{table_revived_is_pin_revived}
use Rattle.heap_pins.proofs.pin.Pin.revive.Goals as goal

pub returns : goal.returns
returns c = table_revived_is_pin_revived c.args.self.now _ c.revive.new.self c.self.view_is c.revive.ensures
