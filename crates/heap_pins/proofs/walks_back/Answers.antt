use Rattle.heap_pins.proofs.RecordWalks.{pin_walk_goes_one_back, walked_pin_holds_its_state}
use Rattle.heap_pins.proofs.walks_back.Goals as goal

pub returns-clause-further : goal.returns-clause-further
returns-clause-further c left x w p q e n past = pin_walk_goes_one_back left e x w p q n past

pub returns-clause-holds : goal.returns-clause-holds
returns-clause-holds c = walked_pin_holds_its_state
