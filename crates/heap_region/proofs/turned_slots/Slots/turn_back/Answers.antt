use Rattle.heap_region.proofs.LateTurns.{slots_turned_back}
use Rattle.heap_region.proofs.turned_slots.Slots.turn_back.Goals as goal

pub returns : goal.returns
returns c = rw (← c.self.view_is, c.prior-self-inside.ensures) (slots_turned_back c.self.inside.turns c.self.inside.slots.items)
