use Rattle.heap_region.proofs.LateTurns.{slots_turned}
use Rattle.heap_region.proofs.turned_slots.Slots.turn.Goals as goal

pub returns : goal.returns
returns c = rw (← c.self.view_is, c.next-self-inside.ensures) (slots_turned c.self.inside.turns c.self.inside.slots.items)
