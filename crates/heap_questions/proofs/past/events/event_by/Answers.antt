use Rattle.std.proofs.Common.{subst}
use Rattle.heap_questions.specs.Newest.{SeesStep}
use Rattle.heap_questions.proofs.past.events.event_by.Goals as goal

pub put_event-requires : goal.put_event-requires
put_event-requires c = subst (SeesStep c.args.pin.now c.args.world.now) c.in-Put.is c.requires

pub store_event-requires : goal.store_event-requires
store_event-requires c = subst (SeesStep c.args.pin.now c.args.world.now) c.in-Store.is c.requires

pub register_event-requires : goal.register_event-requires
register_event-requires c = subst (SeesStep c.args.pin.now c.args.world.now) c.in-Reg.is c.requires

pub new_event-requires : goal.new_event-requires
new_event-requires c = subst (SeesStep c.args.pin.now c.args.world.now) c.in-New.is c.requires
