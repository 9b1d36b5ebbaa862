use Rattle.heap_questions.proofs.SeenSlots.{kind_shown, sees_here}
use Rattle.heap_questions.proofs.past.seen.kind_of.Goals as goal

pub kind-requires : goal.kind-requires
kind-requires c = sees_here c.requires.0 c.args.world.now c.args.pin.now c.args.at c.requires.1 c.requires.2

pub returns : goal.returns
returns c w shown there = kind_shown w c.args.world.now c.args.pin.now c.args.at c.kind.result shown there c.kind.ensures
