use Rattle.std.proofs.Common.{◌≤◌, length, ap, arith}
use Rattle.heap_questions.specs.Distances.{distance_by}
use Rattle.heap_questions.specs.Graph.{slot_names}
use Rattle.heap_questions.proofs.KnownDistances.{least_all, least_begins, least_more}
use Rattle.heap_questions.proofs.distances.least_along.Goals as goal

pub loop-slot-init : goal.loop-slot-init
loop-slot-init c = least_begins (distance_by c.args.nodes.now c.args.table.now) (slot_names c.args.classes.now c.args.object.now)

pub loop-slot-preserved : goal.loop-slot-preserved
loop-slot-preserved c =
    least_more (distance_by c.args.nodes.now c.args.table.now) (slot_names c.args.classes.now c.args.object.now) c.loop-slot.slot c.loop-slot.least c.min-least.result c.distance_along.result c.min-least.ensures c.distance_along.ensures c.loop-slot.invariant

pub returns : goal.returns
returns c =
    let all : length c.args.object.now.words ≤ c.loop-slot.slot = omega (arith, c.loop-slot-test.false, c.loop-slot.auto.slot-end, ap length c.words-slot-end.ensures) in
    least_all (distance_by c.args.nodes.now c.args.table.now) c.args.classes.now c.args.object.now c.loop-slot.slot c.loop-slot.least all c.loop-slot.invariant
