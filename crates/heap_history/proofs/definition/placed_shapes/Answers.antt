use Rattle.std.proofs.Common.{arith}
use Rattle.heap_history.proofs.Letters.{field_name_within_all_names}
use Rattle.heap_history.proofs.definition.placed_shapes.Goals as goal

pub shape_of-requires-in-loop-i : goal.shape_of-requires-in-loop-i
shape_of-requires-in-loop-i c = omega (arith, field_name_within_all_names c.args.fields.now c.loop-i.i c.index-fields-i.result c.loop-i-test.true c.index-fields-i.is)
