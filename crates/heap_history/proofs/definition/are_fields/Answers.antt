use Rattle.std.proofs.Common.{length, ap, arith}
use Rattle.heap_history.proofs.Letters.{fields_as_many_as_shapes}
use Rattle.heap_history.proofs.definition.are_fields.Goals as goal

pub returns-then-shapes-fields : goal.returns-then-shapes-fields
returns-then-shapes-fields c = (λ t. absurd (cc), λ e. absurd (omega (arith, ap length e, fields_as_many_as_shapes c.args.shapes.now c.args.letters.now, c.if-shapes-fields.true)))
