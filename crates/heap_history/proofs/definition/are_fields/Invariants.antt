use Rattle.std.proofs.Common.{◌≡◌, drop}
use Rattle.heap_history.specs.Definitions.{fields_in}
use Rattle.heap_history.proofs.definition.are_fields.Given as goal

abbrev pub invariant-loop-i : goal.invariant-loop-i
invariant-loop-i l =
    (fields_in l.shapes l.letters ≡ l.fields → fields_in (drop l.i l.shapes) l.left ≡ drop l.i l.fields)
    × (fields_in (drop l.i l.shapes) l.left ≡ drop l.i l.fields → fields_in l.shapes l.letters ≡ l.fields)
