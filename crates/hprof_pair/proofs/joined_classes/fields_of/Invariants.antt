use Rattle.std.proofs.Common.{◌≡◌, take}
use Rattle.heap_class.specs.Classes.{fields_of}
use Rattle.hprof_pair.proofs.joined_classes.fields_of.Given as goal

abbrev pub invariant-loop-i : goal.invariant-loop-i
invariant-loop-i l = l.fields.items ≡ take l.i (fields_of l.classes l.k)
