use Rattle.std.proofs.Common.{◌≡◌, map, take}
use Rattle.heap_runtime.proofs.classes.own_fields.Given as goal

abbrev pub invariant-loop-name : goal.invariant-loop-name
invariant-loop-name l = l.own.items ≡ map (λ f. record { name = f.0.now; kind = f.1 }) (take l.name-index l.fields)
