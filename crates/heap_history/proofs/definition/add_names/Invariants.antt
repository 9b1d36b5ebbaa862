use Rattle.std.proofs.Common.{◌≡◌, ◌++◌, take}
use Rattle.std.specs.List.{flat_map}
use Rattle.heap_history.proofs.definition.add_names.Given as goal

abbrev pub invariant-loop-field : goal.invariant-loop-field
invariant-loop-field l = l.letters.items ≡ l.fn.letters.items ++ flat_map (λ f. f.name) (take l.field-index l.fields)
