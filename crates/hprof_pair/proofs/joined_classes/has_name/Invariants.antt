use Rattle.std.proofs.Common.{◌≡◌, false, take}
use Rattle.std.specs.List.{list_any}
use Rattle.std.specs.Str.{bytes_eq}
use Rattle.heap_class.specs.Classes.{Class}
use Rattle.hprof_pair.proofs.joined_classes.has_name.Given as goal

abbrev pub invariant-loop-k : goal.invariant-loop-k
invariant-loop-k l = list_any (λ (c : Class). bytes_eq c.name l.name) (take l.k l.classes) ≡ false
