use Rattle.std.proofs.Common.{◌≡◌, ◌++◌, map, take}
use Rattle.hprof_plan.specs.Names.{sign_for}
use Rattle.hprof_plan.proofs.names.push_signs.Given as goal

abbrev pub invariant-loop-byte : goal.invariant-loop-byte
invariant-loop-byte l = l.text.items ≡ l.fn.text.items ++ map (sign_for l.any_sign) (take l.byte-index l.bytes)
