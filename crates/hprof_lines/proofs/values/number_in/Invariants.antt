use Rattle.std.proofs.Common.{◌≡◌, fold, take}
use Rattle.hprof_lines.specs.Values.{with_byte}
use Rattle.hprof_lines.proofs.values.number_in.Given as goal

abbrev pub invariant-loop-byte : goal.invariant-loop-byte
invariant-loop-byte l = l.number ≡ fold with_byte 0 (take l.byte-index l.bytes)
