use Rattle.std.proofs.Common.{◌≡◌, ◌++◌, List, ℕ, take}
use Rattle.hprof_records.specs.Records.{completes}
use Rattle.hprof_records.proofs.scan.Scan.follow.Given as goal

abbrev pub invariant-loop-byte : goal.invariant-loop-byte
invariant-loop-byte l = (rest : List ℕ) → completes l.initial.self (take l.byte-index l.bytes ++ rest) ≡ completes l.self rest
