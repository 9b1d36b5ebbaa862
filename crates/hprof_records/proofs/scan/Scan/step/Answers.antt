use Rattle.hprof_records.proofs.Heads.{byte_past_end_breaks, broken_scan_stays_broken}
use Rattle.hprof_records.proofs.scan.Scan.step.Goals as goal

pub returns-in-Ended : goal.returns-in-Ended
returns-in-Ended c rest = rw c.in-Ended.is (byte_past_end_breaks c.args.byte rest)

pub returns-in-Broken : goal.returns-in-Broken
returns-in-Broken c rest = rw c.in-Broken.is (broken_scan_stays_broken c.args.byte rest)
