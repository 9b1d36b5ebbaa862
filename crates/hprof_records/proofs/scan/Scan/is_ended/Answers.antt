use Rattle.hprof_records.proofs.Heads.{text_cut_in_body_incomplete, text_cut_in_head_incomplete, broken_scan_never_completes, ended_scan_completes}
use Rattle.hprof_records.proofs.scan.Scan.is_ended.Goals as goal

pub returns-in-Ended : goal.returns-in-Ended
returns-in-Ended c = rw c.in-Ended.is ended_scan_completes

pub returns-in-Within : goal.returns-in-Within
returns-in-Within c = rw c.in-Within.is (text_cut_in_body_incomplete c.in-Within.field-0)

pub returns-in-Head : goal.returns-in-Head
returns-in-Head c = rw c.in-Head.is (text_cut_in_head_incomplete c.in-Head.field-0)

pub returns-in-Broken : goal.returns-in-Broken
returns-in-Broken c = rw c.in-Broken.is broken_scan_never_completes
