use Rattle.hprof_records.proofs.Heads.{body_byte_leaves_one_less, byte_after_body_begins_head}
use Rattle.hprof_records.proofs.scan.after_byte.Goals as goal

pub returns-then-left-gt0 : goal.returns-then-left-gt0
returns-then-left-gt0 c rest = body_byte_leaves_one_less c.args.left c.args.byte rest c.if-left-gt0.true

pub returns : goal.returns
returns c rest = byte_after_body_begins_head c.args.left c.args.byte rest _ c.if-left-gt0.false
