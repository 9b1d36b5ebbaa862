use Rattle.hprof_records.proofs.Heads.{head_followed_by_its_body, end_record_head_read, no_end_came, part_of_head_read}
use Rattle.hprof_records.proofs.scan.after_front.Goals as goal

pub returns-then-count-lt-HEAD_ROOM : goal.returns-then-count-lt-HEAD_ROOM
returns-then-count-lt-HEAD_ROOM c rest = part_of_head_read c.args.front c.args.byte rest _ c.if-count-lt-HEAD_ROOM.true

pub returns-then-bytes-ne-HEAP_DUMP_END : goal.returns-then-bytes-ne-HEAP_DUMP_END
returns-then-bytes-ne-HEAP_DUMP_END c rest = head_followed_by_its_body c.args.front c.args.byte c.from_be_bytes-size.result rest c.if-count-lt-HEAD_ROOM.false c.if-bytes-ne-HEAP_DUMP_END.true c.from_be_bytes-size.ensures

pub returns-then-size-eq0 : goal.returns-then-size-eq0
returns-then-size-eq0 c rest =
    end_record_head_read c.args.front c.args.byte c.from_be_bytes-size.result rest c.if-count-lt-HEAD_ROOM.false c.if-bytes-ne-HEAP_DUMP_END.false c.from_be_bytes-size.ensures c.if-size-eq0.true

pub returns-else-size-eq0 : goal.returns-else-size-eq0
returns-else-size-eq0 c rest =
    no_end_came c.args.front c.args.byte c.from_be_bytes-size.result rest c.if-count-lt-HEAD_ROOM.false c.if-bytes-ne-HEAP_DUMP_END.false c.from_be_bytes-size.ensures c.if-size-eq0.false
