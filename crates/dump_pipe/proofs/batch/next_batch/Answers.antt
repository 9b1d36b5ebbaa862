use Rattle.dump_pipe.specs.Batches.{parts_left}
use Rattle.dump_pipe.proofs.BatchFilling.{drawn_part_begins_batch, lost_part_gives_no_batch, cancelled_part_gives_no_batch}
use Rattle.dump_pipe.proofs.batch.next_batch.Goals as goal

pub batch_from-requires-clause-small : goal.batch_from-requires-clause-small
batch_from-requires-clause-small g c = (c.in-Part.ensures.drawn c.requires.0 c.requires.1).1

pub batch_from-requires-clause-left : goal.batch_from-requires-clause-left
batch_from-requires-clause-left g c = (c.in-Part.ensures.drawn c.requires.0 c.requires.1).3

pub batch_from-requires-clause-whole : goal.batch_from-requires-clause-whole
batch_from-requires-clause-whole g c = (c.in-Part.ensures.drawn c.requires.0 c.requires.1).4

pub returns-in-Part-clause-batch : goal.returns-in-Part-clause-batch
returns-in-Part-clause-batch g c told ahead =
    drawn_part_begins_batch told (parts_left c.args.surplus.now (g.S.Source.seen c.args.source.now).left) (g.S.Source.seen c.draw.new.source) (g.S.Source.seen c.batch_from.new.source) c.in-Part.first c.batch_from.result c.batch_from.new.surplus
    (c.in-Part.ensures.drawn told ahead) c.batch_from.ensures.batch

pub returns-in-Lost-clause-batch : goal.returns-in-Lost-clause-batch
returns-in-Lost-clause-batch g c told ahead =
    lost_part_gives_no_batch told (parts_left c.args.surplus.now (g.S.Source.seen c.args.source.now).left) (g.S.Source.seen c.draw.new.source) c.in-Lost.cause c.draw.new.surplus c.in-Lost.ensures.empty (c.in-Lost.ensures.drawn told ahead)

pub returns-in-Cancelled-clause-batch : goal.returns-in-Cancelled-clause-batch
returns-in-Cancelled-clause-batch g c told ahead =
    cancelled_part_gives_no_batch told (parts_left c.args.surplus.now (g.S.Source.seen c.args.source.now).left) (g.S.Source.seen c.draw.new.source) c.draw.new.surplus c.in-Cancelled.ensures.empty (c.in-Cancelled.ensures.drawn told ahead)
