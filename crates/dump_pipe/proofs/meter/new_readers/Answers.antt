use Rattle.std.proofs.Common.{◌∙◌}
use Rattle.dump_pipe.proofs.MeterSteps.{fresh_side_splits_off_reader}
use Rattle.dump_pipe.proofs.meter.new_readers.Goals as goal

pub split_seat-seat-requires : goal.split_seat-seat-requires
split_seat-seat-requires c = (c.loop.invariant.0 ∙ c.requires.table.0, c.requires.table.1, fresh_side_splits_off_reader _ _ (c.loop.invariant.1 ∙ c.requires.adds))
