use Rattle.std.proofs.Common.{arith}
use Rattle.hprof_text.specs.Segments.{segment_limit}
use Rattle.hprof_text.specs.Text.{sub_records}
use Rattle.hprof_image.proofs.ToldImages.{dump_tells_image}
use Rattle.hprof_image.proofs.laws.dumps_tell_images.Goals as goal

pub returns : goal.returns
returns c = λ ids image time tellable.
    dump_tells_image ids image time tellable.0 tellable.1 (c.numbers_fit.ensures ids image 0 tellable.0 (omega arith)) (c.sub_records_are_read.ensures ids image tellable.0 tellable.1) (c.segments_are_cut.ensures segment_limit (sub_records ids image)) tellable.2
