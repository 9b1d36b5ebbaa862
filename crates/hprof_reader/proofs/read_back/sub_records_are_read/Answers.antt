use Rattle.std.proofs.Common.{arith}
use Rattle.hprof_reader.proofs.ReadBack.{whole_image_is_read_back}
use Rattle.hprof_reader.proofs.read_back.sub_records_are_read.Goals as goal

pub returns : goal.returns
returns c = λ ids image dumpable shows. whole_image_is_read_back ids image (c.numbers_fit.ensures ids image 0 dumpable (omega arith)) shows
