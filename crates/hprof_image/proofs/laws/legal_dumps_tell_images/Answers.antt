use Rattle.heap_pins.proofs.DumpLimits.{legal_heap_is_dumpable}
use Rattle.heap_pins.specs.Images.{image_of}
use Rattle.hprof_image.proofs.laws.legal_dumps_tell_images.Goals as goal

pub returns : goal.returns
returns c = λ ids w time legal early. c.dumps_tell_images.ensures ids (image_of w) time (legal_heap_is_dumpable w legal, (c.dump_is_whole.ensures ids w time legal early).1, early)
