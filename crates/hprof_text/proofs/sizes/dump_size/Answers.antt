use Rattle.hprof_text.specs.Sizes.{dump_size}
use Rattle.hprof_text.proofs.sizes.dump_size.Goals as goal

pub returns-in-Instance-clause-value : goal.returns-in-Instance-clause-value
unfolding dump_size
returns-in-Instance-clause-value c = rw c.in-Instance.is (c.instance_dump_size.ensures.value c.args.words)

pub returns-in-Array-clause-value : goal.returns-in-Array-clause-value
unfolding dump_size
returns-in-Array-clause-value c = rw c.in-Array.is (c.array_size.ensures.value 0)
