use Rattle.dump_pipe.proofs.cancellable.CancellableSource.parts_left.Goals as goal

pub returns-clause-left : goal.returns-clause-left
returns-clause-left g c = c.parts_left.ensures.left
