use Rattle.heap_region.proofs.headers.Headers.counts.Goals as goal

pub returns : goal.returns
returns c = rw (← c.self.view_is) c.self.invariant
