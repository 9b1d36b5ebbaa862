use Rattle.std.proofs.Common.{◌<◌, ◌+◌, ◌-◌, take, vec_capacity, vec_len}
use Rattle.heap_server.proofs.AheadReads.{IsReading}
use Rattle.heap_server.proofs.ahead.fill.Given as goal

abbrev pub invariant-loop-most : goal.invariant-loop-most
invariant-loop-most g l =
    IsReading l.most (take l.end l.room) l.end (vec_len l.sizes) (g.I.Inlet.seen l.initial.inlet) (g.I.Inlet.seen l.inlet)
    × (l.most < vec_capacity l.sizes)

abbrev pub decreases-loop-most : goal.decreases-loop-most
decreases-loop-most g l = l.most + 1 - vec_len l.sizes
