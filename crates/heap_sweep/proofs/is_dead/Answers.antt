use Rattle.std.proofs.Common.{◌≡◌, Bool, false, not, Option, Some, None, option_map, refl, ap}
use Rattle.heap_region.specs.Live.{is_dead}
use Rattle.heap_region.specs.Regions.{Object}
use Rattle.heap_sweep.proofs.is_dead.Goals as goal

abbrev live_of : Object → Bool
live_of o = o.live

dead_told_by_liveness : (x : Option Object) (live : Bool) → Some live ≡ option_map live_of x → not live ≡ is_dead x
dead_told_by_liveness None live e = cc
dead_told_by_liveness (Some o) live e = (let same : live ≡ o.live = cc in ap not same)

none_told : (x : Option Object) → None ≡ option_map live_of x → false ≡ is_dead x
none_told None e = refl
none_told (Some o) e = cc

pub returns-in-Some : goal.returns-in-Some
returns-in-Some c = dead_told_by_liveness _ c.in-Some.live c.in-Some.ensures

pub returns-in-None : goal.returns-in-None
returns-in-None c = none_told _ c.in-None.ensures
