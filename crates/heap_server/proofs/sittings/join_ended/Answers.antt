use Rattle.std.proofs.Common.{◌∙◌, refl}
use Rattle.heap_server.proofs.sittings.join_ended.Goals as goal

pub loop-i-init : goal.loop-i-init
loop-i-init g c = ((λ terms seats rest is. is), refl, refl)

pub loop-i-preserved : goal.loop-i-preserved
loop-i-preserved g c =
    let was = c.loop-i.invariant in
    let e = c.join_if_ended.ensures in
    ((λ terms seats rest is. e.sit terms seats rest (was.0 terms seats rest is)), e.len ∙ was.1, e.room ∙ was.2)
