use Rattle.std.proofs.Common.{◌-◌, ◌<◌, sym, ◌∙◌, subst, arith}
use Rattle.heap_trail.specs.Trail.{retained}
use Rattle.heap_questions.proofs.PastTrails.{has_past}
use Rattle.heap_questions.specs.Changes.{IsBirth}
use Rattle.heap_questions.proofs.Walk.{making_is_birth, stands_now, no_making_goes_further}
use Rattle.heap_questions.proofs.past.changes.birth.Goals as goal

pub loop-n-init : goal.loop-n-init
loop-n-init c = stands_now c.args.past.now c.args.at c.requires

pub returns-then-makes-clause-born : goal.returns-then-makes-clause-born
returns-then-makes-clause-born c =
    let t = c.args.past.now in
    let lt : c.loop-n.n < retained t = omega (arith, c.loop-n-test.true, c.retained_count-n-end.ensures) in
    let h = has_past t c.loop-n.n c.record_ago.result.now c.place-place.ensures.trail c.record_ago.ensures in
    subst (λ p. IsBirth t c.args.at (p - c.loop-n.n)) (sym c.place-place.ensures.value)
    (making_is_birth t c.args.at c.loop-n.n c.record_ago.result.now lt c.loop-n.invariant h (sym c.makes.ensures ∙ c.if-makes.true))

pub loop-n-preserved : goal.loop-n-preserved
loop-n-preserved c =
    let t = c.args.past.now in
    let h = has_past t c.loop-n.n c.record_ago.result.now c.place-place.ensures.trail c.record_ago.ensures in
    no_making_goes_further t c.args.at c.loop-n.n c.record_ago.result.now c.loop-n.invariant h (sym c.makes.ensures ∙ c.if-makes.false)
