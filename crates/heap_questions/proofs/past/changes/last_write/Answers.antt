use Rattle.std.proofs.Common.{◌-◌, ◌<◌, sym, ◌∙◌, subst, arith}
use Rattle.heap_trail.specs.Trail.{retained}
use Rattle.heap_questions.proofs.PastTrails.{has_past}
use Rattle.heap_questions.specs.Changes.{IsLastWrite}
use Rattle.heap_questions.proofs.Walk.{no_change_goes_further, change_is_last_write}
use Rattle.heap_questions.proofs.past.changes.last_write.Goals as goal

pub returns-then-changes-clause-written : goal.returns-then-changes-clause-written
returns-then-changes-clause-written c =
    let t = c.args.past.now in
    let at = c.args.at in
    let s = c.args.slot in
    let now = c.args.now in
    let h = c.requires in
    let lt : c.loop-n.n < retained t = omega (arith, c.loop-n-test.true, c.retained_count-n-end.ensures) in
    let r = has_past t c.loop-n.n c.record_ago.result.now c.place-place.ensures.trail c.record_ago.ensures in
    subst (λ p. IsLastWrite t at s (p - c.loop-n.n)) (sym c.place-place.ensures.value)
    (change_is_last_write t at s c.loop-n.n now c.record_ago.result.now lt h c.loop-n.invariant r (sym c.changes.ensures ∙ c.if-changes.true))

pub loop-n-preserved : goal.loop-n-preserved
loop-n-preserved c =
    let t = c.args.past.now in
    let at = c.args.at in
    let s = c.args.slot in
    let now = c.args.now in
    let h = c.requires in
    let r = has_past t c.loop-n.n c.record_ago.result.now c.place-place.ensures.trail c.record_ago.ensures in
    no_change_goes_further t at s c.loop-n.n now c.record_ago.result.now h c.loop-n.invariant r (sym c.changes.ensures ∙ c.if-changes.false)
