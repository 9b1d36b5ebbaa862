use Rattle.std.proofs.Common.{◌+◌, ◌≤◌, sym, subst, arith}
use Rattle.heap_world.specs.Reach.{Reaches}
use Rattle.heap_trail.specs.Trail.{state_ago}
use Rattle.heap_questions.specs.Losses.{UnreachedFor}
use Rattle.heap_questions.proofs.PastLosses.{newest_here, newest_left, not_reached, unreached_more}
use Rattle.heap_questions.proofs.past.losses.newest_reached.Goals as goal

pub returns-then-middle-low-clause-newest : goal.returns-then-middle-low-clause-newest
returns-then-middle-low-clause-newest c =
    let t = c.args.past.now in
    let at = c.args.at in
    let n = c.next_look-middle.result in
    let within : n ≤ c.args.oldest = omega (arith, c.loop-newest.invariant.within, c.next_look-middle.ensures.1) in
    let reached = subst (Reaches (state_ago n t)) c.requires.named (c.in_ok-was_reached.ensures.told.0 c.if-branch.true) in
    newest_here t at c.args.oldest n within reached (subst (UnreachedFor t at) (sym c.if-middle-low.true) c.loop-newest.invariant.below)

pub returns-then-middle-last-clause-newest : goal.returns-then-middle-last-clause-newest
returns-then-middle-last-clause-newest c =
    let t = c.args.past.now in
    let at = c.args.at in
    let n = c.next_look-middle.result in
    let unreached = not_reached (state_ago n t) _ _ _ c.in_ok-was_reached.ensures.told c.requires.named c.if-branch.false in
    let more = unreached_more c.place-place.ensures.trail.0 t at c.args.oldest n c.place-place.ensures.trail.1 c.requires.stood (omega (arith, c.loop-newest.invariant.within, c.next_look-middle.ensures.1)) unreached in
    newest_left t at c.args.oldest c.loop-newest.last c.loop-newest.newest c.loop-newest.invariant.above (subst (λ k. UnreachedFor t at (k + 1)) c.if-middle-last.true more)

pub loop-newest-preserved : goal.loop-newest-preserved
loop-newest-preserved c =
    let t = c.args.past.now in
    let at = c.args.at in
    let n = c.next_look-middle.result in
    let within : n ≤ c.args.oldest = omega (arith, c.loop-newest.invariant.within, c.next_look-middle.ensures.1) in
    record {
      ordered = omega (arith, c.next_look-middle.ensures.1, c.if-middle-last.false);
      within = c.loop-newest.invariant.within;
      below = unreached_more c.place-place.ensures.trail.0 t at c.args.oldest n c.place-place.ensures.trail.1 c.requires.stood within (not_reached (state_ago n t) _ _ _ c.in_ok-was_reached.ensures.told c.requires.named c.if-branch.false);
      above = c.loop-newest.invariant.above;
    }
