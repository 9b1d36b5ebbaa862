use Rattle.std.proofs.Common.{◌≡◌, ◌<◌, subst, arith}
use Rattle.heap_trail.specs.Trail.{retained}
use Rattle.heap_trail.proofs.RetainedRecords.{has_record}
use Rattle.heap_questions.specs.PastTrails.{IsPinAgo}
use Rattle.heap_questions.proofs.WrittenSlots.{can_walk, fresh_pin_shows_current_state, walked_one}
use Rattle.heap_questions.proofs.past.seen.past_pin.Goals as goal

pub loop-n-init : goal.loop-n-init
loop-n-init c = fresh_pin_shows_current_state c.args.machine.now.trail c.world-world.result.now c.in_ok-pin.pin c.world-world.ensures.value c.in_ok-pin.ensures.opened

pub walk_back-requires : goal.walk_back-requires
walk_back-requires c =
    let t = c.args.machine.now.trail in
    let left = c.record_ago.result.now in
    let r = has_record c.args.machine.now.keep t c.loop-n.n left c.place-place.ensures.trail c.record_ago.ensures in
    can_walk t c.loop-n.n left c.world-world.result.now c.loop-n.pin c.world-world.ensures.value c.loop-n.invariant r

pub loop-n-preserved : goal.loop-n-preserved
loop-n-preserved c =
    let t = c.args.machine.now.trail in
    let left = c.record_ago.result.now in
    let lt : c.loop-n.n < retained t = omega (arith, c.loop-n-test.true, c.requires) in
    let r = has_record c.args.machine.now.keep t c.loop-n.n left c.place-place.ensures.trail c.record_ago.ensures in
    walked_one t c.loop-n.n left c.world-world.result.now c.loop-n.pin c.walk_back.new.self c.world-world.ensures.value lt c.loop-n.invariant r c.in_ok-walk_back.ensures.walked

pub returns-clause-shown : goal.returns-clause-shown
returns-clause-shown c =
    let all : c.loop-n.n ≡ c.args.ago = omega (arith, c.loop-n-test.false, c.loop-n.auto.n-end) in
    subst (IsPinAgo c.loop-n.pin c.args.machine.now.trail) all c.loop-n.invariant
