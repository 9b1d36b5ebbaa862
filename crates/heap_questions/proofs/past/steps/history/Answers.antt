use Rattle.std.proofs.Common.{◌≡◌, ◌+◌, ◌-◌, ◌<◌, ◌∷◌, ◌++◌, [], sym, ◌∙◌, subst, arith}
use Rattle.std.specs.Prelude.{min}
use Rattle.heap_trail.specs.Trail.{retained, state_ago}
use Rattle.heap_trail.proofs.RetainedRecords.{has_record}
use Rattle.heap_questions.specs.declared.past.steps.PastStep.{PastStep}
use Rattle.heap_questions.specs.Newest.{event_to, past_step}
use Rattle.heap_questions.specs.PastTrails.{IsPinAgo}
use Rattle.heap_questions.proofs.NewestSteps.{back_all, back_more, back_none}
use Rattle.heap_questions.proofs.SeenSteps.{event_seen, step_seen}
use Rattle.heap_questions.proofs.WrittenSlots.{can_walk, shown_beside, walked_one}
use Rattle.heap_questions.proofs.past.steps.history.Goals as goal

pub loop-n-init : goal.loop-n-init
loop-n-init c =
    let t = c.args.machine.now.trail in
    let ago = c.args.ago in
    record {
      pin = subst (IsPinAgo c.in_ok-pin.pin t) (let e : ago ≡ ago + 0 = omega arith in e) c.in_ok-pin.ensures.shown;
      steps = c.in_ok-steps.ensures.items ∙ sym (back_none t ago);
    }

pub event_by-requires : goal.event_by-requires
event_by-requires c =
    let t = c.args.machine.now.trail in
    let n = c.args.ago + c.loop-n.n in
    let w = c.world-world.result.now in
    let left = c.record_ago-left.result.now in
    let r = has_record c.args.machine.now.keep t n left c.place-place.ensures.trail c.record_ago-left.ensures in
    step_seen t n left w c.loop-n.pin (shown_beside t n w c.loop-n.pin c.world-world.ensures.value c.loop-n.invariant.pin) r

pub walk_back-requires : goal.walk_back-requires
walk_back-requires c =
    let t = c.args.machine.now.trail in
    let n = c.args.ago + c.loop-n.n in
    let left = c.record_ago-left.result.now in
    let r = has_record c.args.machine.now.keep t n left c.place-place.ensures.trail c.record_ago-left.ensures in
    can_walk t n left c.world-world.result.now c.loop-n.pin c.world-world.ensures.value c.loop-n.invariant.pin r

pub loop-n-preserved : goal.loop-n-preserved
loop-n-preserved c =
    let t = c.args.machine.now.trail in
    let ago = c.args.ago in
    let n = ago + c.loop-n.n in
    let w = c.world-world.result.now in
    let now = c.world-world.ensures.value in
    let left = c.record_ago-left.result.now in
    let r = has_record c.args.machine.now.keep t n left c.place-place.ensures.trail c.record_ago-left.ensures in
    let i = c.loop-n.invariant in
    let within : n < retained t = omega (arith, c.requires, c.loop-n-test.true, c.loop-n.auto.n-end) in
    let event : c.event_by.result ≡ event_to (state_ago n t) left = c.event_by.ensures ∙ event_seen t n left w c.loop-n.pin (shown_beside t n w c.loop-n.pin now i.pin) r in
    let x : PastStep = record { place = c.place-place.result - n; event = c.event_by.result } in
    let one : x ≡ past_step t n left = λ j. record { place = c.place-place.ensures.value j - n; event = event j } in
    record {
      pin = subst (IsPinAgo c.walk_back.new.self t) (let e : n + 1 ≡ ago + (c.loop-n.n + 1) = omega arith in e) (walked_one t n left w c.loop-n.pin c.walk_back.new.self now within i.pin r c.in_ok-walk_back.ensures.walked);
      steps = c.in_ok-push.ensures.items ∙ (λ j. i.steps j ++ one j ∷ []) ∙ sym (back_more t ago c.loop-n.n left c.record_ago-left.ensures);
    }

pub returns-clause-steps : goal.returns-clause-steps
returns-clause-steps c =
    let t = c.args.machine.now.trail in
    let all : c.loop-n.n ≡ min c.args.count (retained t - c.args.ago) = omega (arith, c.loop-n-test.false, c.loop-n.auto.n-end) in
    c.loop-n.invariant.steps ∙ back_all c.args.machine.now.keep t c.args.ago c.args.count c.loop-n.n c.place-place.ensures.trail all
