use Rattle.std.proofs.Common.{◌≡◌, ◌+◌, ◌-◌, ◌<◌, ◌≤◌, sym, ap, subst, arith}
use Rattle.std.specs.Prelude.{reverse}
use Rattle.heap_trail.specs.Trail.{retained, rewound}
use Rattle.heap_trail.proofs.RetainedRecords.{has_record}
use Rattle.heap_questions.specs.PastTrails.{IsPinAgo, IsShownBeside}
use Rattle.heap_questions.specs.SlotWrites.{AreLastWrites, AreWritesAgo}
use Rattle.heap_questions.proofs.PastTrails.{has_record_past, place_past, state_past}
use Rattle.heap_questions.proofs.WrittenSlots.{can_walk, one_write_more, sees_written, shown_beside, walked_one, writes_ago}
use Rattle.heap_questions.proofs.past.writes.newest_writes.Goals as goal

pub loop-n-init : goal.loop-n-init
loop-n-init c =
    let ago = c.args.ago in
    record {
      pin = subst (IsPinAgo c.in_ok-pin.pin c.args.machine.now.trail) (let e : ago ≡ ago + 0 = omega arith in e) c.in_ok-pin.ensures.shown;
      told = ap reverse c.new-writes.ensures.items;
    }

pub write_by-requires : goal.write_by-requires
write_by-requires c =
    let t = c.args.machine.now.trail in
    let ago = c.args.ago in
    let n = c.loop-n.n in
    let w = c.world-world.result.now in
    let left = c.record_ago-left.result.now in
    let few : ago ≤ retained t = omega (arith, c.requires) in
    let within : ago + n ≤ retained t = omega (arith, c.requires, c.loop-n-test.true) in
    let r = has_record_past c.args.machine.now ago n left few c.place-place.ensures.trail c.record_ago-left.ensures in
    let shown = subst (IsShownBeside w c.loop-n.pin) (sym (state_past t ago n within)) (shown_beside t (ago + n) w c.loop-n.pin c.world-world.ensures.value c.loop-n.invariant.pin) in
    sees_written (rewound ago t) n c.args.slot left w c.loop-n.pin shown r

pub walk_back-requires : goal.walk_back-requires
walk_back-requires c =
    let t = c.args.machine.now.trail in
    let n = c.args.ago + c.loop-n.n in
    let left = c.record_ago-left.result.now in
    let r = has_record c.args.machine.now.keep t n left c.place-place.ensures.trail c.record_ago-left.ensures in
    can_walk t n left c.world-world.result.now c.loop-n.pin c.world-world.ensures.value c.loop-n.invariant.pin r

pub loop-n-preserved : goal.loop-n-preserved
loop-n-preserved c =
    let t = c.args.machine.now.trail in
    let ago = c.args.ago in
    let n = c.loop-n.n in
    let past = rewound ago t in
    let left = c.record_ago-left.result.now in
    let w = c.world-world.result.now in
    let now = c.world-world.ensures.value in
    let i = c.loop-n.invariant in
    let few : ago ≤ retained t = omega (arith, c.requires) in
    let within : ago + n < retained t = omega (arith, c.requires, c.loop-n-test.true) in
    let r = has_record c.args.machine.now.keep t (ago + n) left c.place-place.ensures.trail c.record_ago-left.ensures in
    let h = has_record_past c.args.machine.now ago n left few c.place-place.ensures.trail c.record_ago-left.ensures in
    let shown = subst (IsShownBeside w c.loop-n.pin) (sym (state_past t ago n (omega (arith, within)))) (shown_beside t (ago + n) w c.loop-n.pin now i.pin) in
    let place : c.place-place.result - (ago + n) ≡ past.place - n = omega (arith, c.place-place.ensures.value, place_past t ago) in
    record {
      pin = subst (IsPinAgo c.walk_back.new.self t) (let e : ago + n + 1 ≡ ago + (n + 1) = omega arith in e) (walked_one t (ago + n) left w c.loop-n.pin c.walk_back.new.self now within i.pin r c.in_ok-walk_back.ensures.walked);
      told = one_write_more past c.args.class c.args.slot n c.loop-n.writes.items c.push_write.new.writes.items c.write_by.result i.told
          (subst (λ x. AreWritesAgo past c.args.class c.args.slot n x) (sym c.write_by.ensures)
          (writes_ago past n c.args.class c.args.slot left w c.loop-n.pin (c.place-place.result - (ago + n)) place shown h))
          c.in_ok-push_write.ensures.added;
    }

pub returns-clause-writes : goal.returns-clause-writes
returns-clause-writes c =
    let all : c.loop-n.n ≡ c.args.count = omega (arith, c.loop-n-test.false, c.loop-n.auto.n-end) in
    subst (λ m. AreLastWrites (rewound c.args.ago c.args.machine.now.trail) c.args.class c.args.slot m (reverse c.loop-n.writes.items)) all c.loop-n.invariant.told
