use Rattle.std.proofs.Common.{ℕ, ◌≡◌, ◌+◌, ◌-◌, ◌<◌, ◌≤◌, ◌∙◌, sym, ap, subst, arith, refl}
use Rattle.std.specs.Prelude.{◌↔◌, IsTrue}
use Rattle.heap_pins.specs.Images.{image_of}
use Rattle.heap_pins.specs.Pin.{pin_image}
use Rattle.heap_pins.specs.View.{PinShown}
use Rattle.heap_trail.specs.Trail.{retained, rewound, state_ago}
use Rattle.heap_trail.proofs.RetainedRecords.{has_record}
use Rattle.hprof_text.specs.Image.{Image}
use Rattle.heap_questions.specs.FirstPlaces.{HasWanted, IsFirstPlace}
use Rattle.heap_questions.specs.PastTrails.{IsPinAgo, IsShownBeside}
use Rattle.heap_questions.proofs.FirstPlaces.{IsFirstUnless, first_more, first_of_all, image_ago, none_yet, sees_written_or_made, shows_some, wanted_before, wanted_here}
use Rattle.heap_questions.proofs.PastTrails.{has_record_past, place_past, state_past}
use Rattle.heap_questions.proofs.WrittenSlots.{can_walk, shown_beside, walked_one}
use Rattle.heap_questions.proofs.past.firsts.first_wanted.Goals as goal

pub loop-n-init : goal.loop-n-init
loop-n-init c =
    let ago = c.args.ago in
    record {
      pin = subst (IsPinAgo c.in_ok-pin.pin c.args.machine.now.trail) (let e : ago ≡ ago + 0 = omega arith in e) c.in_ok-pin.ensures.shown;
      first = none_yet (HasWanted c.args.wanted) (rewound ago c.args.machine.now.trail) _ refl;
    }

pub writes_wanted-here-requires : goal.writes_wanted-here-requires
writes_wanted-here-requires c =
    let t = c.args.machine.now.trail in
    let ago = c.args.ago in
    let n = c.loop-n.n in
    let w = c.world-world.result.now in
    let left = c.record_ago-left.result.now in
    let few : ago ≤ retained t = omega (arith, c.requires) in
    let within : ago + n ≤ retained t = omega (arith, c.requires, c.loop-n-test.true) in
    let r = has_record_past c.args.machine.now ago n left few c.place-place.ensures.trail c.record_ago-left.ensures in
    let shown = subst (IsShownBeside w c.loop-n.pin) (sym (state_past t ago n within)) (shown_beside t (ago + n) w c.loop-n.pin c.world-world.ensures.value c.loop-n.invariant.pin) in
    sees_written_or_made (rewound ago t) n left w c.loop-n.pin shown r

pub walk_back-requires : goal.walk_back-requires
walk_back-requires c =
    let t = c.args.machine.now.trail in
    let n = c.args.ago + c.loop-n.n in
    let left = c.record_ago-left.result.now in
    let r = has_record c.args.machine.now.keep t n left c.place-place.ensures.trail c.record_ago-left.ensures in
    can_walk t n left c.world-world.result.now c.loop-n.pin c.world-world.ensures.value c.loop-n.invariant.pin r

pub loop-n-preserved : goal.loop-n-preserved
loop-n-preserved c =
    let t = c.args.machine.now.trail in
    let ago = c.args.ago in
    let n = c.loop-n.n in
    let past = rewound ago t in
    let left = c.record_ago-left.result.now in
    let w = c.world-world.result.now in
    let now = c.world-world.ensures.value in
    let i = c.loop-n.invariant in
    let wanted = c.args.wanted in
    let few : ago ≤ retained t = omega (arith, c.requires) in
    let within : ago + n < retained t = omega (arith, c.requires, c.loop-n-test.true) in
    let r = has_record c.args.machine.now.keep t (ago + n) left c.place-place.ensures.trail c.record_ago-left.ensures in
    let h = has_record_past c.args.machine.now ago n left few c.place-place.ensures.trail c.record_ago-left.ensures in
    let shown = subst (IsShownBeside w c.loop-n.pin) (sym (state_past t ago n (omega (arith, within)))) (shown_beside t (ago + n) w c.loop-n.pin now i.pin) in
    let place : c.place-place.result - (ago + n) ≡ past.place - n = omega (arith, c.place-place.ensures.value, place_past t ago) in
    let test = c.writes_wanted-here.ensures in
    record {
      pin = subst (IsPinAgo c.walk_back.new.self t) (let e : ago + n + 1 ≡ ago + (n + 1) = omega arith in e) (walked_one t (ago + n) left w c.loop-n.pin c.walk_back.new.self now within i.pin r c.in_ok-walk_back.ensures.walked);
      first = subst (IsFirstUnless (HasWanted wanted) past (n + 1)) (sym c.place_if-first.ensures)
          (first_more (HasWanted wanted) past n (c.place-place.result - (ago + n)) c.writes_wanted-here.result c.loop-n.first place
          (λ e. wanted_here past n left w c.loop-n.pin wanted shown h (sym test ∙ e))
          (λ e. wanted_before past n left w c.loop-n.pin wanted shown h (sym test ∙ e))
          i.first);
    }

pub view-requires : goal.view-requires
view-requires c =
    let t = c.args.machine.now.trail in
    shows_some t (c.args.ago + c.loop-n.n) t.current c.loop-n.pin refl c.loop-n.invariant.pin

pub returns-clause-first : goal.returns-clause-first
returns-clause-first c =
    let t = c.args.machine.now.trail in
    let ago = c.args.ago in
    let count = c.args.count in
    let past = rewound ago t in
    let wanted = c.args.wanted in
    let i = c.loop-n.invariant in
    let all : c.loop-n.n ≡ count = omega (arith, c.loop-n-test.false, c.loop-n.auto.n-end) in
    let v = c.view.result in
    let image : pin_image v.pin v.state ≡ image_of (state_ago count past) =
    ap (λ (s : PinShown). pin_image s.pin s.state) c.view.ensures
    ∙ image_ago t (ago + c.loop-n.n) t.current c.loop-n.pin refl i.pin
    ∙ ap (λ (k : ℕ). image_of (state_ago (ago + k) t)) all
    ∙ ap image_of (sym (state_past t ago count (omega (arith, c.requires)))) in
    let told = subst (λ (im : Image). IsTrue c.has_wanted-oldest.result ↔ HasWanted wanted im) image c.has_wanted-oldest.ensures in
    let place : c.place-place.result - (ago + count) ≡ past.place - count = omega (arith, c.place-place.ensures.value, place_past t ago) in
    subst (IsFirstPlace (HasWanted wanted) past count) (sym c.place_if.ensures)
    (first_of_all (HasWanted wanted) past count (c.place-place.result - (ago + count)) c.has_wanted-oldest.result c.loop-n.first place told.0 told.1
    (subst (λ (k : ℕ). IsFirstUnless (HasWanted wanted) past k c.loop-n.first) all i.first))
