use Rattle.std.proofs.Common.{ℕ, ◌≡◌, ◌+◌, ◌-◌, ◌<◌, ◌≤◌, ◌∙◌, length, cond, sym, ap, subst, arith, refl}
use Rattle.std.specs.Prelude.{nat_le}
use Rattle.hprof_text.specs.Image.{Image}
use Rattle.heap_pins.specs.Images.{image_of}
use Rattle.heap_pins.specs.Pin.{pin_image}
use Rattle.heap_pins.specs.View.{PinShown}
use Rattle.heap_trail.specs.Trail.{retained, rewound, state_ago}
use Rattle.heap_trail.proofs.RetainedRecords.{has_record}
use Rattle.heap_questions.specs.declared.wanted.Wanted.TheVariants.{OfClass}
use Rattle.heap_questions.specs.FirstPlaces.{HasMany, IsFirstPlace, many_before}
use Rattle.heap_questions.specs.ObjectLists.{objects_wanted}
use Rattle.heap_questions.specs.PastTrails.{IsPinAgo, IsShownBeside}
use Rattle.heap_questions.proofs.CountedObjects.{enough_many, first_before, first_now, many_ago, many_enough, one_made_less, told_before}
use Rattle.heap_questions.proofs.FirstPlaces.{image_ago, sees_written_or_made, shows_some}
use Rattle.heap_questions.proofs.PastTrails.{has_record_past, place_past, state_past}
use Rattle.heap_questions.proofs.WrittenSlots.{can_walk, shown_beside, walked_one}
use Rattle.heap_questions.proofs.past.counts.first_many.Goals as goal

pub view-requires : goal.view-requires
view-requires c =
    let t = c.args.machine.now.trail in
    shows_some t c.args.ago t.current c.in_ok-pin.pin refl c.in_ok-pin.ensures.shown

pub loop-n-init : goal.loop-n-init
loop-n-init c =
    let t = c.args.machine.now.trail in
    let ago = c.args.ago in
    let past = rewound ago t in
    let k = c.args.class in
    let least = c.args.least in
    let v = c.view.result in
    let zero : ago ≡ ago + 0 = omega arith in
    let image : pin_image v.pin v.state ≡ image_of (state_ago 0 past) =
    ap (λ (s : PinShown). pin_image s.pin s.state) c.view.ensures
    ∙ image_ago t ago t.current c.in_ok-pin.pin refl c.in_ok-pin.ensures.shown
    ∙ ap (λ (n : ℕ). image_of (state_ago n t)) zero
    ∙ ap image_of (sym (state_past t ago 0 (omega (arith, c.requires)))) in
    let many : c.count_wanted-many.result ≡ many_ago past k 0 =
    c.count_wanted-many.ensures ∙ ap (λ (im : Image). length (objects_wanted (OfClass k) im)) image in
    let place : c.place-place.result - ago ≡ past.place - 0 = omega (arith, c.place-place.ensures.value, place_past t ago) in
    record {
      pin = subst (IsPinAgo c.in_ok-pin.pin t) zero c.in_ok-pin.ensures.shown;
      many = many;
      first = subst (IsFirstPlace (HasMany least (OfClass k)) past 0) (sym c.place_if_many-first.ensures)
          (first_now (HasMany least (OfClass k)) past (c.place-place.result - ago) (nat_le least c.count_wanted-many.result) place
          (many_enough past 0 k least c.count_wanted-many.result many)
          (enough_many past 0 k least c.count_wanted-many.result many));
    }

pub makes_of_class-made-requires : goal.makes_of_class-made-requires
makes_of_class-made-requires c =
    let t = c.args.machine.now.trail in
    let ago = c.args.ago in
    let n = c.loop-n.n in
    let w = c.world-world.result.now in
    let left = c.record_ago-left.result.now in
    let few : ago ≤ retained t = omega (arith, c.requires) in
    let within : ago + n ≤ retained t = omega (arith, c.requires, c.loop-n-test.true) in
    let r = has_record_past c.args.machine.now ago n left few c.place-place.ensures.trail c.record_ago-left.ensures in
    let shown = subst (IsShownBeside w c.loop-n.pin) (sym (state_past t ago n within)) (shown_beside t (ago + n) w c.loop-n.pin c.world-world.ensures.value c.loop-n.invariant.pin) in
    sees_written_or_made (rewound ago t) n left w c.loop-n.pin shown r

pub walk_back-requires : goal.walk_back-requires
walk_back-requires c =
    let t = c.args.machine.now.trail in
    let n = c.args.ago + c.loop-n.n in
    let left = c.record_ago-left.result.now in
    let r = has_record c.args.machine.now.keep t n left c.place-place.ensures.trail c.record_ago-left.ensures in
    can_walk t n left c.world-world.result.now c.loop-n.pin c.world-world.ensures.value c.loop-n.invariant.pin r

pub view-requires-in-loop-n : goal.view-requires-in-loop-n
view-requires-in-loop-n c =
    let t = c.args.machine.now.trail in
    let n = c.args.ago + c.loop-n.n in
    let left = c.record_ago-left.result.now in
    let within : n < retained t = omega (arith, c.requires, c.loop-n-test.true) in
    let r = has_record c.args.machine.now.keep t n left c.place-place.ensures.trail c.record_ago-left.ensures in
    let q = walked_one t n left c.world-world.result.now c.loop-n.pin c.walk_back.new.self c.world-world.ensures.value within c.loop-n.invariant.pin r c.in_ok-walk_back.ensures.walked in
    shows_some t (n + 1) t.current c.walk_back.new.self refl q

pub many_before-many-requires : goal.many_before-many-requires
many_before-many-requires c ends =
    let t = c.args.machine.now.trail in
    let ago = c.args.ago in
    let n = c.loop-n.n in
    let w = c.world-world.result.now in
    let left = c.record_ago-left.result.now in
    let few : ago ≤ retained t = omega (arith, c.requires) in
    let within : ago + n ≤ retained t = omega (arith, c.requires, c.loop-n-test.true) in
    let r = has_record_past c.args.machine.now ago n left few c.place-place.ensures.trail c.record_ago-left.ensures in
    let shown = subst (IsShownBeside w c.loop-n.pin) (sym (state_past t ago n within)) (shown_beside t (ago + n) w c.loop-n.pin c.world-world.ensures.value c.loop-n.invariant.pin) in
    let less = one_made_less (rewound ago t) n c.args.class left w c.loop-n.pin shown r ends in
    let made = ap {B = ℕ} (λ b. cond b 1 0) c.makes_of_class-made.ensures in
    omega (arith, c.loop-n.invariant.many, less, made)

pub loop-n-preserved : goal.loop-n-preserved
loop-n-preserved c =
    let t = c.args.machine.now.trail in
    let ago = c.args.ago in
    let n = c.loop-n.n in
    let past = rewound ago t in
    let k = c.args.class in
    let least = c.args.least in
    let left = c.record_ago-left.result.now in
    let w = c.world-world.result.now in
    let now = c.world-world.ensures.value in
    let i = c.loop-n.invariant in
    let few : ago ≤ retained t = omega (arith, c.requires) in
    let within : ago + n < retained t = omega (arith, c.requires, c.loop-n-test.true) in
    let r = has_record c.args.machine.now.keep t (ago + n) left c.place-place.ensures.trail c.record_ago-left.ensures in
    let h = has_record_past c.args.machine.now ago n left few c.place-place.ensures.trail c.record_ago-left.ensures in
    let shown = subst (IsShownBeside w c.loop-n.pin) (sym (state_past t ago n (omega (arith, within)))) (shown_beside t (ago + n) w c.loop-n.pin now i.pin) in
    let next : ago + n + 1 ≡ ago + (n + 1) = omega arith in
    let walked = subst (IsPinAgo c.walk_back.new.self t) next (walked_one t (ago + n) left w c.loop-n.pin c.walk_back.new.self now within i.pin r c.in_ok-walk_back.ensures.walked) in
    let v = c.view-in-loop-n.result in
    let image : pin_image v.pin v.state ≡ image_of (state_ago (n + 1) past) =
    ap (λ (s : PinShown). pin_image s.pin s.state) c.view-in-loop-n.ensures
    ∙ image_ago t (ago + (n + 1)) t.current c.walk_back.new.self refl walked
    ∙ ap image_of (sym (state_past t ago (n + 1) (omega (arith, within)))) in
    let made = c.makes_of_class-made.result in
    let many : c.many_before-many.result ≡ many_ago past k (n + 1) =
    c.many_before-many.ensures
    ∙ ap (λ (im : Image). many_before im left k c.loop-n.many made) image
    ∙ told_before past n k c.loop-n.many left made i.many
    (λ ends. one_made_less past n k left w c.loop-n.pin shown h ends ∙ ap (λ b. many_ago past k (n + 1) + cond b 1 0) (sym c.makes_of_class-made.ensures)) in
    let place : c.place-place.result - (ago + n + 1) ≡ past.place - (n + 1) = omega (arith, c.place-place.ensures.value, place_past t ago) in
    record {
      pin = walked;
      many = many;
      first = subst (IsFirstPlace (HasMany least (OfClass k)) past (n + 1)) (sym c.place_if_many-first-in-loop-n.ensures)
          (first_before (HasMany least (OfClass k)) past n (c.place-place.result - (ago + n + 1)) (nat_le least c.many_before-many.result) c.loop-n.first place
          (many_enough past (n + 1) k least c.many_before-many.result many)
          (enough_many past (n + 1) k least c.many_before-many.result many)
          i.first);
    }
