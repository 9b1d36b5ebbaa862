use Rattle.std.proofs.Common.{◌≡◌, ◌∙◌, ◌-◌, true, arith, subst, sym}
use Rattle.std.proofs.lemmas.Result.{err_from_is_err_and}
use Rattle.heap_trail.specs.Pins.{is_retained}
use Rattle.heap_trail.specs.Views.{ShowsAgo}
use Rattle.heap_trail.proofs.PinsAtPlaces.{retained_parts}
use Rattle.question_words.proofs.PinImages.{kept_image, no_room, not_kept}
use Rattle.question_words.proofs.at.moment_of_place.Goals as goal

pub overflow_sub-place : goal.overflow_sub-place
overflow_sub-place c =
    let m = c.args.machine.now in
    let kept : is_retained c.args.place m.trail ≡ true = sym c.has_retained.ensures ∙ c.if-has_retained.true in
    omega (arith, (retained_parts m.trail c.args.place kept).0, c.place.ensures.value)

pub pin_ago-requires : goal.pin_ago-requires
pin_ago-requires c =
    let m = c.args.machine.now in
    let kept : is_retained c.args.place m.trail ≡ true = sym c.has_retained.ensures ∙ c.if-has_retained.true in
    omega (arith, (retained_parts m.trail c.args.place kept).1, c.place.ensures.value)

pub returns-in_err-pin-clause-refused : goal.returns-in_err-pin-clause-refused
returns-in_err-pin-clause-refused c =
    let p = err_from_is_err_and c.from_residual.result c.from_residual.ensures.1 in
    let m = c.args.machine.now in
    let kept : is_retained c.args.place m.trail ≡ true = sym c.has_retained.ensures ∙ c.if-has_retained.true in
    rw (p.1, p.2, c.in_err-pin.ensures.refused) (no_room m c.args.place kept)

pub returns-in_ok-pin-clause-image : goal.returns-in_ok-pin-clause-image
returns-in_ok-pin-clause-image c =
    let m = c.args.machine.now in
    let kept : is_retained c.args.place m.trail ≡ true = sym c.has_retained.ensures ∙ c.if-has_retained.true in
    let place : c.place.result ≡ m.trail.place = c.place.ensures.value in
    let shown = c.in_ok-pin.ensures.shown in
    (shown.shows, kept_image m c.args.place c.in_ok-pin.pin kept (subst (λ n. ShowsAgo m.trail (n - c.args.place) c.in_ok-pin.pin) place shown))

pub returns-else-has_retained-clause-refused : goal.returns-else-has_retained-clause-refused
returns-else-has_retained-clause-refused c =
    not_kept c.args.machine.now c.args.place (sym c.has_retained.ensures ∙ c.if-has_retained.false)
