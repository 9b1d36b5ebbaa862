use Rattle.std.proofs.Common.{◌≡◌, ◌∙◌, Ok, Err, Some, ap}
use Rattle.std.proofs.lemmas.Result.{IfOk-weaker, IfErr-weaker}
use Rattle.heap_pins.specs.Pin.{pin_image}
use Rattle.heap_trail.specs.Pins.{pin_at}
use Rattle.heap_trail.specs.Views.{IsViewOf, view_refusal}
use Rattle.question_words.specs.Moments.{moment_image}
use Rattle.question_words.proofs.PinImages.{has_image, no_image}
use Rattle.question_words.proofs.at.view_of.Goals as goal

pub returns-in-Open-clause-view : goal.returns-in-Open-clause-view
returns-in-Open-clause-view c =
    let m = c.args.machine.now in
    IfOk-weaker c.pin_view.result (λ v. IsViewOf m c.in-Open.pin v)
    (λ v. (v.ids ≡ m.ids) × (moment_image m c.args.moment.now ≡ Ok (pin_image v.pin v.state)))
    (λ v h. (h.ids, ap (moment_image m) c.in-Open.is ∙ has_image m c.in-Open.pin v h)) c.pin_view.ensures.view

pub returns-in-Open-clause-refused : goal.returns-in-Open-clause-refused
returns-in-Open-clause-refused c =
    let m = c.args.machine.now in
    IfErr-weaker c.pin_view.result (λ e. view_refusal (pin_at c.in-Open.pin m.pins) ≡ Some e) (λ e. moment_image m c.args.moment.now ≡ Err e)
    (λ e h. ap (moment_image m) c.in-Open.is ∙ no_image (pin_at c.in-Open.pin m.pins) e h) c.pin_view.ensures.refused
