use Rattle.std.proofs.Common.{◌∙◌, ap, sym}
use Rattle.question_words.specs.Moments.{image_at}
use Rattle.question_words.proofs.PinImages.{pin_there}
use Rattle.question_words.proofs.at.moment_at.Goals as goal

pub returns-in-Pin-clause-image : goal.returns-in-Pin-clause-image
returns-in-Pin-clause-image c =
    let m = c.args.machine.now in
    (tt, pin_there m c.in-Pin.pin ∙ ap (λ at. image_at at m) (sym c.in-Pin.is))
