use Rattle.std.proofs.lemmas.Result.{err_from_is_err_and}
use Rattle.question_words.proofs.PinImages.{current_image, current_room}
use Rattle.question_words.proofs.at.moment_now.Goals as goal

pub returns-in_err-pin-clause-refused : goal.returns-in_err-pin-clause-refused
returns-in_err-pin-clause-refused c =
    let p = err_from_is_err_and c.from_residual.result c.from_residual.ensures.1 in
    rw (p.1, p.2, c.in_err-pin.ensures.refused) (current_room c.args.machine.now)

pub returns-clause-image : goal.returns-clause-image
returns-clause-image c =
    let shown = c.in_ok-pin.ensures.shown in
    (shown.shows, current_image c.args.machine.now c.in_ok-pin.pin shown)
