use Rattle.std.proofs.Common.{refl}
use Rattle.std.specs.Prelude.{Ok, Err}
use Rattle.question_rows.specs.Births.{IsBornText}
use Rattle.question_rows.proofs.PastTexts.{refused_up_to, up_to}
use Rattle.question_rows.proofs.birth.born_answer.Goals as goal

pub returns-in-Ok : goal.returns-in-Ok
returns-in-Ok c = up_to (IsBornText c.args.id) c.args.to c.args.machine.now.trail c.new.result _ (Ok c.in-Ok.ago) c.in-Ok.ago c.in-Ok.ensures.steps refl c.new.ensures c.born_line.ensures

pub returns-in-Err : goal.returns-in-Err
returns-in-Err c = refused_up_to (IsBornText c.args.id) c.args.to c.args.machine.now.trail _ (Err c.in-Err.refusal) c.in-Err.refusal c.in-Err.ensures.steps refl c.reason_line.ensures
