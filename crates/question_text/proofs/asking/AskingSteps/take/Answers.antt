use Rattle.question_text.proofs.NotedSteps.{none_noted, one_noted}
use Rattle.question_text.proofs.asking.AskingSteps.take.Goals as goal

pub returns-in-Ok-clause-taken : goal.returns-in-Ok-clause-taken
returns-in-Ok-clause-taken c = λ h b before p.
    (one_noted before c.args.event c.in-Ok.answer h.redo c.args.self.now.redo c.note_step.new.self c.note_step.ensures p.0, p.1, p.2, p.3)

pub returns-in-Err-clause-unchanged : goal.returns-in-Err-clause-unchanged
returns-in-Err-clause-unchanged c = (c.in-Err.ensures.unchanged, λ h b before p. (none_noted before h.redo c.args.self.now.redo p.0, p.1, p.2, p.3))
