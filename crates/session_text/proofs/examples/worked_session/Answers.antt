use Rattle.session_text.proofs.ComputedSession as example
use Rattle.session_text.proofs.examples.worked_session.Goals as goal

pub returns-clause-answers : goal.returns-clause-answers
returns-clause-answers c = example.computed_session_answers

pub returns-clause-ended : goal.returns-clause-ended
returns-clause-ended c = example.computed_session_reaches_eof
