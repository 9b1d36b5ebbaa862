use Rattle.session_text.proofs.KeptNumbers.{served_session_keeps_number}
use Rattle.question_text.specs.Sessions.{AskingActs, AskingAnswers}
use Rattle.question_text.proofs.KeptPins.{line_keeps}
use Rattle.question_text.proofs.session.serve_asking.Goals as goal

pub returns-clause-first : goal.returns-clause-first
returns-clause-first g c = served_session_keeps_number _ (λ c. c.local.first_pin) AskingActs AskingAnswers (λ c a r d did. did.1) line_keeps _ _ _ _ _ _ _ c.serve.result c.serve.ensures.text
