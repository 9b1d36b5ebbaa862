use Rattle.session_text.proofs.KeptNumbers.{served_session_keeps_first_pin}
use Rattle.session_text.proofs.Sessions.{local_session}
use Rattle.session_text.proofs.talk.serve_local.Goals as goal

pub returns-clause-first : goal.returns-clause-first
returns-clause-first g c = served_session_keeps_first_pin _ _ _ _ _ _ _ _ c.serve.result c.serve.ensures.text

pub returns-clause-session : goal.returns-clause-session
returns-clause-session g c = local_session _ _ _ _ _ _ _ _ c.serve.result c.serve.ensures.text
