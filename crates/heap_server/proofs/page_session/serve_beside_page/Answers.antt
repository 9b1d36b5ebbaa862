use Rattle.std.proofs.Common.{rules}
use Rattle.heap_server.proofs.LentSessions.{values_given_back_are_last, value_there_has_property}
use Rattle.heap_server.proofs.page_session.serve_beside_page.Goals as goal

pub returns-in-Some-clause-served : goal.returns-in-Some-clause-served
returns-in-Some-clause-served g c =
    let talked = value_there_has_property _ _ _ c.in-Some.is c.talk_beside-session.ensures.talked in
    values_given_back_are_last _ _ _ _ _ _ _ _ _ _ _ _ _ _ (search rules) (search rules) (search rules) talked.3
