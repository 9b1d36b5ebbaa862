use Rattle.heap_server.proofs.ClientSessions.{client_told}
use Rattle.heap_server.proofs.sessions.session.Goals as goal

pub returns-clause-client : goal.returns-clause-client
returns-clause-client g c =
    client_told g.L.Heap.config c.args.terms c.args.terms.stays c.args.seat c.attend_on-done.result.seat c.attend_on-done.result.end c.told-end.result _ _ c.of.result.given _ _ c.of.result.sent c.in-Ok-directions.ensures.0 c.in-Ok-directions.ensures.1
    c.attend_on-done.ensures.attended c.told-end.ensures c.of.ensures.given c.of.ensures.sent
