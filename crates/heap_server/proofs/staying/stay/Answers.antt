use Rattle.heap_server.proofs.Stays.{one_served_session_more}
use Rattle.heap_server.proofs.staying.stay.Goals as goal

pub loop-preserved-in-Ok : goal.loop-preserved-in-Ok
loop-preserved-in-Ok g c = (one_served_session_more _ _ _ _ _ _ _ c.loop.invariant.0 c.serve_next-after.ensures.session, c.serve_next-after.ensures.role)
