use Rattle.heap_save.proofs.SavedSessions.{session_and_landing_saved}
use Rattle.heap_save.proofs.save.LastDump.save_into.Goals as goal

pub returns-clause-saved : goal.returns-clause-saved
returns-clause-saved g c =
    let s = c.serve_local-ended.ensures in
    session_and_landing_saved _ _ _ _ c.args.self.time _ c.serve_local-ended.new.local.machine _ _ _ _ (g.O.Outlet.seen c.serve_local-ended.new.writer) _ _ c.serve_local-ended.result _ _
    s.first s.session s.ends c.save_after.ensures.ends
