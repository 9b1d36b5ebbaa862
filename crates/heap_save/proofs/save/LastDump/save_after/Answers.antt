use Rattle.std.proofs.Common.{sym}
use Rattle.std.specs.Prelude.{option_map}
use Rattle.heap_save.proofs.SavedSessions.{session_saved_with_last_line}
use Rattle.heap_save.proofs.save.LastDump.save_after.Goals as goal

pub returns-clause-ends : goal.returns-clause-ends
returns-clause-ends g c =
    session_saved_with_last_line (g.P.Outlets.makes c.args.self.target) c.args.local.now.first_pin c.args.self.time c.args.local.now.machine c.dump_last-pumped.new.local.machine
    (g.O.Outlet.seen c.args.writer.now) (g.O.Outlet.seen c.write_last-written.new.writer) (option_map (g.P.Out.Outlet.seen) c.dump_last-pumped.result.2)
    c.args.ended c.end_of_save.result c.dump_last-pumped.result.0 c.write_last-written.result
    (sym c.if-not-is_whole.ensures) c.dump_last-pumped.ensures.lands c.write_last-written.ensures c.end_of_save.ensures
