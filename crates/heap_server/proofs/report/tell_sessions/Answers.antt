use Rattle.heap_server.proofs.ReportLines.{report_told_one_line_further}
use Rattle.heap_server.proofs.report.tell_sessions.Goals as goal

pub loop-i-preserved : goal.loop-i-preserved
loop-i-preserved g c =
    report_told_one_line_further (g.W.Write.contents c.args.writer.now) (g.W.Write.contents c.loop-i.writer) (g.W.Write.contents c.tell_session.new.writer) c.loop-i.i c.args.sessions.now c.index-sessions-i.result c.loop-i-test.true
    c.loop-i.invariant c.in_ok-tell_session.ensures
