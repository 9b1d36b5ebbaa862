use Rattle.std.proofs.Common.{◌∙◌}
use Rattle.private_tasks.proofs.SavedRuns.{asking_saved, plain_saved}
use Rattle.private_tasks.proofs.save.save_session.Goals as goal

pub returns-then-settings : goal.returns-then-settings
returns-then-settings g c =
    let e = c.serve_asking-ended.ensures in
    asking_saved c.args.settings.now.questions c.args.settings.now (g.P.Outlets.makes c.args.dump.target) _ _ c.args.asking.now c.serve_asking-ended.new.asking _ _ _ _ (g.O.Outlet.seen c.serve_asking-ended.new.writer) _ _ c.serve_asking-ended.result _ _
    c.if-settings.true (e.first ∙ c.requires.first) c.requires.time c.requires.opening (rw c.session_limits-limits.ensures at e.session) (rw c.session_limits-limits.ensures at e.ends) c.save_after.ensures.ends

pub returns-else-settings : goal.returns-else-settings
returns-else-settings g c =
    plain_saved c.args.settings.now.questions c.args.settings.now (g.P.Outlets.makes c.args.dump.target) _ _ c.args.asking.now _ _ _ _ _ _ _ _
    c.if-settings.false c.requires.first c.requires.time c.requires.opening (rw c.session_limits-limits.ensures at c.save_into.ensures.saved)
