use Rattle.std.proofs.Common.{◌∙◌, ap, inl}
use Rattle.private_tasks.specs.SaveOutcomes.{save_outcome}
use Rattle.private_tasks.proofs.SavedRuns.{still_some}
use Rattle.private_tasks.proofs.save.save.Goals as goal

pub returns-in-Ok : goal.returns-in-Ok
returns-in-Ok g c =
    let saved = c.save_session-saved.result in
    inl (
      _,
      _,
      _,
      _,
      c.save_session-saved.ensures,
      c.save_outcome.ensures ∙ ap (λ made. save_outcome c.args.to.unmade made saved.ended saved.pumped) (c.is_some.ensures ∙ still_some (g.P.Out.Outlet.seen) saved.outlet),
    )
