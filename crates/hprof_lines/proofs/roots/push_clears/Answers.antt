use Rattle.std.proofs.Common.{◌∙◌, ap, sym, List, ℕ, ◌++◌}
use Rattle.std.proofs.lemmas.List.{append-nil}
use Rattle.hprof_lines.specs.Roots.{clear_event}
use Rattle.hprof_lines.proofs.Puttings.{each_more}
use Rattle.hprof_lines.proofs.roots.push_clears.Goals as goal

pub loop-r-preserved : goal.loop-r-preserved
loop-r-preserved c =
    each_more clear_event c.args.registers.now c.loop-r.r-index 0 c.args.lines.now c.loop-r.lines _ c.loop-r-test.true c.loop-r.invariant
    (c.in_ok-push.ensures.done ∙ ap (λ (t : List ℕ). c.loop-r.lines ++ t) (sym (append-nil _)))
