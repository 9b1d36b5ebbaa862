use Rattle.std.proofs.Common.{[], refl}
use Rattle.question_text.proofs.asking.collect.Goals as goal

pub returns-clause-collects : goal.returns-clause-collects
returns-clause-collects c =
    let runs = c.run_cycle-cycle.ensures.runs in
    let noted = runs.2 c.args.asking.now tt [] (refl, refl, refl, refl) in
    (runs.0, c.run_cycle-cycle.result, runs.1, c.collect_answer.ensures, noted.0)

pub returns-clause-first : goal.returns-clause-first
returns-clause-first c = (c.run_cycle-cycle.ensures.runs.2 c.args.asking.now tt [] (refl, refl, refl, refl)).1

pub returns-clause-watch : goal.returns-clause-watch
returns-clause-watch c = (c.run_cycle-cycle.ensures.runs.2 c.args.asking.now tt [] (refl, refl, refl, refl)).2

pub returns-clause-bookmarks : goal.returns-clause-bookmarks
returns-clause-bookmarks c = (c.run_cycle-cycle.ensures.runs.2 c.args.asking.now tt [] (refl, refl, refl, refl)).3
