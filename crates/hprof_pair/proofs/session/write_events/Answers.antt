use Rattle.std.proofs.Common.{Ok, Err, false}
use Rattle.std.proofs.lemmas.Result.{err_from_is_err_and}
use Rattle.hprof_lines.proofs.Puttings.{cut_lines, then_lines}
use Rattle.hprof_pair.proofs.session.write_events.Goals as goal

pub returns-then-not-branch : goal.returns-then-not-branch
returns-then-not-branch g c = cut_lines _ _ _ _ _ (rw c.if-not-branch.true at c.in_ok-write_shelves.ensures)

pub returns-in_err-write_shelves : goal.returns-in_err-write_shelves
returns-in_err-write_shelves g c =
    let e = err_from_is_err_and c.from_residual.result c.from_residual.ensures.1 in
    rw e.1 (cut_lines _ _ _ _ _ c.in_err-write_shelves.ensures)

pub returns-then-not-branch-2 : goal.returns-then-not-branch-2
returns-then-not-branch-2 g c =
    then_lines _ _ _ _ _ (Ok false) (rw c.if-not-branch.false at c.in_ok-write_shelves.ensures)
    (cut_lines _ _ _ _ _ (rw c.if-not-branch-2.true at c.in_ok-write_ways.ensures))

pub returns-in_err-write_ways : goal.returns-in_err-write_ways
returns-in_err-write_ways g c =
    let e = err_from_is_err_and c.from_residual-in_err-write_ways.result c.from_residual-in_err-write_ways.ensures.1 in
    rw e.1
    (then_lines _ _ _ _ _ (Err e.0) (rw c.if-not-branch.false at c.in_ok-write_shelves.ensures) (cut_lines _ _ _ _ _ c.in_err-write_ways.ensures))

pub returns-then-not-branch-3 : goal.returns-then-not-branch-3
returns-then-not-branch-3 g c =
    then_lines _ _ _ _ _ (Ok false) (rw c.if-not-branch.false at c.in_ok-write_shelves.ensures)
    (then_lines _ _ _ _ _ (Ok false) (rw c.if-not-branch-2.false at c.in_ok-write_ways.ensures)
    (cut_lines _ _ _ _ _ (rw c.if-not-branch-3.true at c.in_ok-write_made.ensures)))

pub returns-in_err-write_made : goal.returns-in_err-write_made
returns-in_err-write_made g c =
    let e = err_from_is_err_and c.from_residual-in_err-write_made.result c.from_residual-in_err-write_made.ensures.1 in
    rw e.1
    (then_lines _ _ _ _ _ (Err e.0) (rw c.if-not-branch.false at c.in_ok-write_shelves.ensures)
    (then_lines _ _ _ _ _ (Err e.0) (rw c.if-not-branch-2.false at c.in_ok-write_ways.ensures) (cut_lines _ _ _ _ _ c.in_err-write_made.ensures)))

pub returns-then-not-branch-4 : goal.returns-then-not-branch-4
returns-then-not-branch-4 g c =
    then_lines _ _ _ _ _ (Ok false) (rw c.if-not-branch.false at c.in_ok-write_shelves.ensures)
    (then_lines _ _ _ _ _ (Ok false) (rw c.if-not-branch-2.false at c.in_ok-write_ways.ensures)
    (then_lines _ _ _ _ _ (Ok false) (rw c.if-not-branch-3.false at c.in_ok-write_made.ensures)
    (cut_lines _ _ _ _ _ (rw c.if-not-branch-4.true at c.in_ok-write_changes.ensures))))

pub returns-in_err-write_changes : goal.returns-in_err-write_changes
returns-in_err-write_changes g c =
    let e = err_from_is_err_and c.from_residual-in_err-write_changes.result c.from_residual-in_err-write_changes.ensures.1 in
    rw e.1
    (then_lines _ _ _ _ _ (Err e.0) (rw c.if-not-branch.false at c.in_ok-write_shelves.ensures)
    (then_lines _ _ _ _ _ (Err e.0) (rw c.if-not-branch-2.false at c.in_ok-write_ways.ensures)
    (then_lines _ _ _ _ _ (Err e.0) (rw c.if-not-branch-3.false at c.in_ok-write_made.ensures) (cut_lines _ _ _ _ _ c.in_err-write_changes.ensures))))

pub returns : goal.returns
returns g c =
    then_lines _ _ _ _ _ _ (rw c.if-not-branch.false at c.in_ok-write_shelves.ensures)
    (then_lines _ _ _ _ _ _ (rw c.if-not-branch-2.false at c.in_ok-write_ways.ensures)
    (then_lines _ _ _ _ _ _ (rw c.if-not-branch-3.false at c.in_ok-write_made.ensures)
    (then_lines _ _ _ _ _ _ (rw c.if-not-branch-4.false at c.in_ok-write_changes.ensures) c.write_roots.ensures)))
