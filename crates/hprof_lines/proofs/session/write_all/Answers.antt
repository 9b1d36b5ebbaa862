use Rattle.std.proofs.Common.{Ok, Err, false}
use Rattle.std.proofs.lemmas.Result.{err_from_is_err_and}
use Rattle.hprof_lines.proofs.Puttings.{cut_lines, then_lines}
use Rattle.hprof_lines.proofs.session.write_all.Goals as goal

pub returns-then-not-branch : goal.returns-then-not-branch
returns-then-not-branch g c = λ items whole.
    cut_lines _ _ _ _ _ (rw c.if-not-branch.true at (c.in_ok-write_both.ensures items whole))

pub returns-in_err-write_both : goal.returns-in_err-write_both
returns-in_err-write_both g c = λ items whole.
    let e = err_from_is_err_and c.from_residual.result c.from_residual.ensures.1 in
    rw e.1 (cut_lines _ _ _ _ _ (c.in_err-write_both.ensures items whole))

pub returns-in_err-write_both-2 : goal.returns-in_err-write_both-2
returns-in_err-write_both-2 g c = λ items whole.
    let e = err_from_is_err_and c.from_residual-in_err-write_both-2.result c.from_residual-in_err-write_both-2.ensures.1 in
    rw e.1
    (then_lines _ _ _ _ _ (Err e.0) (rw c.if-not-branch.false at (c.in_ok-write_both.ensures items whole)) (cut_lines _ _ _ _ _ (c.in_err-write_both-2.ensures items whole)))

pub returns-then-not-branch-2 : goal.returns-then-not-branch-2
returns-then-not-branch-2 g c = λ items whole.
    then_lines _ _ _ _ _ (Ok false) (rw c.if-not-branch.false at (c.in_ok-write_both.ensures items whole))
    (cut_lines _ _ _ _ _ (rw c.if-not-branch-2.true at (c.in_ok-write_both-2.ensures items whole)))

pub returns : goal.returns
returns g c = λ items whole.
    then_lines _ _ _ _ _ _ (rw c.if-not-branch.false at (c.in_ok-write_both.ensures items whole))
    (then_lines _ _ _ _ _ _ (rw c.if-not-branch-2.false at (c.in_ok-write_both-2.ensures items whole)) c.write_roots.ensures)
