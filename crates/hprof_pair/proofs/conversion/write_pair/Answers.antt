use Rattle.std.proofs.lemmas.Result.{err_from_is_err_and}
use Rattle.hprof_lines.proofs.Puttings.{cut_more, writes_then}
use Rattle.hprof_pair.proofs.conversion.write_pair.Goals as goal

pub returns-then-not-branch : goal.returns-then-not-branch
returns-then-not-branch g c = λ items whole.
    cut_more 1 _ _ _ _ (rw (c.as_slice-roots.ensures.value, c.if-not-branch.true) at (c.in_ok-write_session.ensures items whole))

pub returns-in_err-write_session : goal.returns-in_err-write_session
returns-in_err-write_session g c = λ items whole.
    let e = err_from_is_err_and c.from_residual.result c.from_residual.ensures.1 in
    rw e.1 (cut_more 0 _ _ _ _ (rw c.as_slice-roots.ensures.value at (c.in_err-write_session.ensures items whole)))

pub returns : goal.returns
returns g c = λ items whole.
    writes_then _ _ _ _ _ _ (rw (c.as_slice-roots.ensures.value, c.if-not-branch.false) at (c.in_ok-write_session.ensures items whole))
    (rw (c.as_slice-text.ensures.value, c.as_slice-ways.ensures.value, c.as_slice-roots-2.ensures.value) at c.write_second.ensures)
