use Rattle.std.proofs.Common.{Ok, Err, false}
use Rattle.std.proofs.lemmas.Result.{err_from_is_err_and}
use Rattle.hprof_lines.proofs.Puttings.{cut_more, writes_then}
use Rattle.hprof_pair.proofs.session.write_second.Goals as goal

pub returns-then-not-put_text : goal.returns-then-not-put_text
returns-then-not-put_text g c = cut_more 1 _ _ _ _ c.if-not-put_text.ensures

pub returns-then-not-put_text-2 : goal.returns-then-not-put_text-2
returns-then-not-put_text-2 g c = writes_then _ _ _ _ _ (Ok false) c.if-not-put_text.ensures (cut_more 1 _ _ _ _ c.if-not-put_text-2.ensures)

pub returns-in_err-write_events : goal.returns-in_err-write_events
returns-in_err-write_events g c =
    let e = err_from_is_err_and c.from_residual.result c.from_residual.ensures.1 in
    rw e.1
    (writes_then _ _ _ _ _ (Err e.0) c.if-not-put_text.ensures
    (writes_then _ _ _ _ _ (Err e.0) c.if-not-put_text-2.ensures (cut_more 0 _ _ _ _ c.in_err-write_events.ensures)))

pub returns-then-not-branch : goal.returns-then-not-branch
returns-then-not-branch g c =
    writes_then _ _ _ _ _ (Ok false) c.if-not-put_text.ensures
    (writes_then _ _ _ _ _ (Ok false) c.if-not-put_text-2.ensures (cut_more 1 _ _ _ _ (rw c.if-not-branch.true at c.in_ok-write_events.ensures)))

pub returns : goal.returns
returns g c =
    writes_then _ _ _ _ _ (Ok c.put_text-3.result) c.if-not-put_text.ensures
    (writes_then _ _ _ _ _ (Ok c.put_text-3.result) c.if-not-put_text-2.ensures
    (writes_then _ _ _ _ _ (Ok c.put_text-3.result) (rw c.if-not-branch.false at c.in_ok-write_events.ensures) c.put_text-3.ensures))
