use Rattle.std.proofs.lemmas.Result.{err_from_is_err_and}
use Rattle.hprof_session.specs.Walks.{item_told, left}
use Rattle.hprof_session.proofs.Walked.{next_item_leaves_fewer_bytes}
use Rattle.hprof_lines.proofs.WholeWalks.{whole_next, whole_none, whole_fault}
use Rattle.hprof_lines.proofs.Passing.{passing_none, passing_more, passing_failed, passing_stopped, passing_ends}
use Rattle.hprof_lines.proofs.passes.write_pass.Goals as goal

pub items-init : goal.items-init
items-init g c = rw c.new-lines.ensures (λ items whole. passing_none _ _ _ _ items whole)

pub items-smaller : goal.items-smaller
items-smaller g c =
    next_item_leaves_fewer_bytes (left c.items.at) (item_told c.in-Ok-Some.next.0) (left c.in-Ok-Some.next.1) (rw c.in-Ok-Some.field-0-is at c.in-Ok-Some.ensures.found)

pub items-preserved : goal.items-preserved
items-preserved g c = λ items whole.
    let p = c.items.invariant items whole in
    let found = rw c.in-Ok-Some.field-0-is at c.in-Ok-Some.ensures.found in
    let only = rw c.in-Ok-Some.field-0-is at c.in-Ok-Some.ensures.only in
    let first = whole_next (left c.items.at) p.rest c.in-Ok-Some.next only found p.whole in
    rw c.in_ok-i-in-Ok-Some.ensures.place
    (passing_more _ _ _ _ _ _ _ _ _ _ _ _ items p first c.in_ok-i-in-Ok-Some.ensures.lines c.if-not-put_some.ensures)

pub returns-then-not-put_some : goal.returns-then-not-put_some
returns-then-not-put_some g c = λ items whole.
    let p = c.items.invariant items whole in
    let found = rw c.in-Ok-Some.field-0-is at c.in-Ok-Some.ensures.found in
    let only = rw c.in-Ok-Some.field-0-is at c.in-Ok-Some.ensures.only in
    let first = whole_next (left c.items.at) p.rest c.in-Ok-Some.next only found p.whole in
    passing_failed _ _ _ _ _ _ _ _ _ _ _ items p first c.in_ok-i-in-Ok-Some.ensures.lines c.if-not-put_some.ensures

pub returns-in_err-i-in-Ok-Some : goal.returns-in_err-i-in-Ok-Some
returns-in_err-i-in-Ok-Some g c = λ items whole.
    let e = err_from_is_err_and c.from_residual.result c.from_residual.ensures.1 in
    rw e.1 (passing_stopped _ _ _ _ _ _ _ items (c.items.invariant items whole))

pub returns-in-Ok-None : goal.returns-in-Ok-None
returns-in-Ok-None g c = λ items whole.
    let p = c.items.invariant items whole in
    let none = whole_none (left c.items.at) p.rest (rw c.in-Ok-None.field-0-is at c.in-Ok-None.ensures.only) p.whole in
    passing_ends _ _ _ _ _ _ _ _ items _ p none c.put_lines.ensures.put

pub returns-in-Err : goal.returns-in-Err
returns-in-Err g c = λ items whole.
    let p = c.items.invariant items whole in
    let none = whole_fault (left c.items.at) p.rest _ c.in-Err.ensures.only p.whole in
    passing_ends _ _ _ _ _ _ _ _ items _ p none c.put_lines-in-Err.ensures.put
