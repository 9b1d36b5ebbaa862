use Rattle.hprof_session.specs.Walks.{item_told, left}
use Rattle.hprof_session.proofs.Walked.{next_item_leaves_fewer_bytes}
use Rattle.hprof_lines.proofs.WholeWalks.{whole_next, whole_none, whole_fault}
use Rattle.hprof_pair.proofs.Collected.{collecting_none, collecting_more, collecting_all}
use Rattle.hprof_pair.proofs.dump.collect_subs.Goals as goal

pub items-init : goal.items-init
items-init c = rw c.new-subs.ensures.items (λ items whole. collecting_none _ _ items whole)

pub items-smaller : goal.items-smaller
items-smaller c =
    next_item_leaves_fewer_bytes (left c.items.at) (item_told c.in-Ok-Some.next.0) (left c.in-Ok-Some.next.1) (rw c.in-Ok-Some.field-0-is at c.in-Ok-Some.ensures.found)

pub items-preserved : goal.items-preserved
items-preserved c = λ items whole.
    let p = c.items.invariant items whole in
    let found = rw c.in-Ok-Some.field-0-is at c.in-Ok-Some.ensures.found in
    let only = rw c.in-Ok-Some.field-0-is at c.in-Ok-Some.ensures.only in
    let first = whole_next (left c.items.at) p.rest c.in-Ok-Some.next only found p.whole in
    collecting_more _ _ _ _ _ _ items p first c.in_ok-collect_sub-in-Ok-Some.ensures

pub returns-in-Ok-None : goal.returns-in-Ok-None
returns-in-Ok-None c = λ items whole.
    let p = c.items.invariant items whole in
    let none = whole_none (left c.items.at) p.rest (rw c.in-Ok-None.field-0-is at c.in-Ok-None.ensures.only) p.whole in
    collecting_all _ _ _ items p none

pub returns-in-Err : goal.returns-in-Err
returns-in-Err c = λ items whole.
    let p = c.items.invariant items whole in
    let none = whole_fault (left c.items.at) p.rest _ c.in-Err.ensures.only p.whole in
    collecting_all _ _ _ items p none
