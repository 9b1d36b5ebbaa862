use Rattle.std.proofs.Common.{arith}
use Rattle.hprof_session.specs.Walks.{left, item_told}
use Rattle.hprof_plan.proofs.FoundTables.{nothing_found_at_start, goes_on, comes_to_end, runs_out, no_next_item_is_fault}
use Rattle.hprof_plan.proofs.dump.find_loosely.Goals as goal

pub loop-init : goal.loop-init
loop-init c = nothing_found_at_start (left c.args.walk) _ c.none_found-found.ensures

pub loop-preserved : goal.loop-preserved
loop-preserved c =
    let h = rw c.in-Ok-Some.field-0-is at c.in-Ok-Some.ensures.found in
    let n = rw c.in-Ok-Some.field-0-is at c.in_ok-note-in-Ok-Some.ensures in
    rw c.in-Ok-Some.field-0-is (goes_on (left c.args.walk) c.loop.counter (left c.loop.at) c.loop.found (item_told c.in-Ok-Some.next.0) (left c.in-Ok-Some.next.1) c.note.new.found c.loop.invariant h n)

pub returns-in-Ok-None : goal.returns-in-Ok-None
returns-in-Ok-None c =
    let h = rw c.in-Ok-None.field-0-is at c.in-Ok-None.ensures.found in
    comes_to_end (left c.args.walk) c.loop.counter (left c.loop.at) c.loop.found c.loop.invariant h

pub returns-in-Err : goal.returns-in-Err
returns-in-Err c =
    no_next_item_is_fault (left c.args.walk) c.loop.counter (left c.loop.at) c.loop.found c.in-Err.fault _ c.loop.invariant c.size_of.ensures
    (λ e. let h = c.in-Err.ensures.end e in cc h)
    (λ i x next. let h = c.in-Err.ensures.only i x next in cc h)

pub returns : goal.returns
returns c = runs_out (left c.args.walk) c.loop.counter (left c.loop.at) c.loop.found c.loop.invariant (omega (arith, c.size_of-size.ensures, c.loop-test.false))
