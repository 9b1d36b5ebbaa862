use Rattle.std.proofs.Common.{arith}
use Rattle.heap_questions.specs.Search.{with_registers}
use Rattle.heap_questions.proofs.Looking.{as_many_entries}
use Rattle.heap_questions.proofs.Searching.{found_are_at_most_nodes}
use Rattle.heap_questions.proofs.search.search_on.Goals as goal

pub loop-goal-init : goal.loop-goal-init
loop-goal-init g c registers s = s

pub expand-requires-clause-search : goal.expand-requires-clause-search
expand-requires-clause-search g c = (c.requires.search.0, c.loop-goal.invariant c.requires.search.0 c.requires.search.1)

pub loop-goal-smaller : goal.loop-goal-smaller
loop-goal-smaller g c =
    let s = c.loop-goal.invariant c.requires.search.0 c.requires.search.1 in
    let n = found_are_at_most_nodes (with_registers (g.V.View.image c.args.view.now) c.requires.search.0) c.args.nodes.now c.loop-goal.reach.seen.items s.queue c.loop-goal.head s.search in
    let m = as_many_entries c.loop-goal.reach.queue.items s.queue s.kept in
    let on = c.goes_on.ensures.on c.loop-goal-test.true in
    omega (arith, n, m, on)

pub loop-goal-preserved : goal.loop-goal-preserved
loop-goal-preserved g c registers s = c.in_ok-expand.ensures.search registers (c.loop-goal.invariant registers s)

pub returns-clause-ended : goal.returns-clause-ended
returns-clause-ended g c registers s = record { head = c.loop-goal.head; search = c.loop-goal.invariant registers s; ended = c.goes_on.ensures.over c.loop-goal-test.false }
