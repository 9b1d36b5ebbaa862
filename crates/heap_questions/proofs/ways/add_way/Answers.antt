use Rattle.std.proofs.Common.{◌-◌, subst, arith}
use Rattle.std.specs.Prelude.{Option}
use Rattle.heap_questions.specs.Distances.{IsFirstNearer, distance_by}
use Rattle.heap_questions.specs.Graph.{named}
use Rattle.heap_questions.specs.declared.paths.Hop.{Hop}
use Rattle.heap_questions.proofs.ShortestWays.{goes_on_nearer, part_begins, part_ends, part_more}
use Rattle.heap_questions.proofs.ways.add_way.Goals as goal

pub loop-left-init : goal.loop-left-init
loop-left-init g c = part_begins (g.V.View.image c.args.view.now) (distance_by c.args.nodes.now c.args.table.now) c.args.start c.args.goal c.distance_at-left.result c.args.hops.now.items c.distance_at-left.ensures c.requires.near

pub nearer-requires-clause-near : goal.nearer-requires-clause-near
nearer-requires-clause-near g c = c.loop-left.invariant.near

pub loop-left-preserved : goal.loop-left-preserved
loop-left-preserved g c =
    let image = g.V.View.image c.args.view.now in
    let d = distance_by c.args.nodes.now c.args.table.now in
    let here = c.loop-left.here in
    let left = c.loop-left.left in
    let first = subst (λ (o : Option Hop). IsFirstNearer d (named image here) left o) c.in-Some.is c.nearer.ensures in
    part_more image d c.args.start c.args.goal here left (left - 1) c.args.hops.now.items c.loop-left.hops.items c.push.new.self.items c.in-Some.hop c.requires.distances c.loop-left.invariant first c.in_ok-push-in-Some.ensures.items (omega (arith, c.loop-left-test.true))

pub returns-in-None-clause-way : goal.returns-in-None-clause-way
returns-in-None-clause-way g c =
    let image = g.V.View.image c.args.view.now in
    let d = distance_by c.args.nodes.now c.args.table.now in
    let here = c.loop-left.here in
    let left = c.loop-left.left in
    absurd (goes_on_nearer image d c.args.start c.args.goal here left c.args.hops.now.items c.loop-left.hops.items c.requires.distances c.loop-left.invariant c.loop-left-test.true (subst (λ (o : Option Hop). IsFirstNearer d (named image here) left o) c.in-None.is c.nearer.ensures))

pub returns-clause-way : goal.returns-clause-way
returns-clause-way g c =
    part_ends (g.V.View.image c.args.view.now) (distance_by c.args.nodes.now c.args.table.now) c.args.start c.args.goal c.loop-left.here c.loop-left.left c.args.hops.now.items c.loop-left.hops.items c.requires.distances c.loop-left.invariant (omega (arith, c.loop-left-test.false))
