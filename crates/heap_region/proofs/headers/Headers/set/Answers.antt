use Rattle.std.proofs.Common.{arith}
use Rattle.heap_region.proofs.TurnedHeaders.{header_set}
use Rattle.heap_region.proofs.CountedHeaders.{counts_of_headers_are_few, counts_after_header_set}
use Rattle.heap_region.proofs.headers.Headers.set.Goals as goal

pub with-self-inside-requires-clause-objects : goal.with-self-inside-requires-clause-objects
with-self-inside-requires-clause-objects c = omega (arith, (counts_of_headers_are_few _ _ c.self.invariant).objects, c.without.ensures.objects)

pub with-self-inside-requires-clause-unmarked : goal.with-self-inside-requires-clause-unmarked
with-self-inside-requires-clause-unmarked c = omega (arith, (counts_of_headers_are_few _ _ c.self.invariant).unmarked, c.without.ensures.unmarked)

pub with-self-inside-requires-clause-dead : goal.with-self-inside-requires-clause-dead
with-self-inside-requires-clause-dead c = omega (arith, (counts_of_headers_are_few _ _ c.self.invariant).dead, c.without.ensures.dead)

pub invariant_of-self : goal.invariant_of-self
invariant_of-self c =
    let i = c.self.inside in
    let e = c.without.ensures in
    let f = c.with-self-inside.ensures in
    rw (c.set_header.ensures, header_set i.turn i.kept.items c.args.cell _ _ c.kept.ensures.value)
    (counts_after_header_set _ i.counts _ c.args.cell c.at-was.result _ (rw (← c.self.view_is) at c.requires.within) (rw (← c.self.view_is) at c.at-was.ensures) c.self.invariant
    (record { objects = omega (arith, e.objects, f.objects); unmarked = omega (arith, e.unmarked, f.unmarked); dead = omega (arith, e.dead, f.dead) }))

pub returns : goal.returns
returns c = rw (← c.self.view_is, c.set_header.ensures) (header_set c.self.inside.turn c.self.inside.kept.items c.args.cell _ _ c.kept.ensures.value)
