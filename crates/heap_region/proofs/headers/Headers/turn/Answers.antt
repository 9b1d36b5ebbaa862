use Rattle.heap_region.specs.TurnedHeaders.{turned_header}
use Rattle.heap_region.proofs.TurnedHeaders.{headers_shown_at_other_turn}
use Rattle.heap_region.proofs.CountedHeaders.{dead_among, counts_of_turned_headers}
use Rattle.heap_region.proofs.headers.Headers.turn.Goals as goal

pub next-self-inside-requires-2 : goal.next-self-inside-requires-2
next-self-inside-requires-2 c = dead_among _ _ c.self.invariant

pub invariant_of-self : goal.invariant_of-self
invariant_of-self c =
    let e = c.next-self-inside-2.ensures in
    rw (headers_shown_at_other_turn c.self.inside.turn c.next-self-inside.result turned_header c.next-self-inside.ensures c.self.inside.kept.items) (counts_of_turned_headers _ _ _ c.self.invariant e.objects e.unmarked e.dead)

pub returns : goal.returns
returns c = rw (← c.self.view_is) (headers_shown_at_other_turn _ _ _ c.next-self-inside.ensures c.self.inside.kept.items)
