use Rattle.heap_region.specs.TurnedHeaders.{turned_back_header}
use Rattle.heap_region.proofs.TurnedHeaders.{headers_shown_at_other_turn}
use Rattle.heap_region.proofs.CountedHeaders.{unmarked_among, counted_turned_back}
use Rattle.heap_region.proofs.headers.Headers.turn_back.Goals as goal

pub prior-self-inside-requires-2 : goal.prior-self-inside-requires-2
prior-self-inside-requires-2 c = unmarked_among _ _ c.self.invariant

pub invariant_of-self : goal.invariant_of-self
invariant_of-self c =
    let e = c.prior-self-inside-2.ensures in
    rw (headers_shown_at_other_turn c.self.inside.turn c.prior-self-inside.result turned_back_header c.prior-self-inside.ensures c.self.inside.kept.items) (counted_turned_back _ _ _ c.self.invariant e.objects e.unmarked e.dead)

pub returns : goal.returns
returns c = rw (← c.self.view_is) (headers_shown_at_other_turn _ _ _ c.prior-self-inside.ensures c.self.inside.kept.items)
