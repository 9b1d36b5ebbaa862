use Rattle.std.proofs.Common.{Some, arith, sym, ◌∙◌}
use Rattle.std.proofs.lemmas.List.{length-map, map-set}
use Rattle.std.specs.Prelude.{option_map}
use Rattle.heap_region.specs.TurnedHeaders.{shown_header}
use Rattle.heap_region.proofs.Cells.{cell_with_header_is_listed}
use Rattle.heap_region.proofs.CountedHeaders.{counts_after_header_set, counts_include_this_header}
use Rattle.heap_region.proofs.headers.Headers.free.Goals as goal

pub without-self-inside-requires-clause-objects : goal.without-self-inside-requires-clause-objects
without-self-inside-requires-clause-objects c = (counts_include_this_header _ _ c.args.cell _ (cell_with_header_is_listed _ c.args.cell (rw (← c.self.view_is) at c.requires)) (rw (← c.self.view_is) at (sym c.header_in-was.ensures ∙ c.at.ensures)) c.self.invariant).objects

pub without-self-inside-requires-clause-unmarked : goal.without-self-inside-requires-clause-unmarked
without-self-inside-requires-clause-unmarked c = (counts_include_this_header _ _ c.args.cell _ (cell_with_header_is_listed _ c.args.cell (rw (← c.self.view_is) at c.requires)) (rw (← c.self.view_is) at (sym c.header_in-was.ensures ∙ c.at.ensures)) c.self.invariant).unmarked

pub without-self-inside-requires-clause-dead : goal.without-self-inside-requires-clause-dead
without-self-inside-requires-clause-dead c = (counts_include_this_header _ _ c.args.cell _ (cell_with_header_is_listed _ c.args.cell (rw (← c.self.view_is) at c.requires)) (rw (← c.self.view_is) at (sym c.header_in-was.ensures ∙ c.at.ensures)) c.self.invariant).dead

pub set_free-requires : goal.set_free-requires
set_free-requires c =
    let i = c.self.inside in
    omega (arith, cell_with_header_is_listed _ c.args.cell (rw (← c.self.view_is) at c.requires), length-map i.kept.items (option_map (shown_header i.turn)))

pub invariant_of-self : goal.invariant_of-self
invariant_of-self c =
    let i = c.self.inside in
    let e = c.without-self-inside.ensures in
    rw (c.set_free.ensures, map-set _ i.kept.items c.args.cell _)
    (counts_after_header_set _ i.counts _ c.args.cell (Some c.header_in-was.result) _ (cell_with_header_is_listed _ c.args.cell (rw (← c.self.view_is) at c.requires)) (rw (← c.self.view_is) at (sym c.header_in-was.ensures ∙ c.at.ensures)) c.self.invariant
    (record { objects = omega (arith, e.objects); unmarked = omega (arith, e.unmarked); dead = omega (arith, e.dead) }))

pub returns-clause-state : goal.returns-clause-state
returns-clause-state c = rw (← c.self.view_is, c.set_free.ensures) (map-set _ c.self.inside.kept.items c.args.cell _)

pub returns-clause-was : goal.returns-clause-was
returns-clause-was c = sym c.at.ensures ∙ c.header_in-was.ensures
