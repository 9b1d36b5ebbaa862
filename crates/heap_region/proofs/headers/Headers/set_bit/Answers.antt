use Rattle.std.proofs.Common.{refl}
use Rattle.heap_region.proofs.TurnedHeaders.{bit_shown, shown_header_is_kept}
use Rattle.heap_region.proofs.CountedHeaders.{bit_differs, bit_is_counted, counts_of_headers_are_few, counts_after_header_set}
use Rattle.heap_region.proofs.Cells.{cell_with_header_is_listed}
use Rattle.heap_region.proofs.headers.Headers.set_bit.Goals as goal

pub set_bit_at-requires : goal.set_bit_at-requires
set_bit_at-requires c = shown_header_is_kept c.self.inside.turn c.self.inside.kept.items c.args.cell (rw (← c.self.view_is) at c.requires)

pub with_bit-self-inside-requires-clause-unmarked : goal.with_bit-self-inside-requires-clause-unmarked
with_bit-self-inside-requires-clause-unmarked c = (counts_of_headers_are_few _ _ c.self.invariant).unmarked

pub with_bit-self-inside-requires-clause-dead : goal.with_bit-self-inside-requires-clause-dead
with_bit-self-inside-requires-clause-dead c = (counts_of_headers_are_few _ _ c.self.invariant).dead

pub with_bit-self-inside-requires-clause-marks : goal.with_bit-self-inside-requires-clause-marks
with_bit-self-inside-requires-clause-marks c = (bit_is_counted _ _ c.args.cell c.args.bit _ (rw (← c.self.view_is) at c.requires) c.self.invariant (rw (c.at.ensures, ← c.self.view_is) at c.bit_in-was.ensures)).0

pub with_bit-self-inside-requires-clause-lives : goal.with_bit-self-inside-requires-clause-lives
with_bit-self-inside-requires-clause-lives c = (bit_is_counted _ _ c.args.cell c.args.bit _ (rw (← c.self.view_is) at c.requires) c.self.invariant (rw (c.at.ensures, ← c.self.view_is) at c.bit_in-was.ensures)).1

pub invariant_of-self : goal.invariant_of-self
invariant_of-self c =
    let i = c.self.inside in
    let f = c.with_bit-self-inside.ensures in
    let k = c.kept_bit-kept_bit in
    let there = rw (← c.self.view_is) at c.requires in
    rw (c.set_bit_at.ensures, bit_shown i.turn i.kept.items c.args.cell k.result.0 c.args.bit k.result.1 c.args.on k.ensures)
    (counts_after_header_set _ i.counts _ c.args.cell _ _ (cell_with_header_is_listed _ c.args.cell there) refl c.self.invariant
    (bit_differs _ c.args.bit _ c.args.on _ _ there (rw (c.at.ensures, ← c.self.view_is) at c.bit_in-was.ensures) f.objects f.unmarked f.dead))

pub returns-clause-state : goal.returns-clause-state
returns-clause-state c = rw (← c.self.view_is, c.set_bit_at.ensures) (bit_shown c.self.inside.turn c.self.inside.kept.items c.args.cell c.kept_bit-kept_bit.result.0 c.args.bit c.kept_bit-kept_bit.result.1 c.args.on c.kept_bit-kept_bit.ensures)

pub returns-clause-was : goal.returns-clause-was
returns-clause-was c = rw c.at.ensures at c.bit_in-was.ensures
