use Rattle.std.proofs.Common.{sym, ◌∙◌}
use Rattle.heap_region.specs.Quarters.{since}
use Rattle.heap_region.proofs.LateTurns.{bits_of_turned, nothing_missed, there_before_turns}
use Rattle.heap_region.proofs.region_view.RegionView.bits.Goals as goal

pub bits-bits-requires : goal.bits-bits-requires
bits-bits-requires c =
    let i = c.self.inside in
    there_before_turns (since i.turns i.seen) i.storage.now c.args.cell (rw (← c.self.view_is) at c.requires)

pub returns-then-is : goal.returns-then-is
returns-then-is c =
    let i = c.self.inside in
    rw (← c.self.view_is, nothing_missed i.turns i.seen i.storage.now (sym c.is.ensures ∙ c.if-is.true)) c.bits-bits.ensures

pub returns : goal.returns
returns c =
    let i = c.self.inside in
    rw (← c.self.view_is) (bits_of_turned (since i.turns i.seen) i.storage.now c.args.cell _ _ c.bits-bits.ensures (rw c.since.ensures at c.bits_turned.ensures))
