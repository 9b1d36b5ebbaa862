use Rattle.std.proofs.Common.{subst, sym}
use Rattle.std.specs.Vec.{vec_capacity}
use Rattle.heap_pins.specs.KeptRegions.{IsRevivedTable, KeptContents}
use Rattle.heap_pins.specs.Slots.{IsTable}
use Rattle.heap_pins.proofs.SlotTables.{contents_of, revived_items_are_seen, revived_table_is_table}
use Rattle.heap_pins.proofs.kept.KeptRegions.revive.Goals as goal

pub returns : goal.returns
returns c = subst (λ (k : KeptContents). IsRevivedTable k (contents_of c.revive_each.new.kept.items c.self.inside.slots)) c.self.view_is
    (revived_items_are_seen c.self.inside.kept.items c.revive_each.new.kept.items c.self.inside.slots c.revive_each.ensures.items)

pub invariant_of-self : goal.invariant_of-self
invariant_of-self c = revived_table_is_table c.self.inside.copied.items c.self.inside.slots c.self.inside.kept.items c.revive_each.new.kept.items (vec_capacity c.revive_each.new.kept)
    (subst (IsTable c.self.inside.copied.items c.self.inside.slots c.self.inside.kept.items) (sym c.revive_each.ensures.capacity) c.self.invariant) c.revive_each.ensures.items
