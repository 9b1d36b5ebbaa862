use Rattle.std.proofs.Common.{◌≡◌, Bool, Option, Some, sym, ap, ◌∙◌}
use Rattle.std.specs.Prelude.{if◌then◌else◌}
use Rattle.heap_region.specs.Regions.{UsedRegion}
use Rattle.heap_region.specs.Table.{wait_class_of}
use Rattle.heap_region.proofs.turned_slots.Slots.wait_class.Goals as goal

class_told : (x : Option UsedRegion) (u : UsedRegion) (b : Bool) → x ≡ Some u → b ≡ u.pending → (if b then 1 else 2) ≡ wait_class_of x
class_told x u b is same = ap (λ (c : Bool). if c then 1 else 2) same ∙ sym (ap wait_class_of is)

pub returns-then-pending : goal.returns-then-pending
returns-then-pending c = ap (λ (b : Bool). if b then 1 else 2) (sym c.if-pending.true) ∙ class_told _ _ _ c.in-Some.ensures.value c.pending.ensures

pub returns-else-pending : goal.returns-else-pending
returns-else-pending c = ap (λ (b : Bool). if b then 1 else 2) (sym c.if-pending.false) ∙ class_told _ _ _ c.in-Some.ensures.value c.pending.ensures

pub returns-in-None : goal.returns-in-None
returns-in-None c = sym (ap wait_class_of c.in-None.ensures.value)
