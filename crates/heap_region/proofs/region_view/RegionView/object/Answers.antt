use Rattle.std.proofs.Common.{◌≡◌, ℕ, Bool, Option, Some, IfSome, option_map, sym, ap, subst, ◌∙◌}
use Rattle.heap_region.specs.Turns.{object_turned_by, turned_by}
use Rattle.heap_region.specs.Quarters.{since}
use Rattle.heap_region.specs.Regions.{Object, UsedRegion, cell_object}
use Rattle.heap_region.specs.declared.quarter.Quarter.{Quarter}
use Rattle.heap_region.proofs.LateTurns.{cell_of_turned, there_before_turns}
use Rattle.heap_region.proofs.TurnedCopies.{object_of_turned_bits}
use Rattle.heap_region.proofs.region_view.RegionView.object.Goals as goal

abbrev HasReadBits : Bool × Bool → Object → Type 0
HasReadBits bits o = (bits.0 ≡ o.live) × (bits.1 ≡ o.mark)

-- a copy with the bits that are read
copy_shown : (q : Quarter) (u : UsedRegion) (cell : ℕ) (o new : Object) (bits : Bool × Bool) → cell_object u cell ≡ Some o → IfSome (cell_object (turned_by q u) cell) (HasReadBits bits) → new ≡ record o { live = bits.0; mark = bits.1 } → cell_object (turned_by q u) cell ≡ Some new
copy_shown q u cell o new bits there told is =
    let shown : cell_object (turned_by q u) cell ≡ Some (object_turned_by q o) = cell_of_turned q u cell ∙ ap (option_map (object_turned_by q)) there in
    let both = subst (λ (x : Option Object). IfSome x (HasReadBits bits)) shown told in
    shown ∙ ap Some (sym (is ∙ object_of_turned_bits q o bits.0 bits.1 both.0 both.1))

pub object-requires : goal.object-requires
object-requires c =
    let i = c.self.inside in
    there_before_turns (since i.turns i.seen) i.storage.now c.args.cell (rw (← c.self.view_is) at c.requires)

pub returns : goal.returns
returns c =
    let i = c.self.inside in
    rw (← c.self.view_is) (copy_shown (since i.turns i.seen) i.storage.now c.args.cell c.in_ok-object.object _ c.bits-bits.result c.in_ok-object.ensures (rw (← c.self.view_is) at c.bits-bits.ensures) c.set_bits.ensures)
