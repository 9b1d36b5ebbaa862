use Rattle.std.proofs.Common.{◌∙◌, [], refl, sym, subst}
use Rattle.heap_region.specs.Pool.{RegionPool}
use Rattle.std.specs.Prelude.{slice_index_or}
use Rattle.heap_pins.specs.States.{AreOf, cell_states}
use Rattle.heap_pins.proofs.AddedCopies.{copied_bytes_are_seen, settled_states_are_seen}
use Rattle.heap_pins.proofs.pin.Pin.states.Goals as goal

pub returns-then-has_copy : goal.returns-then-has_copy
returns-then-has_copy c = copied_bytes_are_seen c.args.self.now c.args.world.now.regions c.args.region c.bytes.result (sym c.has_copy.ensures ∙ c.if-has_copy.true) c.bytes.ensures.count c.bytes.ensures.value

pub returns : goal.returns
returns c = settled_states_are_seen c.args.self.now c.args.world.now.regions c.args.region (slice_index_or c.args.self.now.cells c.args.region []) c.states_now-states.result c.settle.new.states (sym c.if-has_copy.ensures)
    (subst (λ (s : RegionPool). AreOf (cell_states s.regions) c.args.region 256 c.states_now-states.result) c.regions.ensures c.states_now-states.ensures)
    c.settle.ensures refl
