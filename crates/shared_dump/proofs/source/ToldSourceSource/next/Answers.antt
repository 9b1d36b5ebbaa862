use Rattle.dump_pump.specs.Sources.{parts_in}
use Rattle.shared_dump.specs.Supplies.{ToldSupply, first_dumper}
use Rattle.shared_dump.proofs.SupplySteps.{supply_at_known_values}
use Rattle.shared_dump.proofs.source.ToldSourceSource.next.Goals as goal

pub invariant_of-self : goal.invariant_of-self
invariant_of-self g c =
    let before = c.self.inside in
    let after = c.next_part-next.new.self in
    let e = c.next_part-next.ensures in
    let t : ToldSupply = record { pin = before.source.pin; time = before.source.time; start = first_dumper before.start.items; dumper = before.source.dumper; given = parts_in before.given.items; count = before.source.count; ended = before.ended } in
    supply_at_known_values g.L.Heap.config t after.pin after.time after.count after.dumper (parts_in c.note.new.given.items) c.note.new.ended c.next_part-next.result
    e.names.0 e.names.1 c.note.ensures.given c.note.ensures.ended c.in-None.ensures.other e.supplies e.count c.self.invariant
