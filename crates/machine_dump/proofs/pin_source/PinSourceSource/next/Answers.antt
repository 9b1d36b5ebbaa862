use Rattle.machine_dump.proofs.PieceGiving.{handed_part_is_next_part}
use Rattle.machine_dump.proofs.pin_source.PinSourceSource.next.Goals as goal

pub returns-clause-next : goal.returns-clause-next
returns-clause-next c =
    handed_part_is_next_part c.args.self.now.pin c.args.self.now.time c.args.self.now.start.value c.args.self.now.machine.now c.hand_out.new.machine c.args.self.now.count c.hand_out.new.count c.args.self.now.ended c.hand_out.new.ended c.hand_out.result
    c.hand_out.ensures c.args.self.now.counted c.requires
