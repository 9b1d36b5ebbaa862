use Rattle.machine_dump.proofs.SourceStreams.{handed_part_of_fresh_supply}
use Rattle.machine_dump.proofs.fresh_source.FreshSourceSource.next.Goals as goal

pub returns-clause-next : goal.returns-clause-next
returns-clause-next c =
    handed_part_of_fresh_supply c.args.self.now.pin c.args.self.now.time c.args.self.now.machine.now c.hand_out.new.machine c.args.self.now.count c.hand_out.new.count c.args.self.now.ended c.hand_out.new.ended c.hand_out.result
    c.hand_out.ensures c.args.self.now.counted c.requires
