use Rattle.std.proofs.Common.{ap}
use Rattle.heap_trail.specs.declared.held.NumberedPin.{NumberedPin}
use Rattle.heap_trail.proofs.PinPieces.{pin_that_gives_may_count, next_piece_was_given}
use Rattle.heap_trail.proofs.held.NumberedPin.next_piece.Goals as goal

pub advance-requires : goal.advance-requires
advance-requires c = pin_that_gives_may_count c.args.ids c.args.world.now c.args.self.now.held c.requires

pub returns-clause-given : goal.returns-clause-given
returns-clause-given c = next_piece_was_given c.args.ids c.args.world.now c.args.time c.in_ok-piece.piece c.in_ok-piece.next c.args.self.now.held c.advance.new.self.held c.requires c.in_ok-piece.ensures.piece (ap (λ (s : NumberedPin). s.held) c.advance.ensures)
