use Rattle.std.proofs.Common.{sym, subst}
use Rattle.heap_trail.specs.declared.Action.{Action}
use Rattle.heap_trail.specs.declared.Action.TheVariants.{Rewind, OpenPin, NextPiece, ClosePin}
use Rattle.heap_trail.specs.declared.Reply.TheVariants.{Place, Pinned, Part, Closed, Refused}
use Rattle.heap_trail.specs.Machine.{MayReply}
use Rattle.heap_trail.proofs.Replies.{replies_fine, replies_refusing}
use Rattle.heap_trail.proofs.Machine.act.Goals as goal

pub returns-in-Ok-clause-reply : goal.returns-in-Ok-clause-reply
returns-in-Ok-clause-reply c = subst (λ (a : Action). MayReply c.args.self.now a c.rewind.new.self (Place c.in-Ok.place)) (sym c.in-Rewind.is)
    (replies_fine c.args.self.now (Rewind c.in-Rewind.n) c.rewind.new.self (Place c.in-Ok.place) c.in-Ok.ensures.done)

pub returns-in-Err-clause-reply : goal.returns-in-Err-clause-reply
returns-in-Err-clause-reply c = subst (λ (a : Action). MayReply c.args.self.now a c.rewind.new.self (Refused c.in-Err.refusal)) (sym c.in-Rewind.is)
    (replies_fine c.args.self.now (Rewind c.in-Rewind.n) c.rewind.new.self (Refused c.in-Err.refusal) c.in-Err.ensures.refused)

pub returns-in-Ok-open_pin-clause-reply : goal.returns-in-Ok-open_pin-clause-reply
returns-in-Ok-open_pin-clause-reply c = subst (λ (a : Action). MayReply c.args.self.now a c.open_pin.new.self (Pinned c.in-Ok-open_pin.field-0.pin c.in-Ok-open_pin.field-0.at)) (sym c.in-OpenPin.is)
    (replies_fine c.args.self.now (OpenPin c.in-OpenPin.at) c.open_pin.new.self (Pinned c.in-Ok-open_pin.field-0.pin c.in-Ok-open_pin.field-0.at) c.in-Ok-open_pin.ensures.done)

pub returns-in-Err-open_pin-clause-reply : goal.returns-in-Err-open_pin-clause-reply
returns-in-Err-open_pin-clause-reply c = subst (λ (a : Action). MayReply c.args.self.now a c.open_pin.new.self (Refused c.in-Err-open_pin.refusal)) (sym c.in-OpenPin.is)
    (replies_refusing c.args.self.now (OpenPin c.in-OpenPin.at) c.open_pin.new.self c.in-Err-open_pin.refusal c.in-Err-open_pin.ensures.unchanged c.in-Err-open_pin.ensures.refused)

pub returns-in-Ok-piece-clause-reply : goal.returns-in-Ok-piece-clause-reply
returns-in-Ok-piece-clause-reply c = subst (λ (a : Action). MayReply c.args.self.now a c.piece.new.self (Part c.in-Ok-piece.piece)) (sym c.in-NextPiece.is)
    (replies_fine c.args.self.now (NextPiece c.in-NextPiece.pin c.in-NextPiece.time) c.piece.new.self (Part c.in-Ok-piece.piece) c.in-Ok-piece.ensures.done)

pub returns-in-Err-piece-clause-reply : goal.returns-in-Err-piece-clause-reply
returns-in-Err-piece-clause-reply c = subst (λ (a : Action). MayReply c.args.self.now a c.piece.new.self (Refused c.in-Err-piece.refusal)) (sym c.in-NextPiece.is)
    (replies_refusing c.args.self.now (NextPiece c.in-NextPiece.pin c.in-NextPiece.time) c.piece.new.self c.in-Err-piece.refusal c.in-Err-piece.ensures.unchanged c.in-Err-piece.ensures.refused)

pub returns-in-Ok-close_pin-clause-reply : goal.returns-in-Ok-close_pin-clause-reply
returns-in-Ok-close_pin-clause-reply c = subst (λ (a : Action). MayReply c.args.self.now a c.close_pin.new.self Closed) (sym c.in-ClosePin.is)
    (replies_fine c.args.self.now (ClosePin c.in-ClosePin.pin) c.close_pin.new.self Closed c.in-Ok-close_pin.ensures.done)

pub returns-in-Err-close_pin-clause-reply : goal.returns-in-Err-close_pin-clause-reply
returns-in-Err-close_pin-clause-reply c = subst (λ (a : Action). MayReply c.args.self.now a c.close_pin.new.self (Refused c.in-Err-close_pin.refusal)) (sym c.in-ClosePin.is)
    (replies_fine c.args.self.now (ClosePin c.in-ClosePin.pin) c.close_pin.new.self (Refused c.in-Err-close_pin.refusal) c.in-Err-close_pin.ensures.refused)
