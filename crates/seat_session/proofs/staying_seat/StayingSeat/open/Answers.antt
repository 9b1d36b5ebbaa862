use Rattle.std.proofs.Common.{◌∙◌, ap, subst, inl}
use Rattle.heap_lock.specs.Action.TheVariants.{OpenPin}
use Rattle.heap_lock.specs.LockStates.{SeatModel}
use Rattle.session_text.specs.Replies.{pin_in}
use Rattle.seat_session.specs.JoinedActs.{IsJoined}
use Rattle.seat_session.specs.StayingSeats.{AreStillOpen, StayingStation, with_opened}
use Rattle.seat_session.proofs.staying_seat.StayingSeat.open.Goals as goal

pub returns-clause-done : goal.returns-clause-done
returns-clause-done g c =
    let config = g.L.Heap.config in
    let seen = c.forget_closed.new.self.seen in
    let left = c.forget_closed.new.pins.items in
    let r = c.act-reply.result in
    let d = c.act-reply.new.self in
    let seat = c.forget_closed.ensures.seat ∙ ap (λ (x : StayingStation). x.seat) c.self.view_is in (
      seen,
      left,
      subst (λ (x : StayingStation). AreStillOpen config x.seat x.seen x.pins seen left) c.self.view_is c.forget_closed.ensures.open,
      inl (
        subst (λ (s : SeatModel). IsJoined config s seen (OpenPin c.args.at) r d.seat d.seen) seat c.act-reply.ensures.acts.0,
        c.note.ensures ∙ ap (λ o. with_opened o c.reserve.new.self.items) c.pin_in.ensures ∙ ap (λ l. with_opened (pin_in r) l) c.reserve.ensures.items,
      ),
    )
