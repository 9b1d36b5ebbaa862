use Rattle.std.proofs.Common.{◌≡◌, refl, subst, sym}
use Rattle.heap_lock.specs.Action.TheVariants.{Step}
use Rattle.seat_session.specs.JoinedActs.{IsJoined}
use Rattle.seat_session.specs.SeatStations.{Station}
use Rattle.seat_session.proofs.Acts.{received_reply_is_acted}
use Rattle.seat_session.proofs.joined.JoinedCommands.act.Goals as goal

pub returns-in-Step-clause-acts : goal.returns-in-Step-clause-acts
returns-in-Step-clause-acts g c =
    let joined = c.self.inside in
    subst (λ (s : Station). IsJoined g.L.Heap.config s.seat s.seen c.args.action c.reply_to_act.result c.act.new.seat joined.witness × (joined.bookmarks ≡ s.bookmarks)) c.self.view_is (
      subst (λ a. IsJoined g.L.Heap.config joined.seat joined.witness a c.reply_to_act.result c.act.new.seat joined.witness) (sym c.in-Step.is)
          (received_reply_is_acted g.L.Heap.config joined.seat c.act.new.seat (Step c.in-Step.event) c.act.result c.reply_to_act.result c.act.ensures.receipt c.act.ensures.stands c.act.ensures.refused c.reply_to_act.ensures.reply, refl),
      refl,
    )
