use Rattle.std.proofs.Common.{◌∙◌}
use Rattle.dump_pump.specs.declared.source.SourceEnd.TheVariants as Ended
use Rattle.dump_pipe.proofs.FeedSteps.{feed_has_room_for_part, feed_has_room_for_end, room_for_end_after_part, feeding_goes_on_by_part, feeding_ends_by_last_part}
use Rattle.dump_pipe.proofs.feeder.feed.Goals as goal

pub send-requires-clause-room : goal.send-requires-clause-room
send-requires-clause-room g c = feed_has_room_for_part _ _ _ c.in-Part.piece c.loop-piece.invariant.1 c.in-Part.ensures.next.1

pub send-requires-then-last-clause-room : goal.send-requires-then-last-clause-room
send-requires-then-last-clause-room g c = room_for_end_after_part _ _ _ _ c.in-Part.piece Ended.Whole c.loop-piece.invariant.1 c.in-Part.ensures.next.1 c.send.ensures.sent

pub returns-then-last-clause-fed : goal.returns-then-last-clause-fed
returns-then-last-clause-fed g c =
    let n = c.in-Part.ensures.next in
    feeding_ends_by_last_part _ _ _ _ _ _ c.in-Part.piece c.loop-piece.invariant.1 n.0 c.if-last.true (n.4 c.if-last.true) c.send.ensures.sent c.send-then-last.ensures.sent

pub loop-piece-preserved : goal.loop-piece-preserved
loop-piece-preserved g c =
    let n = c.in-Part.ensures.next in
    (c.send.ensures.end, feeding_goes_on_by_part _ _ _ _ _ c.in-Part.piece c.loop-piece.invariant.1 n.0 n.1 n.2 (n.3 c.if-last.false) c.send.ensures.sent, c.in-Part.ensures.kept ∙ c.loop-piece.invariant.2)

pub send-requires-in-Lost-clause-room : goal.send-requires-in-Lost-clause-room
send-requires-in-Lost-clause-room g c = feed_has_room_for_end _ _ _ (Ended.Lost c.in-Lost.cause) c.loop-piece.invariant.1

pub send-requires-in-Cancelled-clause-room : goal.send-requires-in-Cancelled-clause-room
send-requires-in-Cancelled-clause-room g c = feed_has_room_for_end _ _ _ Ended.Cancelled c.loop-piece.invariant.1
