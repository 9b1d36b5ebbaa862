use Rattle.heap_lock.proofs.PieceReplies.{witnessed_refusal_is_piece_refusal}
use Rattle.heap_lock.proofs.source.LockedSource.next_part.Goals as goal

pub cause_of-cause-requires : goal.cause_of-cause-requires
cause_of-cause-requires g c = witnessed_refusal_is_piece_refusal _ _ _ c.in-Err.refusal _ _ c.in-Err.ensures.call.refused.0
