-- What may be replied to a request for a piece.
use Rattle.std.proofs.Common.{ℕ, List, ◌++◌, Option, Some, None, subst}
use Rattle.std.specs.Bool.{⊤}
use Rattle.heap_class.specs.declared.Refusal.{Refusal}
use Rattle.heap_world.specs.Limits.{HeapSettings}
use Rattle.heap_trail.specs.declared.Action.TheVariants.{NextPiece}
use Rattle.heap_trail.specs.declared.Reply.{Reply}
use Rattle.heap_trail.specs.declared.Reply.TheVariants.{Part, Refused}
use Rattle.heap_trail.specs.Machine.{Machine, Allocation, Granted, Denied, LosesPins, acted, acted_under, after_piece}
use Rattle.heap_trail.specs.Pins.{PinState, Kept, Gone, pin_at}
use Rattle.heap_lock.specs.Calls.{Call, LeadsTo, Witnesses}
use Rattle.heap_lock.specs.Sources.{IsPieceRefusal}
use Rattle.heap_lock.proofs.CallLists.{last_call_was_replied}

-- a piece, or a refusal that one may get
IsPieceOrRefusalReply : Reply → Type 0
IsPieceOrRefusalReply (Part p) = ⊤
IsPieceOrRefusalReply (Refused e) = IsPieceRefusal e
IsPieceOrRefusalReply r = ⊥

pin_answers_with_piece_reply : (pin time : ℕ) (m : Machine) (s : Option PinState) → IsPieceOrRefusalReply (after_piece pin time m s).1
unfolding IsPieceOrRefusalReply after_piece
pin_answers_with_piece_reply pin time m None = tt
pin_answers_with_piece_reply pin time m (Some (Gone place cause)) = tt
pin_answers_with_piece_reply pin time m (Some (Kept place image given)) = tt

next_piece_answers_piece_reply : (m : Machine) (pin time : ℕ) → IsPieceOrRefusalReply (acted m (NextPiece pin time)).1
unfolding acted
next_piece_answers_piece_reply m pin time = pin_answers_with_piece_reply pin time m (pin_at pin m.pins)

next_piece_under_allocation_answers_reply : (m : Machine) (pin time : ℕ) (allocation : Allocation) → IsPieceOrRefusalReply (acted_under m (NextPiece pin time, allocation)).1
unfolding IsPieceOrRefusalReply acted_under
next_piece_under_allocation_answers_reply m pin time Granted = next_piece_answers_piece_reply m pin time
next_piece_under_allocation_answers_reply m pin time Denied = tt
next_piece_under_allocation_answers_reply m pin time (LosesPins pins) = next_piece_answers_piece_reply m pin time

pub witnessed_refusal_is_piece_refusal : (config : HeapSettings) (pin time : ℕ) (e : Refusal) (before after : List Call) → Witnesses config before (NextPiece pin time) (Refused e) after → IsPieceRefusal e
unfolding IsPieceOrRefusalReply
witnessed_refusal_is_piece_refusal config pin time e before after w =
    let leads = subst (λ l. LeadsTo config l w.2.0) w.1 w.2.2.leads in
    let d = last_call_was_replied _ w.2.0 (before ++ w.0) (NextPiece pin time, Refused e) leads in
    subst (λ r. IsPieceOrRefusalReply r.1) d.2.2 (next_piece_under_allocation_answers_reply d.0 pin time d.2.0)
