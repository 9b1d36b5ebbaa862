use Rattle.std.proofs.Common.{ℕ, ap, inl, inr, refl}
use Rattle.heap_trail.specs.declared.Reply.TheVariants.{Place}
use Rattle.session_text.specs.Replies.{reply_text}
use Rattle.heap_orders.proofs.forward_steps.go_on.Goals as goal

pub returns-in-Ok : goal.returns-in-Ok
returns-in-Ok c = inl (c.in-Ok.ensures.taken, ap (λ (p : ℕ). reply_text (Place p)) c.place.ensures.value)

pub returns-in-Err : goal.returns-in-Err
returns-in-Err c = inr (c.in-Err.refusal, c.in-Err.ensures.stopped, refl)
