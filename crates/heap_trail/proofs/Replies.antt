-- An action's reply, with an allocation that is possible for it.
use Rattle.std.proofs.Common.{◌≡◌, sym, inl, inr}
use Rattle.heap_class.specs.declared.Refusal.{Refusal}
use Rattle.heap_trail.specs.declared.Action.{Action}
use Rattle.heap_trail.specs.declared.Reply.{Reply}
use Rattle.heap_trail.specs.declared.Reply.TheVariants.{Refused}
use Rattle.heap_trail.specs.Machine.{Machine, Granted, Denied, MayReply, MayFail, acted, acted_under}

pub replies_fine : (m : Machine) (a : Action) (n : Machine) (r : Reply) → acted m a ≡ (n, r) → MayReply m a n r
unfolding acted_under
replies_fine m a n r h = (Granted, tt, h)

pub replies_refusing : (m : Machine) (a : Action) (n : Machine) (r : Refusal) → n ≡ m → MayFail m a n r → MayReply m a n (Refused r)
unfolding acted_under
replies_refusing m a n r same (inl h) = replies_fine m a n (Refused r) h
replies_refusing m a n r same (inr h) = (Denied, h.0, λ i. (sym same i, Refused (sym h.1 i)))
