-- What a read and a write move.
use Rattle.std.proofs.Common.{◌≡◌, ℕ, List, [], None, Some, refl, sym, ap, ◌∙◌, append-nil, length, take}
use Rattle.std.specs.Prelude.{Option}
use Rattle.std.specs.Io.KnownBytes.{Appends, Consumes, Keeps}
use Rattle.http_server.specs.declared.connection.Connection.{Connection}
use Rattle.http_server.specs.Connection.{history}
use Rattle.http_server.specs.History.{History, IsQuiet, after_read, after_sent}
use Rattle.heap_page.specs.Moves.{Moves, Receives, Sends}

-- a read that failed took nothing
failed_read_took_nothing : (a b : Option (List ℕ)) → Keeps a b → Consumes a b []
failed_read_took_nothing None b p = tt
failed_read_took_nothing (Some x) None p = absurd p
failed_read_took_nothing (Some x) (Some y) p = sym p

-- a write that failed put nothing
failed_write_puts_nothing : (w v : Option (List ℕ)) → Keeps w v → Appends w v []
failed_write_puts_nothing None v p = tt
failed_write_puts_nothing (Some x) None p = absurd p
failed_write_puts_nothing (Some x) (Some y) p = p ∙ sym (append-nil x)

-- what is left alone is kept
left_alone_is_kept : (a : Option (List ℕ)) → Keeps a a
left_alone_is_kept None = tt
left_alone_is_kept (Some x) = refl

pub nothing_received : (a b : Option (List ℕ)) (h g : History) → (g ≡ h) × Keeps a b → Receives a b h g
nothing_received a b h g p = record {
  bytes = [];
  taken = failed_read_took_nothing a b p.1;
  received = ap (λ (k : History). k.received) p.0 ∙ sym (append-nil h.received);
  sent = ap (λ (k : History). k.sent) p.0;
  calls = ap (λ (k : History). k.calls) p.0;
}

pub some_received : (a b : Option (List ℕ)) (h g : History) (n : ℕ)
    → ((more : List ℕ) × (length more ≡ n) × Consumes a b more × (g ≡ after_read h more)) → Receives a b h g
some_received a b h g n p = record {
  bytes = p.0;
  taken = p.2;
  received = ap (λ (k : History). k.received) p.3;
  sent = ap (λ (k : History). k.sent) p.3;
  calls = ap (λ (k : History). k.calls) p.3;
}

pub nothing_sent : (w v : Option (List ℕ)) (c d : Connection) → (d ≡ c) × Keeps w v → Sends w v (history c) (history d)
nothing_sent w v c d p = record {
  bytes = [];
  put = failed_write_puts_nothing w v p.1;
  sent = ap (λ k. (history k).sent) p.0 ∙ sym (append-nil (history c).sent);
  received = ap (λ k. (history k).received) p.0;
  calls = ap (λ k. (history k).calls) p.0;
}

pub some_sent : (w v : Option (List ℕ)) (h g : History) (n : ℕ) → (g ≡ after_sent h n) × Appends w v (take n h.pending) → Sends w v h g
some_sent w v h g n p = record {
  bytes = take n h.pending;
  put = p.1;
  sent = ap (λ (k : History). k.sent) p.0;
  received = ap (λ (k : History). k.received) p.0;
  calls = ap (λ (k : History). k.calls) p.0;
}

pub received_moves : (a b w : Option (List ℕ)) (h g : History) → Receives a b h g → Moves a b w w h g
received_moves a b w h g r = record {
  came = r.bytes;
  taken = r.taken;
  received = r.received;
  went = [];
  put = failed_write_puts_nothing w w (left_alone_is_kept w);
  sent = r.sent ∙ sym (append-nil h.sent);
}

pub sent_moves : (a w v : Option (List ℕ)) (h g : History) → Sends w v h g → Moves a a w v h g
sent_moves a w v h g s = record {
  came = [];
  taken = failed_read_took_nothing a a (left_alone_is_kept a);
  received = s.received ∙ sym (append-nil h.received);
  went = s.bytes;
  put = s.put;
  sent = s.sent;
}

-- answers move no bytes
pub answered_moves : (a b w v : Option (List ℕ)) (h g k : History) → Moves a b w v h g → IsQuiet g k → Moves a b w v h k
answered_moves a b w v h g k m q = record {
  came = m.came;
  taken = m.taken;
  received = q.0 ∙ m.received;
  went = m.went;
  put = m.put;
  sent = q.2 ∙ m.sent;
}
