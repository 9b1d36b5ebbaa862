-- A dumper's own requests for pieces, among the calls of others.
use Rattle.std.proofs.Common.{◌≡◌, ◌≢◌, ℕ, Bool, List, [], ◌∷◌, ◌++◌, if◌then◌else◌, refl, sym, ap, ◌∙◌, subst, inl, inr, append_assoc, append-nil}
use Rattle.std.proofs.lemmas.Bool.{ne_eqb, eq-eqb}
use Rattle.heap_lock.specs.Refusal.{Refusal}
use Rattle.heap_lock.specs.Action.{Action}
use Rattle.heap_lock.specs.Action.TheVariants.{Step, Rewind, OpenPin, NextPiece, ClosePin}
use Rattle.heap_lock.specs.Reply.{Reply}
use Rattle.heap_lock.specs.Reply.TheVariants.{Answered, Place, Pinned, Part, Closed, Refused}
use Rattle.heap_lock.specs.Piece.{Piece}
use Rattle.heap_lock.specs.TrailLaws.{AsksAt}
use Rattle.heap_lock.specs.Calls.{Call}
use Rattle.heap_lock.specs.Dumpers.{AllAsk, OthersKeepOff}
use Rattle.heap_lock.specs.Laws.{CallsAskAt, piece_replied, pieces_given}

-- ---- a request more

pub one_ask_more_all_asks : (pin time : ℕ) (cs : List Call) (r : Reply) → AllAsk pin time cs → AllAsk pin time (cs ++ (NextPiece pin time, r) ∷ [])
one_ask_more_all_asks pin time [] r h = (refl, tt)
one_ask_more_all_asks pin time (c ∷ cs) r h = (h.0, one_ask_more_all_asks pin time cs r h.1)

pieces_push : (pin : ℕ) (cs : List Call) (c : Call) → pieces_given pin (cs ++ c ∷ []) ≡ pieces_given pin cs ++ piece_replied pin c
unfolding pieces_given
pieces_push pin [] c = append-nil (piece_replied pin c)
pieces_push pin (d ∷ cs) c = ap (λ l. piece_replied pin d ++ l) (pieces_push pin cs c) ∙ sym (append_assoc (piece_replied pin d) (pieces_given pin cs) (piece_replied pin c))

own_ask_replies_piece : (pin time : ℕ) (p : Piece) → piece_replied pin (NextPiece pin time, Part p) ≡ p ∷ []
unfolding piece_replied
own_ask_replies_piece pin time p = ap (λ (b : Bool). if b then p ∷ [] else []) (eq-eqb pin pin refl)

own_refusal_replies_no_piece : (pin time : ℕ) (e : Refusal) → piece_replied pin (NextPiece pin time, Refused e) ≡ []
unfolding piece_replied
own_refusal_replies_no_piece pin time e = refl

pub one_piece_reply_more : (pin time : ℕ) (cs : List Call) (p : Piece) (got : List Piece) → pieces_given pin cs ≡ got → pieces_given pin (cs ++ (NextPiece pin time, Part p) ∷ []) ≡ got ++ p ∷ []
one_piece_reply_more pin time cs p got is = pieces_push pin cs (NextPiece pin time, Part p) ∙ (λ i. is i ++ own_ask_replies_piece pin time p i)

pub refusal_adds_no_piece : (pin time : ℕ) (cs : List Call) (e : Refusal) (got : List Piece) → pieces_given pin cs ≡ got → pieces_given pin (cs ++ (NextPiece pin time, Refused e) ∷ []) ≡ got
refusal_adds_no_piece pin time cs e got is = pieces_push pin cs (NextPiece pin time, Refused e) ∙ (λ i. is i ++ own_refusal_replies_no_piece pin time e i) ∙ append-nil got

-- ---- others that keep off

own_ask_is_at_time : (pin time : ℕ) (c : Call) → c.0 ≡ NextPiece pin time → AsksAt pin time c.0
own_ask_is_at_time pin time c is = subst (AsksAt pin time) (sym is) (λ same. refl)

other_action_is_at_any_time : (pin time : ℕ) (a : Action) → ((t : ℕ) → a ≢ NextPiece pin t) → AsksAt pin time a
other_action_is_at_any_time pin time (NextPiece n t) off = λ same. absurd (off t (ap (λ k. NextPiece k t) same))
other_action_is_at_any_time pin time (Step e) off = tt
other_action_is_at_any_time pin time (Rewind n) off = tt
other_action_is_at_any_time pin time (OpenPin at) off = tt
other_action_is_at_any_time pin time (ClosePin n) off = tt

other_pin_replies_no_piece : (pin n t : ℕ) (p : Piece) → (n ≡ pin → ⊥) → piece_replied pin (NextPiece n t, Part p) ≡ []
unfolding piece_replied
other_pin_replies_no_piece pin n t p not = ap (λ (b : Bool). if b then p ∷ [] else []) (ne_eqb n pin not)

other_pin_asks_give_nothing : (pin n t : ℕ) (r : Reply) → (n ≡ pin → ⊥) → piece_replied pin (NextPiece n t, r) ≡ []
unfolding piece_replied
other_pin_asks_give_nothing pin n t (Part p) not = other_pin_replies_no_piece pin n t p not
other_pin_asks_give_nothing pin n t (Answered a) not = refl
other_pin_asks_give_nothing pin n t (Place p) not = refl
other_pin_asks_give_nothing pin n t (Pinned p a) not = refl
other_pin_asks_give_nothing pin n t Closed not = refl
other_pin_asks_give_nothing pin n t (Refused e) not = refl

other_action_replies_no_piece : (pin : ℕ) (a : Action) (r : Reply) → ((t : ℕ) → a ≢ NextPiece pin t) → piece_replied pin (a, r) ≡ []
unfolding piece_replied
other_action_replies_no_piece pin (NextPiece n t) r off = other_pin_asks_give_nothing pin n t r (λ same. off t (ap (λ k. NextPiece k t) same))
other_action_replies_no_piece pin (Step e) r off = refl
other_action_replies_no_piece pin (Rewind n) r off = refl
other_action_replies_no_piece pin (OpenPin at) r off = refl
other_action_replies_no_piece pin (ClosePin n) r off = refl

-- then all requests for pieces of the pin are one's own, and so are the pieces
pub own_asks_when_others_keep_off : (pin time : ℕ) (own cs : List Call) → AllAsk pin time own → OthersKeepOff pin own cs → CallsAskAt pin time cs × (pieces_given pin cs ≡ pieces_given pin own)
unfolding pieces_given
own_asks_when_others_keep_off pin time own [] asks h = (tt, ap (pieces_given pin) (sym h))
own_asks_when_others_keep_off pin time own (c ∷ cs) asks (inl h) =
    let all = subst (AllAsk pin time) h.1 asks in
    let rest = own_asks_when_others_keep_off pin time h.0 cs all.1 h.2 in
    ((own_ask_is_at_time pin time c all.0, rest.0), ap (λ l. piece_replied pin c ++ l) rest.1 ∙ ap (pieces_given pin) (sym h.1))
own_asks_when_others_keep_off pin time own (c ∷ cs) asks (inr h) =
    let rest = own_asks_when_others_keep_off pin time own cs asks h.1 in
    ((other_action_is_at_any_time pin time c.0 h.0, rest.0), ap (λ l. l ++ pieces_given pin cs) (other_action_replies_no_piece pin c.0 c.1 h.0) ∙ rest.1)
