-- The answers to `dump` lines spell dumps of states.
use Rattle.std.proofs.Common.{◌≡◌, ◌⊎◌, inl, inr, ℕ, zero, suc, ◌+◌, Bool, true, false, List, [], ◌∷◌, ◌++◌, ◌<◌, length, length-append, arith, append-nil, append_assoc, refl, sym, ap, ◌∙◌, subst, Option, Some, None}
use Rattle.std.specs.Prelude.{◌||◌}
use Rattle.std.specs.List.{list_any}
use Rattle.std.proofs.lemmas.Option.{none-some}
use mathlib.Core.List.{IsPrefix}
use Rattle.heap_lock.specs.HeapLimits.{HeapSettings}
use Rattle.heap_lock.specs.Piece.{Piece}
use Rattle.heap_lock.specs.Segments.{dump_text}
use Rattle.heap_lock.specs.Images.{image_of}
use Rattle.heap_lock.specs.Action.{Action}
use Rattle.heap_lock.specs.Action.TheVariants.{OpenPin, NextPiece, ClosePin}
use Rattle.heap_lock.specs.Reply.{Reply}
use Rattle.heap_lock.specs.Reply.TheVariants.{Answered, Place, Pinned, Part, Closed, Refused}
use Rattle.dump_pump.specs.Pumps.{joined}
use Rattle.dump_pump.specs.PieceLaws.{piece_limit}
use Rattle.heap_lock.specs.Calls.{Call, IsLegalLedger, Witnesses}
use Rattle.heap_lock.specs.LockStates.{SeatModel}
use Rattle.heap_lock.specs.Laws.{state_at}
use Rattle.heap_lock.proofs.PinTexts.{given_pieces_tell_dump}
use Rattle.session_text.specs.Replies.{data_lines, reply_text, piece_in, pin_in}
use Rattle.session_text.specs.Dumps.{Dumps, DumpsOn, ClosesAfter, total_line}
use Rattle.seat_session.specs.JoinedActs.{OpensMet}
use Rattle.seat_session.specs.DumpAnswers.{ActsJoined, lines_of_pieces, EndsData, IsDumpAnswer, IsUnopened, IsOpenedDump, AnswersPinDump, AnswersNewDump}

-- ---- what was seen

-- more was seen, and if what was seen before may be all calls of a heap, so may this
abbrev SeesLegalCalls : HeapSettings → List Call → List Call → Type 0
SeesLegalCalls config before after = IsPrefix before after × (IsLegalLedger config before → IsLegalLedger config after)

same_state_sees_same_calls : {S : Type 0} (config : HeapSettings) (seen : S → List Call) (c d : S) → d ≡ c → SeesLegalCalls config (seen c) (seen d)
same_state_sees_same_calls {S} config seen c d is = subst (λ (x : S). SeesLegalCalls config (seen c) (seen x)) (sym is) (([], append-nil (seen c)), λ legal. legal)

calls_seen_in_turn : (config : HeapSettings) (xs ys zs : List Call) → SeesLegalCalls config xs ys → SeesLegalCalls config ys zs → SeesLegalCalls config xs zs
calls_seen_in_turn config xs ys zs p q =
    ((p.0.0 ++ q.0.0, sym (append_assoc xs p.0.0 q.0.0) ∙ ap (λ l. l ++ q.0.0) p.0.1 ∙ q.0.1), λ legal. q.1 (p.1 legal))

witnessed_call_is_seen : (config : HeapSettings) (before : List Call) (a : Action) (r : Reply) (after : List Call) → Witnesses config before a r after → SeesLegalCalls config before after
witnessed_call_is_seen config before a r after w =
    ((w.0 ++ (a, r) ∷ [], sym (append_assoc before w.0 ((a, r) ∷ [])) ∙ sym w.1), λ legal. w.2)

-- ---- the pieces of a dump

or_with_true_gives_true : (b : Bool) → (b || true) ≡ true
or_with_true_gives_true true = refl
or_with_true_gives_true false = refl

false_is_never_true : {A : Type 0} → false ≡ true → A
false_is_never_true {A} e = absurd (clash e)
  where
    clash : false ≡ true → ⊥
    clash e = cc

-- the text of a dump that had this number of bytes before, by the pieces that it is given
abbrev IsTextOfGivenDump : ℕ → List ℕ → Type 0
IsTextOfGivenDump so_far text =
    (given : List Piece) × (whole : Bool) × (end : List ℕ) × (text ≡ lines_of_pieces given ++ end)
    × EndsData (so_far + length (joined given)) whole end
    × (whole ≡ true → list_any (λ (p : Piece). p.last) given ≡ true)

abbrev TellsTextOfDump : {S : Type 0} → HeapSettings → (S → List Call) → ℕ → S → List ℕ → S → Type 0
TellsTextOfDump config seen so_far c text d = IsTextOfGivenDump so_far text × SeesLegalCalls config (seen c) (seen d)

last_piece : (so_far : ℕ) (p : Piece) (rest text : List ℕ) → text ≡ data_lines p.bytes ++ rest → p.last ≡ true → rest ≡ total_line (so_far + length p.bytes) → IsTextOfGivenDump so_far text
last_piece so_far p rest text is last total = (
  p ∷ [],
  true,
  rest,
  is ∙ ap (λ l. l ++ rest) (sym (append-nil (data_lines p.bytes))),
  total ∙ ap (λ l. total_line (so_far + length l)) (sym (append-nil p.bytes)),
  λ w. ap (λ b. b || false) last,
)

one_piece_and_given_rest : (so_far : ℕ) (p : Piece) (rest text : List ℕ) → text ≡ data_lines p.bytes ++ rest → IsTextOfGivenDump (so_far + length p.bytes) rest → IsTextOfGivenDump so_far text
one_piece_and_given_rest so_far p rest text is g =
    let count : (so_far + length p.bytes) + length (joined g.0) ≡ so_far + length (p.bytes ++ joined g.0) = omega (arith, length-append p.bytes (joined g.0)) in (
      p ∷ g.0,
      g.1,
      g.2,
      is ∙ ap (λ l. data_lines p.bytes ++ l) g.3 ∙ sym (append_assoc (data_lines p.bytes) (lines_of_pieces g.0) g.2),
      subst (λ n. EndsData n g.1 g.2) count g.4,
      λ w. ap (λ b. p.last || b) (g.5 w) ∙ or_with_true_gives_true p.last,
    )

refused_piece_gives_no_dump : (so_far : ℕ) (r : Reply) (text : List ℕ) → piece_in r ≡ None → text ≡ reply_text r → IsTextOfGivenDump so_far text
refused_piece_gives_no_dump so_far r text none is = ([], false, text, refl, inr (r, none, is), λ w. false_is_never_true w)

dump_goes_on_telling : {S : Type 0} (config : HeapSettings) (seen : S → List Call) (more : S → ℕ → List ℕ → S → Type 0) (r : Reply) (o : Option Piece) (next d : S) (so_far : ℕ) (text : List ℕ) → piece_in r ≡ o → ((k : ℕ) (x : List ℕ) → more next k x d → TellsTextOfDump config seen k next x d) → DumpsOn more r o next so_far text d → TellsTextOfDump config seen so_far next text d
dump_goes_on_telling config seen more r None next d so_far text is go s = (refused_piece_gives_no_dump so_far r text is s.0, same_state_sees_same_calls config seen next d s.1)
dump_goes_on_telling config seen more r (Some p) next d so_far text is go s =
    elim s.2 [
      | inl e ↦ (last_piece so_far p s.0 text s.1 e.0 e.1, same_state_sees_same_calls config seen next d e.2)
      | inr e ↦ let t = go (so_far + length p.bytes) s.0 e.1 in (one_piece_and_given_rest so_far p s.0 text s.1 t.0, t.1)
    ]

dump_tells_its_text : {S : Type 0} (config : HeapSettings) (seat : S → SeatModel) (seen : S → List Call) (pin time n : ℕ) (c d : S) (so_far : ℕ) (text : List ℕ) → Dumps (ActsJoined config seat seen) pin time n c so_far text d → TellsTextOfDump config seen so_far c text d
dump_tells_its_text config seat seen pin time zero c d so_far text s =
    (([], false, [], s.0, inl refl, λ w. false_is_never_true w), same_state_sees_same_calls config seen c d s.1)
dump_tells_its_text config seat seen pin time (suc n) c d so_far text s =
    let called = witnessed_call_is_seen config (seen c) (NextPiece pin time) s.0 (seen s.1) s.2.1 in
    let t = dump_goes_on_telling config seen (Dumps (ActsJoined config seat seen) pin time n) s.0 (piece_in s.0) s.1 d so_far text refl (λ k x more. dump_tells_its_text config seat seen pin time n s.1 d k x more) s.3 in
    (t.0, calls_seen_in_turn config (seen c) (seen s.1) (seen d) called t.1)

-- ---- the text of a state

exact_text : (config : HeapSettings) (pin time : ℕ) (seen : List Call) (text : List ℕ) → IsTextOfGivenDump 0 text → IsLegalLedger config seen → IsDumpAnswer config pin time seen text
exact_text config pin time seen text g legal =
    let total : 0 + length (joined g.0) ≡ length (joined g.0) = omega arith in
    record {
      given = g.0;
      whole = g.1;
      end = g.2;
      lines = g.3;
      ends = subst (λ n. EndsData n g.1 g.2) total g.4;
      exact = λ place before after all.
          let told = given_pieces_tell_dump config before after all.at pin place time (subst (IsLegalLedger config) all.opened legal) all.asks in
          let joins = subst (λ (ps : List Piece). (rest : List ℕ) × (joined ps ++ rest ≡ dump_text config.ids (image_of (state_at config before place)) time) × (list_any (λ (p : Piece). p.last) ps ≡ true → rest ≡ [])) all.pieces told in
          (joins.0, joins.1, λ w. joins.2 (g.5 w));
    }

legal_dump : {S : Type 0} (config : HeapSettings) (seat : S → SeatModel) (seen : S → List Call) (pin time n : ℕ) (c d : S) (so_far : ℕ) (text : List ℕ) → Dumps (ActsJoined config seat seen) pin time n c so_far text d → 0 < n → IsLegalLedger config (seen d)
legal_dump config seat seen pin time zero c d so_far text s some = absurd (omega (arith, some))
legal_dump config seat seen pin time (suc n) c d so_far text s some =
    let t = dump_goes_on_telling config seen (Dumps (ActsJoined config seat seen) pin time n) s.0 (piece_in s.0) s.1 d so_far text refl (λ k x more. dump_tells_its_text config seat seen pin time n s.1 d k x more) s.3 in
    t.1.1 s.2.1.2

pub pin_dump : {S : Type 0} (config : HeapSettings) (seat : S → SeatModel) (seen : S → List Call) (pin time : ℕ) (c d : S) (text : List ℕ) → AnswersPinDump config seat seen pin time c text d
pin_dump config seat seen pin time c d text s =
    exact_text config pin time (seen d) text (dump_tells_its_text config seat seen pin time piece_limit c d 0 text s).0 (legal_dump config seat seen pin time piece_limit c d 0 text s (omega arith))

-- ---- `dump -`

place_of_pin : (r : Reply) (pin : ℕ) → pin_in r ≡ Some pin → (place : ℕ) × (r ≡ Pinned pin place)
place_of_pin (Pinned n place) pin e = let same : n ≡ pin = cc e in (place, ap (λ x. Pinned x place) same)
place_of_pin (Answered a) pin e = absurd (none-some pin e)
place_of_pin (Place p) pin e = absurd (none-some pin e)
place_of_pin (Part piece) pin e = absurd (none-some pin e)
place_of_pin Closed pin e = absurd (none-some pin e)
place_of_pin (Refused x) pin e = absurd (none-some pin e)

opened_dump : {S : Type 0} (config : HeapSettings) (seat : S → SeatModel) (seen : S → List Call) (time pin : ℕ) (r : Reply) (c opened d : S) (text : List ℕ) → pin_in r ≡ Some pin → OpensMet config (seat c) (seen c) None r (seen opened) → ClosesAfter (ActsJoined config seat seen) time r (Some pin) piece_limit opened text d → IsOpenedDump config (seat c) time (seen c) (seen d) text
opened_dump config seat seen time pin r c opened d text is o s =
    let w = o.3 in
    let place = place_of_pin r pin is in
    let t = dump_tells_its_text config seat seen pin time piece_limit opened s.0 0 text s.2 in
    let closed = witnessed_call_is_seen config (seen s.0) (ClosePin pin) s.1 (seen d) s.3.1 in
    let all = (calls_seen_in_turn config (seen opened) (seen s.0) (seen d) t.1 closed).0 in
    let before = o.0 ++ w.0 in (
      pin,
      place.0,
      o.0,
      before,
      all.0,
      o.1,
      o.2,
      (w.0, refl),
      sym all.1 ∙ ap (λ l. l ++ all.0) w.1 ∙ append_assoc before ((OpenPin None, r) ∷ []) all.0 ∙ ap (λ (x : Reply). before ++ (OpenPin None, x) ∷ all.0) place.1,
      exact_text config pin time (seen d) text t.0 s.3.1.2,
    )

opened_dump_tells_its_text : {S : Type 0} (config : HeapSettings) (seat : S → SeatModel) (seen : S → List Call) (time : ℕ) (r : Reply) (o : Option ℕ) (c opened d : S) (text : List ℕ) → pin_in r ≡ o → OpensMet config (seat c) (seen c) None r (seen opened) → ClosesAfter (ActsJoined config seat seen) time r o piece_limit opened text d → IsUnopened text ⊎ IsOpenedDump config (seat c) time (seen c) (seen d) text
opened_dump_tells_its_text config seat seen time r None c opened d text is w s = inl (r, is, s.0)
opened_dump_tells_its_text config seat seen time r (Some pin) c opened d text is w s = inr (opened_dump config seat seen time pin r c opened d text is w s)

pub new_dump_tells_its_text : {S : Type 0} (config : HeapSettings) (seat : S → SeatModel) (seen : S → List Call) (time : ℕ) (c d : S) (text : List ℕ) → AnswersNewDump config seat seen time c text d
new_dump_tells_its_text config seat seen time c d text s =
    opened_dump_tells_its_text config seat seen time s.0 (pin_in s.0) c s.1 d text refl s.2.1 s.3
