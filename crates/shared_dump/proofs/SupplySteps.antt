-- A source with what it gives next.
use Rattle.std.proofs.Common.{◌≡◌, ◌≤◌, ◌+◌, ℕ, Bool, true, false, List, [], ◌∷◌, ◌++◌, length, Option, Some, None, if◌then◌else◌, refl, ap, sym, ◌∙◌, subst, inl, inr, arith, append_assoc, append-nil, length-append}
use mathlib.Core.List.{IsPrefix}
use Rattle.heap_lock.specs.IdSize.{IdSize}
use Rattle.heap_lock.specs.HeapLimits.{HeapSettings}
use Rattle.heap_lock.specs.Action.TheVariants.{NextPiece}
use Rattle.heap_lock.specs.Reply.{Reply}
use Rattle.heap_lock.specs.Reply.TheVariants as Said
use Rattle.heap_lock.specs.TrailLaws.{IsPieceOfLegal}
use Rattle.heap_lock.specs.Piece.{Piece}
use Rattle.dump_pump.specs.declared.source.SourceEnd.{SourceEnd}
use Rattle.dump_pump.specs.declared.source.SourceEnd.TheVariants as End
use Rattle.dump_pump.specs.declared.source.Next.{Next}
use Rattle.dump_pump.specs.declared.source.Next.TheVariants.{Part, Lost, Cancelled}
use Rattle.dump_pump.specs.Sources.{IsNextPart, parts_with}
use Rattle.dump_pump.specs.PieceLaws.{piece_limit}
use Rattle.heap_lock.specs.Calls.{Call}
use Rattle.heap_lock.specs.Dumpers.{DumperState, Makes}
use Rattle.heap_lock.specs.Laws.{pieces_given}
use Rattle.heap_lock.specs.Sources.{Supplies, count_after, locked_supply as untold}
use Rattle.shared_dump.specs.Supplies.{ToldSupply, AreGiven, AllLegal, AreGot, HasAsked, IsNotLost, WasReplied, MayEnd, IsSupplied, nothing_of, told_supply, ended_with}
use Rattle.shared_dump.proofs.OwnAsks.{one_ask_more_all_asks, one_piece_reply_more, refusal_adds_no_piece}

legal_push : (ids : IdSize) (time : ℕ) (ps : List Piece) (p : Piece) → AllLegal ids time ps → IsPieceOfLegal ids time p → AllLegal ids time (ps ++ p ∷ [])
legal_push ids time [] p all is = (is, tt)
legal_push ids time (q ∷ qs) p all is = (all.0, legal_push ids time qs p all.1 is)

-- ---- with calls between, and one more

-- what was seen is what was seen before, others' calls and this one
abbrev SeenGoesOnByCall : List Call → List Call → Call → List Call → Type 0
SeenGoesOnByCall seen between c seen2 = seen2 ≡ (seen ++ between) ++ c ∷ []

seen_calls_joined_with_call : (start rest seen between : List Call) (c : Call) (seen2 : List Call) → start ++ rest ≡ seen → SeenGoesOnByCall seen between c seen2 → (start ++ (rest ++ between)) ++ c ∷ [] ≡ seen2
seen_calls_joined_with_call start rest seen between c seen2 is goes = ap (λ l. l ++ c ∷ []) (sym (append_assoc start rest between) ∙ ap (λ l. l ++ between) is) ∙ sym goes

pub prefix_of_calls_seen_later : (start seen between : List Call) (c : Call) (seen2 : List Call) → IsPrefix start seen → SeenGoesOnByCall seen between c seen2 → IsPrefix start seen2
prefix_of_calls_seen_later start seen between c seen2 h goes = ((h.0 ++ between) ++ c ∷ [], sym (append_assoc start (h.0 ++ between) (c ∷ [])) ∙ seen_calls_joined_with_call start h.0 seen between c seen2 h.1 goes)

given_pieces_still_seen : (pin time : ℕ) (start : List Call) (ps : List Piece) (seen between : List Call) (c : Call) (seen2 : List Call) → AreGiven pin time start ps seen → SeenGoesOnByCall seen between c seen2 → AreGiven pin time start ps seen2
given_pieces_still_seen pin time start [] seen between c seen2 h goes = prefix_of_calls_seen_later start seen between c seen2 h goes
given_pieces_still_seen pin time start (p ∷ ps) seen between c seen2 h goes = (h.0, given_pieces_still_seen pin time ((start ++ h.0) ++ (NextPiece pin time, Said.Part p) ∷ []) ps seen between c seen2 h.1 goes)

one_piece_more_is_given : (pin time : ℕ) (start : List Call) (ps : List Piece) (p : Piece) (seen between seen2 : List Call) → AreGiven pin time start ps seen → SeenGoesOnByCall seen between (NextPiece pin time, Said.Part p) seen2 → AreGiven pin time start (ps ++ p ∷ []) seen2
one_piece_more_is_given pin time start [] p seen between seen2 h goes =
    let c : Call = (NextPiece pin time, Said.Part p) in
    (h.0 ++ between, ([], append-nil _ ∙ seen_calls_joined_with_call start h.0 seen between c seen2 h.1 goes))
one_piece_more_is_given pin time start (q ∷ qs) p seen between seen2 h goes = (h.0, one_piece_more_is_given pin time ((start ++ h.0) ++ (NextPiece pin time, Said.Part q) ∷ []) qs p seen between seen2 h.1 goes)

start_seen_before_call : (start between : List Call) (c : Call) (seen : List Call) → IsPrefix ((start ++ between) ++ c ∷ []) seen → IsPrefix start seen
start_seen_before_call start between c seen h = (between ++ (c ∷ h.0), sym (append_assoc start between (c ∷ h.0)) ∙ sym (append_assoc (start ++ between) (c ∷ []) h.0) ∙ h.1)

pub given_pieces_begin_at_start : (pin time : ℕ) (start : List Call) (ps : List Piece) (seen : List Call) → AreGiven pin time start ps seen → IsPrefix start seen
given_pieces_begin_at_start pin time start [] seen h = h
given_pieces_begin_at_start pin time start (p ∷ ps) seen h = start_seen_before_call start h.0 (NextPiece pin time, Said.Part p) seen (given_pieces_begin_at_start pin time ((start ++ h.0) ++ (NextPiece pin time, Said.Part p) ∷ []) ps seen h.1)

earlier_reply_still_seen : (pin time : ℕ) (start seen between : List Call) (c : Call) (seen2 : List Call) (r : Reply) → WasReplied pin time start seen r → SeenGoesOnByCall seen between c seen2 → WasReplied pin time start seen2 r
earlier_reply_still_seen pin time start seen between c seen2 r h goes = (h.0, h.1, prefix_of_calls_seen_later (h.0 ++ (NextPiece pin time, r) ∷ []) seen between c seen2 h.2 goes)

-- the last call
last_call_was_replied_now : (pin time : ℕ) (start seen between seen2 : List Call) (r : Reply) → IsPrefix start seen → SeenGoesOnByCall seen between (NextPiece pin time, r) seen2 → WasReplied pin time start seen2 r
last_call_was_replied_now pin time start seen between seen2 r h goes = (seen ++ between, (h.0 ++ between, sym (append_assoc start h.0 between) ∙ ap (λ l. l ++ between) h.1), ([], append-nil _ ∙ sym goes))

-- ---- how it ended

earlier_ending_still_stands : (pin time : ℕ) (start : List Call) (given given2 : List Piece) (seen between : List Call) (c : Call) (seen2 : List Call) (ended : Option SourceEnd) → MayEnd pin time start given seen ended → length given ≤ length given2 → SeenGoesOnByCall seen between c seen2
    → MayEnd pin time start given2 seen2 ended
earlier_ending_still_stands pin time start given given2 seen between c seen2 None may more goes = tt
earlier_ending_still_stands pin time start given given2 seen between c seen2 (Some End.Whole) may more goes = tt
earlier_ending_still_stands pin time start given given2 seen between c seen2 (Some (End.Lost cause)) (inl t) more goes = inl (t.0, earlier_reply_still_seen pin time start seen between c seen2 (Said.Refused t.0) t.1 goes, t.2)
earlier_ending_still_stands pin time start given given2 seen between c seen2 (Some (End.Lost cause)) (inr t) more goes = inr (t.0, earlier_reply_still_seen pin time start seen between c seen2 (Said.Part t.0) t.1 goes, t.2, omega (arith, t.3, more), t.4)
earlier_ending_still_stands pin time start given given2 seen between c seen2 (Some End.Cancelled) may more goes = may

last_piece_ends_whole : (pin time : ℕ) (start : List Call) (given : List Piece) (seen : List Call) (ended : Option SourceEnd) (last : Bool) → MayEnd pin time start given seen ended → MayEnd pin time start given seen (if last then Some End.Whole else ended)
last_piece_ends_whole pin time start given seen ended true may = tt
last_piece_ends_whole pin time start given seen ended false may = may

-- ---- what the dumper got

pieces_got_are_given : (given : List Piece) (ended : Option SourceEnd) (got : List Piece) → IsNotLost ended → AreGot given ended got → got ≡ given
pieces_got_are_given given None got not g = g
pieces_got_are_given given (Some End.Whole) got not g = g
pieces_got_are_given given (Some (End.Lost cause)) got not g = absurd not
pieces_got_are_given given (Some End.Cancelled) got not g = g

given_pieces_were_got : (given : List Piece) (ended : Option SourceEnd) (got : List Piece) → got ≡ given → AreGot given ended got
given_pieces_were_got given None got is = is
given_pieces_were_got given (Some End.Whole) got is = is
given_pieces_were_got given (Some (End.Lost cause)) got is = inl is
given_pieces_were_got given (Some End.Cancelled) got is = is

-- a request more, by which these pieces are got
one_request_more_asked : (pin time : ℕ) (own : List Call) (given given2 : List Piece) (ended ended2 : Option SourceEnd) (own2 own3 : List Call) (r : Reply) → (h : HasAsked pin time own given ended own2) → own3 ≡ own2 ++ (NextPiece pin time, r) ∷ []
    → AreGot given2 ended2 (pieces_given pin (h.0 ++ (NextPiece pin time, r) ∷ [])) → HasAsked pin time own given2 ended2 own3
one_request_more_asked pin time own given given2 ended ended2 own2 own3 r h is got = (h.0 ++ (NextPiece pin time, r) ∷ [], is ∙ ap (λ l. l ++ (NextPiece pin time, r) ∷ []) h.1 ∙ append_assoc own h.0 ((NextPiece pin time, r) ∷ []), one_ask_more_all_asks pin time h.0 r h.2, got)

-- ---- the source

pub fresh_source_supplied_nothing : (config : HeapSettings) (pin time : ℕ) (d : DumperState) → IsSupplied config (nothing_of pin time d)
unfolding pieces_given
fresh_source_supplied_nothing config pin time d = record { given = ([], append-nil _); legal = tt; counted = refl; ended = tt; asked = ([], sym (append-nil _), tt, refl) }

abbrev supply_told_with_part : ToldSupply → DumperState → ℕ → Next → ToldSupply
supply_told_with_part t d2 count2 r = record t { dumper = d2; given = parts_with t.given r; count = count2; ended = ended_with t.ended r }

supply_still_told_after_part : (config : HeapSettings) (t : ToldSupply) (d2 : DumperState) (count2 : ℕ) (r : Next) → IsNotLost t.ended → Supplies config t.pin t.time t.count t.dumper d2 r → count2 ≡ count_after t.count r → IsSupplied config t → IsSupplied config (supply_told_with_part t d2 count2 r)
supply_still_told_after_part config t d2 count2 (Part q) not (inl u) count s =
    let w = subst (λ x. Makes config t.dumper (NextPiece t.pin t.time) (Said.Part x) d2) (sym u.3) u.1 in
    let c : Call = (NextPiece t.pin t.time, Said.Part q) in
    let one : length (t.given ++ q ∷ []) ≡ length t.given + 1 = length-append t.given (q ∷ []) in
    let got = one_piece_reply_more t.pin t.time s.asked.0 q t.given (pieces_got_are_given t.given t.ended _ not s.asked.3) in
    record {
      given = one_piece_more_is_given t.pin t.time t.start.seen t.given q t.dumper.seen w.0.0 d2.seen s.given w.0.1;
      legal = legal_push config.ids t.time t.given q s.legal (subst (IsPieceOfLegal config.ids t.time) (sym u.3) u.2);
      counted = omega (arith, count, s.counted, one);
      ended = last_piece_ends_whole t.pin t.time t.start.seen (t.given ++ q ∷ []) d2.seen t.ended q.last (earlier_ending_still_stands t.pin t.time t.start.seen t.given (t.given ++ q ∷ []) t.dumper.seen w.0.0 c d2.seen t.ended s.ended (omega (arith, one)) w.0.1);
      asked = one_request_more_asked t.pin t.time t.start.own t.given (t.given ++ q ∷ []) t.ended (if q.last then Some End.Whole else t.ended) t.dumper.own d2.own (Said.Part q) s.asked w.1 (given_pieces_were_got (t.given ++ q ∷ []) (if q.last then Some End.Whole else t.ended) _ got);
    }
supply_still_told_after_part config t d2 count2 (Lost cause) not (inl u) count s =
    let w = u.1 in
    let got = one_piece_reply_more t.pin t.time s.asked.0 u.0 t.given (pieces_got_are_given t.given t.ended _ not s.asked.3) in
    let limit : piece_limit ≤ length t.given + 1 = omega (arith, u.3.1, s.counted) in
    record {
      given = given_pieces_still_seen t.pin t.time t.start.seen t.given t.dumper.seen w.0.0 (NextPiece t.pin t.time, Said.Part u.0) d2.seen s.given w.0.1;
      legal = s.legal;
      counted = count ∙ s.counted;
      ended = inr (u.0, last_call_was_replied_now t.pin t.time t.start.seen t.dumper.seen w.0.0 d2.seen (Said.Part u.0) (given_pieces_begin_at_start t.pin t.time t.start.seen t.given t.dumper.seen s.given) w.0.1, u.3.0, limit, u.3.2);
      asked = one_request_more_asked t.pin t.time t.start.own t.given t.given t.ended (Some (End.Lost cause)) t.dumper.own d2.own (Said.Part u.0) s.asked w.1 (inr (u.0, got, limit));
    }
supply_still_told_after_part config t d2 count2 Cancelled not (inl u) count s = absurd u.3
supply_still_told_after_part config t d2 count2 r not (inr u) count s =
    let w = u.2 in
    let got = refusal_adds_no_piece t.pin t.time s.asked.0 u.0 t.given (pieces_got_are_given t.given t.ended _ not s.asked.3) in
    let lost : IsSupplied config (supply_told_with_part t d2 (count_after t.count (Lost u.1)) (Lost u.1)) = record {
      given = given_pieces_still_seen t.pin t.time t.start.seen t.given t.dumper.seen w.0.0 (NextPiece t.pin t.time, Said.Refused u.0) d2.seen s.given w.0.1;
      legal = s.legal;
      counted = s.counted;
      ended = inl (u.0, last_call_was_replied_now t.pin t.time t.start.seen t.dumper.seen w.0.0 d2.seen (Said.Refused u.0) (given_pieces_begin_at_start t.pin t.time t.start.seen t.given t.dumper.seen s.given) w.0.1, u.3);
      asked = one_request_more_asked t.pin t.time t.start.own t.given t.given t.ended (Some (End.Lost u.1)) t.dumper.own d2.own (Said.Refused u.0) s.asked w.1 (inl got);
    } in
    subst (λ (x : ℕ × Next). IsSupplied config (supply_told_with_part t d2 x.0 x.1)) (λ k. (sym (count ∙ ap (count_after t.count) u.4) k, sym u.4 k)) lost

pub next_part_of_told_supply : (given : List Piece) (ended before after : Option SourceEnd) (count count2 : ℕ) (r : Next) → IsNextPart (untold count before) (untold count2 after) r → IsNextPart (told_supply given count ended) (told_supply (parts_with given r) count2 (ended_with ended r)) r
next_part_of_told_supply given ended before after count count2 (Part p) h = (refl, h.1, h.2, h.3, λ last. ap (λ b. if b then Some End.Whole else ended) last)
next_part_of_told_supply given ended before after count count2 (Lost cause) h = (refl, refl)
next_part_of_told_supply given ended before after count count2 Cancelled h = (refl, refl)

-- the same, at values that are known
pub supply_at_known_values : (config : HeapSettings) (t : ToldSupply) (pin2 time2 count2 : ℕ) (d2 : DumperState) (given2 : List Piece) (ended2 : Option SourceEnd) (r : Next) → pin2 ≡ t.pin → time2 ≡ t.time → given2 ≡ parts_with t.given r → ended2 ≡ ended_with t.ended r
    → IsNotLost t.ended → Supplies config t.pin t.time t.count t.dumper d2 r → count2 ≡ count_after t.count r → IsSupplied config t
    → IsSupplied config (record { pin = pin2; time = time2; start = t.start; dumper = d2; given = given2; count = count2; ended = ended2 })
supply_at_known_values config t pin2 time2 count2 d2 given2 ended2 r a b c d not is count s =
    subst (IsSupplied config) (λ k. record { pin = sym a k; time = sym b k; start = t.start; dumper = d2; given = sym c k; count = count2; ended = sym d k }) (supply_still_told_after_part config t d2 count2 r not is count s)
