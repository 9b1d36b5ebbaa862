-- A pin's next piece, or why there is none.
use Rattle.std.proofs.Common.{◌≡◌, ℕ, ◌+◌, ◌-◌, ◌<◌, ◌≤◌, Bool, true, false, cond, List, [], ◌∷◌, ◌++◌, length, refl, sym, ap, subst, ◌∙◌, arith, Option, Some, None}
use Rattle.std.specs.Prelude.{All, find, nat_le, nat_lt, option_map, ◌==◌, if◌then◌else◌}
use mathlib.Core.Logic.{inl, inr}
use Rattle.std.proofs.lemmas.Bool.{ltb-false, leb-false}
use Rattle.std.proofs.lemmas.List.Elements.{All-head, All-tail}
use Rattle.std.proofs.lemmas.List.FromFn.{map-range_with_len_more}
use Rattle.heap_class.specs.declared.LostCause.{LostCause}
use Rattle.heap_class.specs.declared.LostCause.TheVariants.{Rewound, Memory, Closed}
use Rattle.heap_class.specs.declared.Refusal.{Refusal}
use Rattle.heap_class.specs.declared.Refusal.TheVariants as Why
use Rattle.hprof_text.specs.declared.Piece.{Piece}
use Rattle.hprof_text.specs.Segments.{pieces_of, piece_of, nth_piece}
use Rattle.hprof_text.proofs.PieceCounts.{pieces_within_piece_limit}
use Rattle.dump_pump.specs.Sources.{IsNextPart}
use Rattle.hprof_text.specs.Laws.{piece_limit}
use Rattle.heap_trail.specs.declared.Action.TheVariants.{NextPiece}
use Rattle.heap_trail.specs.declared.Reply.TheVariants.{Part, Refused}
use Rattle.heap_trail.specs.Pins.{PinState, Kept, Gone, IsDumpablePin, AreDumpable, pin_at}
use Rattle.heap_trail.specs.Machine.{Machine, MayFail, after_piece, acted, counted, is_accepted}
use Rattle.dump_pump.specs.declared.source.SourceEnd.{SourceEnd}
use Rattle.dump_pump.specs.declared.source.SourceEnd.TheVariants as End
use Rattle.dump_pump.specs.declared.source.Next.{Next}
use Rattle.dump_pump.specs.declared.source.Next.TheVariants as Gave
use Rattle.machine_dump.specs.HandedPieces.{GivesPiece, given_of, pieces_at, ungiven}
use Rattle.machine_dump.specs.SourceEnds.{HandsOut, cause_of, is_whole_end, pieces_left, may_lose}
use Rattle.machine_dump.specs.PinSupplies.{IsCounted, pin_supply}
use Rattle.machine_dump.proofs.UngivenMachines.{state_in, counted_pin_keeps_image, ungiven_counted, ungiven_ids}

-- ---- a piece

piece_below_end_is_counted : (b : Bool) (g n : ℕ) → nat_lt g n ≡ b → nat_le n (g + 1) ≡ false → cond b (g + 1) g ≡ g + 1
piece_below_end_is_counted true g n e last = refl
piece_below_end_is_counted false g n e last = absurd (omega (arith, ltb-false g n e, leb-false n (g + 1) last))

equal_parts_have_equal_pieces : (p q : Piece) → Part p ≡ Part q → q ≡ p
equal_parts_have_equal_pieces p q e =
    let x : q ≡ p = cc in
    x

pub part_reply_gives_piece : (pin time : ℕ) (m m' : Machine) (p : Piece) → acted m (NextPiece pin time) ≡ (m', Part p) → GivesPiece pin time m m' p
unfolding acted after_piece piece_of nth_piece
part_reply_gives_piece pin time m m' p is = go (pin_at pin m.pins) refl is
  where
    go : (s : Option PinState) → pin_at pin m.pins ≡ s → after_piece pin time m s ≡ (m', Part p) → GivesPiece pin time m m' p
    go None here is = absurd (clash (ap (λ r. r.1) is))
      where
        clash : Refused Why.NoPin ≡ Part p → ⊥
        clash e = cc
    go (Some (Gone place cause)) here is = absurd (clash (ap (λ r. r.1) is))
      where
        clash : Refused (Why.Lost cause) ≡ Part p → ⊥
        clash e = cc
    go (Some (Kept place image g)) here is =
        let pieces : List (List ℕ) = pieces_of m.ids image time in
        let b : Bool = nat_lt g (length pieces) in
        let now : m' ≡ counted b pin m = sym (ap (λ r. r.0) is) in
        let piece : p ≡ piece_of m.ids image time g = equal_parts_have_equal_pieces (piece_of m.ids image time g) p (ap (λ r. r.1) is) in
        record {
          place = place;
          image = image;
          given = g;
          after = cond b (g + 1) g;
          here = here;
          there = ap (λ (k : Machine). pin_at pin k.pins) now ∙ counted_pin_keeps_image b pin m place image g here;
          piece = piece;
          goes = λ more. piece_below_end_is_counted b g (length pieces) refl (sym (ap (λ (q : Piece). q.last) piece) ∙ more);
          same = ap (ungiven pin) now ∙ ungiven_counted b pin m;
        }

-- the images are within a dump's limits
pin_in_dumpable_pins : (pin : ℕ) (xs : List (ℕ × PinState)) (s : PinState) → All (λ e. IsDumpablePin e.1) xs → state_in pin xs ≡ Some s → IsDumpablePin s
pin_in_dumpable_pins pin [] s all here = absurd (clash here)
  where
    clash : None ≡ Some s → ⊥
    clash e = cc
pin_in_dumpable_pins pin (x ∷ xs) s all here = go (x.0 == pin) (λ h. pin_in_dumpable_pins pin xs s (All-tail (λ (e : ℕ × PinState). IsDumpablePin e.1) x xs all) h) here
  where
    first : Some x.1 ≡ Some s → x.1 ≡ s
    first e = cc

    go : (b : Bool) → (state_in pin xs ≡ Some s → IsDumpablePin s) → option_map (λ (e : ℕ × PinState). e.1) (cond b (Some x) (find (λ e. e.0 == pin) xs)) ≡ Some s → IsDumpablePin s
    go true rest here = subst IsDumpablePin (first here) (All-head (λ (e : ℕ × PinState). IsDumpablePin e.1) x xs all)
    go false rest here = rest here

pub more_pieces_stay_below_limit : (pin time n : ℕ) (m m' : Machine) (p : Piece) → AreDumpable m.pins → GivesPiece pin time m m' p → n ≤ given_of (pin_at pin m.pins) → p.last ≡ false → n + 1 < piece_limit
unfolding pin_at piece_of nth_piece
more_pieces_stay_below_limit pin time n m m' p all g le more =
    let few : length (pieces_of m.ids g.image time) ≤ piece_limit = pieces_within_piece_limit m.ids g.image time (pin_in_dumpable_pins pin m.pins.open_pins (Kept g.place g.image g.given) all g.here) in
    let lt : g.given + 1 < length (pieces_of m.ids g.image time) = leb-false (length (pieces_of m.ids g.image time)) (g.given + 1) (sym (ap (λ (q : Piece). q.last) g.piece) ∙ more) in
    omega (arith, few, lt, le, ap given_of g.here)

-- ---- no piece

pub refused_piece_may_lose : (pin time : ℕ) (m m' : Machine) (e : Refusal) → MayFail m (NextPiece pin time) m' e → may_lose (pin_at pin m.pins) (cause_of e) ≡ true
unfolding acted after_piece is_accepted
refused_piece_may_lose pin time m m' e (inl is) = go (pin_at pin m.pins) is
  where
    go : (s : Option PinState) → after_piece pin time m s ≡ (m', Refused e) → may_lose s (cause_of e) ≡ true
    go None is = ap (λ w. may_lose None (cause_of w)) (why (ap (λ r. r.1) is))
      where
        why : Refused Why.NoPin ≡ Refused e → e ≡ Why.NoPin
        why e = cc
    go (Some (Gone place cause)) is = ap (λ w. may_lose (Some (Gone place cause)) (cause_of w)) (why (ap (λ r. r.1) is)) ∙ own cause
      where
        why : Refused (Why.Lost cause) ≡ Refused e → e ≡ Why.Lost cause
        why e = cc

        own : (c : LostCause) → may_lose (Some (Gone place c)) c ≡ true
        own Rewound = refl
        own Memory = refl
        own Closed = refl
    go (Some (Kept place image given)) is = absurd (clash (ap (λ r. r.1) is))
      where
        clash : Part (piece_of m.ids image time given) ≡ Refused e → ⊥
        clash e = cc
refused_piece_may_lose pin time m m' e (inr (stands, memory)) = go (pin_at pin m.pins) stands.1
  where
    go : (s : Option PinState) → is_accepted (after_piece pin time m s).1 ≡ true → may_lose s (cause_of e) ≡ true
    go None accepted = absurd (clash accepted)
      where
        clash : false ≡ true → ⊥
        clash e = cc
    go (Some (Gone place cause)) accepted = absurd (clash accepted)
      where
        clash : false ≡ true → ⊥
        clash e = cc
    go (Some (Kept place image given)) accepted = ap (λ w. may_lose (Some (Kept place image given)) (cause_of w)) memory

-- ---- what a source tells

-- one piece more
pub one_piece_more_is_told : (pin time first n : ℕ) (m m' : Machine) (p : Piece) → GivesPiece pin time m m' p → given_of (pin_at pin m.pins) ≡ first + n
    → pieces_at m'.ids time first (n + 1) (pin_at pin m'.pins) ≡ pieces_at m.ids time first n (pin_at pin m.pins) ++ p ∷ []
one_piece_more_is_told pin time first n m m' p g at =
    let given : g.given ≡ first + n = sym (ap given_of g.here) ∙ at in
    let f : ℕ → Piece = piece_of m.ids g.image time in
    (λ i. pieces_at (ungiven_ids pin m m' g.same i) time first (n + 1) (g.there i))
    ∙ map-range_with_len_more f first n (first + n) refl
    ∙ (λ i. pieces_at m.ids time first n (sym g.here i) ++ (ap f (sym given) ∙ sym g.piece) i ∷ [])

pieces_left_means_no_ending : (b : Bool) (k : ℕ) → 0 < (if b then 0 else k) → b ≡ false
pieces_left_means_no_ending true k lt = absurd (omega (arith, lt))
pieces_left_means_no_ending false k lt = refl

part_lessens_pieces_left : (ended ended' : Option SourceEnd) (n n' : ℕ) (b : Bool) → 0 < pieces_left ended n → n' ≡ n + 1 → ended' ≡ (if b then Some End.Whole else ended) → (b ≡ false → n' < piece_limit) → pieces_left ended' n' < pieces_left ended n
part_lessens_pieces_left ended ended' n n' true lt more is few = subst (λ k. pieces_left k n' < pieces_left ended n) (sym is) lt
part_lessens_pieces_left ended ended' n n' false lt more is few =
    let open_still : is_whole_end ended ≡ false = pieces_left_means_no_ending (is_whole_end ended) (piece_limit - n) lt in
    let less : piece_limit - n' < piece_limit - n = omega (arith, more, few refl) in
    subst (λ k. pieces_left k n' < pieces_left ended n) (sym is) (subst (λ b. (if b then 0 else piece_limit - n') < (if b then 0 else piece_limit - n)) (sym open_still) less)

not_last_left : (ended ended' : Option SourceEnd) (n n' : ℕ) (b : Bool) → 0 < pieces_left ended n → ended' ≡ (if b then Some End.Whole else ended) → (b ≡ false → n' < piece_limit) → b ≡ false → 0 < pieces_left ended' n'
not_last_left ended ended' n n' b lt is few not =
    let same : ended' ≡ ended = is ∙ ap (λ k. if k then Some End.Whole else ended) not in
    let open_still : is_whole_end ended' ≡ false = ap is_whole_end same ∙ pieces_left_means_no_ending (is_whole_end ended) (piece_limit - n) lt in
    let some : 0 < piece_limit - n' = omega (arith, few not) in
    subst (λ k. 0 < (if k then 0 else piece_limit - n')) (sym open_still) some

-- what a source tells of its next part
pub handed_part_is_next_part : (pin time : ℕ) (k m m' : Machine) (n n' : ℕ) (ended ended' : Option SourceEnd) (r : Next) → HandsOut pin time m m' n n' ended ended' r
    → IsCounted pin k m n ended → 0 < pieces_left ended n → IsNextPart (pin_supply pin time k m n ended) (pin_supply pin time k m' n' ended') r
handed_part_is_next_part pin time k m m' n n' ended ended' (Gave.Part p) h at lt =
    let first : ℕ = given_of (pin_at pin k.pins) in
    let here = at (pieces_left_means_no_ending (is_whole_end ended) (piece_limit - n) lt) in (
      ap (λ j. Some (pieces_at m'.ids time first j (pin_at pin m'.pins))) h.2 ∙ ap Some (one_piece_more_is_told pin time first n m m' p h.0 here),
      h.1,
      part_lessens_pieces_left ended ended' n n' p.last lt h.2 h.3 h.4,
      not_last_left ended ended' n n' p.last lt h.3 h.4,
      λ last. h.3 ∙ ap (λ b. if b then Some End.Whole else ended) last,
    )
handed_part_is_next_part pin time k m m' n n' ended ended' (Gave.Lost cause) h at lt = (λ i. Some (pieces_at (h.0 i).ids time (given_of (pin_at pin k.pins)) (h.1 i) (pin_at pin (h.0 i).pins)), h.2)
handed_part_is_next_part pin time k m m' n n' ended ended' Gave.Cancelled h at lt = absurd h
