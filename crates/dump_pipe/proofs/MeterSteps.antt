-- Each step keeps the rule of a meter.
use Rattle.std.proofs.Common.{◌≡◌, ◌≢◌, ℕ, zero, suc, ◌+◌, ◌%◌, ◌<◌, ◌≤◌, ◌==◌, ◌^◌, Bool, true, false, List, [], ◌∷◌, ◌++◌, length, set, refl, sym, ap, ◌∙◌, subst, inl, inr, ⊎_elim, arith}
use Rattle.std.specs.Prelude.{slice_index, slice_set, bit_or}
use Rattle.std.proofs.lemmas.Bool.Decides.{nat_tests}
use mathlib.Core.Option.{none, some, some-ne-none, some-injective}
use mathlib.Core.Logic.{dite}
use native.Mathlib.Decide.{ℕ_discrete}
use lib.ListN.{get_elem?}
use Rattle.atomic_table.specs.Table.{State, keeps, step, Allows, Splits, Joins}
use Rattle.atomic_table.proofs.Lists.{at_set, set_else, set_again, at_longer, at_snoc}
use Rattle.dump_pipe.specs.declared.meter_side.MeterSide.{MeterSide}
use Rattle.dump_pipe.specs.declared.meter_side.MeterSide.TheVariants.{Whole, Out, Read, Ask, Feed, Met}
use Rattle.dump_pipe.specs.Meters.{SitsAtMeter, DidAsk, IsCancel, IsMeterUsed, IsMeter, WasAdded, WasRead, WasAsked, WasLookedAt, WasSettled}
use Rattle.dump_pipe.specs.Seats.{flag}

abbrev MeterIsKept : State (Unit {0}) MeterSide → Type 0
MeterIsKept s = IsMeter s.words s.views

meter_words_set_first : (ws : List ℕ) (x : ℕ) → length ws ≡ 2 → (slice_index (slice_set ws 0 x) 0 ≡ x) × (slice_index (slice_set ws 0 x) 1 ≡ slice_index ws 1) × (length (slice_set ws 0 x) ≡ 2)
meter_words_set_first [] x e = absurd (omega arith)
meter_words_set_first (a ∷ []) x e = absurd (omega arith)
meter_words_set_first (a ∷ b ∷ []) x e = (refl, refl, refl)
meter_words_set_first (a ∷ b ∷ c ∷ ws) x e = absurd (omega arith)

meter_words_set_second : (ws : List ℕ) (x : ℕ) → length ws ≡ 2 → (slice_index (slice_set ws 1 x) 0 ≡ slice_index ws 0) × (slice_index (slice_set ws 1 x) 1 ≡ x) × (length (slice_set ws 1 x) ≡ 2)
meter_words_set_second [] x e = absurd (omega arith)
meter_words_set_second (a ∷ []) x e = absurd (omega arith)
meter_words_set_second (a ∷ b ∷ []) x e = (refl, refl, refl)
meter_words_set_second (a ∷ b ∷ c ∷ ws) x e = absurd (omega arith)

set_side_stands_at_seat : (l : List MeterSide) (i : ℕ) (a b : MeterSide) → get_elem? l i ≡ some a → get_elem? (set l i b) i ≡ some b
set_side_stands_at_seat [] i a b e = absurd (some-ne-none a (sym e))
set_side_stands_at_seat (x ∷ xs) zero a b e = refl
set_side_stands_at_seat (x ∷ xs) (suc i) a b e = set_side_stands_at_seat xs i a b e

-- a seat with another side is another seat
seats_of_other_sides_differ : (views : List MeterSide) (id j : ℕ) (v x : MeterSide) → get_elem? views id ≡ some v → get_elem? views j ≡ some x → v ≢ x → j ≢ id
seats_of_other_sides_differ views id j v x at there ne q = ne (some-injective v x (sym at ∙ ap (get_elem? views) (sym q) ∙ there))

-- a meter with another seat than a new one's is in use
new_meter_has_whole_seat : (id : ℕ) (v : MeterSide) → get_elem? (Whole ∷ []) id ≡ some v → v ≡ Whole
new_meter_has_whole_seat zero v e = sym (some-injective _ _ e)
new_meter_has_whole_seat (suc n) v e = absurd (some-ne-none v (sym e))

meter_with_other_seat_used : (words : List ℕ) (views : List MeterSide) (id : ℕ) (v : MeterSide) → get_elem? views id ≡ some v → v ≢ Whole → IsMeter words views → IsMeterUsed words views
meter_with_other_seat_used words views id v at ne (inl t) = absurd (ne (new_meter_has_whole_seat id v (subst (λ (l : List MeterSide). get_elem? l id ≡ some v) t.1 at)))
meter_with_other_seat_used words views id v at ne (inr u) = u

meter_seat_sits_later : (out asker p p' c c' seat : ℕ) (v : MeterSide) → (seat ≡ out → p' ≡ p) → p ≤ p' → (c ≡ 1 → c' ≡ 1) → (seat ≡ asker → c' ≡ c) → SitsAtMeter out asker p c seat v → SitsAtMeter out asker p' c' seat v
meter_seat_sits_later out asker p p' c c' seat Whole same le up calm h = h
meter_seat_sits_later out asker p p' c c' seat (Out n) same le up calm h = (h.0, h.1 ∙ sym (same h.0))
meter_seat_sits_later out asker p p' c c' seat (Read n) same le up calm h = omega arith
meter_seat_sits_later out asker p p' c c' seat (Ask b) same le up calm h = (h.0, (λ t. up (h.1.0 t), λ e. h.1.1 (sym (calm h.0) ∙ e)))
meter_seat_sits_later out asker p p' c c' seat (Feed b) same le up calm h = λ t. up (h t)
meter_seat_sits_later out asker p p' c c' seat (Met f b) same le up calm h = (h.0, (λ t. up (h.1.0 t), λ e. h.1.1 (sym (calm h.0) ∙ e)), λ t. up (h.2 t))

meter_rule_kept_by_seat : (words words' : List ℕ) (views : List MeterSide) (id : ℕ) (w : MeterSide) (u : IsMeterUsed words views) → length words' ≡ 2
    → (u.out ≢ id → slice_index words' 0 ≡ slice_index words 0) → slice_index words 0 ≤ slice_index words' 0 → (slice_index words 1 ≡ 1 → slice_index words' 1 ≡ 1)
    → (u.asker ≢ id → slice_index words' 1 ≡ slice_index words 1) → get_elem? (set views id w) u.out ≡ some (Out (slice_index words' 0))
    → SitsAtMeter u.out u.asker (slice_index words' 0) (slice_index words' 1) id w → IsCancel (slice_index words' 1) u.asker (set views id w) → IsMeter words' (set views id w)
meter_rule_kept_by_seat words words' views id w u len still le up calm out mine cancel = inr (record {
  out = u.out;
  asker = u.asker;
  two = len;
  sum = out;
  seats = λ seat v e. ⊎_elim
      (λ (t : (seat ≡ id) × (w ≡ v)). subst (λ (x : ℕ × MeterSide). SitsAtMeter u.out u.asker (slice_index words' 0) (slice_index words' 1) x.0 x.1) (λ i. (sym t.0 i, t.1 i)) mine)
      (λ (t : (seat ≢ id) × (get_elem? views seat ≡ some v)). meter_seat_sits_later u.out u.asker (slice_index words 0) (slice_index words' 0) (slice_index words 1) (slice_index words' 1) seat v (λ q. still (λ z. t.0 (q ∙ z))) le up (λ q. calm (λ z. t.0 (q ∙ z))) (u.seats seat v t.1))
      (at_set views id seat w v e);
  cancel = cancel;
})

-- a seat that asked, asked still
cancel_kept_by_asking_seat : (c c' asker : ℕ) (views : List MeterSide) (id : ℕ) (v w : MeterSide) → c' ≡ c → get_elem? views id ≡ some v → (DidAsk v → DidAsk w) → IsCancel c asker views → IsCancel c' asker (set views id w)
cancel_kept_by_asking_seat c c' asker views id v w same at more (inl z) = inl (same ∙ z)
cancel_kept_by_asking_seat c c' asker views id v w same at more (inr t) = dite (ℕ_discrete asker id)
    (λ e. inr (same ∙ t.0, w, ap (get_elem? (set views id w)) e ∙ set_side_stands_at_seat views id v w at, more (subst DidAsk (some-injective _ _ (sym t.2 ∙ ap (get_elem? views) e ∙ at)) t.3)))
    (λ ne. inr (same ∙ t.0, t.1, set_else views id asker w ne ∙ t.2, t.3))

out_seat_adds_to_meter : (slots id n k : ℕ) → n + k < 2 ^ 64 → Allows MeterIsKept slots id (Out n, []) 0 (λ x. (x + k) % 2 ^ 64) (WasAdded (step slots 0 k 0 none) (Out n, []))
out_seat_adds_to_meter slots id n k fits s h len at small =
    let u = meter_with_other_seat_used s.words s.views id (Out n) at (λ e. absurd cc) h in
    let p = slice_index s.words 0 in
    let mine = u.seats id (Out n) at in
    let x : ℕ = (p + k) % 2 ^ 64 in
    let is : x ≡ n + k = omega (arith, mine.1, fits) in
    let w = meter_words_set_first s.words x u.two in (
      Out (n + k),
      keeps,
      tt,
      meter_rule_kept_by_seat s.words (slice_set s.words 0 x) s.views id (Out (n + k)) u w.2 (λ q. absurd (q (sym mine.0))) (omega (arith, w.0, is, mine.1)) (λ q. w.1 ∙ q) (λ _. w.1)
          (ap (get_elem? (set s.views id (Out (n + k)))) (sym mine.0) ∙ set_side_stands_at_seat s.views id (Out n) (Out (n + k)) at ∙ ap (λ z. some (Out z)) (sym (w.0 ∙ is)))
          (mine.0, sym (w.0 ∙ is))
          (cancel_kept_by_asking_seat _ _ u.asker s.views id (Out n) (Out (n + k)) w.1 at (λ e. e) u.cancel),
      (refl, refl),
    )

read_seat_reads_meter : (slots id n : ℕ) → Allows MeterIsKept slots id (Read n, []) 0 (λ x. x) (WasRead (step slots 0 0 0 none) (Read n, []))
read_seat_reads_meter slots id n s h len at small =
    let u = meter_with_other_seat_used s.words s.views id (Read n) at (λ e. absurd cc) h in
    let p = slice_index s.words 0 in
    let w = meter_words_set_first s.words p u.two in
    let away = seats_of_other_sides_differ s.views id u.out (Read n) (Out p) at u.sum (λ e. absurd cc) in (
      Read p,
      keeps,
      tt,
      meter_rule_kept_by_seat s.words (slice_set s.words 0 p) s.views id (Read p) u w.2 (λ _. w.0) (omega (arith, w.0)) (λ q. w.1 ∙ q) (λ _. w.1)
          (set_else s.views id u.out (Read p) away ∙ u.sum ∙ ap (λ z. some (Out z)) (sym w.0))
          (omega (arith, w.0))
          (cancel_kept_by_asking_seat _ _ u.asker s.views id (Read n) (Read p) w.1 at (λ e. e) u.cancel),
      ((u.seats id (Read n) at, refl), refl),
    )

cancel_word_or_one_is_one : (c asker : ℕ) (views : List MeterSide) → IsCancel c asker views → bit_or c 1 ≡ 1
cancel_word_or_one_is_one c asker views (inl z) = ap (λ k. bit_or k 1) z
cancel_word_or_one_is_one c asker views (inr t) = ap (λ k. bit_or k 1) t.0

ask_seat_asks_cancel : (slots id : ℕ) (b : Bool) → Allows MeterIsKept slots id (Ask b, []) 1 (λ x. bit_or x 1) (WasAsked (step slots 1 1 0 none) (Ask b, []))
ask_seat_asks_cancel slots id b s h len at small =
    let u = meter_with_other_seat_used s.words s.views id (Ask b) at (λ e. absurd cc) h in
    let p = slice_index s.words 0 in
    let x = bit_or (slice_index s.words 1) 1 in
    let w = meter_words_set_second s.words x u.two in
    let mine = u.seats id (Ask b) at in
    let one : slice_index (slice_set s.words 1 x) 1 ≡ 1 = w.1 ∙ cancel_word_or_one_is_one (slice_index s.words 1) u.asker s.views u.cancel in
    let away = seats_of_other_sides_differ s.views id u.out (Ask b) (Out p) at u.sum (λ e. absurd cc) in (
      Ask true,
      keeps,
      tt,
      meter_rule_kept_by_seat s.words (slice_set s.words 1 x) s.views id (Ask true) u w.2 (λ _. w.0) (omega (arith, w.0)) (λ _. one) (λ q. absurd (q (sym mine.0)))
          (set_else s.views id u.out (Ask true) away ∙ u.sum ∙ ap (λ z. some (Out z)) (sym w.0))
          (mine.0, (λ _. one, λ _. refl))
          (inr (one, Ask true, ap (get_elem? (set s.views id (Ask true))) (sym mine.0) ∙ set_side_stands_at_seat s.views id (Ask b) (Ask true) at, refl)),
      (refl, refl),
    )

cancel_word_equal_one : (c : ℕ) → (c == 1) ≡ true → c ≡ 1
cancel_word_equal_one c e = grind (arith, nat_tests)

feed_seat_looks_at_cancel : (slots id : ℕ) (b : Bool) → Allows MeterIsKept slots id (Feed b, []) 1 (λ x. x) (WasLookedAt (step slots 1 0 0 none) (Feed b, []))
feed_seat_looks_at_cancel slots id b s h len at small =
    let u = meter_with_other_seat_used s.words s.views id (Feed b) at (λ e. absurd cc) h in
    let p = slice_index s.words 0 in
    let c = slice_index s.words 1 in
    let w = meter_words_set_second s.words c u.two in
    let away = seats_of_other_sides_differ s.views id u.out (Feed b) (Out p) at u.sum (λ e. absurd cc) in (
      Feed (c == 1),
      keeps,
      tt,
      meter_rule_kept_by_seat s.words (slice_set s.words 1 c) s.views id (Feed (c == 1)) u w.2 (λ _. w.0) (omega (arith, w.0)) (λ q. w.1 ∙ q) (λ _. w.1)
          (set_else s.views id u.out (Feed (c == 1)) away ∙ u.sum ∙ ap (λ z. some (Out z)) (sym w.0))
          (λ t. w.1 ∙ cancel_word_equal_one c t)
          (cancel_kept_by_asking_seat _ _ u.asker s.views id (Feed b) (Feed (c == 1)) w.1 at (λ e. e) u.cancel),
      ((u.seats id (Feed b) at, refl), refl),
    )

met_seat_settles_cancel : (slots id : ℕ) (f b : Bool) → Allows MeterIsKept slots id (Met f b, []) 1 (λ x. x) (WasSettled (step slots 1 0 0 none) (Met f b, []))
met_seat_settles_cancel slots id f b s h len at small =
    let u = meter_with_other_seat_used s.words s.views id (Met f b) at (λ e. absurd cc) h in
    let p = slice_index s.words 0 in
    let c = slice_index s.words 1 in
    let w = meter_words_set_second s.words c u.two in
    let mine = u.seats id (Met f b) at in
    let away = seats_of_other_sides_differ s.views id u.out (Met f b) (Out p) at u.sum (λ e. absurd cc) in (
      Met f b,
      keeps,
      tt,
      meter_rule_kept_by_seat s.words (slice_set s.words 1 c) s.views id (Met f b) u w.2 (λ _. w.0) (omega (arith, w.0)) (λ q. w.1 ∙ q) (λ _. w.1)
          (set_else s.views id u.out (Met f b) away ∙ u.sum ∙ ap (λ z. some (Out z)) (sym w.0))
          (mine.0, (λ t. w.1 ∙ mine.1.0 t, λ e. mine.1.1 (sym w.1 ∙ e)), λ t. w.1 ∙ mine.2 t)
          (cancel_kept_by_asking_seat _ _ u.asker s.views id (Met f b) (Met f b) w.1 at (λ e. e) u.cancel),
      (λ t. mine.1.1 (mine.2 t)),
    )

-- a seat that doesn't ask sits well whichever does
seat_not_asking_sits_on : (out asker asker' p c seat : ℕ) (v : MeterSide) → seat ≢ asker → SitsAtMeter out asker p c seat v → SitsAtMeter out asker' p c seat v
seat_not_asking_sits_on out asker asker' p c seat Whole ne h = h
seat_not_asking_sits_on out asker asker' p c seat (Out n) ne h = h
seat_not_asking_sits_on out asker asker' p c seat (Read n) ne h = h
seat_not_asking_sits_on out asker asker' p c seat (Ask b) ne h = absurd (ne h.0)
seat_not_asking_sits_on out asker asker' p c seat (Feed b) ne h = h
seat_not_asking_sits_on out asker asker' p c seat (Met f b) ne h = absurd (ne h.0)

feed_and_ask_seats_join : (id other : ℕ) (f b : Bool) → Joins MeterIsKept id (Feed f) other (Ask b) (Met f b) (Read 0)
feed_and_ask_seats_join id other f b s h at ne there =
    let u = meter_with_other_seat_used s.words s.views id (Feed f) at (λ e. absurd cc) h in
    let p = slice_index s.words 0 in
    let c = slice_index s.words 1 in
    let m = Met f b in
    let was : get_elem? s.views other ≡ some (Ask b) = ⊎_elim (λ (t : (other ≡ id) × (m ≡ Ask b)). absurd (ne t.0)) (λ (t : (other ≢ id) × (get_elem? s.views other ≡ some (Ask b))). t.1) (at_set s.views id other m (Ask b) there) in
    let mine = u.seats id (Feed f) at in
    let theirs = u.seats other (Ask b) was in
    let met = set s.views id m in
    let out_id = seats_of_other_sides_differ s.views id u.out (Feed f) (Out p) at u.sum (λ e. absurd cc) in
    let out_other = seats_of_other_sides_differ s.views other u.out (Ask b) (Out p) was u.sum (λ e. absurd cc) in
    inr (record {
      out = u.out;
      asker = id;
      two = u.two;
      sum = set_else met other u.out (Read 0) out_other ∙ set_else s.views id u.out m out_id ∙ u.sum;
      seats = λ seat v e. ⊎_elim
          (λ (t : (seat ≡ other) × (Read 0 ≡ v)). subst (SitsAtMeter u.out id p c seat) t.1 (omega arith))
          (λ (t : (seat ≢ other) × (get_elem? met seat ≡ some v)). ⊎_elim
          (λ (q : (seat ≡ id) × (m ≡ v)). subst (SitsAtMeter u.out id p c seat) q.1 (q.0, theirs.1, mine))
          (λ (q : (seat ≢ id) × (get_elem? s.views seat ≡ some v)). seat_not_asking_sits_on u.out u.asker id p c seat v (λ z. t.0 (z ∙ sym theirs.0)) (u.seats seat v q.1))
          (at_set s.views id seat m v t.1))
          (at_set met other seat (Read 0) v e);
      cancel = ⊎_elim (λ z. inl z) (λ t. inr (t.0, m, set_else met other id (Read 0) (λ z. ne (sym z)) ∙ set_side_stands_at_seat s.views id (Feed f) m at, theirs.1.1 t.0)) u.cancel;
    })

pub out_side_adds_to_meter : (slots id n k : ℕ) (m : MeterSide × List (ℕ × Unit {0})) → m ≡ (Out n, []) → n + k < 2 ^ 64 → Allows MeterIsKept slots id m 0 (λ x. (x + k) % 2 ^ 64) (WasAdded (step slots 0 k 0 none) m)
out_side_adds_to_meter slots id n k m is fits = subst (λ (u : MeterSide × List (ℕ × Unit {0})). Allows MeterIsKept slots id u 0 (λ x. (x + k) % 2 ^ 64) (WasAdded (step slots 0 k 0 none) u)) (sym is) (out_seat_adds_to_meter slots id n k fits)

pub read_side_reads_meter : (slots id n : ℕ) (m : MeterSide × List (ℕ × Unit {0})) → m ≡ (Read n, []) → Allows MeterIsKept slots id m 0 (λ x. x) (WasRead (step slots 0 0 0 none) m)
read_side_reads_meter slots id n m is = subst (λ (u : MeterSide × List (ℕ × Unit {0})). Allows MeterIsKept slots id u 0 (λ x. x) (WasRead (step slots 0 0 0 none) u)) (sym is) (read_seat_reads_meter slots id n)

pub ask_side_asks_cancel : (slots id : ℕ) (b : Bool) (m : MeterSide × List (ℕ × Unit {0})) → m ≡ (Ask b, []) → Allows MeterIsKept slots id m 1 (λ x. bit_or x 1) (WasAsked (step slots 1 1 0 none) m)
ask_side_asks_cancel slots id b m is = subst (λ (u : MeterSide × List (ℕ × Unit {0})). Allows MeterIsKept slots id u 1 (λ x. bit_or x 1) (WasAsked (step slots 1 1 0 none) u)) (sym is) (ask_seat_asks_cancel slots id b)

pub feed_side_looks_at_cancel : (slots id : ℕ) (b : Bool) (m : MeterSide × List (ℕ × Unit {0})) → m ≡ (Feed b, []) → Allows MeterIsKept slots id m 1 (λ x. x) (WasLookedAt (step slots 1 0 0 none) m)
feed_side_looks_at_cancel slots id b m is = subst (λ (u : MeterSide × List (ℕ × Unit {0})). Allows MeterIsKept slots id u 1 (λ x. x) (WasLookedAt (step slots 1 0 0 none) u)) (sym is) (feed_seat_looks_at_cancel slots id b)

pub met_side_settles_cancel : (slots id : ℕ) (f b : Bool) (m : MeterSide × List (ℕ × Unit {0})) → m ≡ (Met f b, []) → Allows MeterIsKept slots id m 1 (λ x. x) (WasSettled (step slots 1 0 0 none) m)
met_side_settles_cancel slots id f b m is = subst (λ (u : MeterSide × List (ℕ × Unit {0})). Allows MeterIsKept slots id u 1 (λ x. x) (WasSettled (step slots 1 0 0 none) u)) (sym is) (met_seat_settles_cancel slots id f b)

pub feed_and_ask_sides_join : (id other : ℕ) (v w : MeterSide) (f b : Bool) → v ≡ Feed f → w ≡ Ask b → Joins MeterIsKept id v other w (Met (flag v) (flag w)) (Read 0)
feed_and_ask_sides_join id other v w f b is is' = subst (λ (x : MeterSide × MeterSide). Joins MeterIsKept id x.0 other x.1 (Met (flag x.0) (flag x.1)) (Read 0)) (λ k. (sym is k, sym is' k)) (feed_and_ask_seats_join id other f b)

-- a seat that has done nothing yet, and doesn't ask, beside one of a meter in use
whole_seat_splits_off_itself : (id : ℕ) (v w : MeterSide) → v ≢ Whole → ((out asker p c seat : ℕ) → SitsAtMeter out asker p c seat w) → Splits MeterIsKept id v v w
whole_seat_splits_off_itself id v w ne new s h at =
    let u = meter_with_other_seat_used s.words s.views id v at ne h in
    let same = set_again s.views id v at in
    subst (λ l. IsMeter s.words (l ++ w ∷ [])) (sym same) (inr (record {
      out = u.out;
      asker = u.asker;
      two = u.two;
      sum = at_longer s.views (w ∷ []) u.out _ u.sum;
      seats = λ seat x e. ⊎_elim (λ was. u.seats seat x was) (λ is. subst (λ y. SitsAtMeter u.out u.asker (slice_index s.words 0) (slice_index s.words 1) seat y) is (new u.out u.asker (slice_index s.words 0) (slice_index s.words 1) seat)) (at_snoc s.views w x seat e);
      cancel = ⊎_elim (λ z. inl z) (λ t. inr (t.0, t.1, at_longer s.views (w ∷ []) u.asker _ t.2, t.3)) u.cancel;
    }))

out_side_splits_off_itself : (id : ℕ) (v w : MeterSide) (m : MeterSide × List (ℕ × Unit {0})) → m ≡ (Out 0, []) → v ≡ m.0 → ((out asker p c seat : ℕ) → SitsAtMeter out asker p c seat w) → Splits MeterIsKept id v v w
out_side_splits_off_itself id v w m is of new = whole_seat_splits_off_itself id v w (λ e. absurd cc) new

pub fresh_side_splits_off_reader : (id : ℕ) (m : MeterSide × List (ℕ × Unit {0})) → m ≡ (Out 0, []) → Splits MeterIsKept id m.0 m.0 (Read 0)
fresh_side_splits_off_reader id m is = out_side_splits_off_itself id m.0 (Read 0) m is refl (λ out asker p c seat. omega arith)

pub fresh_side_splits_off_feeder : (id : ℕ) (m : MeterSide × List (ℕ × Unit {0})) → m ≡ (Out 0, []) → Splits MeterIsKept id m.0 m.0 (Feed false)
fresh_side_splits_off_feeder id m is = out_side_splits_off_itself id m.0 (Feed false) m is refl (λ out asker p c seat e. absurd cc)

pub fresh_meter_is_a_meter : IsMeter (0 ∷ 0 ∷ []) (Whole ∷ [])
fresh_meter_is_a_meter = inl (refl, refl)

-- the two seats of a new meter
new_meter_seats_sit : (seat : ℕ) (v : MeterSide) → get_elem? (Out 0 ∷ Ask false ∷ []) seat ≡ some v → SitsAtMeter 0 1 0 0 seat v
new_meter_seats_sit zero v e = subst (SitsAtMeter 0 1 0 0 0) (some-injective _ _ e) (refl, refl)
new_meter_seats_sit (suc zero) v e = subst (SitsAtMeter 0 1 0 0 1) (some-injective _ _ e) (refl, (λ t. absurd cc, λ t. absurd cc))
new_meter_seats_sit (suc (suc n)) v e = absurd (some-ne-none v (sym e))

meter_of_opened_seats : (id : ℕ) → get_elem? (Whole ∷ []) id ≡ some Whole → IsMeter (0 ∷ 0 ∷ []) (set (Whole ∷ []) id (Out 0) ++ Ask false ∷ [])
meter_of_opened_seats zero e = inr (record { out = 0; asker = 1; two = refl; sum = refl; seats = new_meter_seats_sit; cancel = inl refl })
meter_of_opened_seats (suc n) e = absurd (some-ne-none Whole (sym e))

whole_seat_opens_meter : (id : ℕ) → Splits MeterIsKept id Whole (Out 0) (Ask false)
whole_seat_opens_meter id s (inl t) at = subst (λ (x : List ℕ × List MeterSide). IsMeter x.0 (set x.1 id (Out 0) ++ Ask false ∷ [])) (λ k. (sym t.0 k, sym t.1 k)) (meter_of_opened_seats id (subst (λ (l : List MeterSide). get_elem? l id ≡ some Whole) t.1 at))
whole_seat_opens_meter id s (inr u) at = absurd (u.seats id Whole at)

pub whole_side_opens_meter : (id : ℕ) (m : MeterSide × List (ℕ × Unit {0})) → m ≡ (Whole, []) → Splits MeterIsKept id m.0 (Out 0) (Ask false)
whole_side_opens_meter id m is = subst (λ (u : MeterSide × List (ℕ × Unit {0})). Splits MeterIsKept id u.0 (Out 0) (Ask false)) (sym is) (whole_seat_opens_meter id)
