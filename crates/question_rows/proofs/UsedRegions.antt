-- The regions in use, and those that wait to be swept, one after another.
use Rattle.std.proofs.Common.{◌≡◌, ◌∙◌, ℕ, zero, suc, ◌+◌, ◌<◌, ◌≤◌, Bool, true, false, cond, drop, get_or, List, [], ◌∷◌, ◌++◌, length, Option, Some, None, refl, sym, ap, ap₂}
use Rattle.std.specs.Prelude.{codes, filter, is_some, option_map, unwrap_or, if◌then◌else◌}
use Rattle.std.specs.Option.{option_map_or}
use Rattle.std.specs.List.{cons_option, enumerate_from, filter_map, range_with_len}
use Rattle.std.proofs.lemmas.List.{append-nil, at_drop_all, at_drop_more}
use Rattle.std.proofs.lemmas.List.Elements.{filter-append}
use Rattle.heap_world.specs.Live.{cells_of}
use Rattle.heap_world.specs.Regions.{Region, Empty, UsedRegion, used_at, used_part}
use Rattle.heap_world.specs.State.{HeapState}
use Rattle.heap_mark.specs.MarkSteps.{pending_regions}
use Rattle.heap_questions.proofs.Passing.{one_more_number}
use Rattle.session_text.specs.Replies.{and_number, line}
use Rattle.question_rows.proofs.ClassRows.{both_appended}
use Rattle.question_rows.specs.CellLists.{cell_letters, region_text, sweep_words, used_text}

-- those of the first n regions that are in use
abbrev pub used_before : List Region → ℕ → List ℕ
used_before regions n = filter (λ r. is_some (used_at regions r)) (range_with_len 0 n)

next_used : (regions : List Region) (n : ℕ) → used_before regions (n + 1) ≡ used_before regions n ++ cond (is_some (used_at regions n)) (n ∷ []) []
next_used regions n =
    ap (filter (λ r. is_some (used_at regions r))) (one_more_number n)
    ∙ filter-append (λ r. is_some (used_at regions r)) (range_with_len 0 n) (n ∷ [])

size_some : (x : Option UsedRegion) (size : ℕ) → option_map (λ (u : UsedRegion). u.cell_size) x ≡ Some size → is_some x ≡ true
size_some None size e = cc
size_some (Some u) size e = refl

size_none : (x : Option UsedRegion) → option_map (λ (u : UsedRegion). u.cell_size) x ≡ None → is_some x ≡ false
size_none None e = refl
size_none (Some u) e = cc

pub one_used : (regions : List Region) (n size : ℕ) → option_map (λ (u : UsedRegion). u.cell_size) (used_at regions n) ≡ Some size → used_before regions (n + 1) ≡ used_before regions n ++ n ∷ []
one_used regions n size e = next_used regions n ∙ ap (λ b. used_before regions n ++ cond b (n ∷ []) []) (size_some (used_at regions n) size e)

pub one_unused : (regions : List Region) (n : ℕ) → option_map (λ (u : UsedRegion). u.cell_size) (used_at regions n) ≡ None → used_before regions (n + 1) ≡ used_before regions n
one_unused regions n e = next_used regions n ∙ ap (λ b. used_before regions n ++ cond b (n ∷ []) []) (size_none (used_at regions n) e) ∙ append-nil (used_before regions n)

-- the line of a region in use, by what is told of it
pub region_row : (w : HeapState) (r size : ℕ) (waits : Bool) → option_map (λ (u : UsedRegion). u.cell_size) (used_at w.regions r) ≡ Some size → waits ≡ unwrap_or (option_map (λ (u : UsedRegion). u.pending) (used_at w.regions r)) false
    → region_text w r ≡ line ((((codes "row" ++ and_number r) ++ and_number size) ++ sweep_words waits) ++ cell_letters w r (length (cells_of (used_at w.regions r))))
unfolding used_text
region_row w r size waits e p = go (used_at w.regions r) e p
  where
    go : (x : Option UsedRegion) → option_map (λ (u : UsedRegion). u.cell_size) x ≡ Some size → waits ≡ unwrap_or (option_map (λ (u : UsedRegion). u.pending) x) false
        → option_map_or (used_text w r) x [] ≡ line ((((codes "row" ++ and_number r) ++ and_number size) ++ sweep_words waits) ++ cell_letters w r (length (cells_of x)))
    go None e p = cc
    go (Some u) e p =
        let same : u.cell_size ≡ size = cc in
        ap₂ (λ (n : ℕ) (b : Bool). line ((((codes "row" ++ and_number r) ++ and_number n) ++ sweep_words b) ++ cell_letters w r (length u.cells))) same (sym p)

-- the pieces of its line, one after another
pub region_line : (old row size sweep letters t1 t2 t3 t4 text : List ℕ) → t1 ≡ old ++ row → t2 ≡ t1 ++ size → t3 ≡ t2 ++ sweep → t4 ≡ t3 ++ letters → text ≡ t4 ++ codes "\n" → text ≡ old ++ line (((row ++ size) ++ sweep) ++ letters)
region_line old row size sweep letters t1 t2 t3 t4 text e1 e2 e3 e4 e5 =
    let h2 = both_appended old row size t1 t2 e1 e2 in
    let h3 = both_appended old (row ++ size) sweep t2 t3 h2 e3 in
    let h4 = both_appended old ((row ++ size) ++ sweep) letters t3 t4 h3 e4 in
    both_appended old (((row ++ size) ++ sweep) ++ letters) (codes "\n") t4 text h4 e5

-- ---- regions that wait

-- the numbers of these regions that wait, of which the first is region r
abbrev waiting_region_numbers : ℕ → List Region → List ℕ
waiting_region_numbers r regions = filter_map (λ p. option_map_or (λ u. if u.pending then Some p.0 else None) (used_part p.1) None) (enumerate_from r regions)

-- how many wait from region r on
abbrev pub waiting_from : List Region → ℕ → ℕ
waiting_from regions r = length (waiting_region_numbers r (drop r regions))

pub waiting_all : (regions : List Region) → waiting_from regions 0 ≡ length (pending_regions regions)
unfolding pending_regions
waiting_all regions = refl

abbrev number_if : ℕ → Option UsedRegion → Option ℕ
number_if r x = option_map_or (λ (u : UsedRegion). if u.pending then Some r else None) x None

region_read : (regions : List Region) (r : ℕ) → used_part (get_or regions r Empty) ≡ used_at regions r
unfolding used_at
region_read [] r = refl
region_read (x ∷ xs) zero = refl
region_read (x ∷ xs) (suc r) = region_read xs r

one_read : (regions : List Region) (r : ℕ) → r < length regions → waiting_from regions r ≡ length (cons_option (number_if r (used_at regions r)) (waiting_region_numbers (r + 1) (drop (r + 1) regions)))
one_read regions r lt =
    at_drop_more (λ xs. length (waiting_region_numbers r xs)) regions r Empty lt
    ∙ ap (λ (x : Option UsedRegion). length (cons_option (number_if r x) (waiting_region_numbers (r + 1) (drop (r + 1) regions)))) (region_read regions r)

pub one_waits : (regions : List Region) (r : ℕ) → r < length regions → unwrap_or (option_map (λ (u : UsedRegion). u.pending) (used_at regions r)) false ≡ true → waiting_from regions r ≡ suc (waiting_from regions (r + 1))
one_waits regions r lt there = one_read regions r lt ∙ go (used_at regions r) there
  where
    bit : (b : Bool) → b ≡ true → length (cons_option (cond b (Some r) None) (waiting_region_numbers (r + 1) (drop (r + 1) regions))) ≡ suc (waiting_from regions (r + 1))
    bit true e = refl
    bit false e = cc

    go : (x : Option UsedRegion) → unwrap_or (option_map (λ (u : UsedRegion). u.pending) x) false ≡ true → length (cons_option (number_if r x) (waiting_region_numbers (r + 1) (drop (r + 1) regions))) ≡ suc (waiting_from regions (r + 1))
    go None e = cc
    go (Some u) e = bit u.pending e

pub none_waits : (regions : List Region) (r : ℕ) → r < length regions → unwrap_or (option_map (λ (u : UsedRegion). u.pending) (used_at regions r)) false ≡ false → waiting_from regions r ≡ waiting_from regions (r + 1)
none_waits regions r lt there = one_read regions r lt ∙ go (used_at regions r) there
  where
    bit : (b : Bool) → b ≡ false → length (cons_option (cond b (Some r) None) (waiting_region_numbers (r + 1) (drop (r + 1) regions))) ≡ waiting_from regions (r + 1)
    bit true e = cc
    bit false e = refl

    go : (x : Option UsedRegion) → unwrap_or (option_map (λ (u : UsedRegion). u.pending) x) false ≡ false → length (cons_option (number_if r x) (waiting_region_numbers (r + 1) (drop (r + 1) regions))) ≡ waiting_from regions (r + 1)
    go None e = refl
    go (Some u) e = bit u.pending e

pub waiting_none : (regions : List Region) (r : ℕ) → length regions ≤ r → waiting_from regions r ≡ 0
waiting_none regions r le = at_drop_all (λ xs. length (waiting_region_numbers r xs)) regions r le
