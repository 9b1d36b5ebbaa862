-- Rows of fields, one after another.
use Rattle.std.proofs.Common.{◌≡◌, ◌∙◌, ◌+◌, ◌-◌, ◌<◌, ◌≤◌, ℕ, zero, suc, List, [], ◌∷◌, ◌++◌, Option, Some, length, get_or, drop, min, refl, sym, ap, ap₂, subst, inl, inr, arith}
use Rattle.std.specs.Prelude.{IfSome, slice_get, ◌⊎◌}
use Rattle.std.proofs.lemmas.Bool.{cases_lt}
use Rattle.std.proofs.lemmas.List.{at_drop_more, drop_all, drop-drop, length-drop}
use Rattle.std.proofs.lemmas.List.Concat.{flat_map-append}
use Rattle.std.proofs.lemmas.Option.{get_or_from_slice_get}
use Rattle.heap_class.specs.declared.Field.{Field}
use Rattle.heap_class.specs.declared.Kind.{Kind}
use Rattle.heap_class.specs.Classes.{Class, fields_of, sup_of}
use Rattle.hprof_text.proofs.Loops.{item_of_list_within}
use Rattle.question_rows.specs.ClassLists.{and_fields, field_words}
use Rattle.question_rows.specs.Objects.{field_row, field_rows, rows_joined}
use Rattle.question_words.specs.Names.{fields_up}
use Rattle.question_rows.proofs.SlotRows.{drop_both}
use Rattle.question_words.proofs.FieldsAbove.{fields_more}

rows_none : (n : ℕ) (fs : List Field) → field_rows n fs [] ≡ []
rows_none n [] = refl
rows_none n (f ∷ fs) = refl

some_field_has_it : (P : Field → Type 0) (o : Option Field) (f : Field) → o ≡ Some f → IfSome o P → P f
some_field_has_it P o f e h = subst (λ (p : Option Field). IfSome p P) e h

-- the next row
pub rows_more : (i j q : ℕ) (fs : List Field) (ws : List ℕ) (name : List ℕ) (kind : Kind) → q ≡ j + 1 → i < length fs → IfSome (slice_get fs i) (λ f. name ≡ f.name) → IfSome (slice_get fs i) (λ f. kind ≡ f.kind) → j < length ws
    → field_rows j (drop i fs) (drop j ws) ≡ field_row j name kind (get_or ws j 0) ∷ field_rows q (drop (i + 1) fs) (drop q ws)
rows_more i j q fs ws name kind e li a k lj =
    let f = item_of_list_within fs i li in
    at_drop_more (λ gs. field_rows j gs (drop j ws)) fs i f.0 li
    ∙ ap (λ g. field_rows j (g ∷ drop (i + 1) fs) (drop j ws)) (get_or_from_slice_get fs i f.0 f.0 f.1)
    ∙ at_drop_more (λ vs. field_rows j (f.0 ∷ drop (i + 1) fs) vs) ws j 0 lj
    ∙ ap₂ (λ b m. field_row j b m (get_or ws j 0) ∷ field_rows (j + 1) (drop (i + 1) fs) (drop (j + 1) ws)) (sym (some_field_has_it (λ f. name ≡ f.name) (slice_get fs i) f.0 f.1 a)) (sym (some_field_has_it (λ f. kind ≡ f.kind) (slice_get fs i) f.0 f.1 k))
    ∙ ap (λ p. field_row j name kind (get_or ws j 0) ∷ field_rows p (drop (i + 1) fs) (drop p ws)) (sym e)

-- the next field, and those after it
pub fields_further : (i : ℕ) (fs : List Field) (name : List ℕ) (kind : Kind) → i < length fs → IfSome (slice_get fs i) (λ f. name ≡ f.name) → IfSome (slice_get fs i) (λ f. kind ≡ f.kind)
    → and_fields (drop i fs) ≡ field_words name kind ++ and_fields (drop (i + 1) fs)
fields_further i fs name kind li a k =
    let f = item_of_list_within fs i li in
    at_drop_more and_fields fs i f.0 li
    ∙ ap (λ g. and_fields (g ∷ drop (i + 1) fs)) (get_or_from_slice_get fs i f.0 f.0 f.1)
    ∙ ap₂ (λ b m. field_words b m ++ and_fields (drop (i + 1) fs)) (sym (some_field_has_it (λ f. name ≡ f.name) (slice_get fs i) f.0 f.1 a)) (sym (some_field_has_it (λ f. kind ≡ f.kind) (slice_get fs i) f.0 f.1 k))

-- the fields or the words are used up
pub used_up : (a b f c i : ℕ) → c ≡ min a (b - f) → c ≤ i → f ≤ b → (a ≤ i) ⊎ (b ≤ f + i)
used_up a b f c i e h w = elim (cases_lt i a) [
  | inl lt ↦ inr (omega (arith, e, h, lt, w))
  | inr ge ↦ inl ge
]

-- as many rows as both have
length_rows : (n : ℕ) (fs : List Field) (ws : List ℕ) → length (field_rows n fs ws) ≡ min (length fs) (length ws)
length_rows n [] ws = omega arith
length_rows n (f ∷ fs) [] = omega arith
length_rows n (f ∷ fs) (w ∷ ws) = omega (arith, length_rows (n + 1) fs ws)

-- rows that are left out
rows_dropped : (k n : ℕ) (fs : List Field) (ws : List ℕ) → drop k (field_rows n fs ws) ≡ field_rows (n + k) (drop k fs) (drop k ws)
rows_dropped zero n fs ws = let e : n ≡ n + zero = omega arith in ap (λ m. field_rows m fs ws) e
rows_dropped (suc k) n [] ws = refl
rows_dropped (suc k) n (f ∷ fs) [] = sym (rows_none (n + suc k) (drop k fs))
rows_dropped (suc k) n (f ∷ fs) (w ∷ ws) =
    let e : (n + 1) + k ≡ n + suc k = omega arith in
    rows_dropped k (n + 1) fs ws ∙ ap (λ m. field_rows m (drop k fs) (drop k ws)) e

-- the rows of the slots from f on without the first k
rows_from : (k f : ℕ) (fs : List Field) (ws : List ℕ) → drop k (field_rows f fs (drop f ws)) ≡ field_rows (f + k) (drop k fs) (drop (f + k) ws)
rows_from k f fs ws = rows_dropped k f fs (drop f ws) ∙ ap (λ vs. field_rows (f + k) (drop k fs) vs) (drop-drop k f ws)

-- the next row, and those after it
pub row_further : (i f : ℕ) (fs : List Field) (ws : List ℕ) (name : List ℕ) (kind : Kind) → i < length fs → IfSome (slice_get fs i) (λ f. name ≡ f.name) → IfSome (slice_get fs i) (λ f. kind ≡ f.kind) → f + i < length ws
    → drop i (field_rows f fs (drop f ws)) ≡ field_row (f + i) name kind (get_or ws (f + i) 0) ∷ drop (i + 1) (field_rows f fs (drop f ws))
row_further i f fs ws name kind li a k lj =
    let e : f + (i + 1) ≡ (f + i) + 1 = omega arith in
    rows_from i f fs ws
    ∙ rows_more i (f + i) (f + (i + 1)) fs ws name kind e li a k lj
    ∙ ap (λ rows. field_row (f + i) name kind (get_or ws (f + i) 0) ∷ rows) (sym (rows_from (i + 1) f fs ws))

-- no row is left
pub rows_end : (i f : ℕ) (fs : List Field) (ws : List ℕ) → (length fs ≤ i) ⊎ (length ws ≤ f + i) → drop i (field_rows f fs (drop f ws)) ≡ []
rows_end i f fs ws h =
    let long = length_rows f fs (drop f ws) in
    let rest = length-drop f ws in
    elim h [
      | inl a ↦ drop_all i (field_rows f fs (drop f ws)) (omega (arith, a, long))
      | inr b ↦ drop_all i (field_rows f fs (drop f ws)) (omega (arith, b, long, rest))
    ]

-- the rows of some fields and of those behind them
pub rows_append : (n : ℕ) (fs gs : List Field) (ws : List ℕ) (m k : ℕ) → m ≡ min (length fs) (length ws) → k ≡ n + m → field_rows n (fs ++ gs) ws ≡ field_rows n fs ws ++ field_rows k gs (drop m ws)
rows_append n [] gs ws m k e q =
    let z : m ≡ 0 = omega (arith, e) in
    let y : k ≡ n = omega (arith, z, q) in
    ap₂ (λ a b. field_rows a gs (drop b ws)) (sym y) (sym z)
rows_append n (f ∷ fs) gs [] m k e q =
    let z : m ≡ 0 = omega (arith, e) in
    sym (ap (λ b. field_rows k gs (drop b [])) z ∙ rows_none k gs)
rows_append n (f ∷ fs) gs (w ∷ ws) m k e q =
    let p = min (length fs) (length ws) in
    let s : m ≡ suc p = omega (arith, e) in
    let row = field_row n f.name f.kind w in
    ap (λ t. row ∷ t) (rows_append (n + 1) fs gs ws p k refl (omega (arith, q, s)))
    ∙ ap (λ b. (row ∷ field_rows (n + 1) fs ws) ++ field_rows k gs (drop b (w ∷ ws))) (sym s)

-- ---- a class and those above it

-- the rows of a class and those above it
pub rows_of_class : (cs : List Class) (n m a f own : ℕ) (ws : List ℕ) → n ≡ m + 1 → own ≡ min (length (fields_of cs a)) (length ws - f)
    → field_rows f (fields_up cs n (Some a)) (drop f ws) ≡ field_rows f (fields_of cs a) (drop f ws) ++ field_rows (f + own) (fields_up cs m (sup_of cs a)) (drop (f + own) ws)
rows_of_class cs n m a f own ws e q =
    ap (λ fs. field_rows f fs (drop f ws)) (fields_more cs n m a e)
    ∙ rows_append f (fields_of cs a) (fields_up cs m (sup_of cs a)) (drop f ws) own (f + own) (q ∙ ap (min (length (fields_of cs a))) (sym (length-drop f ws))) refl
    ∙ ap (λ vs. field_rows f (fields_of cs a) (drop f ws) ++ field_rows (f + own) (fields_up cs m (sup_of cs a)) vs) (drop-drop own f ws)

-- the same without the first k rows, one after another
pub part_of_class : (cs : List Class) (n m a f own k j : ℕ) (ws : List ℕ) → n ≡ m + 1 → own ≡ min (length (fields_of cs a)) (length ws - f) → j ≡ k - own
    → rows_joined (drop k (field_rows f (fields_up cs n (Some a)) (drop f ws))) ≡ rows_joined (drop k (field_rows f (fields_of cs a) (drop f ws))) ++ rows_joined (drop j (field_rows (f + own) (fields_up cs m (sup_of cs a)) (drop (f + own) ws)))
part_of_class cs n m a f own k j ws e q h =
    let here = field_rows f (fields_of cs a) (drop f ws) in
    let above = field_rows (f + own) (fields_up cs m (sup_of cs a)) (drop (f + own) ws) in
    let long = length_rows f (fields_of cs a) (drop f ws) in
    let rest = length-drop f ws in
    let same : k - length here ≡ j = omega (arith, long, rest, q, h) in
    ap (λ rows. rows_joined (drop k rows)) (rows_of_class cs n m a f own ws e q)
    ∙ ap rows_joined (drop_both k here above ∙ ap (λ i. drop k here ++ drop i above) same)
    ∙ flat_map-append (λ (row : List ℕ). row) (drop k here) (drop j above)
