-- Rows of an object and of those below it, slot by slot.
use Rattle.std.proofs.Common.{◌≡◌, ◌∙◌, ◌+◌, ◌-◌, ◌<◌, ◌≤◌, ℕ, zero, suc, List, [], ◌∷◌, ◌++◌, Option, Some, None, length, ap, refl, sym, arith, append_assoc, inl, inr}
use Rattle.std.specs.Prelude.{◌⊎◌, flat_map}
use Rattle.std.specs.List.{range_with_len}
use Rattle.std.specs.Option.{option_map_or}
use Rattle.std.proofs.lemmas.List.{append-nil, length-append}
use Rattle.std.proofs.lemmas.List.Concat.{flat_map-append}
use Rattle.hprof_text.specs.Image.{DumpedObject, Image}
use Rattle.question_rows.specs.Objects.{rows_joined}
use Rattle.question_rows.specs.Trees.{branch, branches, object_at_slot, tree_row, tree_rows}

-- what is told of an object that a slot names, n levels down
abbrev pub rows_below : ℕ → Image → ℕ → DumpedObject → List (List ℕ)
rows_below zero image level p = []
rows_below (suc n) image level p = tree_rows n image (level + 1) p

pub tree_is : (n : ℕ) (image : Image) (level : ℕ) (o : DumpedObject) → tree_rows n image level o ≡ branches (rows_below n image level) image level o (length o.words)
tree_is zero image level o = refl
tree_is (suc n) image level o = refl

-- ---- numbers in order

range_more : (a n : ℕ) → range_with_len a (suc n) ≡ range_with_len a n ++ (a + n) ∷ []
range_more a zero = let e : a ≡ a + 0 = omega arith in ap (λ i. i ∷ []) e
range_more a (suc n) =
    let e : (a + 1) + n ≡ a + suc n = omega arith in
    ap (λ l. a ∷ l) (range_more (a + 1) n ∙ ap (λ i. range_with_len (a + 1) n ++ i ∷ []) e)

-- ---- branches

-- the rows of one slot more
pub branches_on : (below : DumpedObject → List (List ℕ)) (image : Image) (level : ℕ) (o : DumpedObject) (k : ℕ) → branches below image level o (k + 1) ≡ branches below image level o k ++ branch below image level o k
branches_on below image level o k =
    let s : k + 1 ≡ suc k = omega arith in
    let same : 0 + k ≡ k = omega arith in
    let f : ℕ → List (List ℕ) = λ i. branch below image level o i in
    ap (λ n. flat_map f (range_with_len 0 n)) s
    ∙ ap (λ l. flat_map f l) (range_more 0 k)
    ∙ flat_map-append f (range_with_len 0 k) ((0 + k) ∷ [])
    ∙ ap (λ l. flat_map f (range_with_len 0 k) ++ l) (append-nil (f (0 + k)))
    ∙ ap (λ i. flat_map f (range_with_len 0 k) ++ f i) same

deeper_tree_has_more_rows : (below : DumpedObject → List (List ℕ)) (image : Image) (level : ℕ) (o : DumpedObject) (k d : ℕ) → length (branches below image level o k) ≤ length (branches below image level o (k + d))
deeper_tree_has_more_rows below image level o k zero =
    let e : k ≡ k + 0 = omega arith in
    let same = ap (λ n. length (branches below image level o n)) e in omega (arith, same)
deeper_tree_has_more_rows below image level o k (suc d) =
    let e : k + suc d ≡ (k + d) + 1 = omega arith in
    let same = ap (λ n. length (branches below image level o n)) e in
    let more = ap (λ l. length l) (branches_on below image level o (k + d)) in
    let long = length-append (branches below image level o (k + d)) (branch below image level o (k + d)) in
    omega (arith, same, more, long, deeper_tree_has_more_rows below image level o k d)

-- the rows up to a slot, its own included, are no more than all
pub branches_within : (below : DumpedObject → List (List ℕ)) (image : Image) (level : ℕ) (o : DumpedObject) (k n : ℕ) → k < n → length (branches below image level o k) + length (branch below image level o k) ≤ length (branches below image level o n)
branches_within below image level o k n h =
    let e : n ≡ (k + 1) + (n - (k + 1)) = omega (arith, h) in
    let same = ap (λ m. length (branches below image level o m)) e in
    let more = ap (λ l. length l) (branches_on below image level o k) in
    let long = length-append (branches below image level o k) (branch below image level o k) in
    omega (arith, same, more, long, deeper_tree_has_more_rows below image level o (k + 1) (n - (k + 1)))

-- ---- texts

-- nothing is listed below the last level
nothing_below_last : (image : Image) (level : ℕ) (named : Option DumpedObject) → option_map_or (rows_below 0 image level) named [] ≡ []
nothing_below_last image level None = refl
nothing_below_last image level (Some p) = refl

-- the rows of a slot whose object isn't listed: it names none, or no level is left
pub branch_alone : (n : ℕ) (image : Image) (level : ℕ) (o : DumpedObject) (k : ℕ) (row : List ℕ) → row ≡ tree_row image.classes level o k (object_at_slot image o k) → (n ≡ 0) ⊎ (object_at_slot image o k ≡ None)
    → branch (rows_below n image level) image level o k ≡ row ∷ []
branch_alone n image level o k row is (inl e) =
    ap (λ m. branch (rows_below m image level) image level o k) e
    ∙ ap (λ rows. tree_row image.classes level o k (object_at_slot image o k) ∷ rows) (nothing_below_last image level (object_at_slot image o k))
    ∙ ap (λ r. r ∷ []) (sym is)
branch_alone n image level o k row is (inr e) =
    ap (λ (named : Option DumpedObject). tree_row image.classes level o k (object_at_slot image o k) ∷ option_map_or (rows_below n image level) named []) e ∙ ap (λ r. r ∷ []) (sym is)

-- the rows of a slot whose object is listed
pub branch_with : (n m : ℕ) (image : Image) (level : ℕ) (o p : DumpedObject) (k : ℕ) (row : List ℕ) → n ≡ m + 1 → row ≡ tree_row image.classes level o k (object_at_slot image o k) → object_at_slot image o k ≡ Some p
    → branch (rows_below n image level) image level o k ≡ row ∷ tree_rows m image (level + 1) p
branch_with n m image level o p k row down is e =
    let s : n ≡ suc m = omega (arith, down) in
    ap (λ i. branch (rows_below i image level) image level o k) s
    ∙ ap (λ (named : Option DumpedObject). tree_row image.classes level o k (object_at_slot image o k) ∷ option_map_or (rows_below (suc m) image level) named []) e
    ∙ ap (λ r. r ∷ tree_rows m image (level + 1) p) (sym is)

joined_both : (rows others : List (List ℕ)) → rows_joined (rows ++ others) ≡ rows_joined rows ++ rows_joined others
joined_both rows others = flat_map-append (λ (row : List ℕ). row) rows others

-- a text with the rows up to a slot, and then those of the slot
pub text_on : (below : DumpedObject → List (List ℕ)) (image : Image) (level : ℕ) (o : DumpedObject) (k : ℕ) (first text new : List ℕ) → text ≡ first ++ rows_joined (branches below image level o k) → new ≡ text ++ rows_joined (branch below image level o k)
    → new ≡ first ++ rows_joined (branches below image level o (k + 1))
text_on below image level o k first text new is more =
    let rows = branches below image level o k in
    let others = branch below image level o k in
    more
    ∙ ap (λ t. t ++ rows_joined others) is
    ∙ append_assoc first (rows_joined rows) (rows_joined others)
    ∙ ap (λ t. first ++ t) (sym (joined_both rows others) ∙ ap (λ l. rows_joined l) (sym (branches_on below image level o k)))

-- the text of a slot's rows: its own row, and those of the object that it names
pub slot_text : (row : List ℕ) (rows : List (List ℕ)) (text between new : List ℕ) → between ≡ text ++ row → new ≡ between ++ rows_joined rows → new ≡ text ++ rows_joined (row ∷ rows)
slot_text row rows text between new is more = more ∙ ap (λ t. t ++ rows_joined rows) is ∙ append_assoc text row (rows_joined rows)
