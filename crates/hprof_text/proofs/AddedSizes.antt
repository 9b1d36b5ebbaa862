-- Sizes that are added up.
use Rattle.std.proofs.Common.{◌≡◌, ℕ, zero, suc, ◌+◌, ◌≤◌, ◌<◌, Bool, true, false, List, [], ◌∷◌, ◌++◌, length, map, refl, sym, ap, ap₂, ◌∙◌, arith, inl, inr}
use Rattle.std.specs.Prelude.{nat_le, sum_by, slice_get, Option, Some, None, ◌⊎◌}
use Rattle.std.specs.Option.{option_to_list}
use Rattle.heap_class.specs.declared.IdSize.{IdSize}
use Rattle.hprof_text.specs.Cursors.{from_item}
use Rattle.heap_class.specs.Classes.{Class}
use Rattle.hprof_text.specs.declared.section.SubRecord.{SubRecord}
use Rattle.hprof_text.specs.Image.{Image}
use Rattle.hprof_text.specs.Records.{sub_record_bytes}
use Rattle.std.proofs.lemmas.List.{map-append}
use Rattle.std.proofs.lemmas.List.Sums.{sum_by-cons}
use Rattle.std.proofs.lemmas.Bool.Decides.{leb_tells}
use Rattle.hprof_text.specs.declared.section.Section.{Section}
use Rattle.hprof_text.specs.Text.{items_of, after, records_in}
use Rattle.hprof_text.specs.Segments.{segment_limit, sizes_at, segment_sizes}
use Rattle.hprof_text.specs.declared.measure.Measure.{Measure}
use Rattle.hprof_text.specs.Sizes.{records_size, records_size_at, records_size_after}
use Rattle.hprof_text.specs.SizeSums.{total_with, total, AddsSizes, IsMeasured}
use Rattle.hprof_text.proofs.Sections.{section_from_item_onwards, section_past_items_goes_on}

-- ---- one size

-- none is open: the size opens a segment
size_opens_first_segment : (n : ℕ) (more : List ℕ) → 0 < n → records_size_after n more ≡ records_size_after 0 (n ∷ more)
unfolding records_size records_size_at segment_sizes
size_opens_first_segment zero more h = absurd (omega (arith, h))
size_opens_first_segment (suc n) more h = refl

pub size_after_empty_body_opens : (body n : ℕ) (more : List ℕ) → body ≡ 0 → 0 < n → records_size_after (body + n) more ≡ records_size_after body (n ∷ more)
size_after_empty_body_opens body n more e h =
    let z : body + n ≡ n = omega (arith, e) in
    ap (λ k. records_size_after k more) z ∙ size_opens_first_segment n more h ∙ ap (λ k. records_size_after k (n ∷ more)) (sym e)

pub sub_record_has_segment_room : (n : ℕ) → n ≤ 4096 → nat_le n segment_limit ≡ true
sub_record_has_segment_room n h = elim (leb_tells n segment_limit) [ inl p ↦ p.0 | inr p ↦ absurd (omega (arith, p.1, h)) ]

pub size_over_segment_limit : (n : ℕ) → 4096 < n → nat_le n segment_limit ≡ false
size_over_segment_limit n h = elim (leb_tells n segment_limit) [ inl p ↦ absurd (omega (arith, p.1, h)) | inr p ↦ p.0 ]

-- what the records of sizes have, by whether the first still fits
abbrev records_sizes_by_room : Bool → ℕ → ℕ → List ℕ → List ℕ
records_sizes_by_room fits body n more = elim fits [ true ↦ sizes_at segment_limit (body + n) more | false ↦ body ∷ sizes_at segment_limit n more ]

records_size_of_open_body : (body : ℕ) (more : List ℕ) → 0 < body → records_size_after body more ≡ sum_by (λ n. 9 + n) (sizes_at segment_limit body more)
unfolding records_size_at
records_size_of_open_body zero more h = absurd (omega (arith, h))
records_size_of_open_body (suc n) more h = refl

-- one is open, and has room
pub size_joins_open_segment : (body n : ℕ) (more : List ℕ) → 0 < body → nat_le (body + n) segment_limit ≡ true → records_size_after (body + n) more ≡ records_size_after body (n ∷ more)
unfolding sizes_at
size_joins_open_segment body n more h e =
    records_size_of_open_body (body + n) more (omega (arith, h))
    ∙ ap (λ b. sum_by (λ n. 9 + n) (records_sizes_by_room b body n more)) (sym e)
    ∙ sym (records_size_of_open_body body (n ∷ more) h)

-- one is open, and has no room
pub size_closes_full_segment : (body n : ℕ) (more : List ℕ) → 0 < body → 0 < n → nat_le (body + n) segment_limit ≡ false → 9 + body + records_size_after n more ≡ records_size_after body (n ∷ more)
unfolding sizes_at
size_closes_full_segment body n more h k e =
    ap (λ s. 9 + body + s) (records_size_of_open_body n more k)
    ∙ sym (sum_by-cons (λ n. 9 + n) body (sizes_at segment_limit n more))
    ∙ ap (λ b. sum_by (λ n. 9 + n) (records_sizes_by_room b body n more)) (sym e)
    ∙ sym (records_size_of_open_body body (n ∷ more) h)

-- ---- none so far

pub nothing_measured_before_sizes : (m : Measure) (sizes : List ℕ) → m.closed ≡ 0 → m.body ≡ 0 → total_with m sizes ≡ records_size sizes
nothing_measured_before_sizes m sizes x y = let z : 0 + records_size sizes ≡ records_size sizes = omega arith in ap₂ (λ a b. a + records_size_after b sizes) x y ∙ z

-- ---- one item of a section

pub section_item_is_measured : (ids : IdSize) (image : Image) (s : Section) (n : ℕ) (item rest : List (List ℕ)) (sizes : List ℕ) (old now new : Measure) → slice_get (items_of ids image s) n ≡ Some item → map length item ≡ sizes → AddsSizes sizes now new
    → IsMeasured rest (from_item ids image s n) old now → IsMeasured rest (from_item ids image s (n + 1)) old new
section_item_is_measured ids image s n item rest sizes old now new e m a h =
    let left = from_item ids image s (n + 1) in
    a (map length left) ∙ ap (total_with now) (ap (λ l. l ++ map length left) (sym m) ∙ sym (map-append length item left) ∙ ap (map length) (sym (section_from_item_onwards ids image s n item e))) ∙ h

-- the sizes of an item's sub-record, if it has one
pub sub_record_has_one_size : (ids : IdSize) (classes : List Class) (given : Option SubRecord) (sub : SubRecord) (s : IdSize) (cs : List Class) (size : ℕ) → given ≡ Some sub → s ≡ ids → cs ≡ classes → size ≡ length (sub_record_bytes s cs sub) → map length (map (sub_record_bytes ids classes) (option_to_list given)) ≡ size ∷ []
sub_record_has_one_size ids classes given sub s cs size g x y e = ap (λ r. map length (map (sub_record_bytes ids classes) (option_to_list r))) g ∙ ap (λ n. n ∷ []) (ap₂ (λ t ds. length (sub_record_bytes t ds sub)) (sym x) (sym y) ∙ sym e)

pub no_sub_record_no_sizes : (ids : IdSize) (classes : List Class) (given : Option SubRecord) → given ≡ None → map length (map (sub_record_bytes ids classes) (option_to_list given)) ≡ []
no_sub_record_no_sizes ids classes given g = ap (λ r. map length (map (sub_record_bytes ids classes) (option_to_list r))) g

pub section_items_are_measured : (ids : IdSize) (image : Image) (s : Section) (n : ℕ) (rest : List (List ℕ)) (old now : Measure) → length (items_of ids image s) ≤ n → IsMeasured rest (from_item ids image s n) old now → IsMeasured rest (records_in ids image (after s)) old now
section_items_are_measured ids image s n rest old now l h = ap (λ left. total_with now (map length left)) (sym (section_past_items_goes_on ids image s n l)) ∙ h

pub measure_with_no_sizes_added : (m : Measure) → AddsSizes [] m m
measure_with_no_sizes_added m more = refl

-- ---- all of them

pub total_without_open_body : (m : Measure) → m.body ≡ 0 → m.closed ≡ total m
unfolding records_size segment_sizes
total_without_open_body m e = let z : m.closed + 0 ≡ m.closed = omega arith in sym z ∙ ap (λ n. m.closed + records_size_after n []) (sym e)

pub total_with_open_body : (m : Measure) → 0 < m.body → m.closed + 9 + m.body ≡ total m
unfolding sizes_at
total_with_open_body m h =
    let e : records_size_after m.body [] ≡ sum_by (λ n. 9 + n) (m.body ∷ []) = records_size_of_open_body m.body [] h in
    let s : sum_by (λ n. 9 + n) (m.body ∷ []) ≡ 9 + m.body + 0 = sum_by-cons (λ n. 9 + n) m.body [] in
    omega (arith, e, s)

pub total_within_open_body_sum : (m : Measure) → total m ≤ m.closed + 9 + m.body
total_within_open_body_sum m = elim (zero_or_some m.body) [ inl z ↦ omega (arith, total_without_open_body m z) | inr h ↦ omega (arith, total_with_open_body m h) ]
  where
    zero_or_some : (n : ℕ) → (n ≡ 0) ⊎ (0 < n)
    zero_or_some zero = inl refl
    zero_or_some (suc n) = inr (omega arith)
