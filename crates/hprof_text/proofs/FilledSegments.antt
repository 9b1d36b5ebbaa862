-- A segment filled with what it takes is the next segment.
use Rattle.std.proofs.Common.{◌≡◌, ℕ, ◌+◌, ◌<◌, ◌≤◌, Bool, true, false, List, [], ◌∷◌, ◌++◌, length, map, refl, sym, ap, ap₂, ◌∙◌, subst, arith, append_assoc, length-append}
use Rattle.std.specs.Prelude.{nat_le, slice_get, Option, Some, None}
use Rattle.std.specs.Option.{option_to_list}
use Rattle.std.proofs.lemmas.Option.{same_Some}
use Rattle.std.specs.List.{concat}
use Rattle.std.proofs.lemmas.List.{append-nil}
use Rattle.heap_class.specs.declared.IdSize.{IdSize}
use Rattle.hprof_text.specs.Cursors.{from_item}
use Rattle.hprof_text.specs.declared.section.NumberedSection.{NumberedSection}
use Rattle.hprof_text.specs.declared.section.Section.{Section}
use Rattle.hprof_text.specs.declared.section.Section.TheVariants.{Numbered}
use Rattle.hprof_text.specs.declared.section.SubRecord.{SubRecord}
use Rattle.hprof_text.specs.Image.{Image}
use Rattle.hprof_text.specs.Records.{sub_record_bytes}
use Rattle.heap_class.specs.Classes.{Class}
use Rattle.hprof_text.specs.Text.{record_of, items_of, after, records_in}
use Rattle.hprof_text.specs.Segments.{segment_limit, cut_at, segments_of, segment_records}
use Rattle.hprof_text.specs.SegmentFilling.{takes, body_filled, IsOffered, IsItemOffered}
use Rattle.hprof_text.proofs.Cutting.{Cutting, cut_by}
use Rattle.hprof_text.proofs.Sections.{section_from_item_onwards, section_past_items_goes_on}

-- ---- one sub-record

-- a body after one sub-record, by whether it took it
abbrev body_filled_by_taken : Bool → List ℕ → List ℕ → List (List ℕ) → List ℕ × List (List ℕ)
body_filled_by_taken taken body x xs = elim taken [ true ↦ body_filled (body ++ x) xs | false ↦ (body, x ∷ xs) ]

body_filled_by_one_record : (body x : List ℕ) (xs : List (List ℕ)) → body_filled body (x ∷ xs) ≡ body_filled_by_taken (takes body (length x)) body x xs
unfolding body_filled
body_filled_by_one_record body x xs = refl

pub body_filled_past_taken_record : (body x new : List ℕ) (xs : List (List ℕ)) → IsOffered x body new true → body_filled body (x ∷ xs) ≡ body_filled new xs
body_filled_past_taken_record body x new xs o = body_filled_by_one_record body x xs ∙ ap (λ b. body_filled_by_taken b body x xs) (sym o.by_room) ∙ ap (λ l. body_filled l xs) (sym o.body)

pub body_filled_before_refused_record : (body x new : List ℕ) (xs : List (List ℕ)) → IsOffered x body new false → body_filled body (x ∷ xs) ≡ (new, x ∷ xs)
body_filled_before_refused_record body x new xs o = body_filled_by_one_record body x xs ∙ ap (λ b. body_filled_by_taken b body x xs) (sym o.by_room) ∙ ap (λ l. let p : List ℕ × List (List ℕ) = (l, x ∷ xs) in p) (sym o.body)

pub body_filled_with_no_records : (body : List ℕ) → body_filled body [] ≡ (body, [])
unfolding body_filled
body_filled_with_no_records body = refl

-- ---- one item of a section

pub one_sub_record_item_offered : (x old new : List ℕ) (taken : Bool) → IsOffered x old new taken → IsItemOffered (x ∷ []) old new taken
one_sub_record_item_offered x old new true o more = body_filled_past_taken_record old x new more o
one_sub_record_item_offered x old new false o more = body_filled_before_refused_record old x new more o

pub numbered_sub_record_offered : (ids : IdSize) (image : Image) (section : NumberedSection) (k : ℕ) (given : Option SubRecord) (sub : SubRecord) (s : IdSize) (cs : List Class) (old new : List ℕ) (taken : Bool) → slice_get (items_of ids image (Numbered section)) k ≡ Some (map (sub_record_bytes ids image.classes) (option_to_list given))
    → given ≡ Some sub → s ≡ ids → cs ≡ image.classes → IsOffered (sub_record_bytes s cs sub) old new taken → (item : List (List ℕ)) → slice_get (items_of ids image (Numbered section)) k ≡ Some item → IsItemOffered item old new taken
numbered_sub_record_offered ids image section k given sub s cs old new taken a g x y o item b =
    let one : sub_record_bytes s cs sub ∷ [] ≡ map (sub_record_bytes ids image.classes) (option_to_list given) = ap₂ (λ t ds. sub_record_bytes t ds sub ∷ []) x y ∙ ap (λ r. map (sub_record_bytes ids image.classes) (option_to_list r)) (sym g) in
    subst (λ i. IsItemOffered i old new taken) (one ∙ same_Some _ item (sym a ∙ b)) (one_sub_record_item_offered (sub_record_bytes s cs sub) old new taken o)

-- an item without a sub-record is taken
pub item_without_record_is_taken : (ids : IdSize) (image : Image) (section : NumberedSection) (k : ℕ) (given : Option SubRecord) (old : List ℕ) → slice_get (items_of ids image (Numbered section)) k ≡ Some (map (sub_record_bytes ids image.classes) (option_to_list given)) → given ≡ None
    → (item : List (List ℕ)) → slice_get (items_of ids image (Numbered section)) k ≡ Some item → IsItemOffered item old old true
item_without_record_is_taken ids image section k given old a g item b =
    let none : [] ≡ map (sub_record_bytes ids image.classes) (option_to_list given) = ap (λ r. map (sub_record_bytes ids image.classes) (option_to_list r)) (sym g) in
    subst (λ i. IsItemOffered i old old true) (none ∙ same_Some _ item (sym a ∙ b)) (λ more. refl)

-- the item is taken, and the next one's turn has come
pub taken_item_fills_body : (ids : IdSize) (image : Image) (s : Section) (n start : ℕ) (item : List (List ℕ)) (old now new : List ℕ) (taken : Bool) → slice_get (items_of ids image s) n ≡ Some item → taken ≡ true → IsItemOffered item now new taken
    → body_filled old (from_item ids image s start) ≡ body_filled now (from_item ids image s n) → body_filled old (from_item ids image s start) ≡ body_filled new (from_item ids image s (n + 1))
taken_item_fills_body ids image s n start item old now new taken e t o h = h ∙ ap (body_filled now) (section_from_item_onwards ids image s n item e) ∙ subst (IsItemOffered item now new) t o (from_item ids image s (n + 1))

-- the item isn't taken, and is the first that is left
pub item_not_taken_is_left : (ids : IdSize) (image : Image) (s : Section) (n start : ℕ) (item : List (List ℕ)) (old now new : List ℕ) (taken : Bool) → slice_get (items_of ids image s) n ≡ Some item → taken ≡ false → IsItemOffered item now new taken
    → body_filled old (from_item ids image s start) ≡ body_filled now (from_item ids image s n) → body_filled old (from_item ids image s start) ≡ (new, from_item ids image s n)
item_not_taken_is_left ids image s n start item old now new taken e t o h =
    h ∙ ap (body_filled now) (section_from_item_onwards ids image s n item e) ∙ subst (IsItemOffered item now new) t o (from_item ids image s (n + 1))
    ∙ ap (λ l. let p : List ℕ × List (List ℕ) = (new, l) in p) (sym (section_from_item_onwards ids image s n item e))

-- all items are taken
pub all_items_fill_body : (ids : IdSize) (image : Image) (s : Section) (n start : ℕ) (old now : List ℕ) → length (items_of ids image s) ≤ n → body_filled old (from_item ids image s start) ≡ body_filled now (from_item ids image s n) → body_filled old (from_item ids image s start) ≡ body_filled now (records_in ids image (after s))
all_items_fill_body ids image s n start old now l h = h ∙ ap (body_filled now) (section_past_items_goes_on ids image s n l)

-- ---- the whole segment

open_body_takes_within_limit : (body : List ℕ) (n : ℕ) → 0 < length body → takes body n ≡ nat_le (length body + n) segment_limit
open_body_takes_within_limit [] n h = absurd (omega (arith, h))
open_body_takes_within_limit (b ∷ bs) n h = refl

-- what an open segment still takes, and what is left, is as the cutting has it
pub record IsCutSo (body : List ℕ) (cut : Cutting) (done : List ℕ × List (List ℕ)) : Type 0 where
  pub body_is : done.0 ≡ body ++ concat cut.0
  pub left : segments_of segment_limit done.1 ≡ cut.1

cut_agrees_with_body_filled : (body : List ℕ) (xs : List (List ℕ)) → 0 < length body → IsCutSo body (cut_at segment_limit (length body) xs) (body_filled body xs)
unfolding body_filled cut_at segments_of
cut_agrees_with_body_filled body [] h = record { body_is = sym (append-nil body); left = refl }
cut_agrees_with_body_filled body (x ∷ xs) h =
    subst (IsCutSo body (cut_at segment_limit (length body) (x ∷ xs))) (sym (body_filled_by_one_record body x xs ∙ ap (λ b. body_filled_by_taken b body x xs) (open_body_takes_within_limit body (length x) h)))
    (go (nat_le (length body + length x) segment_limit) (cut_agrees_with_body_filled (body ++ x) xs (omega (arith, length-append body x, h))))
  where
    go : (b : Bool) → IsCutSo (body ++ x) (cut_at segment_limit (length (body ++ x)) xs) (body_filled (body ++ x) xs) → IsCutSo body (cut_by b segment_limit (length body) x xs) (body_filled_by_taken b body x xs)
    go true r =
        let m = subst (λ n. IsCutSo (body ++ x) (cut_at segment_limit n xs) (body_filled (body ++ x) xs)) (length-append body x) r in
        record { body_is = m.body_is ∙ append_assoc body x (concat (cut_at segment_limit (length body + length x) xs).0); left = m.left }
    go false r = record { body_is = sym (append-nil body); left = refl }

-- a segment begins with a sub-record that has bytes
pub segment_record_then_others : (x : List ℕ) (xs : List (List ℕ)) → 0 < length x → segment_records (x ∷ xs) ≡ record_of 0x1c (body_filled [] (x ∷ xs)).0 ∷ segment_records (body_filled [] (x ∷ xs)).1
unfolding segment_records segments_of body_filled
segment_record_then_others x xs h =
    let c = cut_agrees_with_body_filled x xs h in
    ap₂ (λ a b. record_of 0x1c a ∷ map (λ s. record_of 0x1c (concat s)) b) (sym c.body_is) (sym c.left)

-- the body of a segment that begins with a sub-record that has bytes has bytes
pub filled_body_has_bytes : (x : List ℕ) (xs : List (List ℕ)) → 0 < length x → 0 < length (body_filled [] (x ∷ xs)).0
unfolding body_filled
filled_body_has_bytes x xs h =
    let c = cut_agrees_with_body_filled x xs h in
    omega (arith, ap length c.body_is, length-append x (concat (cut_at segment_limit (length x) xs).0), h)
