-- A sub-record offered to a segment, which is written where there is room.
use Rattle.std.proofs.Common.{◌≡◌, ℕ, ◌+◌, ◌≤◌, Bool, true, false, List, [], ◌∷◌, ◌++◌, length, take, drop, refl, sym, ap, ◌∙◌, subst, arith, length-append, inl, inr}
use Rattle.std.proofs.lemmas.List.{length-drop, drop-append-le, drop_all, take_all, append-nil}
use Rattle.std.proofs.lemmas.Bool.Decides.{leb_tells}
use Rattle.hprof_text.specs.SegmentContents.{Buffered, HasRoom}
use Rattle.hprof_text.specs.SegmentFilling.{takes, IsOffered}
use Rattle.hprof_text.specs.Segments.{segment_limit}
use Rattle.hprof_text.specs.Sizes.{sub_record_limit}

-- what a segment's buffer has
abbrev pub IsOfSegment : Buffered → Type 0
IsOfSegment b =
    (9 ≤ length b.written) × (length b.written ≤ 9 + sub_record_limit) × (9 + segment_limit ≤ b.limit)

taken_record_keeps_body_within : (most : ℕ) (body : List ℕ) (n : ℕ) → takes body n ≡ true → segment_limit ≤ most → n ≤ most → length body + n ≤ most
taken_record_keeps_body_within most [] n t s h = omega (arith, h)
taken_record_keeps_body_within most (b ∷ bs) n t s h = elim (leb_tells (length (b ∷ bs) + n) segment_limit) [ inl p ↦ omega (arith, p.1, s) | inr p ↦ absurd (differ (sym t ∙ p.0)) ]
  where
    differ : ◌≡◌ {A = Bool} true false → ⊥
    differ e = cc

-- there is room for a short record
pub taken_record_has_room : (b : Buffered) (body x : List ℕ) (n : ℕ) → drop 9 b.written ≡ body → IsOfSegment b → n ≡ length x → n ≤ segment_limit → takes body n ≡ true → HasRoom b x
taken_record_has_room b body x n v i e h t = omega (arith, taken_record_keeps_body_within segment_limit body n t (omega arith) h, ap length v, length-drop 9 b.written, i.0, i.2, e)

pub written_segment_is_segment : (b c : Buffered) (body x : List ℕ) (n : ℕ) → drop 9 b.written ≡ body → IsOfSegment b → n ≡ length x → n ≤ sub_record_limit → takes body n ≡ true → c.written ≡ b.written ++ x → c.limit ≡ b.limit → IsOfSegment c
written_segment_is_segment b c body x n v i e h t w l =
    let all : length c.written ≡ length b.written + length x = ap length w ∙ length-append b.written x in
    (omega (arith, i.0, all), omega (arith, all, taken_record_keeps_body_within sub_record_limit body n t (omega arith) h, ap length v, length-drop 9 b.written, i.0, e), omega (arith, i.2, l))

-- a segment's buffer to which room was added
pub reserved_segment_is_segment : (b c : Buffered) → IsOfSegment b → c.written ≡ b.written → b.limit ≤ c.limit → IsOfSegment c
reserved_segment_is_segment b c i w l = (omega (arith, i.0, ap length w), omega (arith, i.1, ap length w), omega (arith, i.2, l))

pub taken_record_is_offered : (b c : Buffered) (body x : List ℕ) (n : ℕ) (taken : Bool) → drop 9 b.written ≡ body → IsOfSegment b → n ≡ length x → taken ≡ takes body n → taken ≡ true → c.written ≡ b.written ++ x → IsOffered x body (drop 9 c.written) taken
taken_record_is_offered b c body x n taken v i e t y w =
    let d : drop 9 c.written ≡ body ++ x = ap (drop 9) w ∙ drop-append-le 9 b.written x i.0 ∙ ap (λ l. l ++ x) v in
    subst (IsOffered x body (drop 9 c.written)) (sym y) (record { by_room = sym y ∙ t ∙ ap (takes body) e; body = d })

pub record_left_is_offered : (body x : List ℕ) (n : ℕ) (taken : Bool) → n ≡ length x → taken ≡ takes body n → taken ≡ false → IsOffered x body body taken
record_left_is_offered body x n taken e t y = subst (IsOffered x body body) (sym y) (record { by_room = sym y ∙ t ∙ ap (takes body) e; body = refl })

-- nine bytes written over the first of a vector
pub nine_bytes_over_first_nine : (size : ℕ) (head items written given : List ℕ) → given ≡ head ++ drop 9 items → size ≡ length items → items ≡ written → 9 ≤ length written → length head ≡ 9
    → take size (given ++ drop (length given) items) ≡ head ++ drop 9 written
nine_bytes_over_first_nine size head items written given g s w h n =
    let l : length given ≡ length items = omega (arith, ap length g, length-append head (drop 9 items), length-drop 9 items, n, h, ap length w) in
    ap (λ d. take size (given ++ d)) (drop_all (length given) items (omega (arith, l)))
    ∙ ap (take size) (append-nil given)
    ∙ take_all size given (omega (arith, l, s))
    ∙ g
    ∙ ap (λ m. head ++ drop 9 m) w
