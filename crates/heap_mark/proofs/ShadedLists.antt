-- What shading a list of ids does, and what undoes it.
use Rattle.std.proofs.Common.{◌≡◌, ◌≢◌, ℕ, ◌-◌, Bool, true, false, List, [], ◌∷◌, ◌++◌, length, take, drop, inl, inr, refl, sym, ap, subst, ◌∙◌, arith}
use Rattle.std.specs.Prelude.{◌⊎◌, ◌↔◌, Contains, nat_eq, fold, option_map, if◌then◌else◌}
use Rattle.std.specs.List.{IsDistinct}
use Rattle.std.proofs.lemmas.Bool.{cases_eq}
use Rattle.std.proofs.lemmas.Cmp.{nat_eq_equiv}
use Rattle.std.proofs.lemmas.List.{append_assoc, append-nil, length-append, take_at, drop_at}
use Rattle.std.proofs.lemmas.List.Elements.{Contains-append_left, Contains-push, Contains-push_cases}
use Rattle.std.proofs.lemmas.Map.Keys.{IsDistinct-push}
use Rattle.heap_class.proofs.Lists.{item_first_or_in_rest, list_contains_its_first, list_contains_later_item, no_item_equals_missing_number, disjoint_lists_join_distinct, fold_append}
use Rattle.heap_region.specs.Regions.{Object, Region, object_of, ref_of}
use Rattle.heap_mark.specs.MarkSteps.{MarkState, is_white, with_mark_of, shaded, unshaded}
use Rattle.heap_mark.proofs.Marks.{mark_of_white_object_undone, ref_marked, only_marked, without_marks, marked_there, marked_elsewhere, not_white_there, white_elsewhere}

-- ---- a list of ids

-- the marks of the ids come off
abbrev pub without_marks_of : List ℕ → List Region → List Region
without_marks_of xs regions = fold (λ regions x. with_mark_of false x regions) regions xs

-- What shading the ids of xs does: the new ones, which are the distinct white ones, go on top of the
-- gray stack; just these are marked; nothing but marks changes; and the marks come off, newest first.
pub record IsShading (s t : MarkState) (xs new : List ℕ) : Type 0 where
  pub gray : t.gray ≡ new ++ s.gray
  pub log : t.log ≡ s.log
  pub drained : t.drained ≡ s.drained
  pub phase : t.phase ≡ s.phase
  pub each : (x : ℕ) → Contains new x ↔ (Contains xs x × (is_white s.regions x ≡ true))
  pub distinct : IsDistinct nat_eq new
  pub places : (x : ℕ) → ref_of t.regions x ≡ ref_of s.regions x
  pub marked : (x : ℕ) → Contains new x → object_of t.regions x ≡ option_map {T = Object} (λ o. record o { mark = true }) (object_of s.regions x)
  pub others : (x : ℕ) → (Contains new x → ⊥) → object_of t.regions x ≡ object_of s.regions x
  pub rest : without_marks t.regions ≡ without_marks s.regions
  pub back : without_marks_of new t.regions ≡ s.regions

-- the ids that shading the list adds, newest first
unfoldable pub newly_shaded : List ℕ → MarkState → List ℕ
newly_shaded [] s = []
newly_shaded (x ∷ xs) s = newly_shaded xs (shaded s x) ++ (if is_white s.regions x then x ∷ [] else [])

-- one id first, which is white, and then the others
white_first : (s t : MarkState) (x : ℕ) (xs new : List ℕ) → is_white s.regions x ≡ true → IsShading (record s { regions = with_mark_of true x s.regions; gray = x ∷ s.gray }) t xs new → IsShading s t (x ∷ xs) (new ++ x ∷ [])
unfolding IsDistinct
white_first s t x xs new white h = record {
  gray = h.gray ∙ sym (append_assoc new (x ∷ []) s.gray);
  log = h.log;
  drained = h.drained;
  phase = h.phase;
  each = λ y. (to y, from y);
  distinct = IsDistinct-push nat_eq_equiv new x h.distinct (no_item_equals_missing_number new x not_again);
  places = λ y. h.places y ∙ ref_marked true x y s.regions;
  marked = marked;
  others = λ y absent. h.others y (λ c. absent (Contains-append_left new (x ∷ []) y c)) ∙ marked_elsewhere true x y s.regions (λ e. absent (subst (Contains (new ++ x ∷ [])) e (Contains-push new x)));
  rest = h.rest ∙ only_marked true x s.regions;
  back = fold_append _ t.regions new (x ∷ []) ∙ ap (with_mark_of false x) h.back ∙ mark_of_white_object_undone x s.regions white;
}
  where
    after : List Region
    after = with_mark_of true x s.regions

    -- a later one is another
    other : (y : ℕ) → Contains new y → x ≢ y
    other y c e = let p : is_white after y ≡ true = ((h.each y).0 c).1 in let q : is_white after y ≡ false = ap (is_white after) (sym e) ∙ not_white_there x s.regions in cc

    not_again : Contains new x → ⊥
    not_again c = other x c refl

    to : (y : ℕ) → Contains (new ++ x ∷ []) y → Contains (x ∷ xs) y × (is_white s.regions y ≡ true)
    to y c = go (Contains-push_cases new x y c)
      where
        go : Contains new y ⊎ (x ≡ y) → Contains (x ∷ xs) y × (is_white s.regions y ≡ true)
        go (inl d) = (list_contains_later_item x y xs ((h.each y).0 d).0, sym (white_elsewhere true x y s.regions (other y d)) ∙ ((h.each y).0 d).1)
        go (inr e) = (list_contains_its_first x y xs e, ap (is_white s.regions) (sym e) ∙ white)

    from : (y : ℕ) → Contains (x ∷ xs) y × (is_white s.regions y ≡ true) → Contains (new ++ x ∷ []) y
    from y c = go (cases_eq x y) (item_first_or_in_rest x y xs c.0)
      where
        go : (x ≡ y) ⊎ (x ≡ y → ⊥) → (x ≡ y) ⊎ Contains xs y → Contains (new ++ x ∷ []) y
        go (inl e) d = subst (Contains (new ++ x ∷ [])) e (Contains-push new x)
        go (inr n) (inl e) = absurd (n e)
        go (inr n) (inr d) = Contains-append_left new (x ∷ []) y ((h.each y).1 (d, white_elsewhere true x y s.regions n ∙ c.1))

    marked : (y : ℕ) → Contains (new ++ x ∷ []) y → object_of t.regions y ≡ option_map {T = Object} (λ o. record o { mark = true }) (object_of s.regions y)
    marked y c = go (Contains-push_cases new x y c)
      where
        go : Contains new y ⊎ (x ≡ y) → object_of t.regions y ≡ option_map {T = Object} (λ o. record o { mark = true }) (object_of s.regions y)
        go (inl d) = h.marked y d ∙ ap (option_map {T = Object} (λ o. record o { mark = true })) (marked_elsewhere true x y s.regions (other y d))
        go (inr e) = subst (λ (z : ℕ). object_of t.regions z ≡ option_map {T = Object} (λ o. record o { mark = true }) (object_of s.regions z)) e (h.others x not_again ∙ marked_there true x s.regions)

-- one id first, which isn't white, and then the others
shading_past_nonwhite_id : (s t : MarkState) (x : ℕ) (xs new : List ℕ) → is_white s.regions x ≡ false → IsShading s t xs new → IsShading s t (x ∷ xs) new
shading_past_nonwhite_id s t x xs new dark h =
    let each : (y : ℕ) → Contains new y ↔ (Contains (x ∷ xs) y × (is_white s.regions y ≡ true)) = (λ y. (λ c. (list_contains_later_item x y xs ((h.each y).0 c).0, ((h.each y).0 c).1), from y)) in
    assumption
  where
    from : (y : ℕ) → Contains (x ∷ xs) y × (is_white s.regions y ≡ true) → Contains new y
    from y c = go (item_first_or_in_rest x y xs c.0)
      where
        go : (x ≡ y) ⊎ Contains xs y → Contains new y
        go (inl e) = let p : is_white s.regions y ≡ false = ap (is_white s.regions) (sym e) ∙ dark in let q : is_white s.regions y ≡ true = c.1 in absurd (cc (p, q))
        go (inr d) = (h.each y).1 (d, c.1)

shading_with_one_id_first : (s t : MarkState) (x : ℕ) (xs new : List ℕ) → IsShading (shaded s x) t xs new → IsShading s t (x ∷ xs) (new ++ (if is_white s.regions x then x ∷ [] else []))
unfolding shaded
shading_with_one_id_first s t x xs new h = go (is_white s.regions x) refl h
  where
    go : (b : Bool) → is_white s.regions x ≡ b → IsShading (if b then record s { regions = with_mark_of true x s.regions; gray = x ∷ s.gray } else s) t xs new → IsShading s t (x ∷ xs) (new ++ (if b then x ∷ [] else []))
    go true e h = white_first s t x xs new e h
    go false e h = subst (IsShading s t (x ∷ xs)) (sym (append-nil new)) (shading_past_nonwhite_id s t x xs new e h)

-- shading a list of ids is such a step
pub shading_of_a_list : (xs : List ℕ) (s : MarkState) → IsShading s (fold shaded s xs) xs (newly_shaded xs s)
unfolding newly_shaded IsDistinct
shading_of_a_list [] s = record { gray = refl; log = refl; drained = refl; phase = refl; each = λ x. (λ c. absurd (omega (arith, c.1)), λ c. absurd (omega (arith, c.0.1))); distinct = tt; places = λ x. refl; marked = λ x c. absurd (omega (arith, c.1)); others = λ x absent. refl; rest = refl; back = refl }
shading_of_a_list (x ∷ xs) s = shading_with_one_id_first s (fold shaded (shaded s x) xs) x xs _ (shading_of_a_list xs (shaded s x))

-- what was shaded is undone by as many as the stack has grown
pub unshaded_shading : (s t : MarkState) (xs new : List ℕ) (n : ℕ) → IsShading s t xs new → n ≡ length t.gray - length s.gray → unshaded n t ≡ s
unfolding unshaded
unshaded_shading s t xs new n h grown = λ i. record {
  regions = (ap (λ (l : List ℕ). without_marks_of l t.regions) (ap (take n) h.gray ∙ take_at new s.gray n len) ∙ h.back) i;
  gray = (ap (drop n) h.gray ∙ drop_at new s.gray n len) i;
  log = h.log i;
  drained = h.drained i;
  phase = h.phase i;
}
  where
    len : length new ≡ n
    len = omega (arith, ap length h.gray, length-append new s.gray)

-- the gray stack stays distinct, where nothing on it was white
pub gray_distinct : (s t : MarkState) (xs new : List ℕ) → IsShading s t xs new → IsDistinct nat_eq s.gray → ((x : ℕ) → Contains s.gray x → is_white s.regions x ≡ false) → IsDistinct nat_eq t.gray
gray_distinct s t xs new h distinct dark = subst (IsDistinct nat_eq) (sym h.gray) (disjoint_lists_join_distinct new s.gray h.distinct distinct (λ x a b. apart (is_white s.regions x) ((h.each x).0 a).1 (dark x b)))
  where
    apart : (b : Bool) → b ≡ true → b ≡ false → ⊥
    apart true p q = cc
    apart false p q = cc
