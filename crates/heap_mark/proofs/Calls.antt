-- What the marker's calls rest on: their refusals, and how each is undone.
use Rattle.std.proofs.Common.{◌≡◌, ◌⊎◌, ℕ, ◌+◌, ◌-◌, ◌*◌, ◌<◌, ◌≤◌, Bool, true, false, not, cond, List, [], ◌∷◌, length, refl, sym, ap, subst, ◌∙◌, Some, None, IsSome, Contains, fold, arith}
use mathlib.Core.Logic.{inl, inr}
use Rattle.std.specs.Prelude.{nat_eq, nat_lt, slice_index, ◌==◌}
use Rattle.std.specs.List.{IsDistinct}
use Rattle.std.proofs.lemmas.Bool.{eq-eqb, ne_eqb, lt-ltb, le-ltb}
use Rattle.std.proofs.lemmas.List.{length-append}
use Rattle.heap_class.specs.declared.Refusal.TheVariants.{AlreadyMarking, NotMarking, NothingToMark, NothingToDrain}
use Rattle.heap_class.specs.Refusals.{first_refusal}
use Rattle.heap_class.specs.Classes.{Class}
use Rattle.heap_class.proofs.Refusals.{no_refusal_test_holds}
use Rattle.heap_region.specs.Regions.{Region, object_of}
use Rattle.heap_region.specs.Pool.{RegionPool}
use Rattle.heap_region.specs.Legal.{IsRegionPool}
use Rattle.heap_region.proofs.References.{list_has_items_of_tail, empty_list_has_no_member}
use Rattle.heap_mark.specs.declared.Phase.{Phase}
use Rattle.heap_mark.specs.declared.Phase.TheVariants.{Idle, Marking}
use Rattle.heap_mark.specs.MarkSteps.{MarkState, is_marking, shaded, unshaded, children_of, snap_refusal, snapped, unsnapped, mark_refusal, marked, unmarked, drain_refusal, drained_once, undrained}
use Rattle.heap_mark.specs.Marker.{MarkerState, at_work, after_work, IsGraySound, IsIdle}
use Rattle.heap_mark.proofs.ShadedLists.{IsShading, newly_shaded, shading_of_a_list, unshaded_shading}
use Rattle.heap_mark.proofs.Shades.{Shades, IsWhite, IsShadedAt, shades_all}
use Rattle.heap_mark.proofs.UndoneSteps.{snap_undone, mark_undone, drain_undone}
use Rattle.heap_mark.proofs.Room.{distinct_ids_fit_the_cells}

-- ---- refusals

pub snap_refused : (s : MarkState) → is_marking s.phase ≡ true → snap_refusal s ≡ Some AlreadyMarking
unfolding snap_refusal first_refusal
snap_refused s h = ap (λ (b : Bool). cond b (Some AlreadyMarking) None) h

pub snap_free : (s : MarkState) → is_marking s.phase ≡ false → snap_refusal s ≡ None
unfolding snap_refusal first_refusal
snap_free s h = ap (λ (b : Bool). cond b (Some AlreadyMarking) None) h

pub mark_idle : (s : MarkState) → is_marking s.phase ≡ false → mark_refusal s ≡ Some NotMarking
unfolding mark_refusal first_refusal
mark_idle s h = ap (λ (b : Bool). cond (not b) (Some NotMarking) (cond (length s.gray == 0) (Some NothingToMark) None)) h

pub mark_refused_without_gray : (s : MarkState) → is_marking s.phase ≡ true → length s.gray ≡ 0 → mark_refusal s ≡ Some NothingToMark
unfolding mark_refusal first_refusal
mark_refused_without_gray s h e = ap (λ (b : Bool). cond (not b) (Some NotMarking) (cond (length s.gray == 0) (Some NothingToMark) None)) h ∙ ap (λ (b : Bool). cond b (Some NothingToMark) None) (eq-eqb (length s.gray) 0 e)

pub mark_free : (s : MarkState) → is_marking s.phase ≡ true → 0 < length s.gray → mark_refusal s ≡ None
unfolding mark_refusal first_refusal
mark_free s h e = ap (λ (b : Bool). cond (not b) (Some NotMarking) (cond (length s.gray == 0) (Some NothingToMark) None)) h ∙ ap (λ (b : Bool). cond b (Some NothingToMark) None) (ne_eqb (length s.gray) 0 (λ z. absurd (omega (arith, e, z))))

pub drain_idle : (s : MarkState) → is_marking s.phase ≡ false → drain_refusal s ≡ Some NotMarking
unfolding drain_refusal first_refusal
drain_idle s h = ap (λ (b : Bool). cond (not b) (Some NotMarking) (cond (not (nat_lt s.drained (length s.log))) (Some NothingToDrain) None)) h

pub drain_none : (s : MarkState) → is_marking s.phase ≡ true → length s.log ≤ s.drained → drain_refusal s ≡ Some NothingToDrain
unfolding drain_refusal first_refusal
drain_none s h e = ap (λ (b : Bool). cond (not b) (Some NotMarking) (cond (not (nat_lt s.drained (length s.log))) (Some NothingToDrain) None)) h ∙ ap (λ (b : Bool). cond (not b) (Some NothingToDrain) None) (le-ltb s.drained (length s.log) e)

pub drain_free : (s : MarkState) → is_marking s.phase ≡ true → s.drained < length s.log → drain_refusal s ≡ None
unfolding drain_refusal first_refusal
drain_free s h e = ap (λ (b : Bool). cond (not b) (Some NotMarking) (cond (not (nat_lt s.drained (length s.log))) (Some NothingToDrain) None)) h ∙ ap (λ (b : Bool). cond (not b) (Some NothingToDrain) None) (lt-ltb s.drained (length s.log) e)

-- ---- the stack

-- shading takes nothing off it
pub stack_grows : (xs : List ℕ) (s : MarkState) → length s.gray ≤ length (fold shaded s xs).gray
stack_grows xs s = let h : IsShading s (fold shaded s xs) xs (newly_shaded xs s) = shading_of_a_list xs s in omega (arith, ap length h.gray, length-append (newly_shaded xs s) s.gray)

-- without its top
pub gray_sound_without_top : (regions : List Region) (m : MarkerState) (x : ℕ) (rest : List ℕ) → IsGraySound regions m → m.gray ≡ x ∷ rest → IsGraySound regions (record m { gray = rest })
unfolding IsDistinct
gray_sound_without_top regions m x rest h e = record {
  distinct = (subst (IsDistinct nat_eq) e h.distinct).1;
  marked = λ y c. h.marked y (subst (λ (l : List ℕ). Contains l y) (sym e) (list_has_items_of_tail x rest y c));
  ids = h.ids;
}

pub gray_named : (regions : List Region) (m : MarkerState) → IsGraySound regions m → (x : ℕ) → Contains m.gray x → IsSome (object_of regions x)
gray_named regions m h x c = rw (h.marked x c).1 refl

pub within_room : (p : RegionPool) (m : MarkerState) → IsRegionPool p → IsGraySound p.regions m → length m.gray ≤ m.room
within_room p m legal h = let few : length m.gray ≤ 256 * length p.regions = distinct_ids_fit_the_cells p m.gray legal h.distinct (gray_named p.regions m h) in omega (arith, few, h.ids)

-- ---- states

pub at_work_after : (p q : RegionPool) (m n : MarkerState) (t : MarkState) → n ≡ after_work t m → q ≡ record p { regions = t.regions } → at_work q.regions n ≡ t
at_work_after p q m n t is pool = λ i. at_work (pool i).regions (is i)

pub marked_is : (classes : List Class) (s : MarkState) (x : ℕ) (rest : List ℕ) → s.gray ≡ x ∷ rest → marked classes s ≡ fold shaded (record s { gray = rest }) (children_of classes s.regions x)
unfolding marked
marked_is classes s x rest e = ap (λ (g : List ℕ). marked classes (record s { gray = g })) e

-- ---- undoing

pub drain_undone_gives_state_before : (before s : MarkState) (n : ℕ) → s ≡ drained_once before → n ≡ length s.gray - length before.gray → undrained n s ≡ before
drain_undone_gives_state_before before s n is grown = ap (λ (k : ℕ). undrained k s) (grown ∙ ap (λ (t : MarkState). length t.gray - length before.gray) is) ∙ ap (undrained (length (drained_once before).gray - length before.gray)) is ∙ drain_undone before

pub mark_back_to : (before s : MarkState) (classes : List Class) (parent n : ℕ) → mark_refusal before ≡ None → s ≡ marked classes before → parent ≡ slice_index before.gray 0 → n ≡ length s.gray + 1 - length before.gray → unmarked parent n s ≡ before
unfolding mark_refusal
mark_back_to before s classes parent n free is top grown =
    ap (λ (x : ℕ). unmarked x n s) top
    ∙ ap (λ (k : ℕ). unmarked (slice_index before.gray 0) k s) (grown ∙ ap (λ (t : MarkState). length t.gray + 1 - length before.gray) is)
    ∙ ap (unmarked (slice_index before.gray 0) (length (marked classes before).gray + 1 - length before.gray)) is
    ∙ mark_undone classes before (no_refusal_test_holds ((not (is_marking before.phase), NotMarking) ∷ (length before.gray == 0, NothingToMark) ∷ []) free).1.0

pub snap_back : (before s : MarkState) (roots : List ℕ) → IsIdle before → s ≡ snapped roots before → unsnapped s ≡ before
snap_back before s roots h is = ap unsnapped is ∙ snap_undone roots before h.gray h.phase h.unmarked

-- all of the stack is taken off
pub snap_unshaded : (before s : MarkState) (roots : List ℕ) (n : ℕ) → IsIdle before → s ≡ snapped roots before → n ≡ length s.gray → record (unshaded n s) { phase = Idle } ≡ unsnapped s
unfolding snapped
snap_unshaded before s roots n h is all =
    ap (λ (t : MarkState). record (unshaded n t) { phase = Idle }) is
    ∙ ap (λ (t : MarkState). record t { phase = Idle }) (unshaded_shading start (fold shaded start roots) roots _ n (shading_of_a_list roots start) (omega (arith, all, ap (λ (t : MarkState). length t.gray) is, ap length h.gray)))
    ∙ ap (λ (p : Phase). record before { phase = p }) (sym h.phase)
    ∙ sym (snap_back before s roots h is)
  where
    start : MarkState
    start = record before { phase = Marking }

pub snap_named : (before s : MarkState) (roots : List ℕ) → IsIdle before → s ≡ snapped roots before → (x : ℕ) → Contains s.gray x → IsSome (object_of s.regions x)
unfolding snapped
snap_named before s roots h is x c = subst (λ (t : MarkState). IsSome (object_of t.regions x)) (sym is) (named (all.new_gray x (subst (λ (t : MarkState). Contains t.gray x) is c)) (all.each x))
  where
    start : MarkState
    start = record before { phase = Marking }

    all : Shades roots start (fold shaded start roots)
    all = shades_all roots start

    named : Contains start.gray x ⊎ (Contains roots x × IsWhite start.regions x) → (object_of (fold shaded start roots).regions x ≡ object_of start.regions x) ⊎ IsShadedAt start (fold shaded start roots) x → IsSome (object_of (fold shaded start roots).regions x)
    named (inl d) e = absurd (empty_list_has_no_member x (subst (λ (l : List ℕ). Contains l x) h.gray d))
    named (inr d) (inl e) = rw (e, d.1.1) refl
    named (inr d) (inr g) = rw g.3 refl
