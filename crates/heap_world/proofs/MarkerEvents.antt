-- The marker's events but a finish: snap, mark and drain, what they leave, and what undoes them.
use Rattle.std.proofs.Common.{◌≡◌, ◌⊎◌, ℕ, suc, ◌+◌, ◌<◌, true, false, not, List, [], ◌∷◌, length, drop, refl, sym, ap, subst, ◌∙◌, Some, None, Contains, fold, get_or, arith, Option, IsSome, take, Result}
use mathlib.Core.Logic.{inl, inr}
use Rattle.std.specs.Prelude.{slice_index, nat_eq, nat_lt, ◌==◌, OnOk, OnErr}
use Rattle.std.specs.List.{IsDistinct}
use Rattle.std.proofs.Math.Seq.{drop-cons}
use Rattle.std.proofs.lemmas.List.Elements.{Contains-get_or}
use Rattle.heap_class.proofs.Refusals.{no_refusal_test_holds}
use Rattle.heap_region.specs.Regions.{Object, object_of, Region}
use Rattle.heap_region.proofs.ChangedLookups.{place_of_object_of_id}
use Rattle.heap_region.proofs.References.{list_has_its_head, list_has_items_of_tail, member_is_head_or_later, empty_list_has_no_member}
use Rattle.heap_mark.specs.declared.Phase.{Phase}
use Rattle.heap_mark.specs.declared.Phase.TheVariants.{Idle, Marking}
use Rattle.heap_mark.specs.MarkSteps.{MarkState, shaded, children_of, snapped, marked, drained_once, snap_refusal, mark_refusal, drain_refusal, with_mark_of, unsnapped, unshaded, unmarked, undrained}
use Rattle.heap_mark.proofs.Shades.{Shades, IsShadedAt, as_marked, shades_all, children_same, length_marked, shades_one}
use Rattle.heap_world.specs.State.{HeapState, marking_of, with_marking, pool_of, with_pool}
use Rattle.heap_world.specs.Reach.{Names, IsPath, IsObject, Reaches}
use Rattle.heap_world.specs.Legal.{IsQuiet, IsMarked, IsLive, IsLegal}
use Rattle.heap_world.proofs.Clauses.{HasClauses, legal_heap_has_clauses}
use Rattle.heap_world.specs.Events.{after_snap, after_mark, after_drain}
use Rattle.heap_world.proofs.Tricolour.{Greys, greys_tricolour}
use Rattle.heap_world.proofs.Registers.{object_not_null}
use Rattle.heap_region.specs.Pool.{RegionPool}
use Rattle.heap_world.proofs.Marks.{begun, shaded_heap, marking_is, idle_is, marked_before, greys_of_shades, shaded_legal}
use Rattle.heap_class.specs.declared.Refusal.{Refusal}
use Rattle.heap_class.specs.Refusals.{IsAnswered}
use Rattle.heap_mark.specs.Marker.{MarkerState, at_work, after_work, IsGraySound, IsIdle}
use Rattle.heap_world.specs.HeapParts.{IsSoundHeap}
use Rattle.heap_world.proofs.MarkerParts.{marker_of, with_marker, parts_after_marker_work, work_held, marker_step_keeps_heap_sound, marker_step_makes_state}
use Rattle.heap_world.proofs.Shapes.{NamesLike, KeepsShape}

-- ---- what shading leaves

shaded_phase : (w : HeapState) (g : List ℕ) (d : ℕ) (p : Phase) (xs : List ℕ) → (shaded_heap w g d p xs).phase ≡ p
shaded_phase w g d p xs = (shades_all xs (begun w g d p)).phase

shades_shape : (w : HeapState) (t : MarkState) (xs g : List ℕ) (d : ℕ) (p : Phase) → Shades xs (begun w g d p) t → (x : ℕ) → KeepsShape w (with_marking t w) x
shades_shape w t xs g d p h x o e = go (h.each x)
  where
    go : (object_of t.regions x ≡ object_of w.regions x) ⊎ IsShadedAt (begun w g d p) t x → NamesLike (with_marking t w) o x
    go (inl f) = (o, f ∙ e, refl, refl)
    go (inr s) = (as_marked s.0, s.3, ap (λ (z : Object). z.kind) same, ap (λ (z : Object). length z.words) same)
      where
        same : s.0 ≡ o
        same = let a = s.1 in cc

shaded_shape : (w : HeapState) (g : List ℕ) (d : ℕ) (p : Phase) (xs : List ℕ) (x : ℕ) → KeepsShape w (shaded_heap w g d p xs) x
shaded_shape w g d p xs = shades_shape w _ xs g d p (shades_all xs (begun w g d p))

length_each_unmarked : (xs : List ℕ) (rs : List Region) → length (fold (λ regions x. with_mark_of false x regions) rs xs) ≡ length rs
length_each_unmarked [] rs = refl
length_each_unmarked (x ∷ xs) rs = length_each_unmarked xs (with_mark_of false x rs) ∙ length_marked false x rs

-- ---- snap

pub snap_legal : (w : HeapState) → HasClauses w → snap_refusal (marking_of w) ≡ None → HasClauses (after_snap w)
unfolding snap_refusal after_snap snapped
snap_legal w l accepted = shaded_legal w w.registers w.gray w.drained l (λ x c. c) l.gray_distinct l.drained_within
    (λ x o c e. live x o c e)
    (record { registers = λ x c u. absurd (h.none_white x c u); slots = λ x y m not_gray n u. absurd (elim (marked_before w t w.registers w.gray w.drained Marking h x m) [ inl b ↦ unmarked x b | inr b ↦ not_gray b ]) })
  where
    t : MarkState
    t = fold shaded (begun w w.gray w.drained Marking) w.registers

    h : Shades w.registers (begun w w.gray w.drained Marking) t
    h = shades_all w.registers (begun w w.gray w.drained Marking)

    quiet : IsQuiet w
    quiet = l.idle (idle_is w.phase (no_refusal_test_holds _ accepted).0)

    unmarked : (x : ℕ) → IsMarked w x → ⊥
    unmarked x m = let p = place_of_object_of_id w.regions x m.0 m.1 in let a : m.0.mark ≡ false = quiet.unmarked p.0 m.0 p.2 in let b = m.2 in cc

    live : (x : ℕ) (o : Object) → Contains w.registers x → object_of w.regions x ≡ Some o → o.live ≡ true
    live x o c e = let a = l.registers_live x c (object_not_null w x o e) in let q : o ≡ a.0 = (let r = a.1 in cc) in ap (λ (z : Object). z.live) q ∙ a.2

pub snap_shape : (w : HeapState) (x : ℕ) → KeepsShape w (after_snap w) x
unfolding after_snap snapped
snap_shape w = shaded_shape w w.gray w.drained Marking w.registers

length_snapped : (roots : List ℕ) (s : MarkState) → length (snapped roots s).regions ≡ length s.regions
unfolding snapped
length_snapped roots s = (shades_all roots (record s { phase = Marking })).count

pub snap_held : (w : HeapState) (room : ℕ) (k : MarkerState) (s : RegionPool) (result : Result ℕ Refusal) → IsSoundHeap w room → IsAnswered (snap_refusal (marking_of w)) false result
    → OnOk result (k ≡ after_work (snapped w.registers (marking_of w)) (marker_of w room)) → OnOk result (s ≡ record (pool_of w) { regions = (snapped w.registers (marking_of w)).regions })
    → OnErr result ((k ≡ marker_of w room) × (s ≡ pool_of w)) → IsSoundHeap (with_marker k (with_pool s w)) k.room
unfolding after_snap
snap_held w room k s result h = marker_step_keeps_heap_sound w room (snap_refusal (marking_of w)) (snapped w.registers (marking_of w)) k s result h (snap_legal w (legal_heap_has_clauses w h.legal)) (length_snapped w.registers (marking_of w))

pub snap_made : (w v : HeapState) (room : ℕ) (k : MarkerState) (s : RegionPool) (result : Result ℕ Refusal) → w ≡ v → OnOk result (k ≡ after_work (snapped w.registers (marking_of w)) (marker_of w room))
    → OnOk result (s ≡ record (pool_of w) { regions = (snapped w.registers (marking_of w)).regions }) → OnOk result (with_marker k (with_pool s w) ≡ after_snap v)
unfolding after_snap
snap_made w v room k s result = marker_step_makes_state w v room (λ u. snapped u.registers (marking_of u)) k s result

-- ---- what a snap leaves reached

path_still : (w v : HeapState) → ((x y : ℕ) → Names w x y → Names v x y) → ((x : ℕ) → IsObject w x → IsObject v x) → (x : ℕ) (ys : List ℕ) → IsPath w (IsObject w) x ys → IsPath v (IsObject v) x ys
path_still w v names objects x [] p = objects x p
path_still w v names objects x (y ∷ ys) p = (objects x p.0, names x y p.1, path_still w v names objects y ys p.2)

object_still : (w v : HeapState) (x : ℕ) → KeepsShape w v x → IsObject w x → IsObject v x
object_still w v x h = go (object_of w.regions x) refl
  where
    go : (p : Option Object) → object_of w.regions x ≡ p → IsSome p → IsObject v x
    go None e s = cc
    go (Some o) e s = let q = h o e in subst IsSome (sym q.1) refl

-- what was reached before a snap is reached after it
pub snap_reaches : (w : HeapState) (x : ℕ) → Reaches w x → Reaches (after_snap w) x
unfolding after_snap snapped
snap_reaches w x r = (r.0, r.1, r.2, path_still w (after_snap w) names (λ y. object_still w (after_snap w) y (snap_shape w y)) r.0 r.1 r.3, r.4)
  where
    names : (a b : ℕ) → Names w a b → Names (after_snap w) a b
    names a b n = subst (λ l. Contains l b) (sym (children_same w.classes w.registers (begun w w.gray w.drained Marking) _ (shades_all w.registers (begun w w.gray w.drained Marking)) a)) n

-- ---- a snap is undone

abbrev pub IsSnapped : HeapState → Type 0
IsSnapped v = (before : HeapState) × IsLegal before × (snap_refusal (marking_of before) ≡ None) × (v ≡ after_snap before)

-- before a snap no cycle ran
before_snap : (v : HeapState) (p : IsSnapped v) → IsIdle (marking_of p.0)
unfolding snap_refusal
before_snap v p = record { phase = idle; gray = quiet.gray; unmarked = quiet.unmarked }
  where
    idle : p.0.phase ≡ Idle
    idle = idle_is p.0.phase (no_refusal_test_holds _ p.2).0

    quiet : IsQuiet p.0
    quiet = p.1.idle idle

marking_after_snap : (w v : HeapState) → w ≡ v → (p : IsSnapped v) → marking_of w ≡ snapped p.0.registers (marking_of p.0)
unfolding after_snap
marking_after_snap w v same p = ap (λ (u : HeapState). marking_of u) (same ∙ p.3)

pub snapped_by : (w v : HeapState) → w ≡ v → IsSnapped v → (before : MarkState) × (roots : List ℕ) × IsIdle before × (marking_of w ≡ snapped roots before)
snapped_by w v same p = (marking_of p.0, p.0.registers, before_snap v p, marking_after_snap w v same p)

-- the heap before a snap, by the marker's state before it
heap_before_snap_by_marking : (w v : HeapState) → w ≡ v → (p : IsSnapped v) → with_marking (marking_of p.0) w ≡ p.0
unfolding after_snap
heap_before_snap_by_marking w v same p = ap (with_marking (marking_of p.0)) (same ∙ p.3)

-- wherever a snap led from s to w, s is what it came from
abbrev pub IsUnsnapped : HeapState → MarkerState → RegionPool → Type 0
IsUnsnapped w k s = (before : MarkState) (roots : List ℕ) → IsIdle before → marking_of w ≡ snapped roots before → at_work s.regions k ≡ before

unsnapped_is : (w v : HeapState) (room : ℕ) (k : MarkerState) (s : RegionPool) → w ≡ v → (p : IsSnapped v) → k ≡ after_work (unsnapped (marking_of w)) (marker_of w room)
    → s ≡ record (pool_of w) { regions = (unsnapped (marking_of w)).regions } → IsUnsnapped w k s → unsnapped (marking_of w) ≡ marking_of p.0
unsnapped_is w v room k s same p e f back = sym (λ i. at_work (f i).regions (e i)) ∙ back (marking_of p.0) p.0.registers (before_snap v p) (marking_after_snap w v same p)

pub unsnap_held : (w v : HeapState) (room : ℕ) (k : MarkerState) (s : RegionPool) → IsSoundHeap w room → w ≡ v → IsSnapped v → k ≡ after_work (unsnapped (marking_of w)) (marker_of w room)
    → s ≡ record (pool_of w) { regions = (unsnapped (marking_of w)).regions } → IsUnsnapped w k s → IsSoundHeap (with_marker k (with_pool s w)) k.room
unsnap_held w v room k s h same p e f back = work_held w room (unsnapped (marking_of w)) k s h
    (subst IsLegal (sym (ap (λ (t : MarkState). with_marking t w) undone ∙ heap_before_snap_by_marking w v same p)) p.1)
    (ap (λ (t : MarkState). length t.regions) undone ∙ sym (length_snapped p.0.registers (marking_of p.0)) ∙ sym (ap (λ (t : MarkState). length t.regions) (marking_after_snap w v same p)))
    e f
  where
    undone : unsnapped (marking_of w) ≡ marking_of p.0
    undone = unsnapped_is w v room k s same p e f back

-- a snap that is undone gives the heap before it
pub unsnap_back : (w v : HeapState) (room : ℕ) (k : MarkerState) (s : RegionPool) → w ≡ v → k ≡ after_work (unsnapped (marking_of w)) (marker_of w room)
    → s ≡ record (pool_of w) { regions = (unsnapped (marking_of w)).regions } → IsUnsnapped w k s → (p : IsSnapped v) → with_marker k (with_pool s w) ≡ p.0
unsnap_back w v room k s same e f back p =
    parts_after_marker_work w room (unsnapped (marking_of w)) k s e f ∙ ap (λ (t : MarkState). with_marking t w) (unsnapped_is w v room k s same p e f back) ∙ heap_before_snap_by_marking w v same p

-- ---- mark

top_or_rest : (gray : List ℕ) (x : ℕ) → (length gray == 0) ≡ false → Contains gray x → (x ≡ slice_index gray 0) ⊎ Contains (drop 1 gray) x
top_or_rest [] x h c = cc
top_or_rest (y ∷ ys) x h c = member_is_head_or_later y ys x c

rest_of_gray_is_gray : (gray : List ℕ) (x : ℕ) → Contains (drop 1 gray) x → Contains gray x
rest_of_gray_is_gray [] x c = c
rest_of_gray_is_gray (y ∷ ys) x c = list_has_items_of_tail y ys x c

top_within : (gray : List ℕ) → (length gray == 0) ≡ false → Contains gray (slice_index gray 0)
top_within [] h = cc
top_within (y ∷ ys) h = list_has_its_head y ys

rest_of_gray_is_distinct : (gray : List ℕ) → IsDistinct nat_eq gray → IsDistinct nat_eq (drop 1 gray)
unfolding IsDistinct
rest_of_gray_is_distinct [] d = d
rest_of_gray_is_distinct (y ∷ ys) d = d.1

pub mark_greys : (w : HeapState) → (length w.gray == 0) ≡ false → Greys w (shaded_heap w (drop 1 w.gray) w.drained Marking (children_of w.classes w.regions (slice_index w.gray 0)))
mark_greys w some = greys_of_shades w (fold shaded (begun w (drop 1 w.gray) w.drained Marking) xs) xs (drop 1 w.gray) w.drained Marking (shades_all xs (begun w (drop 1 w.gray) w.drained Marking))
    (λ x c. inr c)
    (λ g x c n. elim (top_or_rest w.gray g some c) [ inl e ↦ inl (subst (λ k. Names w k x) e n) | inr r ↦ inr r ])
  where
    xs : List ℕ
    xs = children_of w.classes w.regions (slice_index w.gray 0)

is_object_live : (w : HeapState) (x : ℕ) (o : Object) → IsLive w x → object_of w.regions x ≡ Some o → o.live ≡ true
is_object_live w x o a e = let q : o ≡ a.0 = (let r = a.1 in cc) in ap (λ (z : Object). z.live) q ∙ a.2

-- where the phase is Marking, the states with it written and as it is are one
pub shaded_heap_is_after_mark : (w : HeapState) → w.phase ≡ Marking → shaded_heap w (drop 1 w.gray) w.drained Marking (children_of w.classes w.regions (slice_index w.gray 0)) ≡ after_mark w
unfolding after_mark marked
shaded_heap_is_after_mark w e = λ i. shaded_heap w (drop 1 w.gray) w.drained (sym e i) (children_of w.classes w.regions (slice_index w.gray 0))

pub clauses_after_mark : (w : HeapState) → HasClauses w → mark_refusal (marking_of w) ≡ None → HasClauses (after_mark w)
unfolding mark_refusal
clauses_after_mark w l accepted = subst HasClauses (shaded_heap_is_after_mark w phase)
    (shaded_legal w (children_of w.classes w.regions (slice_index w.gray 0)) (drop 1 w.gray) w.drained l (rest_of_gray_is_gray w.gray) (rest_of_gray_is_distinct w.gray l.gray_distinct) l.drained_within
    (λ x o c e. is_object_live w x o (l.slots_live (slice_index w.gray 0) x (l.gray_live (slice_index w.gray 0) (top_within w.gray some)) c) e)
    (greys_tricolour w _ (mark_greys w some) (l.tricolour phase)))
  where
    some : (length w.gray == 0) ≡ false
    some = (no_refusal_test_holds _ accepted).1.0

    phase : w.phase ≡ Marking
    phase = marking_is w.phase (no_refusal_test_holds _ accepted).0

pub mark_phase : (w : HeapState) → (after_mark w).phase ≡ w.phase
unfolding after_mark marked
mark_phase w = shaded_phase w (drop 1 w.gray) w.drained w.phase (children_of w.classes w.regions (slice_index w.gray 0))

pub mark_shape : (w : HeapState) (x : ℕ) → KeepsShape w (after_mark w) x
unfolding after_mark marked
mark_shape w = shaded_shape w (drop 1 w.gray) w.drained w.phase (children_of w.classes w.regions (slice_index w.gray 0))

pub mark_held : {A : Type 0} (w : HeapState) (room : ℕ) (k : MarkerState) (s : RegionPool) (result : Result A Refusal) → IsSoundHeap w room → IsAnswered (mark_refusal (marking_of w)) false result
    → OnOk result (k ≡ after_work (marked w.classes (marking_of w)) (marker_of w room)) → OnOk result (s ≡ record (pool_of w) { regions = (marked w.classes (marking_of w)).regions })
    → OnErr result ((k ≡ marker_of w room) × (s ≡ pool_of w)) → IsSoundHeap (with_marker k (with_pool s w)) k.room
unfolding after_mark marked
mark_held w room k s result h = marker_step_keeps_heap_sound w room (mark_refusal (marking_of w)) (marked w.classes (marking_of w)) k s result h (clauses_after_mark w (legal_heap_has_clauses w h.legal))
    (shades_all (children_of w.classes w.regions (slice_index w.gray 0)) (record (marking_of w) { gray = drop 1 w.gray })).count

pub mark_made : {A : Type 0} (w v : HeapState) (room : ℕ) (k : MarkerState) (s : RegionPool) (result : Result A Refusal) → w ≡ v → OnOk result (k ≡ after_work (marked w.classes (marking_of w)) (marker_of w room))
    → OnOk result (s ≡ record (pool_of w) { regions = (marked w.classes (marking_of w)).regions }) → OnOk result (with_marker k (with_pool s w) ≡ after_mark v)
unfolding after_mark
mark_made w v room k s result = marker_step_makes_state w v room (λ u. marked u.classes (marking_of u)) k s result

length_unmarked : (parent pushed : ℕ) (s : MarkState) → length (unmarked parent pushed s).regions ≡ length s.regions
unfolding unmarked unshaded
length_unmarked parent pushed s = length_each_unmarked (take pushed s.gray) s.regions

-- what undoing a mark leads to is fit for the marker
pub unmark_sound : (w v : HeapState) (room parent pushed : ℕ) → IsSoundHeap w room → w ≡ v → IsLegal (with_marking (unmarked parent pushed (marking_of v)) v)
    → IsGraySound (unmarked parent pushed (marking_of w)).regions (after_work (unmarked parent pushed (marking_of w)) (marker_of w room))
unmark_sound w v room parent pushed h same l = record { distinct = legal.gray_distinct; marked = legal.gray_marked; ids = omega (arith, h.ids, length_unmarked parent pushed (marking_of w)) }
  where
    legal : IsLegal (with_marking (unmarked parent pushed (marking_of w)) w)
    legal = subst (λ (u : HeapState). IsLegal (with_marking (unmarked parent pushed (marking_of u)) u)) (sym same) l

pub unmark_held : (w v : HeapState) (room parent pushed : ℕ) (k : MarkerState) (s : RegionPool) → IsSoundHeap w room → w ≡ v → IsLegal (with_marking (unmarked parent pushed (marking_of v)) v)
    → k ≡ after_work (unmarked parent pushed (marking_of w)) (marker_of w room) → s ≡ record (pool_of w) { regions = (unmarked parent pushed (marking_of w)).regions } → IsSoundHeap (with_marker k (with_pool s w)) k.room
unmark_held w v room parent pushed k s h same l = work_held w room (unmarked parent pushed (marking_of w)) k s h
    (subst (λ (u : HeapState). IsLegal (with_marking (unmarked parent pushed (marking_of u)) u)) (sym same) l) (length_unmarked parent pushed (marking_of w))

-- ---- drain

next_or_rest : (log : List ℕ) (d x : ℕ) → d < length log → Contains (drop d log) x → Contains (slice_index log d ∷ []) x ⊎ Contains (drop (d + 1) log) x
next_or_rest log d x h c = elim (member_is_head_or_later (get_or log d 0) (drop (suc d) log) x (subst (λ k. Contains k x) (drop-cons log d 0 h) c)) [
  | inl e ↦ inl (subst (Contains (get_or log d 0 ∷ [])) (sym e) (list_has_its_head (get_or log d 0) []))
  | inr r ↦ inr (subst (λ n. Contains (drop n log) x) next r)
]
  where
    next : suc d ≡ d + 1
    next = omega arith

pub drain_greys : (w : HeapState) → w.drained < length w.log → Greys w (shaded_heap w w.gray (w.drained + 1) Marking (slice_index w.log w.drained ∷ []))
drain_greys w some = greys_of_shades w (fold shaded (begun w w.gray (w.drained + 1) Marking) xs) xs w.gray (w.drained + 1) Marking (shades_all xs (begun w w.gray (w.drained + 1) Marking))
    (λ x c. next_or_rest w.log w.drained x some c)
    (λ g x c n. inr c)
  where
    xs : List ℕ
    xs = slice_index w.log w.drained ∷ []

pub drain_state : (w : HeapState) → w.phase ≡ Marking → shaded_heap w w.gray (w.drained + 1) Marking (slice_index w.log w.drained ∷ []) ≡ after_drain w
unfolding after_drain drained_once
drain_state w e = λ i. shaded_heap w w.gray (w.drained + 1) (sym e i) (slice_index w.log w.drained ∷ [])

pub not_refused_means_below : (a b : ℕ) → not (nat_lt a b) ≡ false → a < b
not_refused_means_below a b h = grind arith

pub clauses_after_drain : (w : HeapState) → HasClauses w → drain_refusal (marking_of w) ≡ None → HasClauses (after_drain w)
unfolding drain_refusal
clauses_after_drain w l accepted = subst HasClauses (drain_state w phase)
    (shaded_legal w (slice_index w.log w.drained ∷ []) w.gray (w.drained + 1) l (λ x c. c) l.gray_distinct (omega (arith, some))
    (λ x o c e. is_object_live w x o (l.log_live x (elim (member_is_head_or_later (slice_index w.log w.drained) [] x c) [ inl p ↦ subst (Contains w.log) (sym p) (Contains-get_or w.log w.drained 0 some) | inr q ↦ absurd (empty_list_has_no_member x q) ])) e)
    (greys_tricolour w _ (drain_greys w some) (l.tricolour phase)))
  where
    some : w.drained < length w.log
    some = not_refused_means_below w.drained (length w.log) (no_refusal_test_holds _ accepted).1.0

    phase : w.phase ≡ Marking
    phase = marking_is w.phase (no_refusal_test_holds _ accepted).0

pub drain_phase : (w : HeapState) → (after_drain w).phase ≡ w.phase
unfolding after_drain drained_once
drain_phase w = shaded_phase w w.gray (w.drained + 1) w.phase (slice_index w.log w.drained ∷ [])

pub drain_shape : (w : HeapState) (x : ℕ) → KeepsShape w (after_drain w) x
unfolding after_drain drained_once
drain_shape w = shaded_shape w w.gray (w.drained + 1) w.phase (slice_index w.log w.drained ∷ [])

pub drain_held : (w : HeapState) (room : ℕ) (k : MarkerState) (s : RegionPool) (result : Result ℕ Refusal) → IsSoundHeap w room → IsAnswered (drain_refusal (marking_of w)) false result
    → OnOk result (k ≡ after_work (drained_once (marking_of w)) (marker_of w room)) → OnOk result (s ≡ record (pool_of w) { regions = (drained_once (marking_of w)).regions })
    → OnErr result ((k ≡ marker_of w room) × (s ≡ pool_of w)) → IsSoundHeap (with_marker k (with_pool s w)) k.room
unfolding after_drain drained_once
drain_held w room k s result h = marker_step_keeps_heap_sound w room (drain_refusal (marking_of w)) (drained_once (marking_of w)) k s result h (clauses_after_drain w (legal_heap_has_clauses w h.legal))
    (shades_one (record (marking_of w) { drained = w.drained + 1 }) (slice_index w.log w.drained)).count

pub drain_made : (w v : HeapState) (room : ℕ) (k : MarkerState) (s : RegionPool) (result : Result ℕ Refusal) → w ≡ v → OnOk result (k ≡ after_work (drained_once (marking_of w)) (marker_of w room))
    → OnOk result (s ≡ record (pool_of w) { regions = (drained_once (marking_of w)).regions }) → OnOk result (with_marker k (with_pool s w) ≡ after_drain v)
unfolding after_drain
drain_made w v room k s result = marker_step_makes_state w v room (λ u. drained_once (marking_of u)) k s result

length_undrained : (pushed : ℕ) (s : MarkState) → length (undrained pushed s).regions ≡ length s.regions
unfolding undrained unshaded
length_undrained pushed s = length_each_unmarked (take pushed s.gray) s.regions

pub undrain_held : (w v : HeapState) (room pushed : ℕ) (k : MarkerState) (s : RegionPool) → IsSoundHeap w room → w ≡ v → IsLegal (with_marking (undrained pushed (marking_of v)) v)
    → k ≡ after_work (undrained pushed (marking_of w)) (marker_of w room) → s ≡ record (pool_of w) { regions = (undrained pushed (marking_of w)).regions } → IsSoundHeap (with_marker k (with_pool s w)) k.room
undrain_held w v room pushed k s h same l = work_held w room (undrained pushed (marking_of w)) k s h
    (subst (λ (u : HeapState). IsLegal (with_marking (undrained pushed (marking_of u)) u)) (sym same) l) (length_undrained pushed (marking_of w))
