-- Legality after a finish.
use Rattle.std.proofs.Common.{◌≡◌, ◌⊎◌, ◌↔◌, ℕ, ◌+◌, ◌-◌, ◌≤◌, Bool, true, false, List, [], ◌∷◌, length, drop, refl, sym, ap, subst, ◌∙◌, Option, Some, None, IfSome, Contains, arith, length-drop, Result}
use mathlib.Core.Logic.{inl, inr}
use Rattle.std.specs.Prelude.{slice_get, option_map, option_and_then, nat_lt, OnOk, OnErr}
use Rattle.std.specs.Option.{option_map_or}
use Rattle.std.proofs.lemmas.Option.{slice_get-map}
use Rattle.std.proofs.lemmas.List.{length-map}
use Rattle.heap_mark.proofs.Each.{used_region_after_each_change}
use Rattle.heap_mark.proofs.Finishes.{none_pending, pending_in}
use Rattle.heap_region.specs.Legal.{EachObject, IsArea}
use Rattle.heap_region.proofs.Areas.{KeepsSizes, area_kept}
use Rattle.heap_region.proofs.Spares.{spare_kept}
use Rattle.heap_class.proofs.Refusals.{no_refusal_test_holds}
use Rattle.heap_class.specs.declared.ObjRef.{ObjRef}
use Rattle.heap_class.specs.Classes.{Class}
use Rattle.heap_region.specs.Limits.{region_limit}
use Rattle.heap_region.specs.Regions.{Object, UsedRegion, Region, Empty, InUse, used_part, used_at, object_of, object_at, ref_of, in_used, references_of, slot_kinds, cell_size_for}
use Rattle.heap_region.proofs.ChangedLookups.{ref_same, size_at, number_of, place_of_object_of_id}
use Rattle.heap_region.proofs.References.{empty_list_has_no_member}
use Rattle.heap_mark.specs.declared.Phase.TheVariants.{Idle, Marking}
use Rattle.heap_mark.specs.MarkSteps.{each_object, each_region, pending_regions, finish_refusal, finished_region, finished, MarkState, unfinished_region, unfinished}
use Rattle.heap_world.specs.State.{HeapState, marking_of, with_marking, pool_of, with_pool}
use Rattle.heap_world.specs.Reach.{Names}
use Rattle.heap_world.specs.Legal.{IsObjectOf, IsUnmarked, IsLive, Sheltered, IsLegal}
use Rattle.heap_world.proofs.Clauses.{HasClauses, legal_heap_has_clauses}
use Rattle.heap_region.proofs.Clauses.{IsPartition}
use Rattle.heap_world.specs.Events.{after_finish}
use Rattle.heap_world.proofs.Registers.{naming_id_names_an_object, names_of, mark_or_not}
use Rattle.heap_world.proofs.Marks.{marking_is}
use Rattle.heap_region.specs.Pool.{RegionPool}
use Rattle.heap_class.specs.declared.Refusal.{Refusal}
use Rattle.heap_class.specs.Refusals.{IsAnswered}
use Rattle.heap_mark.specs.Marker.{MarkerState, after_work}
use Rattle.heap_world.specs.HeapParts.{IsSoundHeap}
use Rattle.heap_world.proofs.MarkerParts.{marker_of, with_marker, work_held, marker_step_keeps_heap_sound, marker_step_makes_state}
use Rattle.heap_world.proofs.Shapes.{KeepsShape}

-- ---- each object of each region

-- an object that a cycle finished with
abbrev pub settled : Object → Object
settled o = record o { live = o.mark; mark = false }

object_settled : (rs : List Region) (at : ObjRef) → object_at (each_region finished_region rs) at ≡ option_map settled (object_at rs at)
unfolding object_at finished_region each_object
object_settled rs at = ap (option_and_then look) (used_region_after_each_change finished_region rs at.region) ∙ go (used_at rs at.region)
  where
    look : UsedRegion → Option Object
    look u = option_and_then (λ (o : Option Object). o) (slice_get u.cells at.cell)

    join : (p : Option (Option Object)) → option_and_then (λ (o : Option Object). o) (option_map (option_map settled) p) ≡ option_map settled (option_and_then (λ (o : Option Object). o) p)
    join None = refl
    join (Some None) = refl
    join (Some (Some o)) = refl

    go : (p : Option UsedRegion) → option_and_then look (option_map finished_region p) ≡ option_map settled (option_and_then look p)
    go None = refl
    go (Some u) = ap (option_and_then (λ (o : Option Object). o)) (slice_get-map (option_map settled) u.cells at.cell) ∙ join (slice_get u.cells at.cell)

cell_sizes_after_finish : (rs : List Region) (r d : ℕ) → size_at (each_region finished_region rs) r d ≡ size_at rs r d
unfolding size_at finished_region each_object
cell_sizes_after_finish rs r d = ap (λ (p : Option UsedRegion). option_map_or (λ (u : UsedRegion). u.cell_size) p d) (used_region_after_each_change finished_region rs r) ∙ go (used_at rs r)
  where
    go : (p : Option UsedRegion) → option_map_or (λ (u : UsedRegion). u.cell_size) (option_map finished_region p) d ≡ option_map_or (λ (u : UsedRegion). u.cell_size) p d
    go None = refl
    go (Some u) = refl

-- what an id names after a finish
pub object_named_after_finish : (rs : List Region) (x : ℕ) → object_of (each_region finished_region rs) x ≡ option_map settled (object_of rs x)
unfolding object_of
object_named_after_finish rs x = ap (option_and_then (object_at (each_region finished_region rs))) (ref_same (each_region finished_region rs) rs x (λ d. cell_sizes_after_finish rs (number_of x) d)) ∙ go (ref_of rs x)
  where
    go : (p : Option ObjRef) → option_and_then (object_at (each_region finished_region rs)) p ≡ option_map settled (option_and_then (object_at rs) p)
    go None = refl
    go (Some at) = object_settled rs at

settled_object_was_an_object : (p : Option Object) (o' : Object) → option_map settled p ≡ Some o' → (o : Object) × (p ≡ Some o) × (o' ≡ settled o)
settled_object_was_an_object None o' h = cc
settled_object_was_an_object (Some o) o' h = (o, refl, cc)

-- ---- regions and the pool

table_settled : (u : UsedRegion) → IsPartition u → IsPartition (finished_region u)
unfolding finished_region each_object
table_settled u t = record {
  cells = length-map u.cells (option_map settled) ∙ t.cells;
  free = record { distinct = t.free.distinct; each = λ k. (λ m. slice_get-map (option_map settled) u.cells k ∙ ap (option_map (option_map settled)) ((t.free.each k).0 m), λ e. (t.free.each k).1 (none_back (slice_get u.cells k) (sym (slice_get-map (option_map settled) u.cells k) ∙ e))) };
  inhabited = (t.inhabited.0, settled t.inhabited.1, slice_get-map (option_map settled) u.cells t.inhabited.0 ∙ ap (option_map (option_map settled)) t.inhabited.2);
}
  where
    none_back : (p : Option (Option Object)) → option_map (option_map settled) p ≡ Some None → p ≡ Some None
    none_back None e = cc
    none_back (Some None) e = refl
    none_back (Some (Some o)) e = cc

table_each : (rs : List Region) → ((r : ℕ) (u : UsedRegion) → used_at rs r ≡ Some u → IsPartition u) → (r : ℕ) (v : UsedRegion) → used_at (each_region finished_region rs) r ≡ Some v → IsPartition v
table_each rs h r v e = go (used_at rs r) refl (sym (used_region_after_each_change finished_region rs r) ∙ e)
  where
    go : (p : Option UsedRegion) → used_at rs r ≡ p → option_map finished_region p ≡ Some v → IsPartition v
    go None f g = cc
    go (Some u) f g = let s : finished_region u ≡ v = cc in subst IsPartition s (table_settled u (h r u f))

regions_empty_after_finish : (rs : List Region) (r : ℕ) → (slice_get (each_region finished_region rs) r ≡ Some Empty) ↔ (slice_get rs r ≡ Some Empty)
unfolding each_region in_used
regions_empty_after_finish rs r = (λ e. back (slice_get rs r) (sym (slice_get-map (in_used finished_region) rs r) ∙ e), λ e. slice_get-map (in_used finished_region) rs r ∙ ap (option_map (in_used finished_region)) e)
  where
    back : (p : Option Region) → option_map (in_used finished_region) p ≡ Some Empty → p ≡ Some Empty
    back None e = cc
    back (Some Empty) e = refl
    back (Some (InUse u)) e = cc

least_size_after_finish : (rs : List Region) (r n : ℕ) → IfSome (used_at rs r) (λ u. u.cell_size ≡ n) → IfSome (used_at (each_region finished_region rs) r) (λ u. u.cell_size ≡ n)
unfolding finished_region each_object
least_size_after_finish rs r n h = subst (λ (p : Option UsedRegion). IfSome p (λ u. u.cell_size ≡ n)) (sym (used_region_after_each_change finished_region rs r)) (go (used_at rs r) h)
  where
    go : (p : Option UsedRegion) → IfSome p (λ u. u.cell_size ≡ n) → IfSome (option_map finished_region p) (λ u. u.cell_size ≡ n)
    go None q = q
    go (Some u) q = q

finished_regions_all_pending : (rs : List Region) (r : ℕ) (b : Bool) → IfSome (used_at (each_region finished_region rs) r) (λ u. u.pending ≡ false → b ≡ true)
unfolding finished_region each_object
finished_regions_all_pending rs r b = subst (λ (p : Option UsedRegion). IfSome p (λ u. u.pending ≡ false → b ≡ true)) (sym (used_region_after_each_change finished_region rs r)) (go (used_at rs r))
  where
    go : (p : Option UsedRegion) → IfSome (option_map finished_region p) (λ u. u.pending ≡ false → b ≡ true)
    go None = tt
    go (Some u) = λ e. cc

pub finish_keeps_region_count : (rs : List Region) → length (each_region finished_region rs) ≡ length rs
unfolding each_region
finish_keeps_region_count rs = length-map rs (in_used finished_region)

-- the area stays as it was
area_after_finish : (rs : List Region) (start : ℕ) → IsArea rs start → IsArea (each_region finished_region rs) start
unfolding finished_region each_object
area_after_finish rs start area = area_kept rs (each_region finished_region rs) start (finish_keeps_region_count rs) sizes area
  where
    sizes : KeepsSizes rs (each_region finished_region rs)
    sizes r v e = go (used_at rs r) refl (sym (used_region_after_each_change finished_region rs r) ∙ e)
      where
        go : (p : Option UsedRegion) → used_at rs r ≡ p → option_map finished_region p ≡ Some v → (u : UsedRegion) × (used_at rs r ≡ Some u) × (u.cell_size ≡ v.cell_size)
        go None f g = cc
        go (Some u) f g = let s : finished_region u ≡ v = cc in (u, f, ap (λ (z : UsedRegion). z.cell_size) s)

-- ---- nothing shelters at a finish

pub nothing_gray_and_log_drained : (gray log drained : ℕ) → nat_lt 0 (gray + (log - drained)) ≡ false → (gray ≡ 0) × (log ≤ drained)
nothing_gray_and_log_drained gray log drained h = (grind arith, grind arith)

-- where no object is gray and the log is drained, none is sheltered
pub no_shelter : (w : HeapState) (x : ℕ) → length w.gray ≡ 0 → length w.log ≤ w.drained → Sheltered w x → ⊥
no_shelter w x g d s = go s.2
  where
    go : Contains (drop w.drained w.log) s.0 ⊎ ((h : ℕ) × Contains w.gray h × Names w h s.0) → ⊥
    go (inl c) = absurd (omega (arith, c.1, length-drop w.drained w.log, d))
    go (inr h) = absurd (omega (arith, h.1.1, g))

list_of_zero_length_is_empty : (xs : List ℕ) → length xs ≡ 0 → xs ≡ []
list_of_zero_length_is_empty [] e = refl
list_of_zero_length_is_empty (x ∷ xs) e = absurd (omega (arith, e))

settled_object_fits_classes : (classes : List Class) (o : Object) → IsObjectOf classes o → IsObjectOf classes (settled o)
unfolding slot_kinds
settled_object_fits_classes classes o f = record { kind = f.kind; values = f.values }

pub references_settled : (classes : List Class) (o : Object) → references_of classes (settled o) ≡ references_of classes o
unfolding references_of slot_kinds
references_settled classes o = refl

-- a marked object is live
pub marked_object_live : (w : HeapState) → HasClauses w → (x : ℕ) (o : Object) → object_of w.regions x ≡ Some o → o.mark ≡ true → IsLive w x
marked_object_live w l x o e m = let p = place_of_object_of_id w.regions x o e in (o, e, l.marked_live p.0 o p.2 m)

pub clauses_after_finish : (w : HeapState) → HasClauses w → finish_refusal (marking_of w) ≡ None → HasClauses (after_finish w)
unfolding finish_refusal after_finish finished
clauses_after_finish w l accepted = record {
  sized = record { limits = l.sized.limits; regions = subst (λ n. (1 ≤ n) × (n ≤ region_limit)) (sym (finish_keeps_region_count w.regions)) l.sized.regions; area = subst (λ n. w.area_start ≡ n - w.limits.area) (sym (finish_keeps_region_count w.regions)) l.sized.area; mutators = l.sized.mutators };
  classes = l.classes;
  objects = λ at o' e. (let q = was at o' e in subst (IsObjectOf w.classes) (sym q.2) (settled_object_fits_classes w.classes q.0 (l.objects at q.0 q.1)));
  least_cells = λ at o' e. (let q = was at o' e in subst (λ (o : Object). IfSome (used_at (each_region finished_region w.regions) at.region) (λ u. u.cell_size ≡ cell_size_for (length o.words))) (sym q.2) (least_size_after_finish w.regions at.region (cell_size_for (length q.0.words)) (l.least_cells at q.0 q.1)));
  cells = table_each w.regions l.cells;
  pool = spare_kept w.area_start w.pool w.regions (each_region finished_region w.regions) (regions_empty_after_finish w.regions) l.pool;
  area = area_after_finish w.regions w.area_start l.area;
  registers_live = λ x c n. (let a = l.registers_live x c n in found x a.0 a.1 (λ u. (l.tricolour phase).registers x c u));
  slots_live = λ x y a n. slots x y a n;
  gray_live = λ x c. absurd (nobody x c);
  log_live = λ x c. absurd (empty_list_has_no_member x c);
  gray_distinct = l.gray_distinct;
  gray_marked = λ x c. absurd (nobody x c);
  marked_live = λ at o' e m. (let q = was at o' e in let f : o'.mark ≡ false = ap (λ (o : Object). o.mark) q.2 in cc);
  drained_within = omega arith;
  swept_live = λ at o' e. finished_regions_all_pending w.regions at.region o'.live;
  idle = λ i. record { gray = list_of_zero_length_is_empty w.gray left.0; log = refl; drained = refl; unmarked = λ at o' e. ap (λ (o : Object). o.mark) (was at o' e).2 };
  tricolour = λ i. cc;
}
  where
    v : HeapState
    v = with_marking (record { regions = each_region finished_region w.regions; gray = w.gray; log = []; drained = 0; phase = Idle }) w

    phase : w.phase ≡ Marking
    phase = marking_is w.phase (no_refusal_test_holds _ accepted).0

    left : (length w.gray ≡ 0) × (length w.log ≤ w.drained)
    left = nothing_gray_and_log_drained (length w.gray) (length w.log) w.drained (no_refusal_test_holds _ accepted).1.0

    nobody : (x : ℕ) → Contains w.gray x → ⊥
    nobody x c = absurd (omega (arith, c.1, left.0))

    was : (at : ObjRef) (o' : Object) → object_at (each_region finished_region w.regions) at ≡ Some o' → (o : Object) × (object_at w.regions at ≡ Some o) × (o' ≡ settled o)
    was at o' e = settled_object_was_an_object (object_at w.regions at) o' (sym (object_settled w.regions at) ∙ e)

    -- an object that would be sheltered were it unmarked is live afterwards
    found : (x : ℕ) (o : Object) → object_of w.regions x ≡ Some o → (IsUnmarked w x → Sheltered w x) → IsLive v x
    found x o e h = elim (mark_or_not w x o e) [
      | inl m ↦ (settled m.0, object_named_after_finish w.regions x ∙ ap (option_map settled) m.1, m.2)
      | inr u ↦ absurd (no_shelter w x left.0 left.1 (h u))
    ]

    slots : (x y : ℕ) → IsLive v x → Names v x y → IsLive v y
    slots x y a n =
        let q = settled_object_was_an_object (object_of w.regions x) a.0 (sym (object_named_after_finish w.regions x) ∙ a.1) in
        let b = naming_id_names_an_object v x y n in
        let same : b.0 ≡ settled q.0 = (let i = b.1 in let j = a.1 in let k = q.2 in cc) in
        let named : Names w x y = names_of w x y q.0 q.1 (subst (λ k. Contains k y) (references_settled w.classes q.0) (subst (λ (o : Object). Contains (references_of w.classes o) y) same b.2)) in
        let mark : q.0.mark ≡ true = ap (λ (o : Object). o.live) (sym q.2) ∙ a.2 in
        let there : IsLive w y = l.slots_live x y (marked_object_live w l x q.0 q.1 mark) named in
        found y there.0 there.1 (λ u. (l.tricolour phase).slots x y (q.0, q.1, mark) (λ c. nobody x c) named u)

-- ---- what a finish leaves

-- where a finish is accepted, a cycle runs and nothing is left to do
pub finish_due : (w : HeapState) → finish_refusal (marking_of w) ≡ None → (w.phase ≡ Marking) × (length w.gray ≡ 0) × (length w.log ≤ w.drained)
unfolding finish_refusal
finish_due w accepted = let left = nothing_gray_and_log_drained (length w.gray) (length w.log) w.drained (no_refusal_test_holds _ accepted).1.0 in (marking_is w.phase (no_refusal_test_holds _ accepted).0, left.0, left.1)

-- what an id names after a finish
pub finish_settles : (w : HeapState) (x : ℕ) (o : Object) → object_of w.regions x ≡ Some o → object_of (after_finish w).regions x ≡ Some (settled o)
unfolding after_finish finished
finish_settles w x o e = object_named_after_finish w.regions x ∙ ap (option_map settled) e

pub finish_shape : (w : HeapState) (x : ℕ) → KeepsShape w (after_finish w) x
finish_shape w x o e = (settled o, finish_settles w x o e, refl, refl)

-- ---- the heap that holds it

length_finished : (s : MarkState) → length (finished s).regions ≡ length s.regions
unfolding finished
length_finished s = finish_keeps_region_count s.regions

pub finish_held : {A : Type 0} (w : HeapState) (room : ℕ) (k : MarkerState) (s : RegionPool) (result : Result A Refusal) → IsSoundHeap w room → IsAnswered (finish_refusal (marking_of w)) false result
    → OnOk result (k ≡ after_work (finished (marking_of w)) (marker_of w room)) → OnOk result (s ≡ record (pool_of w) { regions = (finished (marking_of w)).regions })
    → OnErr result ((k ≡ marker_of w room) × (s ≡ pool_of w)) → IsSoundHeap (with_marker k (with_pool s w)) k.room
unfolding after_finish
finish_held w room k s result h = marker_step_keeps_heap_sound w room (finish_refusal (marking_of w)) (finished (marking_of w)) k s result h (clauses_after_finish w (legal_heap_has_clauses w h.legal)) (length_finished (marking_of w))

pub finish_made : {A : Type 0} (w v : HeapState) (room : ℕ) (k : MarkerState) (s : RegionPool) (result : Result A Refusal) → w ≡ v → OnOk result (k ≡ after_work (finished (marking_of w)) (marker_of w room))
    → OnOk result (s ≡ record (pool_of w) { regions = (finished (marking_of w)).regions }) → OnOk result (with_marker k (with_pool s w) ≡ after_finish v)
unfolding after_finish
finish_made w v room k s result = marker_step_makes_state w v room (λ u. finished (marking_of u)) k s result

-- ---- a finish is undone

length_unfinished : (log : List ℕ) (s : MarkState) → length (unfinished log s).regions ≡ length s.regions
unfolding unfinished each_region
length_unfinished log s = length-map s.regions (in_used unfinished_region)

pub unfinish_held : (w v : HeapState) (room : ℕ) (log : List ℕ) (k : MarkerState) (s : RegionPool) → IsSoundHeap w room → w ≡ v → IsLegal (with_marking (unfinished log (marking_of v)) v)
    → k ≡ after_work (unfinished log (marking_of w)) (marker_of w room) → s ≡ record (pool_of w) { regions = (unfinished log (marking_of w)).regions } → IsSoundHeap (with_marker k (with_pool s w)) k.room
unfinish_held w v room log k s h same l = work_held w room (unfinished log (marking_of w)) k s h
    (subst (λ (u : HeapState). IsLegal (with_marking (unfinished log (marking_of u)) u)) (sym same) l) (length_unfinished log (marking_of w))

-- ---- a finish is a turn

pending_at : (regions : List Region) (r : ℕ) (u : UsedRegion) → used_at regions r ≡ Some u → pending_in (slice_get regions r) ≡ u.pending
unfolding used_at
pending_at regions r u is = go (slice_get regions r) is
  where
    go : (x : Option Region) → option_and_then used_part x ≡ Some u → pending_in x ≡ u.pending
    go None e = cc
    go (Some Empty) e = cc
    go (Some (InUse v)) e = ap (λ (x : Option UsedRegion). option_map_or (λ (v : UsedRegion). v.pending) x false) e

-- where a finish is accepted, all objects are live
pub all_live : (w : HeapState) → IsLegal w → finish_refusal (marking_of w) ≡ None → EachObject w.regions (λ at o. o.live ≡ true)
unfolding finish_refusal pending_regions object_at
all_live w legal accepted at o there = go (used_at w.regions at.region) refl (legal.swept_live at o there)
  where
    swept : pending_in (slice_get w.regions at.region) ≡ false
    swept = none_pending w.regions 0 (no_refusal_test_holds _ accepted).1.1.0 at.region

    go : (x : Option UsedRegion) → used_at w.regions at.region ≡ x → IfSome x (λ u. u.pending ≡ false → o.live ≡ true) → o.live ≡ true
    go None is h = (let bad : None ≡ Some o = sym (ap (option_and_then (λ (u : UsedRegion). option_and_then (λ (x : Option Object). x) (slice_get u.cells at.cell))) is) ∙ there in cc)
    go (Some u) is h = h (sym (pending_at w.regions at.region u is) ∙ swept)

-- what a finish left is known of the regions
pub finished_before : (w v : HeapState) → w ≡ v → (before : HeapState) → IsLegal before → finish_refusal (marking_of before) ≡ None → v ≡ after_finish before
    → (b : MarkState) × (finish_refusal b ≡ None) × EachObject b.regions (λ at o. o.live ≡ true) × (w.regions ≡ (finished b).regions)
unfolding after_finish
finished_before w v same before legal accepted is =
    (marking_of before, accepted, all_live before legal accepted, ap (λ (u : HeapState). u.regions) (same ∙ is))
