-- What a record tells of the regions before its step.
use Rattle.std.proofs.Common.{◌≡◌, ℕ, zero, suc, add-one, ◌+◌, ◌-◌, ◌<◌, ◌≤◌, Bool, true, false, not, cond, List, [], ◌∷◌, ◌++◌, length, map, get_or, set, take, fold, Option, Some, None, refl, sym, ap, ap₂, ◌∙◌, subst, inl, inr, arith}
use Rattle.std.specs.Prelude.{IfSome, count_by, option_and_then, option_map}
use Rattle.std.specs.Option.{option_map_or}
use Rattle.std.proofs.lemmas.Bool.{cases_Bool, false≢true}
use Rattle.std.proofs.lemmas.List.{map-set}
use Rattle.std.proofs.lemmas.List.Sums.{sum_by-cons}
use Rattle.std.proofs.lemmas.Option.{get_or_from_slice_get, none-some, same_Some, slice_get_within}
use Rattle.heap_class.specs.declared.ObjRef.{ObjRef}
use Rattle.heap_region.specs.Live.{is_dead, is_live}
use Rattle.heap_region.specs.Pool.{cell_freed, freed, released, restored, unallocated}
use Rattle.heap_region.specs.Regions.{Empty, InUse, Object, Region, UsedRegion, cell_object, in_used, object_at, ref_of, slot_object, updated, used_at, used_part, with_mark, with_object, with_region, with_word}
use Rattle.heap_region.proofs.Lookups.{used_region_after_its_change}
use Rattle.heap_region.proofs.References.{set_item_is_got}
use Rattle.heap_region.proofs.ShownRegions.{object_of_used}
use Rattle.heap_world.specs.Events.{after_sweep, new_object}
use Rattle.heap_world.specs.Legal.{IsLegal}
use Rattle.heap_world.specs.MarkSteps.{MarkState, each_object, each_region, undrained, unfinished, unfinished_region, unmarked, unshaded, unsnapped, with_mark_of}
use Rattle.heap_world.specs.State.{HeapState, marking_of, pool_of}
use Rattle.heap_world.specs.Sweep.{dead_at, dead_cells, is_emptied, live_part, swept, swept_region, unswept, unswept_region}
use Rattle.heap_world.proofs.SweptCells.{cell_table_has_few_cells, dead_length}
use Rattle.heap_step.specs.declared.Event.{Event}
use Rattle.heap_step.specs.declared.Undo.{Undo}
use Rattle.heap_step.specs.declared.Undo.TheVariants.{Class, Drain, Finish, Mark, New, Put, Reclaim, Reg, Snap, Store, Sweep}
use Rattle.heap_step.specs.Laws.{IsStep}
use Rattle.heap_step.specs.Records.{undone}
use Rattle.heap_step.proofs.EventLaws.{undo_restores}
use Rattle.heap_step.proofs.Places.{new_object_stands_at_place}
use Rattle.heap_step.proofs.Steps.{reclaim_empty, reclaim_inhabited, reclaim_is, reclaim_lifeless, sweep_before, sweep_is}
use Rattle.heap_questions.specs.RegionCounts.{counts_of}
use Rattle.heap_questions.specs.RegionSummaries.{HaveFew, all_live, one_fewer, summaries, summaries_before, summary_of, taken_out, with_dead_back, with_summary}
use Rattle.heap_questions.specs.declared.past.summaries.RegionSummary.{RegionSummary}
use Rattle.heap_questions.proofs.EndedCycles.{by_record, new_at}
use Rattle.heap_questions.proofs.Sizes.{table_of, whole_size}
use Rattle.heap_questions.proofs.ToldObjects.{one_before}

-- ---- cells

-- how many cells of a list are of a sort
abbrev count_one : (Option Object → Bool) → Option Object → ℕ
count_one P x = cond (P x) 1 0

-- a change of one object that leaves its sort
sort_count_updated : (P : Option Object → Bool) (f : Object → Object) → ((o : Object) → P (Some (f o)) ≡ P (Some o)) → (c : ℕ) (cells : List (Option Object)) → count_by P (updated c (option_map f) cells) ≡ count_by P cells
unfolding updated
sort_count_updated P f h c [] = refl
sort_count_updated P f h zero (x ∷ xs) = sum_by-cons (count_one P) (option_map f x) xs ∙ ap (λ (n : ℕ). n + count_by P xs) (go x) ∙ sym (sum_by-cons (count_one P) x xs)
  where
    go : (x : Option Object) → count_one P (option_map f x) ≡ count_one P x
    go None = refl
    go (Some o) = ap (λ b. cond b 1 0) (h o)
sort_count_updated P f h (suc c) (x ∷ xs) = sum_by-cons (count_one P) x (updated c (option_map f) xs) ∙ ap (λ (n : ℕ). count_one P x + n) (sort_count_updated P f h c xs) ∙ sym (sum_by-cons (count_one P) x xs)

-- a change of all objects that leaves their sorts
sort_count_mapped : (P : Option Object → Bool) (f : Object → Object) → ((o : Object) → P (Some (f o)) ≡ P (Some o)) → (cells : List (Option Object)) → count_by P (map (option_map f) cells) ≡ count_by P cells
sort_count_mapped P f h [] = refl
sort_count_mapped P f h (x ∷ xs) = sum_by-cons (count_one P) (option_map f x) (map (option_map f) xs) ∙ ap₂ (λ (a b : ℕ). a + b) (go x) (sort_count_mapped P f h xs) ∙ sym (sum_by-cons (count_one P) x xs)
  where
    go : (x : Option Object) → count_one P (option_map f x) ≡ count_one P x
    go None = refl
    go (Some o) = ap (λ b. cond b 1 0) (h o)

-- an object before a cycle ended
abbrev was_live : Object → Object
was_live o = record o { live = true; mark = o.live }

none_dead_before : (cells : List (Option Object)) → count_by is_dead (map (option_map was_live) cells) ≡ 0
none_dead_before [] = refl
none_dead_before (x ∷ xs) =
    let first : count_one is_dead (option_map was_live x) ≡ 0 = go x in
    let all = sum_by-cons (count_one is_dead) (option_map was_live x) (map (option_map was_live) xs) in
    omega (arith, first, all, none_dead_before xs)
  where
    go : (x : Option Object) → count_one is_dead (option_map was_live x) ≡ 0
    go None = refl
    go (Some o) = refl

all_live_before : (cells : List (Option Object)) → count_by is_live (map (option_map was_live) cells) ≡ count_by is_live cells + count_by is_dead cells
all_live_before [] = refl
all_live_before (x ∷ xs) =
    let first : count_one is_live (option_map was_live x) ≡ count_one is_live x + count_one is_dead x = go x in
    let all = sum_by-cons (count_one is_live) (option_map was_live x) (map (option_map was_live) xs) in
    omega (arith, first, all, all_live_before xs, sum_by-cons (count_one is_live) x xs, sum_by-cons (count_one is_dead) x xs)
  where
    bit : (b : Bool) → ◌≡◌ {A = ℕ} 1 (cond b 1 0 + cond (not b) 1 0)
    bit true = refl
    bit false = refl

    go : (x : Option Object) → count_one is_live (option_map was_live x) ≡ count_one is_live x + count_one is_dead x
    go None = refl
    go (Some o) = bit o.live

-- a live object taken away
live_without : (c : ℕ) (cells : List (Option Object)) → is_live (get_or cells c None) ≡ true → count_by is_live (set cells c None) ≡ count_by is_live cells - 1
live_without c [] h = absurd (false≢true h)
live_without zero (x ∷ xs) h =
    let gone = sum_by-cons (count_one is_live) None xs in
    let all = sum_by-cons (count_one is_live) x xs in
    let first : count_one is_live x ≡ 1 = ap (λ b. cond b 1 0) h in
    omega (arith, gone, all, first)
live_without (suc c) (x ∷ xs) h =
    let rest = live_without c xs h in
    let some = live_there c xs h in
    omega (arith, rest, some, sum_by-cons (count_one is_live) x (set xs c None), sum_by-cons (count_one is_live) x xs)
  where
    live_there : (c : ℕ) (cells : List (Option Object)) → is_live (get_or cells c None) ≡ true → 0 < count_by is_live cells
    live_there c [] h = absurd (false≢true h)
    live_there zero (x ∷ xs) h =
        let all = sum_by-cons (count_one is_live) x xs in
        let first : count_one is_live x ≡ 1 = ap (λ b. cond b 1 0) h in
        omega (arith, all, first)
    live_there (suc c) (x ∷ xs) h = omega (arith, live_there c xs h, sum_by-cons (count_one is_live) x xs)

dead_without : (c : ℕ) (cells : List (Option Object)) → is_dead (get_or cells c None) ≡ false → count_by is_dead (set cells c None) ≡ count_by is_dead cells
dead_without c [] h = refl
dead_without zero (x ∷ xs) h =
    let first : count_one is_dead x ≡ 0 = ap (λ b. cond b 1 0) h in
    omega (arith, first, sum_by-cons (count_one is_dead) None xs, sum_by-cons (count_one is_dead) x xs)
dead_without (suc c) (x ∷ xs) h = omega (arith, dead_without c xs h, sum_by-cons (count_one is_dead) x (set xs c None), sum_by-cons (count_one is_dead) x xs)

-- what a sweep leaves
live_left : (cells : List (Option Object)) → count_by is_live (map live_part cells) ≡ count_by is_live cells
live_left [] = refl
live_left (x ∷ xs) = sum_by-cons (count_one is_live) (live_part x) (map live_part xs) ∙ ap₂ (λ (a b : ℕ). a + b) (go x) (live_left xs) ∙ sym (sum_by-cons (count_one is_live) x xs)
  where
    go : (x : Option Object) → count_one is_live (live_part x) ≡ count_one is_live x
    go None = refl
    go (Some o) = elim (cases_Bool o.live) [
      | inl t ↦ ap (λ b. count_one is_live (cond b (Some o) None)) t
      | inr f ↦ ap (λ b. count_one is_live (cond b (Some o) None)) f ∙ ap (λ b. cond b 1 0) (sym f)
    ]

counts_at_most_cells : (cells : List (Option Object)) → count_by is_live cells + count_by is_dead cells ≤ length cells
counts_at_most_cells [] = omega arith
counts_at_most_cells (x ∷ xs) =
    let first : count_one is_live x + count_one is_dead x ≤ 1 = go x in
    omega (arith, first, counts_at_most_cells xs, sum_by-cons (count_one is_live) x xs, sum_by-cons (count_one is_dead) x xs)
  where
    bit : (b : Bool) → cond b 1 0 + cond (not b) 1 0 ≤ 1
    bit true = omega arith
    bit false = omega arith

    go : (x : Option Object) → count_one is_live x + count_one is_dead x ≤ 1
    go None = omega arith
    go (Some o) = bit o.live

-- ---- regions

abbrev told_of : Region → Option RegionSummary
told_of x = option_map summary_of (used_part x)

same_summary : (u v : UsedRegion) → u.cell_size ≡ v.cell_size → u.pending ≡ v.pending → count_by is_live u.cells ≡ count_by is_live v.cells → count_by is_dead u.cells ≡ count_by is_dead v.cells → summary_of u ≡ summary_of v
same_summary u v s p l d = λ i. record { cell_size = s i; waits = p i; counts = record { live = l i; dead = d i } }

-- a change of region r
region_changed_told : (g : UsedRegion → UsedRegion) (f : RegionSummary → RegionSummary) (regions : List Region) (r : ℕ) → ((u : UsedRegion) → used_at regions r ≡ Some u → summary_of (g u) ≡ f (summary_of u)) → summaries (with_region r g regions) ≡ with_summary r (option_map f) (summaries regions)
unfolding with_region updated in_used used_at
region_changed_told g f [] r h = refl
region_changed_told g f (x ∷ xs) zero h = ap (λ (s : Option RegionSummary). s ∷ summaries xs) (go x (λ u e. h u e))
  where
    go : (x : Region) → ((u : UsedRegion) → used_part x ≡ Some u → summary_of (g u) ≡ f (summary_of u)) → told_of (in_used g x) ≡ option_map f (told_of x)
    go Empty h = refl
    go (InUse u) h = ap Some (h u refl)
region_changed_told g f (x ∷ xs) (suc r) h = ap (λ (l : List (Option RegionSummary)). told_of x ∷ l) (region_changed_told g f xs r h)

-- a change of region r that leaves what is told of it
region_change_told_alike : (g : UsedRegion → UsedRegion) → ((u : UsedRegion) → summary_of (g u) ≡ summary_of u) → (r : ℕ) (regions : List Region) → summaries (with_region r g regions) ≡ summaries regions
unfolding with_region updated in_used
region_change_told_alike g h r [] = refl
region_change_told_alike g h zero (x ∷ xs) = ap (λ (s : Option RegionSummary). s ∷ summaries xs) (go x)
  where
    go : (x : Region) → told_of (in_used g x) ≡ told_of x
    go Empty = refl
    go (InUse u) = ap Some (h u)
region_change_told_alike g h (suc r) (x ∷ xs) = ap (λ (l : List (Option RegionSummary)). told_of x ∷ l) (region_change_told_alike g h r xs)

-- a change of each region
each_changed : (g : UsedRegion → UsedRegion) (f : RegionSummary → RegionSummary) → ((u : UsedRegion) → summary_of (g u) ≡ f (summary_of u)) → (regions : List Region) → summaries (each_region g regions) ≡ map (option_map f) (summaries regions)
unfolding each_region in_used
each_changed g f h [] = refl
each_changed g f h (x ∷ xs) = ap₂ (λ (s : Option RegionSummary) (l : List (Option RegionSummary)). s ∷ l) (go x) (each_changed g f h xs)
  where
    go : (x : Region) → told_of (in_used g x) ≡ option_map f (told_of x)
    go Empty = refl
    go (InUse u) = ap Some (h u)

each_told_alike : (all : List (Option RegionSummary)) → map (option_map (λ s. s)) all ≡ all
each_told_alike [] = refl
each_told_alike (x ∷ xs) = ap₂ (λ (s : Option RegionSummary) (l : List (Option RegionSummary)). s ∷ l) (go x) (each_told_alike xs)
  where
    go : (x : Option RegionSummary) → option_map (λ s. s) x ≡ x
    go None = refl
    go (Some s) = refl

-- a change of one object that leaves whether it is live
object_change_told_alike : (at : ObjRef) (f : Object → Object) → ((o : Object) → (f o).live ≡ o.live) → (regions : List Region) → summaries (with_object at f regions) ≡ summaries regions
unfolding with_object
object_change_told_alike at f h regions =
    region_change_told_alike (λ u. record u { cells = updated at.cell (option_map f) u.cells })
    (λ u. same_summary (record u { cells = updated at.cell (option_map f) u.cells }) u refl refl (sort_count_updated is_live f h at.cell u.cells) (sort_count_updated is_dead f (λ o. ap not (h o)) at.cell u.cells))
    at.region regions

word_write_told_alike : (at : ObjRef) (s old : ℕ) (regions : List Region) → summaries (with_word at s old regions) ≡ summaries regions
unfolding with_word
word_write_told_alike at s old regions = object_change_told_alike at _ (λ o. refl) regions

same_mark : (b : Bool) (x : ℕ) (regions : List Region) → summaries (with_mark_of b x regions) ≡ summaries regions
unfolding with_mark_of with_mark
same_mark b x regions = go (ref_of regions x)
  where
    go : (p : Option ObjRef) → summaries (option_map_or (λ at. with_mark b at regions) p regions) ≡ summaries regions
    go None = refl
    go (Some at) = object_change_told_alike at _ (λ o. refl) regions

same_marks : (xs : List ℕ) (regions : List Region) → summaries (fold (λ regions x. with_mark_of false x regions) regions xs) ≡ summaries regions
same_marks [] regions = refl
same_marks (x ∷ xs) regions = same_marks xs (with_mark_of false x regions) ∙ same_mark false x regions

same_unshaded : (n : ℕ) (s : MarkState) → summaries (unshaded n s).regions ≡ summaries s.regions
unfolding unshaded
same_unshaded n s = same_marks (take n s.gray) s.regions

-- ---- a cycle's begin and end

unmarked_region : (u : UsedRegion) → summary_of (each_object (λ o. record o { mark = false }) u) ≡ summary_of u
unfolding each_object
unmarked_region u = same_summary (each_object (λ o. record o { mark = false }) u) u refl refl (sort_count_mapped is_live (λ o. record o { mark = false }) (λ o. refl) u.cells) (sort_count_mapped is_dead (λ o. record o { mark = false }) (λ o. refl) u.cells)

unfinished_summary : (u : UsedRegion) → summary_of (unfinished_region u) ≡ all_live (summary_of u)
unfolding unfinished_region each_object
unfinished_summary u = λ i. record { cell_size = u.cell_size; waits = false; counts = record { live = all_live_before u.cells i; dead = none_dead_before u.cells i } }

-- ---- a new object

-- the new object is live
made_live : (e : Event) (before after : HeapState) (at : ObjRef) (fresh : Bool) (m r old : ℕ) → IsStep e before after (New at fresh m r old) → (o : Object) × (object_at after.regions at ≡ Some o) × (o.live ≡ true)
unfolding new_object
made_live e before after at fresh m r old s =
    let c = by_record e before at fresh (ap new_at (sym s.recorded)) in
    let o : Object = new_object c.3 c.2 before in
    (o, ap (λ (w : HeapState). object_at w.regions at) (s.gave ∙ c.4) ∙ new_object_stands_at_place before c.0 c.1 c.2 c.3 at fresh s.legal c.5, refl)

freed_summary : (u : UsedRegion) (cell : ℕ) (o : Object) → cell_object u cell ≡ Some o → o.live ≡ true → summary_of (cell_freed u cell) ≡ one_fewer (summary_of u)
freed_summary u cell o here live =
    let l : is_live (get_or u.cells cell None) ≡ true = ap is_live here ∙ live in
    let d : is_dead (get_or u.cells cell None) ≡ false = ap is_dead here ∙ ap not live in
    λ i. record { cell_size = u.cell_size; waits = u.pending; counts = record { live = live_without cell u.cells l i; dead = dead_without cell u.cells d i } }

before_new : (w : HeapState) (at : ObjRef) (fresh : Bool) (o : Object) → object_at w.regions at ≡ Some o → o.live ≡ true
    → summaries (unallocated at fresh (pool_of w)).regions ≡ with_summary at.region (λ s. cond fresh None (option_map one_fewer s)) (summaries w.regions)
unfolding unallocated released freed
before_new w at true o here live = map-set told_of w.regions at.region Empty
before_new w at false o here live =
    region_changed_told (λ u. cell_freed u at.cell) one_fewer w.regions at.region
    (λ u e. freed_summary u at.cell o (ap (λ (x : Option UsedRegion). slot_object x at.cell) (sym e) ∙ sym (object_of_used w.regions at) ∙ here) live)

-- ---- sweeps

swept_summary : (u : UsedRegion) → u.pending ≡ true → summary_of u ≡ with_dead_back (length (dead_cells u)) (summary_of (swept_region u))
unfolding swept_region dead_cells
swept_summary u p =
    let l = sym (live_left u.cells) in
    let d = sym (dead_length 0 u.cells) in
    λ i. record { cell_size = u.cell_size; waits = p i; counts = record { live = l i; dead = d i } }

-- the region before and after the sweep
swept_back : (before after : HeapState) (region : ℕ) (dead : List (ℕ × Object)) → is_emptied region (pool_of before) ≡ false → dead ≡ dead_at region (pool_of before) → after ≡ after_sweep region before → (unswept region dead (pool_of after)).regions ≡ before.regions
    → summaries before.regions ≡ with_summary region (option_map (with_dead_back (length dead))) (summaries after.regions)
unfolding after_sweep swept unswept unswept_region dead_at
swept_back before after region dead kept d gave were =
    ap summaries (sym were) ∙ region_changed_told (unswept_region dead) (with_dead_back (length dead)) after.regions region each
  where
    regions : List Region
    regions = with_region region swept_region before.regions

    same : after.regions ≡ regions
    same = ap (λ (w : HeapState). w.regions) gave ∙ ap (λ (b : Bool). (cond b (released region (pool_of before)) (record (pool_of before) { regions = regions })).regions) kept

    now : used_at after.regions region ≡ option_map swept_region (used_at before.regions region)
    now = ap (λ (rs : List Region). used_at rs region) same ∙ used_region_after_its_change region swept_region before.regions

    was : used_at before.regions region ≡ option_map (unswept_region dead) (used_at after.regions region)
    was = ap (λ (rs : List Region). used_at rs region) (sym were) ∙ used_region_after_its_change region (unswept_region dead) after.regions

    each : (v : UsedRegion) → used_at after.regions region ≡ Some v → summary_of (unswept_region dead v) ≡ with_dead_back (length dead) (summary_of v)
    each v e =
        let u : UsedRegion = unswept_region dead v in
        let there : used_at before.regions region ≡ Some u = was ∙ ap (option_map (unswept_region dead)) e in
        let left : swept_region u ≡ v = same_Some (swept_region u) v (sym (ap (option_map swept_region) there) ∙ sym now ∙ e) in
        let told : dead ≡ dead_cells u = d ∙ ap (λ (x : Option UsedRegion). option_map_or dead_cells x []) there in
        swept_summary u refl ∙ ap₂ (λ (n : ℕ) (w : UsedRegion). with_dead_back n (summary_of w)) (ap (λ (l : List (ℕ × Object)). length l) (sym told)) left

sweep_tells_regions : (e : Event) (before after : HeapState) (region : ℕ) (dead : List (ℕ × Object)) → IsStep e before after (Sweep region dead) → summaries before.regions ≡ with_summary region (option_map (with_dead_back (length dead))) (summaries after.regions)
sweep_tells_regions e before after region dead s =
    let b = sweep_before e before after (Sweep region dead) s region dead refl in
    let same = one_before e before b.0 after region dead s b.1 b.2 b.3 b.4 b.5 in
    let were = ap (λ (w : HeapState). w.regions) (sweep_is e before after (Sweep region dead) s region dead refl) in
    swept_back before after region dead (sym (ap (λ (w : HeapState). is_emptied region (pool_of w)) same) ∙ b.3) (b.4 ∙ ap (λ (w : HeapState). dead_at region (pool_of w)) same) (b.5 ∙ ap (after_sweep region) same) were

-- the region of the record was there before the step
reclaimed_there : (e : Event) (before after : HeapState) (region : ℕ) (storage : UsedRegion) → IsStep e before after (Reclaim region storage) → used_at before.regions region ≡ Some storage
unfolding restored used_at
reclaimed_there e before after region storage s =
    ap (λ (w : HeapState). used_at w.regions region) (sym (reclaim_is e before after (Reclaim region storage) s region storage refl))
    ∙ ap (option_and_then used_part) (set_item_is_got after.regions region (InUse storage) (slice_get_within after.regions region Empty (reclaim_empty e before after (Reclaim region storage) s region storage refl)))

-- it waited to be swept: in other regions all objects are live
reclaimed_waits : (e : Event) (before after : HeapState) (region : ℕ) (storage : UsedRegion) → IsStep e before after (Reclaim region storage) → storage.pending ≡ true
reclaimed_waits e before after region storage s = elim (cases_Bool storage.pending) [
  | inl t ↦ t
  | inr f ↦
      let there = reclaimed_there e before after region storage s in
      let some = reclaim_inhabited e before after (Reclaim region storage) s region storage refl in
      let none = reclaim_lifeless e before after (Reclaim region storage) s region storage refl some.0 in
      let cell : cell_object storage some.0 ≡ Some some.1 = get_or_from_slice_get storage.cells some.0 (Some some.1) None some.2 in
      let at : ObjRef = record { region = region; cell = some.0 } in
      let here : object_at before.regions at ≡ Some some.1 = object_of_used before.regions at ∙ ap (λ (x : Option UsedRegion). slot_object x some.0) there ∙ cell in
      let live : some.1.live ≡ true = subst (λ (x : Option UsedRegion). IfSome x (λ u. u.pending ≡ false → some.1.live ≡ true)) there (s.legal.swept_live at some.1 here) f in
      absurd (false≢true (sym none ∙ ap is_live cell ∙ live))
]

reclaim_tells_regions : (e : Event) (before after : HeapState) (region : ℕ) (storage : UsedRegion) → IsStep e before after (Reclaim region storage) → summaries before.regions ≡ with_summary region (λ s. Some (taken_out storage)) (summaries after.regions)
unfolding restored
reclaim_tells_regions e before after region storage s =
    let size = sym (whole_size storage (table_of before region storage s.legal (reclaimed_there e before after region storage s))) in
    let waits = reclaimed_waits e before after region storage s in
    let same : summary_of storage ≡ taken_out storage = λ i. record { cell_size = size i; waits = waits i; counts = counts_of storage } in
    ap (λ (w : HeapState). summaries w.regions) (sym (reclaim_is e before after (Reclaim region storage) s region storage refl))
    ∙ map-set told_of after.regions region (InUse storage)
    ∙ ap (λ (x : RegionSummary). set (summaries after.regions) region (Some x)) same

-- ---- every record

undone_is_before : (left : Undo) (e : Event) (before after : HeapState) → IsStep e before after left → undone left after ≡ before
undone_is_before left e before after s = ap₂ undone s.recorded s.gave ∙ undo_restores e before s.legal s.accepted

-- the regions of the state that a record's undoing gives, where these are told alike
by_undoing : (left : Undo) (e : Event) (before after : HeapState) (all : List (Option RegionSummary)) → IsStep e before after left → summaries (undone left after).regions ≡ all → summaries before.regions ≡ all
by_undoing left e before after all s h = ap (λ (w : HeapState). summaries w.regions) (sym (undone_is_before left e before after s)) ∙ h

-- what is told of the regions before a step
pub record_tells_regions : (left : Undo) (e : Event) (before after : HeapState) → IsStep e before after left → summaries before.regions ≡ summaries_before left (summaries after.regions)
unfolding undone unsnapped unmarked undrained unfinished
record_tells_regions (Put at slot old) e before after s = by_undoing (Put at slot old) e before after _ s (word_write_told_alike at slot old after.regions)
record_tells_regions (Store at slot old logged) e before after s = by_undoing (Store at slot old logged) e before after _ s (word_write_told_alike at slot old after.regions)
record_tells_regions (Reg m r old) e before after s = by_undoing (Reg m r old) e before after _ s refl
record_tells_regions (New at fresh m r old) e before after s =
    let o = made_live e before after at fresh m r old s in
    by_undoing (New at fresh m r old) e before after _ s (before_new after at fresh o.0 o.1 o.2)
record_tells_regions Class e before after s = by_undoing Class e before after _ s refl
record_tells_regions Snap e before after s =
    by_undoing Snap e before after _ s
    (each_changed (each_object (λ o. record o { mark = false })) (λ s. s) unmarked_region after.regions ∙ each_told_alike (summaries after.regions))
record_tells_regions (Mark parent pushed) e before after s = by_undoing (Mark parent pushed) e before after _ s (same_unshaded pushed (marking_of after))
record_tells_regions (Drain pushed) e before after s = by_undoing (Drain pushed) e before after _ s (same_unshaded pushed (record (marking_of after) { drained = after.drained - 1 }))
record_tells_regions (Finish log) e before after s = by_undoing (Finish log) e before after _ s (each_changed unfinished_region all_live unfinished_summary after.regions)
record_tells_regions (Sweep region dead) e before after s = sweep_tells_regions e before after region dead s
record_tells_regions (Reclaim region storage) e before after s = reclaim_tells_regions e before after region storage s

-- ---- regions of a legal heap

-- what is told of a region is told of one in use
pub region_told : (regions : List Region) (r : ℕ) (s : RegionSummary) → get_or (summaries regions) r None ≡ Some s → (u : UsedRegion) × (used_at regions r ≡ Some u) × (summary_of u ≡ s)
unfolding used_at
region_told [] r s e = absurd (none-some s e)
region_told (Empty ∷ xs) zero s e = absurd (none-some s e)
region_told (InUse u ∷ xs) zero s e = (u, refl, same_Some (summary_of u) s e)
region_told (x ∷ xs) (suc r) s e = region_told xs r s e

pub few_told : (w : HeapState) → IsLegal w → HaveFew (summaries w.regions)
few_told w legal r s e =
    let u = region_told w.regions r s e in
    let few = (cell_table_has_few_cells u.0 (table_of w r u.0 legal u.1)).1 in
    let counted = counts_at_most_cells u.0.cells in
    let live = ap (λ (s : RegionSummary). s.counts.live) u.2 in
    let dead = ap (λ (s : RegionSummary). s.counts.dead) u.2 in
    omega (arith, few, counted, live, dead)

-- the first regions, and one more
one_region_further : (regions : List Region) (r : ℕ) → r < length regions → summaries (take (suc r) regions) ≡ summaries (take r regions) ++ option_map summary_of (used_at regions r) ∷ []
unfolding used_at
one_region_further [] r l = absurd (omega (arith, l))
one_region_further (x ∷ xs) zero l = refl
one_region_further (x ∷ xs) (suc r) l = ap (λ (rest : List (Option RegionSummary)). told_of x ∷ rest) (one_region_further xs r (omega (arith, l)))

pub one_region_more_told : (regions : List Region) (r : ℕ) → r < length regions → summaries (take (r + 1) regions) ≡ summaries (take r regions) ++ option_map summary_of (used_at regions r) ∷ []
one_region_more_told regions r l = ap (λ n. summaries (take n regions)) (add-one r) ∙ one_region_further regions r l

-- ---- a list of which the first items are changed

abbrev pub first_mapped : {A : Type 0} → ℕ → (A → A) → List A → List A
first_mapped zero f xs = xs
first_mapped (suc n) f [] = []
first_mapped (suc n) f (x ∷ xs) = f x ∷ first_mapped n f xs

pub next_is_unchanged : {A : Type 0} (f : A → A) (xs : List A) (n : ℕ) (d : A) → get_or (first_mapped n f xs) n d ≡ get_or xs n d
next_is_unchanged f xs zero d = refl
next_is_unchanged f [] (suc n) d = refl
next_is_unchanged f (x ∷ xs) (suc n) d = next_is_unchanged f xs n d

pub one_mapped_more : {A : Type 0} (f : A → A) (xs : List A) (n : ℕ) (d : A) → n < length xs → set (first_mapped n f xs) n (f (get_or xs n d)) ≡ first_mapped (suc n) f xs
one_mapped_more f [] n d l = absurd (omega (arith, l))
one_mapped_more f (x ∷ xs) zero d l = refl
one_mapped_more f (x ∷ xs) (suc n) d l = ap (λ (ys : List _). f x ∷ ys) (one_mapped_more f xs n d (omega (arith, l)))

pub all_mapped : {A : Type 0} (f : A → A) (xs : List A) (n : ℕ) → length xs ≤ n → first_mapped n f xs ≡ map f xs
all_mapped f [] zero l = refl
all_mapped f [] (suc n) l = refl
all_mapped f (x ∷ xs) zero l = absurd (omega (arith, l))
all_mapped f (x ∷ xs) (suc n) l = ap (λ (ys : List _). f x ∷ ys) (all_mapped f xs n (omega (arith, l)))

pub mapped_length : {A : Type 0} (f : A → A) (xs : List A) (n : ℕ) → length (first_mapped n f xs) ≡ length xs
mapped_length f xs zero = refl
mapped_length f [] (suc n) = refl
mapped_length f (x ∷ xs) (suc n) = ap suc (mapped_length f xs n)
