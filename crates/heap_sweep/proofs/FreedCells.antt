-- Taking the dead objects out of a region one by one, and putting them back.
use Rattle.std.proofs.Common.{◌≡◌, ◌≢◌, ℕ, zero, suc, ◌+◌, ◌<◌, ◌≤◌, Bool, true, false, cond, List, [], ◌∷◌, ◌++◌, length, map, set, reverse, Option, Some, None, IsSome, inl, inr, refl, sym, ap, subst, ◌∙◌, arith}
use Rattle.std.specs.Prelude.{◌⊎◌, option_map, slice_get, IsSomeAnd}
use Rattle.std.specs.Option.{option_map_or}
use Rattle.std.specs.List.{cons_option}
use Rattle.std.proofs.lemmas.Bool.{cases_eq}
use Rattle.std.proofs.lemmas.Grind.{reverse_onto}
use Rattle.std.proofs.lemmas.List.{append_assoc, set_at, length-set, length_push}
use Rattle.std.proofs.lemmas.Option.{slice_get_within}
use Rattle.heap_class.specs.declared.ObjRef.{ObjRef}
use Rattle.heap_class.proofs.Lists.{got_item_was_set, got_set_elsewhere}
use Rattle.heap_region.specs.Regions.{Object, UsedRegion, Region, Empty, InUse, used_at, object_at, updated, in_used, with_region, FitsWords}
use Rattle.heap_region.specs.Pool.{RegionPool, freed, taken, cell_freed}
use Rattle.heap_region.specs.Legal.{IsCellTable}
use Rattle.heap_region.proofs.UpdatedLists.{updated_same, updated_twice}
use Rattle.heap_region.proofs.Lookups.{used_region_after_its_change, listed_region_is_in_use, object_found_in_used_cell}
use Rattle.heap_region.proofs.Laws.{freed_back}
use Rattle.heap_sweep.specs.Sweep.{live_part, dead_cells, has_live, dead_at}
use Rattle.heap_sweep.specs.Cells.{cleared}
use Rattle.heap_sweep.proofs.Cells.{place, dead_pairs}
use Rattle.heap_sweep.proofs.Dead.{reverse_cons, cell_of_some_live_object}
use Rattle.heap_region.proofs.UpdatedLists.{updated_alike}

-- ---- one region

-- the region after the cells of these objects were freed, in order
abbrev pub freed_cells : List (ℕ × Object) → UsedRegion → UsedRegion
freed_cells [] u = u
freed_cells (d ∷ ds) u = freed_cells ds (cell_freed u d.0)

-- the object is in its cell, which isn't cell k
pub record IsHeld (k : ℕ) (d : ℕ × Object) (u : UsedRegion) : Type 0 where
  pub there : slice_get u.cells d.0 ≡ Some (Some d.1)
  pub fits : FitsWords u.cell_size (length d.1.words)
  pub within : d.0 < 256
  pub apart : d.0 ≢ k

-- so is each, when those before it were freed
abbrev pub AreHeld : ℕ → List (ℕ × Object) → UsedRegion → Type 0
AreHeld k [] u = Unit {0}
AreHeld k (d ∷ ds) u = IsHeld k d u × AreHeld k ds (cell_freed u d.0)

-- cell k has a live object, each object fits its cell, and the cells are few
pub record Keeps (k : ℕ) (u : UsedRegion) : Type 0 where
  pub object : Object
  pub there : slice_get u.cells k ≡ Some (Some object)
  pub live : object.live ≡ true
  pub fits : (c : ℕ) (o : Object) → slice_get u.cells c ≡ Some (Some o) → FitsWords u.cell_size (length o.words)
  pub few : length u.cells ≤ 256

item_after_list_of_length : {A : Type 0} (xs ys : List A) (y : A) (n : ℕ) → length xs ≡ n → slice_get (xs ++ y ∷ ys) n ≡ Some y
item_after_list_of_length [] ys y zero h = refl
item_after_list_of_length [] ys y (suc n) h = absurd (omega arith)
item_after_list_of_length (x ∷ xs) ys y zero h = absurd (omega arith)
item_after_list_of_length (x ∷ xs) ys y (suc n) h = item_after_list_of_length xs ys y n (omega arith)

region_keeps_object_after_freeing : (k n : ℕ) (u : UsedRegion) (o : Object) → Keeps k u → slice_get u.cells n ≡ Some (Some o) → n ≢ k → Keeps k (cell_freed u n)
region_keeps_object_after_freeing k n u o keeps there other = record {
  object = keeps.object;
  there = got_set_elsewhere n k u.cells None other ∙ keeps.there;
  live = keeps.live;
  fits = λ c p h. go c p h (cases_eq n c);
  few = omega (arith, length-set u.cells n None, keeps.few);
}
  where
    go : (c : ℕ) (p : Object) → slice_get (set u.cells n None) c ≡ Some (Some p) → (n ≡ c) ⊎ (n ≡ c → ⊥) → FitsWords u.cell_size (length p.words)
    go c p h (inl e) =
        let gone : slice_get (set u.cells n None) c ≡ Some None = ap (slice_get (set u.cells n None)) (sym e) ∙ got_item_was_set n u.cells (Some o) None there in
        absurd (cc)
    go c p h (inr d) = keeps.fits c p (sym (got_set_elsewhere n c u.cells None d) ∙ h)

-- the dead ones of the cells from n on, after others
dead_cells_after_others_held : (k : ℕ) (before cells : List (Option Object)) (n : ℕ) (u : UsedRegion) → length before ≡ n → u.cells ≡ before ++ cells → Keeps k u → AreHeld k (dead_pairs n cells) u
dead_cells_after_others_held k before [] n u h is keeps = tt
dead_cells_after_others_held k before (None ∷ cs) n u h is keeps = dead_cells_after_others_held k (before ++ None ∷ []) cs (n + 1) u (length_push before None ∙ omega arith) (is ∙ sym (append_assoc before (None ∷ []) cs)) keeps
dead_cells_after_others_held k before (Some o ∷ cs) n u h is keeps = go o.live refl
    (dead_cells_after_others_held k (before ++ Some o ∷ []) cs (n + 1) u (length_push before (Some o) ∙ omega arith) (is ∙ sym (append_assoc before (Some o ∷ []) cs)) keeps)
    (λ gone. dead_cells_after_others_held k (before ++ None ∷ []) cs (n + 1) (cell_freed u n) (length_push before None ∙ omega arith) (ap (λ (l : List (Option Object)). set l n None) is ∙ (set_at before (Some o) cs None n h ∙ sym (append_assoc before (None ∷ []) cs))) gone)
  where
    there : slice_get u.cells n ≡ Some (Some o)
    there = ap (λ (l : List (Option Object)). slice_get l n) is ∙ item_after_list_of_length before cs (Some o) n h

    other : o.live ≡ false → n ≢ k
    other dead e =
        let two : slice_get u.cells k ≡ Some (Some o) = ap (slice_get u.cells) (sym e) ∙ there in
        let kept = keeps.there in
        let same : keeps.object ≡ o = cc in
        let bits : true ≡ false = sym keeps.live ∙ (ap (λ (p : Object). p.live) same ∙ dead) in
        absurd (cc)

    go : (b : Bool) → o.live ≡ b → AreHeld k (dead_pairs (n + 1) cs) u → (Keeps k (cell_freed u n) → AreHeld k (dead_pairs (n + 1) cs) (cell_freed u n))
        → AreHeld k (cons_option (option_map {T = Object} {U = ℕ × Object} (λ p. (n, p)) (cond b None (Some o))) (dead_pairs (n + 1) cs)) u
    go true e rest gone = rest
    go false e rest gone = (
      record {
        there = there;
        fits = keeps.fits n o there;
        within = (let few : length u.cells ≤ 256 = keeps.few in omega (arith, slice_get_within u.cells n (Some o) there));
        apart = other e;
      },
      gone (region_keeps_object_after_freeing k n u o keeps there (other e)),
    )

pub dead_held : (k : ℕ) (u : UsedRegion) → Keeps k u → AreHeld k (dead_cells u) u
unfolding dead_cells
dead_held k u keeps = dead_cells_after_others_held k [] u.cells 0 u refl refl keeps

-- a whole region with a live object
pub live_keeps : (u : UsedRegion) → IsCellTable u → length u.cells ≤ 256 → has_live u ≡ true → (k : ℕ) × Keeps k u
live_keeps u table few live =
    let found = cell_of_some_live_object u live in
    (found.0, record { object = found.1; there = found.2; live = found.3; fits = λ c o h. (table.fits c o h, table.least c o h); few = few })

-- what freeing the dead ones leaves
cells_after_dead_are_freed : (before cells : List (Option Object)) (n : ℕ) (u : UsedRegion) → length before ≡ n → u.cells ≡ before ++ cells → (freed_cells (dead_pairs n cells) u).cells ≡ before ++ map live_part cells
cells_after_dead_are_freed before [] n u h is = is
cells_after_dead_are_freed before (None ∷ cs) n u h is = cells_after_dead_are_freed (before ++ None ∷ []) cs (n + 1) u (length_push before None ∙ omega arith) (is ∙ sym (append_assoc before (None ∷ []) cs)) ∙ append_assoc before (None ∷ []) (map live_part cs)
cells_after_dead_are_freed before (Some o ∷ cs) n u h is = go o.live
    (cells_after_dead_are_freed (before ++ Some o ∷ []) cs (n + 1) u (length_push before (Some o) ∙ omega arith) (is ∙ sym (append_assoc before (Some o ∷ []) cs)) ∙ append_assoc before (Some o ∷ []) (map live_part cs))
    (cells_after_dead_are_freed (before ++ None ∷ []) cs (n + 1) (cell_freed u n) (length_push before None ∙ omega arith) (ap (λ (l : List (Option Object)). set l n None) is ∙ (set_at before (Some o) cs None n h ∙ sym (append_assoc before (None ∷ []) cs))) ∙ append_assoc before (None ∷ []) (map live_part cs))
  where
    go : (b : Bool) → (freed_cells (dead_pairs (n + 1) cs) u).cells ≡ before ++ Some o ∷ map live_part cs → (freed_cells (dead_pairs (n + 1) cs) (cell_freed u n)).cells ≡ before ++ None ∷ map live_part cs
        → (freed_cells (cons_option (option_map {T = Object} {U = ℕ × Object} (λ p. (n, p)) (cond b None (Some o))) (dead_pairs (n + 1) cs)) u).cells ≡ before ++ cond b (Some o) None ∷ map live_part cs
    go true stays gone = stays
    go false stays gone = gone

freed_list : (ds : List (ℕ × Object)) (u : UsedRegion) → (freed_cells ds u).free ≡ reverse (map (λ (d : ℕ × Object). d.0) ds) ++ u.free
freed_list [] u = refl
freed_list (d ∷ ds) u = freed_list ds (cell_freed u d.0) ∙ sym (reverse_cons d.0 (map (λ (d : ℕ × Object). d.0) ds) u.free)

freed_size : (ds : List (ℕ × Object)) (u : UsedRegion) → (freed_cells ds u).cell_size ≡ u.cell_size
freed_size [] u = refl
freed_size (d ∷ ds) u = freed_size ds (cell_freed u d.0)

freed_pending : (ds : List (ℕ × Object)) (u : UsedRegion) → (freed_cells ds u).pending ≡ u.pending
freed_pending [] u = refl
freed_pending (d ∷ ds) u = freed_pending ds (cell_freed u d.0)

pub dead_cleared : (u : UsedRegion) → freed_cells (dead_cells u) u ≡ cleared u
unfolding cleared dead_cells
dead_cleared u = λ i. record {
  cell_size = freed_size (dead_pairs 0 u.cells) u i;
  pending = freed_pending (dead_pairs 0 u.cells) u i;
  cells = cells_after_dead_are_freed [] u.cells 0 u refl refl i;
  free = freed_list (dead_pairs 0 u.cells) u i;
}

-- ---- all regions

-- the regions after the cells of these objects of region r were freed, in order
abbrev pub freed_each : ℕ → List (ℕ × Object) → RegionPool → RegionPool
freed_each r [] s = s
freed_each r (d ∷ ds) s = freed_each r ds (freed (place r d.0) s)

-- each can be freed in its turn
abbrev pub CanFree : ℕ → List (ℕ × Object) → RegionPool → Type 0
CanFree r [] s = Unit {0}
CanFree r (d ∷ ds) s = (d.0 < 256) × IsSome (object_at s.regions (place r d.0)) × ((other : ObjRef) × (other.region ≡ r) × (other ≢ place r d.0) × IsSome (object_at s.regions other)) × CanFree r ds (freed (place r d.0) s)

region_used_after_freeing : (r c : ℕ) (s : RegionPool) (u : UsedRegion) → used_at s.regions r ≡ Some u → used_at (freed (place r c) s).regions r ≡ Some (cell_freed u c)
unfolding freed
region_used_after_freeing r c s u used = used_region_after_its_change r _ s.regions ∙ ap (option_map (λ (u : UsedRegion). cell_freed u c)) used

pub value_means_is_some : {A : Type 0} (x : Option A) (y : A) → x ≡ Some y → IsSome x
value_means_is_some x y e = subst IsSome (sym e) (search)

pub dead_cells_can_be_freed : (r k : ℕ) (ds : List (ℕ × Object)) (s : RegionPool) (u : UsedRegion) (o : Object) → used_at s.regions r ≡ Some u → slice_get u.cells k ≡ Some (Some o) → AreHeld k ds u → CanFree r ds s
dead_cells_can_be_freed r k [] s u o used there held = tt
dead_cells_can_be_freed r k (d ∷ ds) s u o used there held = (
  held.0.within,
  value_means_is_some _ _ (object_found_in_used_cell s.regions (place r d.0) u d.1 used held.0.there),
  (place r k, refl, (λ e. held.0.apart (ap (λ (a : ObjRef). a.cell) (sym e))), value_means_is_some _ _ (object_found_in_used_cell s.regions (place r k) u o used there)),
  dead_cells_can_be_freed r k ds (freed (place r d.0) s) (cell_freed u d.0) o (region_used_after_freeing r d.0 s u used) (got_set_elsewhere d.0 k u.cells None held.0.apart ∙ there) held.1,
)

pub region_twice : (r : ℕ) (f g : UsedRegion → UsedRegion) (regions : List Region) → with_region r g (with_region r f regions) ≡ with_region r (λ u. g (f u)) regions
unfolding with_region in_used
region_twice r f g regions = updated_twice r (in_used f) (in_used g) regions ∙ ap (λ (h : Region → Region). updated r h regions) (λ i x. go x i)
  where
    go : (x : Region) → in_used g (in_used f x) ≡ in_used (λ u. g (f u)) x
    go Empty = refl
    go (InUse u) = refl

region_same : (r : ℕ) (regions : List Region) → with_region r (λ u. u) regions ≡ regions
unfolding with_region in_used
region_same r regions = updated_same r (in_used (λ u. u)) regions (λ x e. go x)
  where
    go : (x : Region) → in_used (λ u. u) x ≡ x
    go Empty = refl
    go (InUse u) = refl

pub region_alike : (r : ℕ) (f g : UsedRegion → UsedRegion) (regions : List Region) → ((u : UsedRegion) → used_at regions r ≡ Some u → f u ≡ g u) → with_region r f regions ≡ with_region r g regions
unfolding with_region in_used
region_alike r f g regions h = updated_alike r (in_used f) (in_used g) regions go
  where
    go : (x : Region) → slice_get regions r ≡ Some x → in_used f x ≡ in_used g x
    go Empty e = refl
    go (InUse u) e = ap InUse (h u (listed_region_is_in_use regions r u e))

freed_state : (r : ℕ) (ds : List (ℕ × Object)) (s : RegionPool) → freed_each r ds s ≡ record s { regions = with_region r (freed_cells ds) s.regions }
unfolding freed
freed_state r [] s = ap (λ (l : List Region). record s { regions = l }) (sym (region_same r s.regions))
freed_state r (d ∷ ds) s = freed_state r ds (freed (place r d.0) s) ∙ ap (λ (l : List Region). record s { regions = l }) (region_twice r (λ u. cell_freed u d.0) (freed_cells ds) s.regions)

-- where the dead ones of a region are freed
pub freed_dead : (r : ℕ) (s : RegionPool) → freed_each r (dead_at r s) s ≡ record s { regions = with_region r cleared s.regions }
unfolding dead_at
freed_dead r s = freed_state r (dead_at r s) s ∙ ap (λ (l : List Region). record s { regions = l }) (region_alike r (freed_cells (dead_at r s)) cleared s.regions same)
  where
    same : (u : UsedRegion) → used_at s.regions r ≡ Some u → freed_cells (dead_at r s) u ≡ cleared u
    same u used = ap (λ (x : Option UsedRegion). freed_cells (option_map_or dead_cells x []) u) used ∙ dead_cleared u

-- ---- putting them back

-- the regions after these objects of region r were put back, in order
abbrev pub taken_each : ℕ → List (ℕ × Object) → RegionPool → RegionPool
taken_each r [] s = s
taken_each r (d ∷ ds) s = taken_each r ds (taken (place r d.0) d.1 s)

-- the object fits the cell at the head of the region's free list, which is its own
abbrev pub IsReady : ℕ → ℕ × Object → RegionPool → Type 0
IsReady r d s = (d.0 < 256) × IsSomeAnd (used_at s.regions r) (λ u. (slice_get u.free 0 ≡ Some d.0) × FitsWords u.cell_size (length d.1.words))

-- each can be put back in its turn
abbrev pub CanTake : ℕ → List (ℕ × Object) → RegionPool → Type 0
CanTake r [] s = Unit {0}
CanTake r (d ∷ ds) s = IsReady r d s × CanTake r ds (taken (place r d.0) d.1 s)

can_take_last : (r : ℕ) (ds : List (ℕ × Object)) (d : ℕ × Object) (s : RegionPool) → CanTake r ds s → IsReady r d (taken_each r ds s) → CanTake r (ds ++ d ∷ []) s
can_take_last r [] d s can ready = (ready, tt)
can_take_last r (x ∷ ds) d s can ready = (can.0, can_take_last r ds d (taken (place r x.0) x.1 s) can.1 ready)

taken_each_with_last : (r : ℕ) (ds : List (ℕ × Object)) (d : ℕ × Object) (s : RegionPool) → taken_each r (ds ++ d ∷ []) s ≡ taken (place r d.0) d.1 (taken_each r ds s)
taken_each_with_last r [] d s = refl
taken_each_with_last r (x ∷ ds) d s = taken_each_with_last r ds d (taken (place r x.0) x.1 s)

pub takes_freed_cells : (r k : ℕ) (ds : List (ℕ × Object)) (s : RegionPool) (u : UsedRegion) → used_at s.regions r ≡ Some u → AreHeld k ds u
    → CanTake r (reverse ds) (freed_each r ds s) × (taken_each r (reverse ds) (freed_each r ds s) ≡ s)
takes_freed_cells r k [] s u used held = (tt, refl)
takes_freed_cells r k (d ∷ ds) s u used held = go (takes_freed_cells r k ds (freed (place r d.0) s) (cell_freed u d.0) (region_used_after_freeing r d.0 s u used) held.1)
  where
    once : RegionPool
    once = freed (place r d.0) s

    turned : reverse (d ∷ ds) ≡ reverse ds ++ d ∷ []
    turned = reverse_onto ds d []

    back : taken (place r d.0) d.1 once ≡ s
    back = freed_back (place r d.0) d.1 s (object_found_in_used_cell s.regions (place r d.0) u d.1 used held.0.there)

    ready : IsReady r d once
    ready = (held.0.within, subst (λ (x : Option UsedRegion). IsSomeAnd x (λ u. (slice_get u.free 0 ≡ Some d.0) × FitsWords u.cell_size (length d.1.words))) (sym (region_used_after_freeing r d.0 s u used)) (refl, held.0.fits))

    go : CanTake r (reverse ds) (freed_each r ds once) × (taken_each r (reverse ds) (freed_each r ds once) ≡ once)
        → CanTake r (reverse (d ∷ ds)) (freed_each r ds once) × (taken_each r (reverse (d ∷ ds)) (freed_each r ds once) ≡ s)
    go rest = (
      subst (λ (l : List (ℕ × Object)). CanTake r l (freed_each r ds once)) (sym turned) (can_take_last r (reverse ds) d (freed_each r ds once) rest.0 (subst (IsReady r d) (sym rest.1) ready)),
      ap (λ (l : List (ℕ × Object)). taken_each r l (freed_each r ds once)) turned ∙ (taken_each_with_last r (reverse ds) d (freed_each r ds once) ∙ (ap (taken (place r d.0) d.1) rest.1 ∙ back)),
    )
