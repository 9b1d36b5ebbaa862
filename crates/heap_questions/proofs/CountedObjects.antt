-- How many live objects of a class a state has, and what a record tells of them.
use Rattle.std.proofs.Common.{◌≡◌, ◌≢◌, ℕ, zero, suc, ◌+◌, ◌-◌, ◌≤◌, ◌==◌, ◌&&◌, Bool, true, false, cond, List, [], ◌∷◌, length, drop, take, ◌++◌, get_or, map, Option, Some, None, refl, sym, ap, ap₂, ◌∙◌, subst, inl, inr, arith}
use Rattle.std.specs.Prelude.{count_by, filter, flat_map, nat_le, option_and_then, option_map, slice_get, slice_set, sum_by, ◌||◌}
use Rattle.std.specs.List.{enumerate_from, filter_map}
use Rattle.std.specs.Option.{option_map_or}
use Rattle.std.proofs.lemmas.Bool.{cases_Bool, cases_eq, eq-eqb, false≢true, le-leb, leb-true, true≢false}
use Rattle.std.proofs.lemmas.List.{length-append, take_all, take_more}
use Rattle.std.proofs.lemmas.List.Elements.{filter-append}
use Rattle.std.proofs.lemmas.List.Sums.{sum_by-append, sum_by-cons}
use Rattle.std.proofs.lemmas.Option.{none-some, same_Some, get_or_from_slice_get, slice_get-map, slice_get_within}
use Rattle.heap_class.specs.declared.ObjKind.{ObjKind}
use Rattle.heap_class.specs.declared.ObjRef.{ObjRef}
use Rattle.heap_region.specs.Live.{cells_of, is_live}
use Rattle.heap_region.specs.Regions.{Empty, InUse, Object, Region, UsedRegion, cell_object, live_objects, object_at, objects_in, objects_of_region, used_at, used_part, with_region, with_word}
use Rattle.heap_region.proofs.Lookups.{object_after_its_change, object_elsewhere, used_region_after_its_change}
use Rattle.heap_region.proofs.PriorObjects.{places_equal_or_different}
use Rattle.heap_world.specs.Events.{after_sweep}
use Rattle.heap_world.specs.State.{HeapState, pool_of}
use Rattle.heap_world.specs.Sweep.{is_emptied, live_part, swept, swept_region}
use Rattle.heap_region.specs.Pool.{released}
use Rattle.heap_step.specs.declared.Event.{Event}
use Rattle.heap_step.specs.declared.Undo.{Undo}
use Rattle.heap_step.specs.declared.Undo.TheVariants.{Put, Store, New, Finish, Sweep, Reclaim}
use Rattle.heap_step.specs.Laws.{IsStep}
use Rattle.heap_step.proofs.Steps.{put_undone_is_before, reclaim_lifeless, store_is, sweep_before}
use Rattle.hprof_text.specs.Image.{DumpedObject, Image}
use Rattle.heap_pins.specs.Images.{dumped_objects, image_of}
use Rattle.heap_pins.specs.KeptCopies.{touched}
use Rattle.heap_pins.specs.Pin.{PinContents}
use Rattle.heap_pins.specs.Walk.{TellsBefore, cell_state, states_before}
use Rattle.heap_pins.proofs.RecordCases.{sweep_touches_its_region}
use Rattle.heap_pins.proofs.ShownImages.{shown}
use Rattle.heap_trail.specs.Trail.{Trail, state_ago}
use Rattle.heap_trail.proofs.RetainedRecords.{HasRecord}
use Rattle.heap_questions.specs.declared.wanted.Wanted.TheVariants.{OfClass}
use Rattle.heap_questions.specs.Changes.{made_by}
use Rattle.heap_questions.specs.declared.wanted.Wanted.{Wanted}
use Rattle.heap_questions.specs.FirstPlaces.{HasMany, HoldsAgo, IsFirstPlace, is_finish, made_place, makes_of_class, many_before, place_if}
use Rattle.heap_questions.specs.Newest.{written_at}
use Rattle.heap_questions.specs.ObjectLists.{objects_wanted}
use Rattle.heap_questions.specs.PastTrails.{IsShownBeside}
use Rattle.heap_questions.specs.SlotWrites.{seen_object}
use Rattle.heap_questions.specs.Wanted.{is_of_class, is_wanted}
use Rattle.heap_questions.proofs.DeadObjects.{in_cells, element_of_rest, place}
use Rattle.heap_questions.proofs.FirstPlaces.{live_of_state, one_made, one_older, seen_as, states_after, written_live}
use Rattle.heap_questions.proofs.Sizes.{same_regions}
use Rattle.heap_questions.proofs.ToldObjects.{covered_alike, none_there, one_before, reclaimed_none, step_tells_before}
use Rattle.heap_questions.proofs.Writes.{new_state, old_state, reclaim_state, same_place, sweep_state}

-- ---- counting

-- a live object of class k
abbrev pub lives_as : ℕ → Option Object → Bool
lives_as k None = false
lives_as k (Some o) = o.live && is_of_class o.kind k

abbrev count_of_one : ℕ → Option Object → ℕ
count_of_one k x = cond (lives_as k x) 1 0

-- how many there are in the cells of a region, and in all regions
abbrev count_in : ℕ → List Region → ℕ → ℕ
count_in k regions r = count_by (lives_as k) (cells_of (used_at regions r))

abbrev of_region : ℕ → Region → ℕ
of_region k x = count_by (lives_as k) (cells_of (used_part x))

abbrev pub total : ℕ → List Region → ℕ
total k regions = sum_by (of_region k) regions

abbrev of_object : ℕ → ObjRef × Object → ℕ
of_object k p = count_of_one k (Some p.1)

abbrev object_placed : ℕ → ℕ × Option Object → Option (ObjRef × Object)
object_placed r c = option_map (λ o. (record { region = r; cell = c.0 }, o)) c.1

cells_counted : (k r n : ℕ) (xs : List (Option Object)) → sum_by (of_object k) (filter_map (object_placed r) (enumerate_from n xs)) ≡ count_by (lives_as k) xs
cells_counted k r n [] = refl
cells_counted k r n (None ∷ xs) =
    let rest = cells_counted k r (n + 1) xs in
    let all = sum_by-cons (count_of_one k) None xs in
    omega (arith, rest, all)
cells_counted k r n (Some o ∷ xs) =
    let rest = cells_counted k r (n + 1) xs in
    let all = sum_by-cons (count_of_one k) (Some o) xs in
    let more = sum_by-cons (of_object k) (place r n, o) (filter_map (object_placed r) (enumerate_from (n + 1) xs)) in
    omega (arith, rest, all, more)

region_counted : (k r : ℕ) (x : Region) → sum_by (of_object k) (objects_of_region (r, x)) ≡ of_region k x
unfolding objects_of_region
region_counted k r Empty = refl
region_counted k r (InUse u) = cells_counted k r 0 u.cells

regions_counted : (k r : ℕ) (xs : List Region) → sum_by (of_object k) (flat_map objects_of_region (enumerate_from r xs)) ≡ total k xs
regions_counted k r [] = refl
regions_counted k r (x ∷ xs) =
    sum_by-append (of_object k) (objects_of_region (r, x)) (flat_map objects_of_region (enumerate_from (r + 1) xs))
    ∙ ap₂ (λ (a b : ℕ). a + b) (region_counted k r x) (regions_counted k (r + 1) xs)
    ∙ sym (sum_by-cons (of_region k) x xs)

-- the live objects of the class among these, as a dump shows them
dumped_counted : (k : ℕ) (regions : List Region) (ps : List (ObjRef × Object)) → length (filter (λ (o : DumpedObject). is_of_class o.kind k) (map (shown regions) (filter (λ p. p.1.live) ps))) ≡ sum_by (of_object k) ps
dumped_counted k regions [] = refl
dumped_counted k regions (p ∷ ps) =
    let rest = dumped_counted k regions ps in
    let all = sum_by-cons (of_object k) p ps in
    let first = go p.1.live (filter (λ (p : ObjRef × Object). p.1.live) ps) in
    omega (arith, rest, all, first)
  where
    kept : (b : Bool) (x : DumpedObject) (xs : List DumpedObject) → length (cond b (x ∷ xs) xs) ≡ cond b 1 0 + length xs
    kept true x xs = omega arith
    kept false x xs = omega arith

    go : (l : Bool) (rest : List (ObjRef × Object)) → length (filter (λ (o : DumpedObject). is_of_class o.kind k) (map (shown regions) (cond l (p ∷ rest) rest))) ≡ cond (l && is_of_class p.1.kind k) 1 0 + length (filter (λ (o : DumpedObject). is_of_class o.kind k) (map (shown regions) rest))
    go true rest = kept (is_of_class p.1.kind k) (shown regions p) (filter (λ (o : DumpedObject). is_of_class o.kind k) (map (shown regions) rest))
    go false rest = omega arith

pub wanted_counted : (k : ℕ) (w : HeapState) → length (objects_wanted (OfClass k) (image_of w)) ≡ total k w.regions
unfolding image_of dumped_objects live_objects objects_in
wanted_counted k w = dumped_counted k w.regions (flat_map objects_of_region (enumerate_from 0 w.regions)) ∙ regions_counted k 0 w.regions

-- ---- cells that differ in one place, or in none

none_counted : (k : ℕ) (ys : List (Option Object)) → ((c : ℕ) → lives_as k (get_or ys c None) ≡ false) → count_by (lives_as k) ys ≡ 0
none_counted k [] h = refl
none_counted k (y ∷ ys) h =
    let first : count_of_one k y ≡ 0 = ap (λ b. cond b 1 0) (h 0) in
    let rest = none_counted k ys (λ c. h (suc c)) in
    let all : count_by (lives_as k) (y ∷ ys) ≡ count_of_one k y + count_by (lives_as k) ys = sum_by-cons (count_of_one k) y ys in
    omega (arith, first, rest, all)

count_splits_first : (k : ℕ) (ys : List (Option Object)) → count_by (lives_as k) ys ≡ count_of_one k (get_or ys 0 None) + count_by (lives_as k) (drop 1 ys)
count_splits_first k [] = refl
count_splits_first k (y ∷ ys) = sum_by-cons (count_of_one k) y ys

same_cells : (k : ℕ) (xs ys : List (Option Object)) → ((c : ℕ) → lives_as k (get_or xs c None) ≡ lives_as k (get_or ys c None)) → count_by (lives_as k) xs ≡ count_by (lives_as k) ys
same_cells k [] ys h = sym (none_counted k ys (λ c. sym (h c)))
same_cells k (x ∷ xs) ys h =
    let rest = same_cells k xs (drop 1 ys) (λ c. h (suc c) ∙ ap (lives_as k) (sym (element_of_rest ys c))) in
    let first : count_of_one k x ≡ count_of_one k (get_or ys 0 None) = ap (λ b. cond b 1 0) (h 0) in
    let all : count_by (lives_as k) (x ∷ xs) ≡ count_of_one k x + count_by (lives_as k) xs = sum_by-cons (count_of_one k) x xs in
    let parts = count_splits_first k ys in
    omega (arith, rest, first, all, parts)

-- cell i has none in the first list, and perhaps one in the second
one_cell_more : (k : ℕ) (xs ys : List (Option Object)) (i : ℕ) → ((c : ℕ) → c ≢ i → lives_as k (get_or xs c None) ≡ lives_as k (get_or ys c None)) → lives_as k (get_or xs i None) ≡ false → count_by (lives_as k) ys ≡ count_by (lives_as k) xs + count_of_one k (get_or ys i None)
one_cell_more k xs ys zero h f =
    let rest = same_cells k (drop 1 xs) (drop 1 ys) (λ c. ap (lives_as k) (element_of_rest xs c) ∙ h (suc c) (λ e. absurd (omega (arith, e))) ∙ ap (lives_as k) (sym (element_of_rest ys c))) in
    let first : count_of_one k (get_or xs 0 None) ≡ 0 = ap (λ b. cond b 1 0) f in
    let before = count_splits_first k xs in
    let after = count_splits_first k ys in
    omega (arith, rest, first, before, after)
one_cell_more k xs ys (suc i) h f =
    let rest = one_cell_more k (drop 1 xs) (drop 1 ys) i (λ c n. ap (lives_as k) (element_of_rest xs c) ∙ h (suc c) (λ e. n (omega (arith, e))) ∙ ap (lives_as k) (sym (element_of_rest ys c))) (ap (lives_as k) (element_of_rest xs i) ∙ f) in
    let here : count_of_one k (get_or (drop 1 ys) i None) ≡ count_of_one k (get_or ys (suc i) None) = ap (count_of_one k) (element_of_rest ys i) in
    let first : count_of_one k (get_or xs 0 None) ≡ count_of_one k (get_or ys 0 None) = ap (λ b. cond b 1 0) (h 0 (λ e. absurd (omega (arith, e)))) in
    let before = count_splits_first k xs in
    let after = count_splits_first k ys in
    omega (arith, rest, here, first, before, after)

same_total : (k : ℕ) (xs ys : List Region) → length xs ≡ length ys → ((r : ℕ) → count_in k xs r ≡ count_in k ys r) → total k xs ≡ total k ys
unfolding used_at
same_total k [] [] l h = refl
same_total k [] (y ∷ ys) l h = absurd (omega (arith, l))
same_total k (x ∷ xs) [] l h = absurd (omega (arith, l))
same_total k (x ∷ xs) (y ∷ ys) l h = sum_by-cons (of_region k) x xs ∙ ap₂ (λ (a b : ℕ). a + b) (h 0) (same_total k xs ys (omega (arith, l)) (λ r. h (suc r))) ∙ sym (sum_by-cons (of_region k) y ys)

one_region_more : (k : ℕ) (xs ys : List Region) (r d : ℕ) → length xs ≡ length ys → ((q : ℕ) → q ≢ r → count_in k xs q ≡ count_in k ys q) → count_in k ys r ≡ count_in k xs r + d → total k ys ≡ total k xs + d
unfolding used_at
one_region_more k [] [] r d l h m = m
one_region_more k [] (y ∷ ys) r d l h m = absurd (omega (arith, l))
one_region_more k (x ∷ xs) [] r d l h m = absurd (omega (arith, l))
one_region_more k (x ∷ xs) (y ∷ ys) zero d l h m =
    let rest = same_total k xs ys (omega (arith, l)) (λ r. h (suc r) (λ e. absurd (omega (arith, e)))) in
    let first : of_region k y ≡ of_region k x + d = m in
    let left : total k (x ∷ xs) ≡ of_region k x + total k xs = sum_by-cons (of_region k) x xs in
    let right : total k (y ∷ ys) ≡ of_region k y + total k ys = sum_by-cons (of_region k) y ys in
    omega (arith, rest, first, left, right)
one_region_more k (x ∷ xs) (y ∷ ys) (suc r) d l h m =
    let rest = one_region_more k xs ys r d (omega (arith, l)) (λ q n. h (suc q) (λ e. n (omega (arith, e)))) m in
    let first : of_region k x ≡ of_region k y = h 0 (λ e. absurd (omega (arith, e))) in
    let left : total k (x ∷ xs) ≡ of_region k x + total k xs = sum_by-cons (of_region k) x xs in
    let right : total k (y ∷ ys) ≡ of_region k y + total k ys = sum_by-cons (of_region k) y ys in
    omega (arith, rest, first, left, right)

by_places : (k : ℕ) (xs ys : List Region) (r c : ℕ) → lives_as k (object_at xs (place r c)) ≡ lives_as k (object_at ys (place r c)) → lives_as k (get_or (cells_of (used_at xs r)) c None) ≡ lives_as k (get_or (cells_of (used_at ys r)) c None)
by_places k xs ys r c h = ap (lives_as k) (sym (in_cells xs r c)) ∙ h ∙ ap (lives_as k) (in_cells ys r c)

same_places : (k : ℕ) (xs ys : List Region) → length xs ≡ length ys → ((at : ObjRef) → lives_as k (object_at xs at) ≡ lives_as k (object_at ys at)) → total k xs ≡ total k ys
same_places k xs ys l h = same_total k xs ys l (λ r. same_cells k (cells_of (used_at xs r)) (cells_of (used_at ys r)) (λ c. by_places k xs ys r c (h (place r c))))

one_place_more : (k : ℕ) (xs ys : List Region) (a : ObjRef) → length xs ≡ length ys → ((at : ObjRef) → a ≢ at → lives_as k (object_at xs at) ≡ lives_as k (object_at ys at)) → lives_as k (object_at xs a) ≡ false → total k ys ≡ total k xs + count_of_one k (object_at ys a)
one_place_more k xs ys a l h f =
    let here : a ≡ place a.region a.cell = same_place a (place a.region a.cell) refl refl in
    let none : lives_as k (get_or (cells_of (used_at xs a.region)) a.cell None) ≡ false = ap (lives_as k) (sym (ap (object_at xs) here ∙ in_cells xs a.region a.cell)) ∙ f in
    let m = one_cell_more k (cells_of (used_at xs a.region)) (cells_of (used_at ys a.region)) a.cell (λ c n. by_places k xs ys a.region c (h (place a.region c) (λ e. n (sym (ap (λ (b : ObjRef). b.cell) e))))) none in
    let all = one_region_more k xs ys a.region _ l
    (λ q n. same_cells k (cells_of (used_at xs q)) (cells_of (used_at ys q)) (λ c. by_places k xs ys q c (h (place q c) (λ e. n (sym (ap (λ (b : ObjRef). b.region) e)))))) m in
    all ∙ ap (λ (x : Option Object). total k xs + count_of_one k x) (sym (ap (object_at ys) here ∙ in_cells ys a.region a.cell))

-- ---- a step that ends no cycle

same_live : (a b : Bool) → ◌≡◌ {A = ℕ} (cond a 1 2) (cond b 1 2) → a ≡ b
same_live true true e = refl
same_live true false e = absurd (omega (arith, e))
same_live false true e = absurd (omega (arith, e))
same_live false false e = refl

alike_cells_live_alike : (k : ℕ) (x y : Option Object) → cell_state x ≡ cell_state y → ((o : Object) → x ≡ Some o → (p : Object) × (y ≡ Some p) × (p.kind ≡ o.kind) × (p.words ≡ o.words)) → lives_as k x ≡ lives_as k y
alike_cells_live_alike k None y e h = sym (ap (lives_as k) (none_there y (sym e)))
alike_cells_live_alike k (Some o) y e h =
    let p = h o refl in
    ap₂ (λ (b : Bool) (q : ObjKind). b && is_of_class q k) (same_live o.live p.0.live (e ∙ ap cell_state p.1)) (sym p.2) ∙ sym (ap (lives_as k) p.1)

untouched_same : (k : ℕ) (left : Undo) (before after : HeapState) (at : ObjRef) → TellsBefore left before after → touched left ≢ Some at.region → states_before left (states_after after) at ≡ cell_state (object_at after.regions at) → lives_as k (object_at before.regions at) ≡ lives_as k (object_at after.regions at)
untouched_same k left before after at t n c = alike_cells_live_alike k (object_at before.regions at) (object_at after.regions at) (t.states at ∙ c) (λ o h. covered_alike before.regions after.regions at o (t.others at.region n) h)

written_same : (k : ℕ) (before after : HeapState) (a at : ObjRef) (s old : ℕ) → before.regions ≡ with_word a s old after.regions → lives_as k (object_at before.regions at) ≡ lives_as k (object_at after.regions at)
unfolding with_word
written_same k before after a at s old e = elim (places_equal_or_different a at) [
  | inl q ↦
      ap (λ (rs : List Region). lives_as k (object_at rs at)) e
      ∙ ap (λ (b : ObjRef). lives_as k (object_at (with_word b s old after.regions) at)) q
      ∙ ap (lives_as k) (object_after_its_change at f after.regions) ∙ go (object_at after.regions at)
  | inr n ↦ ap (λ (rs : List Region). lives_as k (object_at rs at)) e ∙ ap (lives_as k) (object_elsewhere a at f after.regions n)
]
  where
    f : Object → Object
    f o = record o { words = slice_set o.words s old }

    go : (x : Option Object) → lives_as k (option_map f x) ≡ lives_as k x
    go None = refl
    go (Some o) = refl

-- a sweep leaves each live object of its region, and no other
swept_is : (region : ℕ) (before : HeapState) (at : ObjRef) → is_emptied region (pool_of before) ≡ false → at.region ≡ region → object_at (after_sweep region before).regions at ≡ live_part (object_at before.regions at)
unfolding after_sweep swept swept_region object_at
swept_is region before at e r =
    let regions = with_region region swept_region before.regions in
    let same : (after_sweep region before).regions ≡ regions = ap (λ (b : Bool). (cond b (released region (pool_of before)) (record (pool_of before) { regions = regions })).regions) e in
    let look : UsedRegion → Option Object = λ u. option_and_then (λ (y : Option Object). y) (slice_get u.cells at.cell) in
    let u : used_at regions at.region ≡ option_map swept_region (used_at before.regions at.region) = ap (λ k. used_at regions k) r ∙ used_region_after_its_change region swept_region before.regions ∙ ap (λ k. option_map swept_region (used_at before.regions k)) (sym r) in
    ap (λ (rs : List Region). option_and_then look (used_at rs at.region)) same ∙ ap (option_and_then look) u ∙ go (used_at before.regions at.region)
  where
    joined : (x : Option (Option Object)) → option_and_then (λ (y : Option Object). y) (option_map live_part x) ≡ live_part (option_and_then (λ (y : Option Object). y) x)
    joined None = refl
    joined (Some x) = refl

    go : (x : Option UsedRegion) → option_and_then (λ (u : UsedRegion). option_and_then (λ (y : Option Object). y) (slice_get u.cells at.cell)) (option_map swept_region x) ≡ live_part (option_and_then (λ (u : UsedRegion). option_and_then (λ (y : Option Object). y) (slice_get u.cells at.cell)) x)
    go None = refl
    go (Some u) = ap (option_and_then (λ (y : Option Object). y)) (slice_get-map live_part u.cells at.cell) ∙ joined (slice_get u.cells at.cell)

live_kept : (k : ℕ) (x : Option Object) → lives_as k (live_part x) ≡ lives_as k x
live_kept k None = refl
live_kept k (Some o) = go o.live refl
  where
    go : (b : Bool) → o.live ≡ b → lives_as k (cond b (Some o) None) ≡ (b && is_of_class o.kind k)
    go true e = ap (λ b. b && is_of_class o.kind k) e
    go false e = refl

swept_same : (k : ℕ) (e : Event) (before after : HeapState) (region : ℕ) (dead : List (ℕ × Object)) (at : ObjRef) → IsStep e before after (Sweep region dead) → at.region ≡ region → lives_as k (object_at before.regions at) ≡ lives_as k (object_at after.regions at)
swept_same k e before after region dead at s r =
    let b = sweep_before e before after (Sweep region dead) s region dead refl in
    let same = one_before e before b.0 after region dead s b.1 b.2 b.3 b.4 b.5 in
    sym (ap (λ (v : HeapState). lives_as k (object_at v.regions at)) b.5 ∙ ap (lives_as k) (swept_is region b.0 at b.3 r) ∙ live_kept k (object_at b.0.regions at) ∙ ap (λ (v : HeapState). lives_as k (object_at v.regions at)) same)

dead_cell_lives_as_none : (k : ℕ) (x y : Option Object) → cell_state x ≡ cell_state y → is_live y ≡ false → lives_as k x ≡ false
dead_cell_lives_as_none k None y e d = refl
dead_cell_lives_as_none k (Some o) y e d = elim (cases_Bool o.live) [
  | inl t ↦
      let p = live_of_state y (sym e ∙ ap (λ b. cond b 1 2) t) in
      absurd (true≢false (sym p.2 ∙ sym (ap is_live p.1) ∙ d))
  | inr f ↦ ap (λ b. b && is_of_class o.kind k) f
]

reclaimed_same : (k : ℕ) (e : Event) (before after : HeapState) (region : ℕ) (storage : UsedRegion) (at : ObjRef) → IsStep e before after (Reclaim region storage) → at.region ≡ region → lives_as k (object_at before.regions at) ≡ lives_as k (object_at after.regions at)
unfolding states_before
reclaimed_same k e before after region storage at s r =
    let t = step_tells_before e before after (Reclaim region storage) s in
    let was : cell_state (object_at before.regions at) ≡ cell_state (cell_object storage at.cell) = t.states at ∙ ap (λ b. cond b (cell_state (cell_object storage at.cell)) (states_after after at)) (eq-eqb at.region region r) in
    dead_cell_lives_as_none k (object_at before.regions at) (cell_object storage at.cell) was (reclaim_lifeless e before after (Reclaim region storage) s region storage refl at.cell) ∙ sym (gone (object_at after.regions at) refl)
  where
    gone : (x : Option Object) → object_at after.regions at ≡ x → lives_as k (object_at after.regions at) ≡ false
    gone None h = ap (lives_as k) h
    gone (Some o) h = absurd (reclaimed_none e before after region storage at o s r h)

made_same : (k : ℕ) (e : Event) (before after : HeapState) (a : ObjRef) (fresh : Bool) (m r old : ℕ) (at : ObjRef) → IsStep e before after (New a fresh m r old) → a ≢ at → lives_as k (object_at before.regions at) ≡ lives_as k (object_at after.regions at)
unfolding touched
made_same k e before after a fresh m r old at s n =
    let t = step_tells_before e before after (New a fresh m r old) s in
    elim (cases_Bool (made_by (New a fresh m r old) at)) [
      | inl y ↦ ap (lives_as k) (none_there (object_at before.regions at) (t.states at ∙ new_state a at fresh m r old (states_after after) y)) ∙ sym (gone y (object_at after.regions at) refl)
      | inr y ↦ untouched_same k (New a fresh m r old) before after at t (λ q. none-some at.region q) (old_state a at fresh m r old (states_after after) y)
    ]
  where
    gone : made_by (New a fresh m r old) at ≡ true → (x : Option Object) → object_at after.regions at ≡ x → lives_as k (object_at after.regions at) ≡ false
    gone y None h = ap (lives_as k) h
    gone y (Some o) h = absurd (one_made e before after a fresh m r old at o s y n h)

other_same : (k : ℕ) (e : Event) (before after : HeapState) (left : Undo) (at : ObjRef) → IsStep e before after left → is_finish left ≡ false → made_place left ≢ Some at → lives_as k (object_at before.regions at) ≡ lives_as k (object_at after.regions at)
unfolding touched object_at states_before
other_same k e before after (Put a s old) at st f n = written_same k before after a at s old (sym (ap (λ (w : HeapState). w.regions) (put_undone_is_before e before after (Put a s old) st a s old refl)))
other_same k e before after (Store a s old logged) at st f n = written_same k before after a at s old (sym (ap (λ (w : HeapState). w.regions) (store_is e before after (Store a s old logged) st a s old logged refl)))
other_same k e before after (New a fresh m r old) at st f n = made_same k e before after a fresh m r old at st (λ q. n (ap Some q))
other_same k e before after (Finish log) at st f n = absurd (true≢false f)
other_same k e before after (Sweep region dead) at st f n = elim (cases_eq at.region region) [
  | inl r ↦ swept_same k e before after region dead at st r
  | inr r ↦ untouched_same k (Sweep region dead) before after at (step_tells_before e before after (Sweep region dead) st) (λ q. r (sym (sweep_touches_its_region region dead at.region q))) (sweep_state region dead at (states_after after) r)
]
other_same k e before after (Reclaim region storage) at st f n = elim (cases_eq at.region region) [
  | inl r ↦ reclaimed_same k e before after region storage at st r
  | inr r ↦ untouched_same k (Reclaim region storage) before after at (step_tells_before e before after (Reclaim region storage) st) (λ q. r (sym (same_Some region at.region q))) (reclaim_state region storage at (states_after after) r)
]
other_same k e before after left at st f n = untouched_same k left before after at (step_tells_before e before after left st) (λ q. none-some at.region q) refl

-- what stands after a step where it made an object
abbrev made_one : ℕ → HeapState → Undo → ℕ
made_one k after left = option_map_or (λ a. count_of_one k (object_at after.regions a)) (made_place left) 0

none_before : (k : ℕ) (e : Event) (before after : HeapState) (left : Undo) (a : ObjRef) → IsStep e before after left → made_place left ≡ Some a → lives_as k (object_at before.regions a) ≡ false
none_before k e before after (New b fresh m r old) a st h =
    let same : b ≡ a = same_Some b a h in
    let t = step_tells_before e before after (New b fresh m r old) st in
    ap (lives_as k) (none_there (object_at before.regions a) (t.states a ∙ new_state b a fresh m r old (states_after after) (made b a fresh same)))
  where
    made : (b a : ObjRef) (fresh : Bool) → b ≡ a → ((b.region == a.region) && (fresh || (b.cell == a.cell))) ≡ true
    made b a true q = ap (λ (x : Bool). x && true) (eq-eqb b.region a.region (ap (λ (c : ObjRef). c.region) q))
    made b a false q = ap₂ (λ (x y : Bool). x && y) (eq-eqb b.region a.region (ap (λ (c : ObjRef). c.region) q)) (eq-eqb b.cell a.cell (ap (λ (c : ObjRef). c.cell) q))
none_before k e before after left a st h = absurd (none-some a h)

count_step : (k : ℕ) (e : Event) (before after : HeapState) (left : Undo) → IsStep e before after left → is_finish left ≡ false → total k after.regions ≡ total k before.regions + made_one k after left
count_step k e before after left st f = go (made_place left) refl
  where
    many : length before.regions ≡ length after.regions
    many = same_regions left e before after st

    go : (x : Option ObjRef) → made_place left ≡ x → total k after.regions ≡ total k before.regions + option_map_or (λ a. count_of_one k (object_at after.regions a)) x 0
    go None h =
        let same = same_places k before.regions after.regions many (λ at. other_same k e before after left at st f (λ q. none-some at (sym h ∙ q))) in
        omega (arith, same)
    go (Some a) h = one_place_more k before.regions after.regions a many (λ at n. other_same k e before after left at st f (λ q. n (same_Some a at (sym h ∙ q)))) (none_before k e before after left a st h)

-- ---- what a pin shows of it

-- how many live objects of a class the state of n steps ago has
abbrev pub many_ago : Trail → ℕ → ℕ → ℕ
many_ago t k n = length (objects_wanted (OfClass k) (image_of (state_ago n t)))

pub made_written : (left : Undo) (a : ObjRef) → made_place left ≡ Some a → written_at left ≡ Some a
made_written (New b fresh m r old) a h = h
made_written left a h = absurd (none-some a h)

made_seen : (t : Trail) (n k : ℕ) (left : Undo) (w : HeapState) (p : PinContents) → IsShownBeside w p (state_ago n t) → HasRecord t n left → cond (makes_of_class p w left k) 1 0 ≡ made_one k (state_ago n t) left
made_seen t n k left w p h r = go (made_place left) refl
  where
    go : (x : Option ObjRef) → made_place left ≡ x → ◌≡◌ {A = ℕ} (cond (option_map_or (λ at. is_of_class (seen_object p w at).kind k) x false) 1 0) (option_map_or (λ a. count_of_one k (object_at (state_ago n t).regions a)) x 0)
    go None e = refl
    go (Some a) e =
        let o = written_live r.0 (state_ago (n + 1) t) (state_ago n t) left a r.1 (made_written left a e) in
        ap (λ (d : DumpedObject). cond (is_of_class d.kind k) 1 0) (seen_as (state_ago n t) w p a o.0 h o.1)
        ∙ sym (ap (count_of_one k) o.1 ∙ ap (λ (b : Bool). cond (b && is_of_class o.0.kind k) 1 0) o.2)

pub one_made_less : (t : Trail) (n k : ℕ) (left : Undo) (w : HeapState) (p : PinContents) → IsShownBeside w p (state_ago n t) → HasRecord t n left → is_finish left ≡ false → many_ago t k n ≡ many_ago t k (n + 1) + cond (makes_of_class p w left k) 1 0
one_made_less t n k left w p h r f =
    let step = count_step k r.0 (state_ago (n + 1) t) (state_ago n t) left r.1 f in
    let made = made_seen t n k left w p h r in
    let now = wanted_counted k (state_ago n t) in
    let was = wanted_counted k (state_ago (n + 1) t) in
    omega (arith, step, made, now, was)

-- ---- one state after another

-- how many there are before a step
pub told_before : (t : Trail) (n k many : ℕ) (left : Undo) (made : Bool) → many ≡ many_ago t k n → (is_finish left ≡ false → many_ago t k n ≡ many_ago t k (n + 1) + cond made 1 0) → many_before (image_of (state_ago (n + 1) t)) left k many made ≡ many_ago t k (n + 1)
told_before t n k many (Finish log) made m one = refl
told_before t n k many left made m one = let o = one refl in omega (arith, m, o)

-- whether there are enough
pub many_enough : (t : Trail) (n k least many : ℕ) → many ≡ many_ago t k n → nat_le least many ≡ true → HoldsAgo (HasMany least (OfClass k)) t n
many_enough t n k least many m h = omega (arith, m, leb-true least many h)

pub enough_many : (t : Trail) (n k least many : ℕ) → many ≡ many_ago t k n → HoldsAgo (HasMany least (OfClass k)) t n → nat_le least many ≡ true
enough_many t n k least many m h = le-leb least many (omega (arith, m, h))

pub first_now : (P : Image → Type 0) (t : Trail) (place : ℕ) (b : Bool) → place ≡ t.place - 0 → (b ≡ true → HoldsAgo P t 0) → (HoldsAgo P t 0 → b ≡ true) → IsFirstPlace P t 0 (place_if b place None)
first_now P t place true e here only = (0, let z : 0 ≤ 0 = omega arith in z, e, here refl, λ k a l. absurd (omega (arith, a, l)))
first_now P t place false e here only = λ k l h. false≢true (only (subst (HoldsAgo P t) (let z : k ≡ 0 = omega (arith, l) in z) h))

pub first_before : (P : Image → Type 0) (t : Trail) (n place : ℕ) (b : Bool) (first : Option ℕ) → place ≡ t.place - (n + 1) → (b ≡ true → HoldsAgo P t (n + 1)) → (HoldsAgo P t (n + 1) → b ≡ true) → IsFirstPlace P t n first → IsFirstPlace P t (n + 1) (place_if b place first)
first_before P t n place true first e here only f = (n + 1, let z : n + 1 ≤ n + 1 = omega arith in z, e, here refl, λ k a l. absurd (omega (arith, a, l)))
first_before P t n place false first e here only f = one_older P t n first f (λ h. false≢true (only h))

-- ---- a walk over a view

-- how many of the first i objects are wanted
abbrev pub counted : Wanted → Image → ℕ → ℕ
counted wanted image i = length (filter (λ o. is_wanted wanted o.kind o.words) (take i image.objects))

pub one_counted : (wanted : Wanted) (image : Image) (i : ℕ) (o : DumpedObject) → slice_get image.objects i ≡ Some o → counted wanted image (i + 1) ≡ counted wanted image i + cond (is_wanted wanted o.kind o.words) 1 0
one_counted wanted image i o h =
    ap (λ (l : List DumpedObject). length (filter test l)) (take_more image.objects i o (slice_get_within image.objects i o h) ∙ ap (λ y. take i image.objects ++ y ∷ []) (get_or_from_slice_get image.objects i o o h))
    ∙ ap (λ (l : List DumpedObject). length l) (filter-append test (take i image.objects) (o ∷ []))
    ∙ length-append (filter test (take i image.objects)) (filter test (o ∷ []))
    ∙ ap (λ k. counted wanted image i + k) (kept (is_wanted wanted o.kind o.words))
  where
    test : DumpedObject → Bool
    test o = is_wanted wanted o.kind o.words

    kept : (b : Bool) → length (cond b (o ∷ []) []) ≡ cond b 1 0
    kept true = refl
    kept false = refl

pub all_counted : (wanted : Wanted) (image : Image) (i : ℕ) → length image.objects ≤ i → counted wanted image i ≡ length (objects_wanted wanted image)
all_counted wanted image i all = ap (λ (l : List DumpedObject). length (filter (λ o. is_wanted wanted o.kind o.words) l)) (take_all i image.objects all)
