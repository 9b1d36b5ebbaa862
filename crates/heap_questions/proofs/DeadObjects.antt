-- How many objects are dead, by cells and regions, and what a record tells of them.
use Rattle.std.proofs.Common.{◌≡◌, ◌≢◌, ℕ, zero, suc, ◌+◌, ◌*◌, ◌<◌, ◌≤◌, Bool, true, false, not, ◌&&◌, cond, List, [], ◌∷◌, length, drop, get_or, take, Option, Some, None, refl, sym, ap, ap₂, ◌∙◌, arith}
use Rattle.std.specs.Prelude.{count_by, flat_map, option_map}
use Rattle.std.specs.List.{enumerate_from, filter_map}
use Rattle.std.proofs.lemmas.List.Sums.{count_by-le-length, sum_by-append, sum_by-cons, sum_by_more}
use Rattle.heap_class.specs.declared.ObjRef.{ObjRef}
use Rattle.heap_region.specs.Live.{cells_of, is_dead, is_live}
use Rattle.heap_region.specs.Regions.{Empty, InUse, Object, Region, UsedRegion, object_at, objects_in, objects_of_region, slot_object, used_at, used_part}
use Rattle.heap_region.proofs.ShownRegions.{object_of_used}
use Rattle.heap_world.specs.Legal.{IsLegal}
use Rattle.heap_world.specs.State.{HeapState}
use Rattle.heap_world.proofs.SweptCells.{cell_table_has_few_cells}
use Rattle.heap_questions.specs.Cycles.{condemned_since, dead_limit, removed_until}
use Rattle.heap_questions.specs.RegionCounts.{dead_objects}

-- ---- cells

abbrev pub place : ℕ → ℕ → ObjRef
place r c = record { region = r; cell = c }

abbrev dead_count_of_one : Option Object → ℕ
dead_count_of_one x = cond (is_dead x) 1 0

-- the dead objects of a region
abbrev pub dead_in : List Region → ℕ → ℕ
dead_in regions r = count_by is_dead (cells_of (used_at regions r))

pub in_cells : (regions : List Region) (r c : ℕ) → object_at regions (place r c) ≡ get_or (cells_of (used_at regions r)) c None
in_cells regions r c = object_of_used regions (place r c) ∙ go (used_at regions r)
  where
    go : (x : Option UsedRegion) → slot_object x c ≡ get_or (cells_of x) c None
    go None = refl
    go (Some u) = refl

dead_count_splits_first : (ys : List (Option Object)) → count_by is_dead ys ≡ dead_count_of_one (get_or ys 0 None) + count_by is_dead (drop 1 ys)
dead_count_splits_first [] = refl
dead_count_splits_first (y ∷ ys) = sum_by-cons dead_count_of_one y ys

pub element_of_rest : (ys : List (Option Object)) (c : ℕ) → get_or (drop 1 ys) c None ≡ get_or ys (suc c) None
element_of_rest [] c = refl
element_of_rest (y ∷ ys) c = refl

none_counted : (ys : List (Option Object)) → ((c : ℕ) → is_dead (get_or ys c None) ≡ false) → count_by is_dead ys ≡ 0
none_counted [] h = refl
none_counted (y ∷ ys) h =
    let first : dead_count_of_one y ≡ 0 = ap (λ b. cond b 1 0) (h 0) in
    let rest = none_counted ys (λ c. h (suc c)) in
    let all : count_by is_dead (y ∷ ys) ≡ dead_count_of_one y + count_by is_dead ys = sum_by-cons dead_count_of_one y ys in
    omega (arith, first, rest, all)

-- cells that are dead in the same numbers
pub same_count : (xs ys : List (Option Object)) → ((c : ℕ) → is_dead (get_or xs c None) ≡ is_dead (get_or ys c None)) → count_by is_dead xs ≡ count_by is_dead ys
same_count [] ys h = sym (none_counted ys (λ c. sym (h c)))
same_count (x ∷ xs) ys h =
    let rest = same_count xs (drop 1 ys) (λ c. h (suc c) ∙ ap is_dead (sym (element_of_rest ys c))) in
    let first : dead_count_of_one x ≡ dead_count_of_one (get_or ys 0 None) = ap (λ b. cond b 1 0) (h 0) in
    let all : count_by is_dead (x ∷ xs) ≡ dead_count_of_one x + count_by is_dead xs = sum_by-cons dead_count_of_one x xs in
    omega (arith, rest, first, all, dead_count_splits_first ys)

-- ---- regions

abbrev of_region : Region → ℕ
of_region x = count_by is_dead (cells_of (used_part x))

pub same_total : (xs ys : List Region) → length xs ≡ length ys → ((r : ℕ) → dead_in xs r ≡ dead_in ys r) → dead_objects xs ≡ dead_objects ys
unfolding used_at
same_total [] [] l h = refl
same_total [] (y ∷ ys) l h = absurd (omega (arith, l))
same_total (x ∷ xs) [] l h = absurd (omega (arith, l))
same_total (x ∷ xs) (y ∷ ys) l h = sum_by-cons of_region x xs ∙ ap₂ (λ (a b : ℕ). a + b) (h 0) (same_total xs ys (omega (arith, l)) (λ r. h (suc r))) ∙ sym (sum_by-cons of_region y ys)

-- one region differs, which has no dead object in the second list
pub one_differs : (xs ys : List Region) (r : ℕ) → length xs ≡ length ys → ((q : ℕ) → q ≢ r → dead_in xs q ≡ dead_in ys q) → dead_in ys r ≡ 0 → dead_objects xs ≡ dead_objects ys + dead_in xs r
unfolding used_at
one_differs [] [] r l h z = refl
one_differs [] (y ∷ ys) r l h z = absurd (omega (arith, l))
one_differs (x ∷ xs) [] r l h z = absurd (omega (arith, l))
one_differs (x ∷ xs) (y ∷ ys) zero l h z =
    let rest = same_total xs ys (omega (arith, l)) (λ r. h (suc r) (λ e. absurd (omega (arith, e)))) in
    let none : of_region y ≡ 0 = z in
    let left : dead_objects (x ∷ xs) ≡ of_region x + dead_objects xs = sum_by-cons of_region x xs in
    let right : dead_objects (y ∷ ys) ≡ of_region y + dead_objects ys = sum_by-cons of_region y ys in
    let all : dead_objects (x ∷ xs) ≡ dead_objects (y ∷ ys) + of_region x = omega (arith, rest, none, left, right) in
    all
one_differs (x ∷ xs) (y ∷ ys) (suc r) l h z =
    let rest = one_differs xs ys r (omega (arith, l)) (λ q n. h (suc q) (λ e. n (omega (arith, e)))) z in
    let first : of_region x ≡ of_region y = h 0 (λ e. absurd (omega (arith, e))) in
    let left : dead_objects (x ∷ xs) ≡ of_region x + dead_objects xs = sum_by-cons of_region x xs in
    let right : dead_objects (y ∷ ys) ≡ of_region y + dead_objects ys = sum_by-cons of_region y ys in
    let all : dead_objects (x ∷ xs) ≡ dead_objects (y ∷ ys) + dead_in xs r = omega (arith, rest, first, left, right) in
    all

region_read : (xs : List Region) (r : ℕ) → used_part (get_or xs r Empty) ≡ used_at xs r
unfolding used_at
region_read [] r = refl
region_read (x ∷ xs) zero = refl
region_read (x ∷ xs) (suc r) = region_read xs r

-- the first regions, and one more
pub one_region_more : (xs : List Region) (r : ℕ) → r < length xs → dead_objects (take (r + 1) xs) ≡ dead_objects (take r xs) + dead_in xs r
one_region_more xs r l = sum_by_more of_region xs r Empty l ∙ ap (λ (x : Option UsedRegion). dead_objects (take r xs) + count_by is_dead (cells_of x)) (region_read xs r)

-- no region has a dead object
pub no_dead : (xs : List Region) → ((r : ℕ) → dead_in xs r ≡ 0) → dead_objects xs ≡ 0
unfolding used_at
no_dead [] h = refl
no_dead (x ∷ xs) h =
    let first : of_region x ≡ 0 = h 0 in
    let rest = no_dead xs (λ r. h (suc r)) in
    let all : dead_objects (x ∷ xs) ≡ of_region x + dead_objects xs = sum_by-cons of_region x xs in
    omega (arith, first, rest, all)

pub few_dead : (xs : List Region) → ((r : ℕ) (u : UsedRegion) → used_at xs r ≡ Some u → length u.cells ≤ 256) → dead_objects xs ≤ length xs * 256
unfolding used_at
few_dead [] h = omega arith
few_dead (x ∷ xs) h =
    let rest = few_dead xs (λ r. h (suc r)) in
    let all : dead_objects (x ∷ xs) ≡ of_region x + dead_objects xs = sum_by-cons of_region x xs in
    omega (arith, rest, all, go x (h 0))
  where
    go : (x : Region) → ((u : UsedRegion) → used_part x ≡ Some u → length u.cells ≤ 256) → of_region x ≤ 256
    go Empty h = omega arith
    go (InUse u) h = let few = count_by-le-length is_dead u.cells in omega (arith, few, h u refl)

-- ---- dead objects of which something holds

abbrev dead_with : (ObjRef → Bool) → ObjRef × Object → Bool
dead_with f p = not p.1.live && f p.0

abbrev dead_object_placed : ℕ → ℕ × Option Object → Option (ObjRef × Object)
dead_object_placed r c = option_map (λ o. (record { region = r; cell = c.0 }, o)) c.1

cells_counted : (f : ObjRef → Bool) (r n : ℕ) (xs ys : List (Option Object)) → ((c : ℕ) → (is_dead (get_or xs c None) && f (place r (n + c))) ≡ is_dead (get_or ys c None)) → count_by (dead_with f) (filter_map (dead_object_placed r) (enumerate_from n xs)) ≡ count_by is_dead ys
cells_counted f r n [] ys h = sym (none_counted ys (λ c. sym (h c)))
cells_counted f r n (x ∷ xs) ys h =
    go x (ap (λ k. is_dead x && f (place r k)) (let z : n ≡ n + 0 = omega arith in z) ∙ h 0)
    (cells_counted f r (n + 1) xs (drop 1 ys) (λ c. ap (λ k. is_dead (get_or xs c None) && f (place r k)) (let z : n + 1 + c ≡ n + suc c = omega arith in z) ∙ h (suc c) ∙ ap is_dead (sym (element_of_rest ys c))))
  where
    go : (x : Option Object) → (is_dead x && f (place r n)) ≡ is_dead (get_or ys 0 None) → count_by (dead_with f) (filter_map (dead_object_placed r) (enumerate_from (n + 1) xs)) ≡ count_by is_dead (drop 1 ys)
        → count_by (dead_with f) (filter_map (dead_object_placed r) (enumerate_from n (x ∷ xs))) ≡ count_by is_dead ys
    go None e rest =
        let first : 0 ≡ dead_count_of_one (get_or ys 0 None) = ap (λ b. cond b 1 0) e in
        omega (arith, rest, first, dead_count_splits_first ys)
    go (Some o) e rest =
        let first : cond (dead_with f (place r n, o)) 1 0 ≡ dead_count_of_one (get_or ys 0 None) = ap (λ b. cond b 1 0) e in
        let all = sum_by-cons (λ (p : ObjRef × Object). cond (dead_with f p) 1 0) (place r n, o) (filter_map (dead_object_placed r) (enumerate_from (n + 1) xs)) in
        omega (arith, rest, first, dead_count_splits_first ys, all)

region_counted : (f : ObjRef → Bool) (r : ℕ) (x y : Region) → ((c : ℕ) → (is_dead (get_or (cells_of (used_part x)) c None) && f (place r c)) ≡ is_dead (get_or (cells_of (used_part y)) c None)) → count_by (dead_with f) (objects_of_region (r, x)) ≡ of_region y
unfolding objects_of_region
region_counted f r Empty y h = cells_counted f r 0 [] (cells_of (used_part y)) h
region_counted f r (InUse u) y h = cells_counted f r 0 u.cells (cells_of (used_part y)) (λ c. ap (λ k. is_dead (get_or u.cells c None) && f (place r k)) (let z : 0 + c ≡ c = omega arith in z) ∙ h c)

regions_counted : (f : ObjRef → Bool) (r : ℕ) (xs ys : List Region) → length xs ≡ length ys → ((q c : ℕ) → (is_dead (get_or (cells_of (used_at xs q)) c None) && f (place (r + q) c)) ≡ is_dead (get_or (cells_of (used_at ys q)) c None)) → count_by (dead_with f) (flat_map objects_of_region (enumerate_from r xs)) ≡ dead_objects ys
unfolding used_at
regions_counted f r [] [] l h = refl
regions_counted f r [] (y ∷ ys) l h = absurd (omega (arith, l))
regions_counted f r (x ∷ xs) [] l h = absurd (omega (arith, l))
regions_counted f r (x ∷ xs) (y ∷ ys) l h =
    sum_by-append (λ (p : ObjRef × Object). cond (dead_with f p) 1 0) (objects_of_region (r, x)) (flat_map objects_of_region (enumerate_from (r + 1) xs))
    ∙ ap₂ (λ (a b : ℕ). a + b)
    (region_counted f r x y (λ c. ap (λ k. is_dead (get_or (cells_of (used_part x)) c None) && f (place k c)) (let z : r ≡ r + 0 = omega arith in z) ∙ h 0 c))
    (regions_counted f (r + 1) xs ys (omega (arith, l)) (λ q c. ap (λ k. is_dead (get_or (cells_of (used_at xs q)) c None) && f (place k c)) (let z : r + 1 + q ≡ r + suc q = omega arith in z) ∙ h (suc q) c))
    ∙ sym (sum_by-cons of_region y ys)

dead_counted : (f : ObjRef → Bool) (xs ys : List Region) → length xs ≡ length ys → ((at : ObjRef) → (is_dead (object_at xs at) && f at) ≡ is_dead (object_at ys at)) → count_by (dead_with f) (objects_in xs) ≡ dead_objects ys
unfolding objects_in
dead_counted f xs ys l h = regions_counted f 0 xs ys l (λ q c. ap (λ k. is_dead (get_or (cells_of (used_at xs q)) c None) && f (place k c)) (let z : 0 + q ≡ q = omega arith in z) ∙ ap (λ (x : Option Object). is_dead x && f (place q c)) (sym (in_cells xs q c)) ∙ h (place q c) ∙ ap is_dead (in_cells ys q c))

-- those of which it holds, and the others
both_parts : (f : ObjRef → Bool) (ps : List (ObjRef × Object)) → count_by (dead_with f) ps + count_by (dead_with (λ at. not (f at))) ps ≡ count_by (dead_with (λ at. true)) ps
both_parts f [] = refl
both_parts f (p ∷ ps) =
    let rest = both_parts f ps in
    let a = sum_by-cons (λ (p : ObjRef × Object). cond (dead_with f p) 1 0) p ps in
    let b = sum_by-cons (λ (p : ObjRef × Object). cond (dead_with (λ at. not (f at)) p) 1 0) p ps in
    let c = sum_by-cons (λ (p : ObjRef × Object). cond (dead_with (λ at. true) p) 1 0) p ps in
    omega (arith, rest, a, b, c, bits (not p.1.live) (f p.0))
  where
    bits : (d b : Bool) → cond (d && b) 1 0 + cond (d && not b) 1 0 ≡ cond (d && true) 1 0
    bits true true = refl
    bits true false = refl
    bits false b = refl

and_right : (a b : Bool) → (b ≡ true → a ≡ true) → (a && b) ≡ b
and_right a true h = ap (λ a. a && true) (h refl)
and_right true false h = refl
and_right false false h = refl

and_left : (a b : Bool) → (a ≡ true → b ≡ true) → (a && b) ≡ a
and_left true b h = h refl
and_left false b h = refl

-- ---- from a state to a later one

-- where what is dead in v is dead in w, those that are gone and those that are left are all
pub gone_and_left : (v w : HeapState) → length w.regions ≡ length v.regions → ((at : ObjRef) → is_dead (object_at v.regions at) ≡ true → is_dead (object_at w.regions at) ≡ true) → removed_until v w + dead_objects v.regions ≡ dead_objects w.regions
unfolding removed_until
gone_and_left v w l h =
    let left = dead_counted (λ at. is_dead (object_at v.regions at)) w.regions v.regions l (λ at. and_right (is_dead (object_at w.regions at)) (is_dead (object_at v.regions at)) (h at)) in
    let all = dead_counted (λ at. true) w.regions w.regions refl (λ at. and_left (is_dead (object_at w.regions at)) true (λ e. refl)) in
    let parts = both_parts (λ at. is_dead (object_at v.regions at)) (objects_in w.regions) in
    omega (arith, left, all, parts)

-- where what is dead in w was live in v, all were
pub all_condemned : (v w : HeapState) → ((at : ObjRef) → is_dead (object_at w.regions at) ≡ true → is_live (object_at v.regions at) ≡ true) → condemned_since v w ≡ dead_objects w.regions
unfolding condemned_since
all_condemned v w h = dead_counted (λ at. is_live (object_at v.regions at)) w.regions w.regions refl (λ at. and_left (is_dead (object_at w.regions at)) (is_live (object_at v.regions at)) (h at))

-- where the same cells of a region have dead objects, there are as many
pub region_alike : (v w : HeapState) (r : ℕ) → ((c : ℕ) → is_dead (object_at v.regions (place r c)) ≡ is_dead (object_at w.regions (place r c))) → dead_in v.regions r ≡ dead_in w.regions r
region_alike v w r h = same_count (cells_of (used_at v.regions r)) (cells_of (used_at w.regions r)) (λ c. ap is_dead (sym (in_cells v.regions r c)) ∙ h c ∙ ap is_dead (in_cells w.regions r c))

-- in all regions
pub dead_alike : (v w : HeapState) → length v.regions ≡ length w.regions → ((at : ObjRef) → is_dead (object_at v.regions at) ≡ is_dead (object_at w.regions at)) → dead_objects v.regions ≡ dead_objects w.regions
dead_alike v w l h = same_total v.regions w.regions l (λ r. region_alike v w r (λ c. h (place r c)))

pub none_dead : (w : HeapState) (r : ℕ) → ((c : ℕ) → is_dead (object_at w.regions (place r c)) ≡ false) → dead_in w.regions r ≡ 0
none_dead w r h = none_counted (cells_of (used_at w.regions r)) (λ c. ap is_dead (sym (in_cells w.regions r c)) ∙ h c)

pub few_legal : (w : HeapState) → IsLegal w → dead_objects w.regions ≤ dead_limit
few_legal w legal =
    let few = few_dead w.regions (λ r u e. (cell_table_has_few_cells u (legal.regions.tables r u e)).1) in
    omega (arith, few, legal.sized.regions.1)
