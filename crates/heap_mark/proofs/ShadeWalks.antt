-- Shading the objects of a list, on the way: what is left to do.
use Rattle.std.proofs.Common.{◌≡◌, ℕ, zero, suc, ◌+◌, ◌<◌, Bool, true, false, not, List, [], ◌∷◌, length, drop, get_or, map, filter, zip, replicate, refl, sym, ap, subst, ◌∙◌, Option, Some, None, IsSome, IsSomeAnd, IfSome, fold, arith}
use Rattle.std.specs.Prelude.{option_map, option_and_then, slice_get, ◌==◌, if◌then◌else◌}
use Rattle.std.proofs.lemmas.Bool.{eqb-true}
use Rattle.std.proofs.lemmas.List.{drop_more}
use Rattle.std.proofs.Math.Seq.{drop-length}
use Rattle.heap_class.specs.declared.ObjRef.{ObjRef}
use Rattle.heap_class.specs.declared.Kind.{Kind}
use Rattle.heap_class.specs.Kinds.{is_reference}
use Rattle.heap_region.specs.Regions.{Object, UsedRegion, Region, used_at, object_at, object_of}
use Rattle.heap_region.specs.Pool.{RegionPool}
use Rattle.heap_mark.specs.MarkSteps.{MarkState, is_white, with_mark_of, shaded, each_object}
use Rattle.heap_mark.specs.Marker.{MarkerState, at_work, after_work, IsGraySound, references_among}
use Rattle.heap_mark.proofs.Marks.{without_marks, only_marked}
use Rattle.heap_mark.proofs.Each.{used_region_after_each_change, object_of_id_after_each_change, each_cell}
use Rattle.heap_mark.proofs.Work.{shaded_null, sound_shaded}

-- ---- what marks leave as it is

abbrev as_unmarked : Object → Object
as_unmarked o = record o { mark = false }

abbrev object_of_cell_walked : ℕ → UsedRegion → Option Object
object_of_cell_walked c u = option_and_then (λ (o : Option Object). o) (slice_get u.cells c)

named_unmarked : (regions : List Region) (x : ℕ) → object_of (without_marks regions) x ≡ option_map as_unmarked (object_of regions x)
unfolding each_object
named_unmarked regions x = object_of_id_after_each_change (each_object as_unmarked) as_unmarked regions x (λ u. refl) (λ u c. each_cell as_unmarked u c)

placed_unmarked : (regions : List Region) (at : ObjRef) → object_at (without_marks regions) at ≡ option_map as_unmarked (object_at regions at)
unfolding object_at
placed_unmarked regions at = ap (option_and_then (object_of_cell_walked at.cell)) (used_region_after_each_change (each_object as_unmarked) regions at.region) ∙ go (used_at regions at.region)
  where
    go : (v : Option UsedRegion) → option_and_then (object_of_cell_walked at.cell) (option_map (each_object as_unmarked) v) ≡ option_map as_unmarked (option_and_then (object_of_cell_walked at.cell) v)
    go None = refl
    go (Some u) = each_cell as_unmarked u at.cell

unmarked_alike_are_both_objects : (p q : Option Object) → option_map as_unmarked p ≡ option_map as_unmarked q → IsSome q → IsSome p
unmarked_alike_are_both_objects (Some o) q e h = refl
unmarked_alike_are_both_objects None None e h = h
unmarked_alike_are_both_objects None (Some o) e h = cc

-- an id still names an object
pub id_still_names_object_shaded : (now before : List Region) (x : ℕ) → without_marks now ≡ without_marks before → IsSome (object_of before x) → IsSome (object_of now x)
id_still_names_object_shaded now before x same h = unmarked_alike_are_both_objects (object_of now x) (object_of before x) (sym (named_unmarked now x) ∙ ap (λ rs. object_of rs x) same ∙ named_unmarked before x) h

-- the object of a place has the same kind and words
pub shaded_object_keeps_its_words : (now before : List Region) (at : ObjRef) (o : Object) → without_marks now ≡ without_marks before → object_at before at ≡ Some o → (p : Object) × (object_at now at ≡ Some p) × (p.words ≡ o.words)
shaded_object_keeps_its_words now before at o same h = go (object_at now at) refl (sym (placed_unmarked now at) ∙ ap (λ rs. object_at rs at) same ∙ placed_unmarked before at ∙ ap (option_map as_unmarked) h)
  where
    go : (v : Option Object) → object_at now at ≡ v → option_map as_unmarked v ≡ Some (as_unmarked o) → (p : Object) × (object_at now at ≡ Some p) × (p.words ≡ o.words)
    go None e k = cc
    go (Some p) e k = let q : as_unmarked p ≡ as_unmarked o = cc in (p, e, ap (λ (o : Object). o.words) q)

same_shaded : (s : MarkState) (x : ℕ) → without_marks (shaded s x).regions ≡ without_marks s.regions
unfolding shaded
same_shaded s x = go (is_white s.regions x)
  where
    go : (b : Bool) → without_marks (if b then record s { regions = with_mark_of true x s.regions; gray = x ∷ s.gray } else s).regions ≡ without_marks s.regions
    go true = only_marked true x s.regions
    go false = refl

-- ---- on the way

-- from the regions `before` and the marker `first` these came, and shading the rest leads to `s`
pub record IsUnderWay (s : MarkState) (rest : List ℕ) (before now : RegionPool) (first m : MarkerState) : Type 0 where
  pub left : fold shaded (at_work now.regions m) rest ≡ s
  pub room : m.room ≡ first.room
  pub pool : now.pool ≡ before.pool
  pub area : now.area_start ≡ before.area_start
  pub sound : IsGraySound now.regions m
  pub same : without_marks now.regions ≡ without_marks before.regions

pub shade_walk_begins : (ids : List ℕ) (before : RegionPool) (first : MarkerState) → IsGraySound before.regions first → IsUnderWay (fold shaded (at_work before.regions first) ids) ids before before first first
shade_walk_begins ids before first h = record { left = refl; room = refl; pool = refl; area = refl; sound = h; same = refl }

-- one id less
pub shade_walk_past_one_id : (s : MarkState) (x : ℕ) (rest : List ℕ) (before now after : RegionPool) (first m n : MarkerState) → IsUnderWay s (x ∷ rest) before now first m → n ≡ after_work (shaded (at_work now.regions m) x) m → after ≡ record now { regions = (shaded (at_work now.regions m) x).regions } → IsUnderWay s rest before after first n
shade_walk_past_one_id s x rest before now after first m n h is pool = subst (λ (v : RegionPool). IsUnderWay s rest before v first n) (sym pool) (subst (λ (v : MarkerState). IsUnderWay s rest before (record now { regions = (shaded (at_work now.regions m) x).regions }) first v) (sym is) done)
  where
    done : IsUnderWay s rest before (record now { regions = (shaded (at_work now.regions m) x).regions }) first (after_work (shaded (at_work now.regions m) x) m)
    done = record { left = h.left; room = h.room; pool = h.pool; area = h.area; sound = sound_shaded now.regions m x h.sound; same = same_shaded (at_work now.regions m) x ∙ h.same }

-- none left
pub shade_walk_without_ids_left : (s : MarkState) (before now : RegionPool) (first m : MarkerState) → IsUnderWay s [] before now first m → (m ≡ after_work s first) × (now ≡ record before { regions = s.regions })
shade_walk_without_ids_left s before now first m h = (
  λ i. record { gray = (h.left i).gray; room = h.room i; log = (h.left i).log; drained = (h.left i).drained; phase = (h.left i).phase },
  λ i. record { regions = (h.left i).regions; pool = h.pool i; area_start = h.area i },
)

-- ---- slots

-- null is passed over
with_null : (s : MarkState) (w : ℕ) (ws rest : List ℕ) → ((t : MarkState) → fold shaded t ws ≡ fold shaded t rest) → fold shaded s (if not (w == 0) then w ∷ rest else rest) ≡ fold shaded (shaded s w) ws
with_null s w ws rest same = go (w == 0) refl
  where
    go : (b : Bool) → (w == 0) ≡ b → fold shaded s (if not b then w ∷ rest else rest) ≡ fold shaded (shaded s w) ws
    go true e = sym (same s) ∙ ap (λ (t : MarkState). fold shaded t ws) (sym (shaded_null s) ∙ ap (shaded s) (sym (eqb-true w 0 e)))
    go false e = sym (same (shaded s w))

-- a reference slot, and another
pub slot_shaded : (s : MarkState) (k : Kind) (ks : List Kind) (w : ℕ) (ws : List ℕ) → is_reference k ≡ true → fold shaded s (references_among (k ∷ ks) (w ∷ ws)) ≡ fold shaded s (w ∷ references_among ks ws)
unfolding references_among
slot_shaded s k ks w ws h =
    let rest : List (Kind × ℕ) = filter {X = Kind × ℕ} (λ p. is_reference p.0) (zip ks ws) in
    ap (λ (b : Bool). fold shaded s (filter (λ (w : ℕ). not (w == 0)) (map {A = Kind × ℕ} {B = ℕ} (λ p. p.1) (if b then (k, w) ∷ rest else rest)))) h
    ∙ with_null s w (references_among ks ws) (references_among ks ws) (λ t. refl)

pub slot_passed : (k : Kind) (ks : List Kind) (w : ℕ) (ws : List ℕ) → is_reference k ≡ false → references_among (k ∷ ks) (w ∷ ws) ≡ references_among ks ws
unfolding references_among
slot_passed k ks w ws h =
    let rest : List (Kind × ℕ) = filter {X = Kind × ℕ} (λ p. is_reference p.0) (zip ks ws) in
    ap (λ (b : Bool). filter (λ (w : ℕ). not (w == 0)) (map {A = Kind × ℕ} {B = ℕ} (λ p. p.1) (if b then (k, w) ∷ rest else rest))) h

-- all slots of an array of references
pub elements_shaded : (s : MarkState) (ws : List ℕ) → fold shaded s ws ≡ fold shaded s (references_among (replicate (length ws) Kind.Object) ws)
unfolding references_among
elements_shaded s [] = refl
elements_shaded s (w ∷ ws) = sym (with_null s w ws (references_among (replicate (length ws) Kind.Object) ws) (λ t. elements_shaded t ws))

pub slots_without_references_name_none : (k : Kind) (n : ℕ) (ws : List ℕ) → is_reference k ≡ false → references_among (replicate n k) ws ≡ []
unfolding references_among
slots_without_references_name_none k zero ws h = refl
slots_without_references_name_none k (suc n) [] h = refl
slots_without_references_name_none k (suc n) (w ∷ ws) h = slot_passed k (replicate n k) w ws h ∙ slots_without_references_name_none k n ws h

-- ---- options

pub some_and_property_give_value : {A : Type 0} (v : Option A) (P : A → Type 0) → IsSomeAnd v P → (a : A) × (v ≡ Some a) × P a
some_and_property_give_value None P h = absurd h
some_and_property_give_value (Some a) P h = (a, refl, h)

pub property_holds_if_some : {A : Type 0} (v : Option A) (P : A → Type 0) → ((a : A) → v ≡ Some a → P a) → IfSome v P
property_holds_if_some None P h = tt
property_holds_if_some (Some a) P h = h a refl

-- ---- by index

pub gone_on_at : (s : MarkState) (ws : List ℕ) (i w : ℕ) (before now after : RegionPool) (first m n : MarkerState) → i < length ws → w ≡ get_or ws i 0 → IsUnderWay s (drop i ws) before now first m → n ≡ after_work (shaded (at_work now.regions m) w) m → after ≡ record now { regions = (shaded (at_work now.regions m) w).regions } → IsUnderWay s (drop (i + 1) ws) before after first n
gone_on_at s ws i w before now after first m n within is h = shade_walk_past_one_id s w (drop (i + 1) ws) before now after first m n (subst (λ (rest : List ℕ). IsUnderWay s rest before now first m) (drop_more ws i 0 within ∙ ap (λ (v : ℕ). v ∷ drop (i + 1) ws) (sym is)) h)

pub shade_walk_past_all_words : (s : MarkState) (ws : List ℕ) (i : ℕ) (before now : RegionPool) (first m : MarkerState) → i ≡ length ws → IsUnderWay s (drop i ws) before now first m → (m ≡ after_work s first) × (now ≡ record before { regions = s.regions })
shade_walk_past_all_words s ws i before now first m all h = shade_walk_without_ids_left s before now first m (subst (λ (rest : List ℕ). IsUnderWay s rest before now first m) (ap (λ (j : ℕ). drop j ws) all ∙ drop-length ws) h)

-- by slots
slots_at : (ks : List Kind) (ws : List ℕ) (i : ℕ) (k : Kind) (w : ℕ) → i < length ks → i < length ws → k ≡ get_or ks i Kind.Object → w ≡ get_or ws i 0 → references_among (drop i ks) (drop i ws) ≡ references_among (k ∷ drop (i + 1) ks) (w ∷ drop (i + 1) ws)
slots_at ks ws i k w kin win kind word =
    let ks_at : drop i ks ≡ k ∷ drop (i + 1) ks = drop_more ks i Kind.Object kin ∙ ap (λ (v : Kind). v ∷ drop (i + 1) ks) (sym kind) in
    let ws_at : drop i ws ≡ w ∷ drop (i + 1) ws = drop_more ws i 0 win ∙ ap (λ (v : ℕ). v ∷ drop (i + 1) ws) (sym word) in
    λ j. references_among (ks_at j) (ws_at j)

pub field_shaded : (s : MarkState) (ks : List Kind) (ws : List ℕ) (i : ℕ) (k : Kind) (w : ℕ) (before now after : RegionPool) (first m n : MarkerState) → i < length ks → i < length ws → k ≡ get_or ks i Kind.Object → w ≡ get_or ws i 0 → is_reference k ≡ true → IsUnderWay s (references_among (drop i ks) (drop i ws)) before now first m → n ≡ after_work (shaded (at_work now.regions m) w) m → after ≡ record now { regions = (shaded (at_work now.regions m) w).regions } → IsUnderWay s (references_among (drop (i + 1) ks) (drop (i + 1) ws)) before after first n
field_shaded s ks ws i k w before now after first m n kin win kind word refers h = shade_walk_past_one_id s w (references_among (drop (i + 1) ks) (drop (i + 1) ws)) before now after first m n (record { left = sym (slot_shaded (at_work now.regions m) k (drop (i + 1) ks) w (drop (i + 1) ws) refers) ∙ ap (fold shaded (at_work now.regions m)) (sym (slots_at ks ws i k w kin win kind word)) ∙ h.left; room = h.room; pool = h.pool; area = h.area; sound = h.sound; same = h.same })

pub field_passed : (s : MarkState) (ks : List Kind) (ws : List ℕ) (i : ℕ) (k : Kind) (before now : RegionPool) (first m : MarkerState) → i < length ks → i < length ws → k ≡ get_or ks i Kind.Object → is_reference k ≡ false → IsUnderWay s (references_among (drop i ks) (drop i ws)) before now first m → IsUnderWay s (references_among (drop (i + 1) ks) (drop (i + 1) ws)) before now first m
field_passed s ks ws i k before now first m kin win kind other h = subst (λ (rest : List ℕ). IsUnderWay s rest before now first m) (slots_at ks ws i k (get_or ws i 0) kin win kind refl ∙ slot_passed k (drop (i + 1) ks) (get_or ws i 0) (drop (i + 1) ws) other) h

pub fields_arrived : (s : MarkState) (ks : List Kind) (ws : List ℕ) (i : ℕ) (before now : RegionPool) (first m : MarkerState) → i ≡ length ks → IsUnderWay s (references_among (drop i ks) (drop i ws)) before now first m → (m ≡ after_work s first) × (now ≡ record before { regions = s.regions })
unfolding references_among
fields_arrived s ks ws i before now first m all h = shade_walk_without_ids_left s before now first m (subst (λ (left : List Kind). IsUnderWay s (references_among left (drop i ws)) before now first m) (ap (λ (j : ℕ). drop j ks) all ∙ drop-length ks) h)

-- ---- reading a word on the way

pub within_words : (now before : List Region) (at : ObjRef) (o : Object) (slot : ℕ) → without_marks now ≡ without_marks before → object_at before at ≡ Some o → slot < length o.words → IsSome (object_at now at) × IfSome (object_at now at) (λ p. slot < length p.words)
within_words now before at o slot same there within = let q : (p : Object) × (object_at now at ≡ Some p) × (p.words ≡ o.words) = shaded_object_keeps_its_words now before at o same there in (rw q.1 refl, rw q.1 (omega (arith, within, ap length q.2)))

-- so of an object that was found
pub words_still : (P : Object → Type 0) (now before : List Region) (at : ObjRef) (slot : ℕ) → IsSomeAnd (object_at before at) P → ((o : Object) → object_at before at ≡ Some o → (without_marks now ≡ without_marks before) × (slot < length o.words)) → IsSome (object_at now at) × IfSome (object_at now at) (λ p. slot < length p.words)
words_still P now before at slot found same =
    let q = some_and_property_give_value (object_at before at) P found in
    within_words now before at q.0 slot (same q.0 q.1).0 q.1 (same q.0 q.1).1

pub word_was : (now before : List Region) (at : ObjRef) (o : Object) (slot w : ℕ) → without_marks now ≡ without_marks before → object_at before at ≡ Some o → IfSome (object_at now at) (λ p. w ≡ get_or p.words slot 0) → w ≡ get_or o.words slot 0
word_was now before at o slot w same there told = let q : (p : Object) × (object_at now at ≡ Some p) × (p.words ≡ o.words) = shaded_object_keeps_its_words now before at o same there in (rw q.1 at told) ∙ ap (λ (ws : List ℕ). get_or ws slot 0) q.2
