-- Paths in an image, and paths along references.
use Rattle.std.proofs.Common.{◌≡◌, ◌≢◌, ◌⊎◌, ℕ, zero, suc, ◌+◌, ◌<◌, Bool, true, false, cond, List, [], ◌∷◌, ◌++◌, length, map, get_or, Option, Some, None, refl, sym, ap, ◌∙◌, subst, inl, inr, arith}
use Rattle.std.specs.Prelude.{All, Contains, IsSome, filter, find, flat_map, option_and_then, option_map, slice_get, ◌==◌}
use Rattle.std.specs.List.{enumerate_from, filter_map}
use Rattle.std.specs.Option.{option_map_or}
use Rattle.std.proofs.lemmas.Bool.{eq-eqb, eqb-true, false≢true, true≢false}
use Rattle.std.proofs.lemmas.List.Elements.{All-cons, All-head, All-nil, All-tail, Contains-append_left, Contains-append_right}
use Rattle.std.proofs.lemmas.Option.{none-some, same_Some, slice_get_within, slice_get-get_or}
use Rattle.heap_class.specs.declared.Kind.{Kind}
use Rattle.heap_class.specs.declared.ObjKind.{ObjKind}
use Rattle.heap_class.specs.declared.ObjKind.TheVariants.{Array, Instance, Prim}
use Rattle.heap_class.specs.declared.ObjRef.{ObjRef}
use Rattle.heap_class.specs.Classes.{Class, slot_kinds_of, slots_of}
use Rattle.heap_class.specs.Kinds.{is_reference}
use Rattle.heap_region.specs.Regions.{InUse, Object, Region, UsedRegion, id_of, live_objects, object_at, object_of, objects_in, objects_of_region, ref_of, references_of, slot_kinds}
use Rattle.heap_region.proofs.Ids.{ref_back, ref_is, null_names_none}
use Rattle.heap_region.proofs.ChangedLookups.{object_at_ref, place_of_object_of_id}
use Rattle.heap_region.proofs.References.{member_stands_at_reference_slot, is_found_in, member_is_head_or_later, list_has_its_head, empty_list_has_no_member, list_has_items_of_tail, place_of_member, references_by_slots}
use Rattle.heap_world.specs.Legal.{IsLegal, IsLive}
use Rattle.heap_world.specs.Reach.{IsObject, IsPath, Names, Reaches, end_of_path}
use Rattle.heap_world.specs.State.{HeapState}
use Rattle.heap_world.proofs.Registers.{naming_id_names_an_object, names_of, object_not_null}
use Rattle.heap_world.proofs.Shelter.{reach_induction, end_of_longer_path}
use Rattle.heap_trail.specs.Image.{DumpedObject}
use Rattle.heap_pins.specs.Images.{dumped_objects, image_of}
use Rattle.heap_pins.proofs.LiveCounts.{Stands, live_stand}
use Rattle.heap_questions.specs.Graph.{HasId, HasPath, followed, slot_refers, named, object_with, slot_names}
use Rattle.heap_questions.proofs.Reaching.{leads_more}
use Rattle.heap_questions.proofs.TracedPaths.{first_object}
use Rattle.heap_questions.specs.Losses.{PathIsReach}
use Rattle.heap_questions.proofs.Sizes.{table_of, used_of}
use Rattle.heap_region.proofs.Laws.{cell_of_object_of_region}
use Rattle.heap_region.proofs.Lookups.{used_region_stands_in_list}
use Rattle.heap_questions.proofs.NamedObjects.{element_kind}

-- ---- what an image shows is there

-- an object as a dump shows it
abbrev object_as_shown : List Region → ObjRef × Object → DumpedObject
object_as_shown regions p = record { id = id_of regions p.0; kind = p.1.kind; words = p.1.words }

abbrev pub IsLiveOne : ObjRef × Object → Type 0
IsLiveOne p = p.1.live ≡ true

pub filter_live : (xs : List (ObjRef × Object)) → All IsLiveOne (filter (λ p. p.1.live) xs)
filter_live [] = All-nil IsLiveOne
filter_live (x ∷ xs) = go x.1.live refl (filter_live xs)
  where
    go : (b : Bool) → x.1.live ≡ b → All IsLiveOne (filter (λ p. p.1.live) xs) → All IsLiveOne (cond b (x ∷ filter (λ p. p.1.live) xs) (filter (λ p. p.1.live) xs))
    go true e rest = All-cons IsLiveOne x (filter (λ p. p.1.live) xs) e rest
    go false e rest = rest

-- the first of these that has an id
abbrev IsFirst : List Region → ℕ → DumpedObject → Type 0
IsFirst regions x d = (p : ObjRef × Object) × Stands regions p × IsLiveOne p × (object_as_shown regions p ≡ d) × (id_of regions p.0 ≡ x)

first_is : (regions : List Region) (x : ℕ) (xs : List (ObjRef × Object)) (d : DumpedObject) → All (Stands regions) xs → All IsLiveOne xs → find (λ o. o.id == x) (map (object_as_shown regions) xs) ≡ Some d → IsFirst regions x d
first_is regions x [] d s l e = absurd (none-some d e)
first_is regions x (p ∷ ps) d s l e = go (id_of regions p.0 == x) refl e (first_is regions x ps d (All-tail (Stands regions) p ps s) (All-tail IsLiveOne p ps l))
  where
    go : (b : Bool) → (id_of regions p.0 == x) ≡ b → cond b (Some (object_as_shown regions p)) (find (λ o. o.id == x) (map (object_as_shown regions) ps)) ≡ Some d → (find (λ o. o.id == x) (map (object_as_shown regions) ps) ≡ Some d → IsFirst regions x d) → IsFirst regions x d
    go true h f rest = (p, All-head (Stands regions) p ps s, All-head IsLiveOne p ps l, same_Some (object_as_shown regions p) d f, eqb-true (id_of regions p.0) x h)
    go false h f rest = rest f

-- the id of an object leads back to its place
pub id_back : (w : HeapState) (at : ObjRef) (o : Object) → IsLegal w → object_at w.regions at ≡ Some o → ref_of w.regions (id_of w.regions at) ≡ Some at
id_back w at o legal h =
    let u = used_of w.regions at (subst IsSome (sym h) refl) in
    let l = slice_get_within u.0.cells at.cell (Some o) (cell_of_object_of_region w.regions at u.0 o u.1 h) in
    ref_back w.regions at u.0 u.1 (omega (arith, l, (table_of w at.region u.0 legal u.1).cells))

-- the object of the image is this one of the state
record IsShownAs (w : HeapState) (x : ℕ) (d : DumpedObject) : Type 0 where
  object : Object
  there : object_of w.regions x ≡ Some object
  live : object.live ≡ true
  kind : d.kind ≡ object.kind
  words : d.words ≡ object.words

shown_as : (w : HeapState) (x : ℕ) (d : DumpedObject) → IsLegal w → object_with (image_of w) x ≡ Some d → IsShownAs w x d
unfolding object_with image_of dumped_objects live_objects
shown_as w x d legal e =
    let p = first_is w.regions x (live_objects w.regions) d (live_stand w.regions) (filter_live (objects_in w.regions)) e in
    let ref : ref_of w.regions x ≡ Some p.0.0 = subst (λ i. ref_of w.regions i ≡ Some p.0.0) p.4 (id_back w p.0.0 p.0.1 legal p.1) in
    record {
      object = p.0.1;
      there = object_at_ref w.regions x p.0.0 ref ∙ p.1;
      live = p.2;
      kind = ap (λ (d : DumpedObject). d.kind) (sym p.3);
      words = ap (λ (d : DumpedObject). d.words) (sym p.3);
    }

some_shown : (w : HeapState) (x : ℕ) → IsLegal w → HasId (image_of w) x → (d : DumpedObject) × (object_with (image_of w) x ≡ Some d) × IsShownAs w x d
some_shown w x legal h = go (object_with (image_of w) x) refl h
  where
    go : (y : Option DumpedObject) → object_with (image_of w) x ≡ y → IsSome y → (d : DumpedObject) × (object_with (image_of w) x ≡ Some d) × IsShownAs w x d
    go None e s = absurd (false≢true s)
    go (Some d) e s = (d, e, shown_as w x d legal e)

-- ---- what is live is in the image

-- the objects of a region's cells that are numbered from m on
abbrev in_cells : ℕ → ℕ → List (Option Object) → List (ObjRef × Object)
in_cells r m cells = filter_map (λ (c : ℕ × Option Object). option_map (λ (o : Object). (let at : ObjRef = record { region = r; cell = c.0 } in at, o)) c.1) (enumerate_from m cells)

cells_there : (r m k : ℕ) (cells : List (Option Object)) (o : Object) → slice_get cells k ≡ Some (Some o) → Contains (in_cells r m cells) (record { region = r; cell = m + k }, o)
cells_there r m k [] o h = absurd (none-some (Some o) h)
cells_there r m zero (None ∷ cells) o h = absurd (none-some o (same_Some None (Some o) h))
cells_there r m (suc k) (None ∷ cells) o h =
    let e : m + 1 + k ≡ m + suc k = omega arith in
    subst (λ c. Contains (in_cells r m (None ∷ cells)) (record { region = r; cell = c }, o)) e (cells_there r (m + 1) k cells o h)
cells_there r m zero (Some p ∷ cells) o h =
    let same : p ≡ o = same_Some p o (same_Some (Some p) (Some o) h) in
    let e : m ≡ m + 0 = omega arith in
    subst (λ c. Contains (in_cells r m (Some p ∷ cells)) (record { region = r; cell = c }, o)) e
    (subst (λ (q : Object). Contains (in_cells r m (Some p ∷ cells)) (record { region = r; cell = m }, q)) same (list_has_its_head (record { region = r; cell = m }, p) (in_cells r (m + 1) cells)))
cells_there r m (suc k) (Some p ∷ cells) o h =
    let e : m + 1 + k ≡ m + suc k = omega arith in
    subst (λ c. Contains (in_cells r m (Some p ∷ cells)) (record { region = r; cell = c }, o)) e
    (list_has_items_of_tail (record { region = r; cell = m }, p) (in_cells r (m + 1) cells) (record { region = r; cell = m + 1 + k }, o) (cells_there r (m + 1) k cells o h))

region_there : (r : ℕ) (u : UsedRegion) (c : ℕ) (o : Object) → slice_get u.cells c ≡ Some (Some o) → Contains (objects_of_region (r, InUse u)) (record { region = r; cell = c }, o)
unfolding objects_of_region
region_there r u c o h =
    let e : 0 + c ≡ c = omega arith in
    subst (λ k. Contains (in_cells r 0 u.cells) (record { region = r; cell = k }, o)) e (cells_there r 0 c u.cells o h)

regions_there : (n k : ℕ) (rest : List Region) (x : Region) (q : ObjRef × Object) → slice_get rest k ≡ Some x → Contains (objects_of_region (n + k, x)) q → Contains (flat_map objects_of_region (enumerate_from n rest)) q
regions_there n k [] x q h c = absurd (none-some x h)
regions_there n zero (y ∷ rest) x q h c =
    let e : n + 0 ≡ n = omega arith in
    Contains-append_left (objects_of_region (n, y)) (flat_map objects_of_region (enumerate_from (n + 1) rest)) q
    (subst (λ (z : Region). Contains (objects_of_region (n, z)) q) (sym (same_Some y x h)) (subst (λ m. Contains (objects_of_region (m, x)) q) e c))
regions_there n (suc k) (y ∷ rest) x q h c =
    let e : n + suc k ≡ n + 1 + k = omega arith in
    Contains-append_right (objects_of_region (n, y)) (flat_map objects_of_region (enumerate_from (n + 1) rest)) q
    (regions_there (n + 1) k rest x q h (subst (λ m. Contains (objects_of_region (m, x)) q) e c))

filter_there : (xs : List (ObjRef × Object)) (q : ObjRef × Object) → Contains xs q → IsLiveOne q → Contains (filter (λ p. p.1.live) xs) q
filter_there [] q c l = absurd (empty_list_has_no_member q c)
filter_there (x ∷ xs) q c l = go x.1.live refl (member_is_head_or_later x xs q c) (λ d. filter_there xs q d l)
  where
    go : (b : Bool) → x.1.live ≡ b → (q ≡ x) ⊎ Contains xs q → (Contains xs q → Contains (filter (λ p. p.1.live) xs) q) → Contains (cond b (x ∷ filter (λ p. p.1.live) xs) (filter (λ p. p.1.live) xs)) q
    go true e (inl h) rest = subst (λ (p : ObjRef × Object). Contains (x ∷ filter (λ p. p.1.live) xs) p) (sym h) (list_has_its_head x (filter (λ p. p.1.live) xs))
    go true e (inr d) rest = list_has_items_of_tail x (filter (λ p. p.1.live) xs) q (rest d)
    go false e (inl h) rest = absurd (true≢false (sym l ∙ ap (λ (p : ObjRef × Object). p.1.live) h ∙ e))
    go false e (inr d) rest = rest d

find_there : (regions : List Region) (x : ℕ) (xs : List (ObjRef × Object)) (q : ObjRef × Object) → Contains xs q → id_of regions q.0 ≡ x → IsSome (find (λ o. o.id == x) (map (object_as_shown regions) xs))
find_there regions x [] q c e = absurd (empty_list_has_no_member q c)
find_there regions x (p ∷ ps) q c e = go (id_of regions p.0 == x) refl (member_is_head_or_later p ps q c) (λ d. find_there regions x ps q d e)
  where
    go : (b : Bool) → (id_of regions p.0 == x) ≡ b → (q ≡ p) ⊎ Contains ps q → (Contains ps q → IsSome (find (λ o. o.id == x) (map (object_as_shown regions) ps))) → IsSome (cond b (Some (object_as_shown regions p)) (find (λ o. o.id == x) (map (object_as_shown regions) ps)))
    go true h m rest = refl
    go false h (inl m) rest = absurd (true≢false (sym (eq-eqb (id_of regions p.0) x (ap (λ (z : ObjRef × Object). id_of regions z.0) (sym m) ∙ e)) ∙ h))
    go false h (inr d) rest = rest d

-- each live object is among the live objects
pub live_listed : (w : HeapState) (at : ObjRef) (o : Object) → object_at w.regions at ≡ Some o → o.live ≡ true → Contains (live_objects w.regions) (at, o)
unfolding live_objects objects_in
live_listed w at o here live =
    let u = used_of w.regions at (subst IsSome (sym here) refl) in
    let c = region_there at.region u.0 at.cell o (cell_of_object_of_region w.regions at u.0 o u.1 here) in
    let e : at.region ≡ 0 + at.region = omega arith in
    let m = regions_there 0 at.region w.regions (InUse u.0) (at, o) (used_region_stands_in_list w.regions at.region u.0 u.1) (subst (λ r. Contains (objects_of_region (r, InUse u.0)) (at, o)) e c) in
    filter_there (flat_map objects_of_region (enumerate_from 0 w.regions)) (at, o) m live

live_shown : (w : HeapState) (x : ℕ) → IsLive w x → HasId (image_of w) x
unfolding object_with image_of dumped_objects
live_shown w x l =
    let p = place_of_object_of_id w.regions x l.0 l.1 in
    find_there w.regions x (live_objects w.regions) (p.0, l.0) (live_listed w p.0 l.0 p.2 l.2) (ref_is w.regions x p.0 p.1)

-- ---- slots

abbrev IsReferenceAt : List Class → ObjKind → ℕ → ℕ → Type 0
IsReferenceAt classes kind n s = (k : Kind) × (slice_get (slot_kinds_of classes kind n) s ≡ Some k) × (is_reference k ≡ true)

reference_at : (classes : List Class) (kind : ObjKind) (n s : ℕ) → s < n → slot_refers classes kind s ≡ true → IsReferenceAt classes kind n s
unfolding slot_refers slot_kinds_of
reference_at classes (Instance c) n s l h = go (slice_get (slots_of classes c) s) refl h
  where
    go : (x : Option Kind) → slice_get (slots_of classes c) s ≡ x → option_map_or is_reference x false ≡ true → (k : Kind) × (slice_get (slots_of classes c) s ≡ Some k) × (is_reference k ≡ true)
    go None e f = absurd (false≢true f)
    go (Some k) e f = (k, e, f)
reference_at classes (Array c) n s l h = (Kind.Object, element_kind n s Kind.Object l, refl)
reference_at classes (Prim kind) n s l h = (kind, element_kind n s kind l, h)

at_reference : (classes : List Class) (kind : ObjKind) (n s : ℕ) (k : Kind) → s < n → slice_get (slot_kinds_of classes kind n) s ≡ Some k → is_reference k ≡ true → slot_refers classes kind s ≡ true
unfolding slot_refers slot_kinds_of
at_reference classes (Instance c) n s k l e h = ap (λ (x : Option Kind). option_map_or is_reference x false) e ∙ h
at_reference classes (Array c) n s k l e h = refl
at_reference classes (Prim kind) n s k l e h = ap is_reference (same_Some kind k (sym (element_kind n s kind l) ∙ e)) ∙ h

-- a slot of the image that names an object names it in the state
names_there : (w : HeapState) (x s y : ℕ) (d : DumpedObject) → IsShownAs w x d → slot_names w.classes d s ≡ Some y → y ≢ 0 → Names w x y
unfolding slot_names slot_kinds
names_there w x s y d i h nz = go (slot_refers w.classes d.kind s) refl h
  where
    o : Object
    o = i.object

    go : (b : Bool) → slot_refers w.classes d.kind s ≡ b → cond b (slice_get d.words s) None ≡ Some y → Names w x y
    go false e f = absurd (none-some y f)
    go true e f =
        let g : slice_get o.words s ≡ Some y = ap (λ (ws : List ℕ). slice_get ws s) (sym i.words) ∙ f in
        let r = reference_at w.classes o.kind (length o.words) s (slice_get_within o.words s y g) (ap (λ (k : ObjKind). slot_refers w.classes k s) (sym i.kind) ∙ e) in
        names_of w x y o i.there (subst (λ (ys : List ℕ). Contains ys y) (sym (references_by_slots w.classes o)) (is_found_in (slot_kinds w.classes o) o.words y (s, r.0, r.1, r.2, g, nz)))

-- and the other way round
slot_there : (w : HeapState) (x y : ℕ) (d : DumpedObject) → IsShownAs w x d → Names w x y → (s : ℕ) × (slot_names w.classes d s ≡ Some y)
unfolding slot_names slot_kinds
slot_there w x y d i n =
    let a = naming_id_names_an_object w x y n in
    let same : a.0 ≡ i.object = same_Some a.0 i.object (sym a.1 ∙ i.there) in
    let c = subst (λ (o : Object). Contains (references_of w.classes o) y) same a.2 in
    let o = i.object in
    let r = member_stands_at_reference_slot (slot_kinds w.classes o) o.words y (subst (λ (ys : List ℕ). Contains ys y) (references_by_slots w.classes o) c) in
    let b = at_reference w.classes o.kind (length o.words) r.0 r.1 (slice_get_within o.words r.0 y r.4) r.2 r.3 in
    (r.0, ap (λ (b : Bool). cond b (slice_get d.words r.0) None) (ap (λ (k : ObjKind). slot_refers w.classes k r.0) i.kind ∙ b) ∙ ap (λ (ws : List ℕ). slice_get ws r.0) i.words ∙ r.4)

-- ---- paths

path_more : (w : HeapState) (x : ℕ) (ys : List ℕ) (z : ℕ) → IsPath w (IsObject w) x ys → Names w (end_of_path x ys) z → IsObject w z → IsPath w (IsObject w) x (ys ++ z ∷ [])
path_more w x [] z p n o = (p, n, o)
path_more w x (y ∷ ys) z p n o = (p.0, p.1, path_more w y ys z p.2 n o)

pub reaches_next : (w : HeapState) (x y : ℕ) → Reaches w x → Names w x y → IsObject w y → Reaches w y
reaches_next w x y r n o = (r.0, r.1 ++ y ∷ [], r.2, path_more w r.0 r.1 y r.3 (subst (λ e. Names w e y) (sym r.4) n) o, end_of_longer_path r.0 r.1 y)

is_object : (w : HeapState) (x : ℕ) → IsLegal w → HasId (image_of w) x → IsObject w x
is_object w x legal h = let d = some_shown w x legal h in subst IsSome (sym d.2.there) refl

named_is : (w : HeapState) (x s y : ℕ) → IsLegal w → HasId (image_of w) x → named (image_of w) x s ≡ Some y → HasId (image_of w) y → Names w x y
unfolding named image_of
named_is w x s y legal h e g =
    let d = some_shown w x legal h in
    let o = some_shown w y legal g in
    names_there w x s y d.0 d.2 (sym (ap (option_and_then (λ o. slot_names w.classes o s)) d.1) ∙ e) (object_not_null w y o.2.object o.2.there)

reaches_by : (w : HeapState) → IsLegal w → (slots : List ℕ) (x y : ℕ) → Reaches w x → HasId (image_of w) x → followed (image_of w) x slots ≡ Some y → HasId (image_of w) y → Reaches w y
reaches_by w legal [] x y r h e g = subst (Reaches w) (same_Some x y e) r
reaches_by w legal (s ∷ ss) x y r h e g = go (named (image_of w) x s) refl e (λ z q i f. reaches_by w legal ss z y q i f g)
  where
    go : (n : Option ℕ) → named (image_of w) x s ≡ n → option_and_then (λ z. followed (image_of w) z ss) n ≡ Some y → ((z : ℕ) → Reaches w z → HasId (image_of w) z → followed (image_of w) z ss ≡ Some y → Reaches w y) → Reaches w y
    go None f k rest = absurd (none-some y k)
    go (Some z) f k rest =
        let i = first_object (image_of w) z ss y k g in
        rest z (reaches_next w x z r (named_is w x s z legal h f i) (is_object w z legal i)) i k

reach_of : (w : HeapState) (x : ℕ) → IsLegal w → HasPath (image_of w) x → Reaches w x
unfolding image_of
reach_of w x legal p = go (slice_get w.registers p.0) refl p.2.leads
  where
    go : (n : Option ℕ) → slice_get w.registers p.0 ≡ n → option_and_then (λ y. followed (image_of w) y p.1) n ≡ Some x → Reaches w x
    go None e f = absurd (none-some x f)
    go (Some y) e f =
        let i = first_object (image_of w) y p.1 x f p.2.there in
        reaches_by w legal p.1 y x (y, [], (p.0, slice_get_within w.registers p.0 y e, get_or_is w.registers p.0 y e), is_object w y legal i, refl) i f p.2.there
      where
        get_or_is : (xs : List ℕ) (k y : ℕ) → slice_get xs k ≡ Some y → get_or xs k y ≡ y
        get_or_is xs k y e = same_Some (get_or xs k y) y (sym (slice_get-get_or xs k y (slice_get_within xs k y e)) ∙ e)

abbrev IsFound : HeapState → ℕ → Type 0
IsFound w x = IsLive w x × HasPath (image_of w) x

path_of : (w : HeapState) (x : ℕ) → IsLegal w → Reaches w x → HasPath (image_of w) x
unfolding image_of named
path_of w x legal reached = (reach_induction w (IsFound w) first next x reached).1
  where
    not_null : (y : ℕ) → IsObject w y → y ≢ 0
    not_null y o z = absurd (false≢true (subst IsSome (ap (object_of w.regions) z ∙ null_names_none w.regions) o))

    first : (y : ℕ) → Contains w.registers y → IsObject w y → IsFound w y
    first y c o =
        let l = legal.registers_live y c (not_null y o) in
        let r = place_of_member w.registers y c in
        (l, (r.0, [], record { there = live_shown w y l; leads = ap (option_and_then (λ z. followed (image_of w) z [])) r.1 }))

    next : (y z : ℕ) → IsFound w y → Names w y z → IsObject w z → IsFound w z
    next y z f n o =
        let l = legal.slots_live y z f.0 n in
        let d = some_shown w y legal (live_shown w y f.0) in
        let s = slot_there w y z d.0 d.2 n in
        let e : named (image_of w) y s.0 ≡ Some z = ap (option_and_then (λ o. slot_names w.classes o s.0)) d.1 ∙ s.1 in
        let p = f.1 in
        (l, (p.0, p.1 ++ s.0 ∷ [], record { there = live_shown w z l; leads = leads_more (image_of w) p.0 p.1 y s.0 z p.2.leads e }))

-- a path in the image is one along references, and the other way round
pub path_is_reach : (w : HeapState) (x : ℕ) → PathIsReach w x
path_is_reach w x legal = (reach_of w x legal, path_of w x legal)
