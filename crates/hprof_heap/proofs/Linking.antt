-- How the references of objects are stored.
use Rattle.std.proofs.Common.{◌≡◌, ◌≢◌, ℕ, zero, suc, ◌+◌, ◌^◌, ◌<◌, ◌≤◌, Bool, true, false, List, [], ◌∷◌, ◌++◌, length, replicate, refl, sym, ap, subst, ◌∙◌, Option, Some, None, arith}
use Rattle.std.specs.Prelude.{slice_get, slice_set, flat_map, if◌then◌else◌}
use Rattle.std.specs.List.{list_any}
use Rattle.std.specs.Option.{option_map_or}
use Rattle.std.proofs.lemmas.Bool.{or_parts}
use Rattle.std.proofs.lemmas.List.{length-replicate}
use Rattle.heap_class.specs.declared.ObjKind.{ObjKind}
use Rattle.heap_step.specs.declared.Event.{Event}
use Rattle.heap_step.specs.declared.Event.TheVariants.{Store}
use Rattle.hprof_session.specs.Places.{array_slot, fetch_events, slot_of, top_of}
use Rattle.hprof_lines.specs.declared.values.SlotValue.{SlotValue}
use Rattle.hprof_lines.specs.Objects.{names_object, stored}
use Rattle.hprof_heap.specs.ToldObjects.{ObjectTold}
use Rattle.hprof_heap.proofs.Graphs.{Graph, Thing, word_in, IsLoading, IsRun, IsWriting, run_in_parts}
use Rattle.hprof_heap.proofs.PlaceNumbers.{few_tops}
use Rattle.hprof_heap.proofs.Placed.{IsKeeper, IsKept, IsTop, Moves, Object, Role, Stays, keeper, keeper_moves, kept, kept_moves, object_number, top_moves}
use Rattle.hprof_heap.proofs.Filled.{IsFilling, filling_moves, filling_stays, length_with_values, nothing_filled, two_fillings, writing_fills, writing_within}
use Rattle.hprof_heap.proofs.Making.{made_thing}

-- the objects below `last` that are made are kept, and these are their ids
pub record AreFound (class : ℕ) (made : ℕ → Bool) (last : ℕ) (id : ℕ → ℕ) (role : ℕ → Role) (g : Graph) : Type 0 where
  pub few : last ≤ 2 ^ 22
  pub tops : (m : ℕ) → m < last → IsTop class role g m
  pub keepers : (m : ℕ) → m < last → IsKeeper class role g m
  pub objects : (m : ℕ) → m < last → made m ≡ true → IsKept role g m
  pub ids : (m : ℕ) → m < last → kept g m ≡ id m

-- an object that is made is for its number
pub for_its_number : (class : ℕ) (made : ℕ → Bool) (last : ℕ) (id : ℕ → ℕ) (role : ℕ → Role) (g : Graph) (m : ℕ) → AreFound class made last id role g → m < last → made m ≡ true → role (id m) ≡ Object m
for_its_number class made last id role g m a l b = ap role (sym (a.ids m l)) ∙ (a.objects m l b).purpose

-- objects with different numbers have different ids
pub ids_differ : (class : ℕ) (made : ℕ → Bool) (last : ℕ) (id : ℕ → ℕ) (role : ℕ → Role) (g : Graph) (m n : ℕ) → AreFound class made last id role g → m < last → made m ≡ true → n < last → made n ≡ true → id m ≡ id n → m ≡ n
ids_differ class made last id role g m n a l b k c e = object_number m n (sym (for_its_number class made last id role g m a l b) ∙ ap role e ∙ for_its_number class made last id role g n a k c)

-- ---- an object is fetched

-- a register names x, and only this and register 4 change
pub record IsFetched (r x : ℕ) (g h : Graph) : Type 0 where
  pub held : h.registers r ≡ x
  pub things : (y : ℕ) → h.things y ≡ g.things y
  pub registers : (q : ℕ) → q ≢ 4 → q ≢ r → h.registers q ≡ g.registers q

register_names_fetched_object : (class : ℕ) (role : ℕ → Role) (r m : ℕ) (g f h : Graph) → IsTop class role g m → IsKeeper class role g m → IsLoading 4 (top_of m) (array_slot m) g f → IsLoading r 4 (slot_of m) f h → IsFetched r (kept g m) g h
register_names_fetched_object class role r m g f h t k p q = record {
  held = q.loaded class k.there.0 (ap f.things array ∙ p.things (keeper g m) ∙ k.there.1) k.there.2 ∙ sym (ap (λ o. word_in o (slot_of m)) k.there.1);
  things = λ y. q.things y ∙ p.things y;
  registers = λ i a b. q.registers i b ∙ p.registers i a;
}
  where
    array : f.registers 4 ≡ keeper g m
    array = p.loaded class t.there.0 t.there.1 t.there.2 ∙ sym (ap (λ o. word_in o (array_slot m)) t.there.1)

pub object_is_fetched : (slots : ℕ → ℕ) (class : ℕ) (role : ℕ → Role) (r m : ℕ) (g h : Graph) → IsTop class role g m → IsKeeper class role g m → IsRun slots (fetch_events m r) g h → IsFetched r (kept g m) g h
object_is_fetched slots class role r m g h t k s = subst (IsFetched r (kept g m) g) s.2.2 (register_names_fetched_object class role r m g s.0 s.2.0 t k s.1 s.2.1)

pub fetching_fills : (z r x : ℕ) (kind : ObjKind) (old : List ℕ) (g h : Graph) → 4 ≤ r → g.things z ≡ Some (record { kind = kind; words = old }) → IsFetched r x g h → IsFilling z kind old old g h
fetching_fills z r x kind old g h high before p = nothing_filled z kind old g h before p.things (λ q l. p.registers q (λ e. omega (arith, l, e)) (λ e. omega (arith, l, e, high)))

-- ---- what is found after an object is filled

pub found_after_filling : (class : ℕ) (made : ℕ → Bool) (last n z : ℕ) (id : ℕ → ℕ) (role : ℕ → Role) (kind : ObjKind) (old new : List ℕ) (g h : Graph) → role z ≡ Object n → AreFound class made last id role g → IsFilling z kind old new g h
    → AreFound class made last id role h
found_after_filling class made last n z id role kind old new g h for a f = record {
  few = a.few;
  tops = λ m l. top_moves class n m role role g h moves (stays m l).top_stays (a.tops m l);
  keepers = λ m l. keeper_moves class n m role role g h moves (stays m l).array_stays (a.keepers m l);
  objects = λ m l b. kept_moves class n m role role g h moves (stays m l) (a.objects m l b);
  ids = λ m l. (stays m l).object_stays ∙ a.ids m l;
}
  where
    moves : Moves class n role role g h
    moves = filling_moves class n z role kind old new g h for f

    stays : (m : ℕ) → m < last → Stays g h m
    stays m l = filling_stays class n m z role kind old new g h for (few_tops m (omega (arith, l, a.few))) (a.tops m l) (a.keepers m l) f

-- ---- references

-- the words after a reference is stored
abbrev pub with_reference : (ℕ → Option ℕ) → (ℕ → ℕ) → List ℕ → SlotValue → List ℕ
with_reference name id words v = if names_object v then option_map_or (λ k. slice_set words v.slot (id k)) (name v.value) words else words

-- the words after references are stored
abbrev pub with_references : (ℕ → Option ℕ) → (ℕ → ℕ) → List ℕ → List SlotValue → List ℕ
with_references name id words [] = words
with_references name id words (v ∷ values) = with_references name id (with_reference name id words v) values

-- the events of a reference
abbrev pub reference_of : (ℕ → Option ℕ) → SlotValue → List Event
reference_of name v = if names_object v then stored v.slot (name v.value) else []

-- each object that is named is made
abbrev pub AreNamed : (ℕ → Option ℕ) → (ℕ → Bool) → ℕ → Type 0
AreNamed name made last = (x k : ℕ) → name x ≡ Some k → (k < last) × (made k ≡ true)

-- each reference that is stored has a slot below n
abbrev pub StoresFit : (ℕ → Option ℕ) → ℕ → List SlotValue → Type 0
StoresFit name n [] = Unit {0}
StoresFit name n (v ∷ values) = ((k : ℕ) → names_object v ≡ true → name v.value ≡ Some k → v.slot < n) × StoresFit name n values

-- register 5 names z, whose words change
pub record IsLinked (z : ℕ) (kind : ObjKind) (old new : List ℕ) (g h : Graph) : Type 0 where
  pub filled : IsFilling z kind old new g h
  pub held : h.registers 5 ≡ z

store_reference : (slots : ℕ → ℕ) (class : ℕ) (made : ℕ → Bool) (last z : ℕ) (id : ℕ → ℕ) (role : ℕ → Role) (kind : ObjKind) (old : List ℕ) (slot k : ℕ) (g h : Graph)
    → AreFound class made last id role g → k < last → g.registers 5 ≡ z → g.things z ≡ Some (record { kind = kind; words = old })
    → IsRun slots (stored slot (Some k)) g h → IsLinked z kind old (slice_set old slot (id k)) g h × (slot < length old)
store_reference slots class made last z id role kind old slot k g h a l held before r = (
  record {
    filled = two_fillings z kind old old (slice_set old slot (id k)) g s.0 h first
        (subst (λ x. IsFilling z kind old (slice_set old slot x) s.0 h) (p.held ∙ a.ids k l) (writing_fills z 5 slot (s.0.registers 6) kind old s.0 h still first.here w));
    held = w.registers 5 ∙ still;
  },
  writing_within z 5 slot (s.0.registers 6) kind old s.0 h still first.here w,
)
  where
    s : (f : Graph) × IsRun slots (fetch_events k 6) g f × IsRun slots (Store 0 5 slot 6 ∷ []) f h
    s = run_in_parts slots (fetch_events k 6) (Store 0 5 slot 6 ∷ []) g h r

    p : IsFetched 6 (kept g k) g s.0
    p = object_is_fetched slots class role 6 k g s.0 (a.tops k l) (a.keepers k l) s.1

    first : IsFilling z kind old old g s.0
    first = fetching_fills z 6 (kept g k) kind old g s.0 (omega arith) before p

    still : s.0.registers 5 ≡ z
    still = p.registers 5 (omega arith) (omega arith) ∙ held

    w : IsWriting 5 slot (s.0.registers 6) s.0 h
    w = subst (IsWriting 5 slot (s.0.registers 6) s.0) s.2.2 s.2.1

nothing_linked : (z : ℕ) (kind : ObjKind) (old : List ℕ) (g h : Graph) → g.registers 5 ≡ z → g.things z ≡ Some (record { kind = kind; words = old }) → g ≡ h → IsLinked z kind old old g h
nothing_linked z kind old g h held before r = subst (IsLinked z kind old old g) r (record { filled = nothing_filled z kind old g g before (λ y. refl) (λ q l. refl); held = held })

pub link_reference : (slots : ℕ → ℕ) (class : ℕ) (made : ℕ → Bool) (last z : ℕ) (name : ℕ → Option ℕ) (id : ℕ → ℕ) (role : ℕ → Role) (kind : ObjKind) (old : List ℕ) (v : SlotValue) (g h : Graph)
    → AreNamed name made last → AreFound class made last id role g → g.registers 5 ≡ z → g.things z ≡ Some (record { kind = kind; words = old })
    → IsRun slots (reference_of name v) g h → IsLinked z kind old (with_reference name id old v) g h × ((k : ℕ) → names_object v ≡ true → name v.value ≡ Some k → v.slot < length old)
link_reference slots class made last z name id role kind old v g h named a held before = go (names_object v)
  where
    by_name : (o : Option ℕ) → name v.value ≡ o → IsRun slots (stored v.slot o) g h → IsLinked z kind old (option_map_or (λ k. slice_set old v.slot (id k)) o old) g h × ((k : ℕ) → o ≡ Some k → v.slot < length old)
    by_name None e r = (nothing_linked z kind old g h held before r, λ k f. let c : None ≡ Some k = f in cc)
    by_name (Some k) e r = let s = store_reference slots class made last z id role kind old v.slot k g h a (named v.value k e).0 held before r in (s.0, λ i f. s.1)

    go : (b : Bool) → IsRun slots (if b then stored v.slot (name v.value) else []) g h
        → IsLinked z kind old (if b then option_map_or (λ k. slice_set old v.slot (id k)) (name v.value) old else old) g h × ((k : ℕ) → b ≡ true → name v.value ≡ Some k → v.slot < length old)
    go true r = let s = by_name (name v.value) refl r in (s.0, λ k f e. s.1 k e)
    go false r = (nothing_linked z kind old g h held before r, λ k f e. let c : false ≡ true = f in cc)

linked_twice : (z : ℕ) (kind : ObjKind) (a b c : List ℕ) (f g h : Graph) → IsLinked z kind a b f g → IsLinked z kind b c g h → IsLinked z kind a c f h
linked_twice z kind a b c f g h p q = record { filled = two_fillings z kind a b c f g h p.filled q.filled; held = q.held }

link_references : (slots : ℕ → ℕ) (class : ℕ) (made : ℕ → Bool) (last n z : ℕ) (name : ℕ → Option ℕ) (id : ℕ → ℕ) (role : ℕ → Role) (kind : ObjKind) (values : List SlotValue) (old : List ℕ) (g h : Graph)
    → AreNamed name made last → role z ≡ Object n → AreFound class made last id role g → g.registers 5 ≡ z → g.things z ≡ Some (record { kind = kind; words = old })
    → IsRun slots (flat_map (reference_of name) values) g h → IsLinked z kind old (with_references name id old values) g h × StoresFit name (length old) values
link_references slots class made last n z name id role kind [] old g h named for a held before r = (nothing_linked z kind old g h held before r, tt)
link_references slots class made last n z name id role kind (v ∷ values) old g h named for a held before r =
    let s = run_in_parts slots (reference_of name v) (flat_map (reference_of name) values) g h r in
    let first = link_reference slots class made last z name id role kind old v g s.0 named a held before s.1 in
    let rest = link_references slots class made last n z name id role kind values (with_reference name id old v) s.0 h named for
    (found_after_filling class made last n z id role kind old (with_reference name id old v) g s.0 for a first.0.filled) first.0.held first.0.filled.here s.2 in (
      linked_twice z kind old (with_reference name id old v) (with_references name id (with_reference name id old v) values) g s.0 h first.0 rest.0,
      (first.1, subst (λ m. StoresFit name m values) first.0.filled.len rest.1),
    )

-- ---- an object

-- the events that store the references of object n
abbrev pub link_values : (ℕ → Option ℕ) → ℕ → List SlotValue → List Event
link_values name n values = if list_any names_object values then fetch_events n 5 ++ flat_map (reference_of name) values else []

abbrev pub link_block : (ℕ → Option ℕ) → ℕ → Option ObjectTold → List Event
link_block name n None = []
link_block name n (Some t) = link_values name n t.values

no_references : (name : ℕ → Option ℕ) (id : ℕ → ℕ) (values : List SlotValue) (words : List ℕ) → list_any names_object values ≡ false → with_references name id words values ≡ words
no_references name id [] words e = refl
no_references name id (v ∷ values) words e =
    let p = or_parts (names_object v) (list_any names_object values) e in
    ap (λ b. with_references name id (if b then option_map_or (λ k. slice_set words v.slot (id k)) (name v.value) words else words) values) p.0 ∙ no_references name id values words p.1

none_stored : (name : ℕ → Option ℕ) (n : ℕ) (values : List SlotValue) → list_any names_object values ≡ false → StoresFit name n values
none_stored name n [] e = tt
none_stored name n (v ∷ values) e =
    let p = or_parts (names_object v) (list_any names_object values) e in
    ((λ k f s. let c : true ≡ false = sym f ∙ p.0 in cc), none_stored name n values p.1)

pub length_made : (t : ObjectTold) → length (made_thing t).words ≡ t.slots
length_made t = length_with_values t.values (replicate t.slots 0) ∙ length-replicate t.slots 0

-- an object as it is at last
abbrev pub linked_thing : (ℕ → Option ℕ) → (ℕ → ℕ) → ObjectTold → Thing
linked_thing name id t = record { kind = t.kind; words = with_references name id (made_thing t).words t.values }

pub values_are_linked : (slots : ℕ → ℕ) (class : ℕ) (made : ℕ → Bool) (last n : ℕ) (name : ℕ → Option ℕ) (id : ℕ → ℕ) (role : ℕ → Role) (kind : ObjKind) (values : List SlotValue) (old : List ℕ) (g h : Graph)
    → AreNamed name made last → n < last → made n ≡ true → AreFound class made last id role g → g.things (id n) ≡ Some (record { kind = kind; words = old })
    → IsRun slots (link_values name n values) g h → IsFilling (id n) kind old (with_references name id old values) g h × StoresFit name (length old) values
values_are_linked slots class made last n name id role kind values old g h named l b a before = go (list_any names_object values) refl
  where
    for : role (id n) ≡ Object n
    for = for_its_number class made last id role g n a l b

    go : (c : Bool) → list_any names_object values ≡ c → IsRun slots (if c then fetch_events n 5 ++ flat_map (reference_of name) values else []) g h
        → IsFilling (id n) kind old (with_references name id old values) g h × StoresFit name (length old) values
    go false e r = (
      subst (λ words. IsFilling (id n) kind old words g h) (sym (no_references name id values old e)) (subst (IsFilling (id n) kind old old g) r (nothing_filled (id n) kind old g g before (λ y. refl) (λ q k. refl))),
      none_stored name (length old) values e,
    )
    go true e r = (two_fillings (id n) kind old old (with_references name id old values) g s.0 h first linked.0.filled, linked.1)
      where
        s : (f : Graph) × IsRun slots (fetch_events n 5) g f × IsRun slots (flat_map (reference_of name) values) f h
        s = run_in_parts slots (fetch_events n 5) (flat_map (reference_of name) values) g h r

        p : IsFetched 5 (kept g n) g s.0
        p = object_is_fetched slots class role 5 n g s.0 (a.tops n l) (a.keepers n l) s.1

        first : IsFilling (id n) kind old old g s.0
        first = fetching_fills (id n) 5 (kept g n) kind old g s.0 (omega arith) before p

        linked : IsLinked (id n) kind old (with_references name id old values) s.0 h × StoresFit name (length old) values
        linked = link_references slots class made last n (id n) name id role kind values old s.0 h named for (found_after_filling class made last n (id n) id role kind old old g s.0 for a first) (p.held ∙ a.ids n l) first.here s.2

-- ---- all objects

abbrev pub linkings : (ℕ → Option ℕ) → ℕ → List (Option ObjectTold) → List Event
linkings name n [] = []
linkings name n (x ∷ xs) = link_block name n x ++ linkings name (n + 1) xs

-- the objects of this list are linked, from number n on, and those before them aren't changed
pub record AreLinked (class : ℕ) (made : ℕ → Bool) (last n : ℕ) (name : ℕ → Option ℕ) (id : ℕ → ℕ) (list : List (Option ObjectTold)) (role : ℕ → Role) (g h : Graph) : Type 0 where
  pub found : AreFound class made last id role h
  pub spared : (m : ℕ) → m < last → made m ≡ true → m < n → h.things (id m) ≡ g.things (id m)
  pub contents : (i : ℕ) (t : ObjectTold) → slice_get list i ≡ Some (Some t) → h.things (id (n + i)) ≡ Some (linked_thing name id t)
  pub fits : (i : ℕ) (t : ObjectTold) → slice_get list i ≡ Some (Some t) → StoresFit name t.slots t.values

-- those of the list are made, below `last`
abbrev pub AreThere : (ℕ → Bool) → ℕ → ℕ → List (Option ObjectTold) → Type 0
AreThere made last n list = (i : ℕ) (t : ObjectTold) → slice_get list i ≡ Some (Some t) → (n + i < last) × (made (n + i) ≡ true)

abbrev pub AreAsMade : (ℕ → ℕ) → ℕ → List (Option ObjectTold) → Graph → Type 0
AreAsMade id n list g = (i : ℕ) (t : ObjectTold) → slice_get list i ≡ Some (Some t) → g.things (id (n + i)) ≡ Some (made_thing t)

-- one object: others aren't changed
pub record IsBlockLinked (class : ℕ) (made : ℕ → Bool) (last n : ℕ) (name : ℕ → Option ℕ) (id : ℕ → ℕ) (x : Option ObjectTold) (role : ℕ → Role) (g h : Graph) : Type 0 where
  pub found : AreFound class made last id role h
  pub spared : (m : ℕ) → m < last → made m ≡ true → m ≢ n → h.things (id m) ≡ g.things (id m)
  pub content : (t : ObjectTold) → x ≡ Some t → h.things (id n) ≡ Some (linked_thing name id t)
  pub fits : (t : ObjectTold) → x ≡ Some t → StoresFit name t.slots t.values

pub block_is_linked : (slots : ℕ → ℕ) (class : ℕ) (made : ℕ → Bool) (last n : ℕ) (name : ℕ → Option ℕ) (id : ℕ → ℕ) (x : Option ObjectTold) (role : ℕ → Role) (g h : Graph)
    → AreNamed name made last → AreFound class made last id role g → ((t : ObjectTold) → x ≡ Some t → (n < last) × (made n ≡ true) × (g.things (id n) ≡ Some (made_thing t)))
    → IsRun slots (link_block name n x) g h → IsBlockLinked class made last n name id x role g h
block_is_linked slots class made last n name id None role g h named a there r = subst (IsBlockLinked class made last n name id None role g) r (record {
  found = a;
  spared = λ m l b d. refl;
  content = λ t e. (let z : None ≡ Some t = e in cc);
  fits = λ t e. (let z : None ≡ Some t = e in cc);
})
block_is_linked slots class made last n name id (Some t) role g h named a there r = record {
  found = found_after_filling class made last n (id n) id role t.kind (made_thing t).words (linked_thing name id t).words g h (for_its_number class made last id role g n a at_n.0 at_n.1) a f.0;
  spared = λ m l b d. f.0.others (id m) (λ e. d (ids_differ class made last id role g m n a l b at_n.0 at_n.1 e));
  content = λ u e. (let same : t ≡ u = some_is_one t u e in f.0.here ∙ ap (λ v. Some (linked_thing name id v)) same);
  fits = λ u e. subst (λ (v : ObjectTold). StoresFit name v.slots v.values) (some_is_one t u e) (subst (λ k. StoresFit name k t.values) (length_made t) f.1);
}
  where
    some_is_one : (t u : ObjectTold) → Some t ≡ Some u → t ≡ u
    some_is_one t u e = cc

    at_n : (n < last) × (made n ≡ true) × (g.things (id n) ≡ Some (made_thing t))
    at_n = there t refl

    f : IsFilling (id n) t.kind (made_thing t).words (with_references name id (made_thing t).words t.values) g h × StoresFit name (length (made_thing t).words) t.values
    f = values_are_linked slots class made last n name id role t.kind t.values (made_thing t).words g h named at_n.0 at_n.1 a at_n.2 r

plus_zero : (n : ℕ) → n + 0 ≡ n
plus_zero n = omega arith

pub plus_one : (n i : ℕ) → n + suc i ≡ n + 1 + i
plus_one n i = omega arith

pub first_is_there : (made : ℕ → Bool) (last n : ℕ) (id : ℕ → ℕ) (x : Option ObjectTold) (xs : List (Option ObjectTold)) (g : Graph) → AreThere made last n (x ∷ xs) → AreAsMade id n (x ∷ xs) g
    → (t : ObjectTold) → x ≡ Some t → (n < last) × (made n ≡ true) × (g.things (id n) ≡ Some (made_thing t))
first_is_there made last n id x xs g there contents t e =
    let p = there 0 t (ap Some e) in
    (subst (λ m. m < last) (plus_zero n) p.0, subst (λ m. made m ≡ true) (plus_zero n) p.1, ap (λ m. g.things (id m)) (sym (plus_zero n)) ∙ contents 0 t (ap Some e))

pub others_are_there : (made : ℕ → Bool) (last n : ℕ) (x : Option ObjectTold) (xs : List (Option ObjectTold)) → AreThere made last n (x ∷ xs) → AreThere made last (n + 1) xs
others_are_there made last n x xs there i t e = let p = there (suc i) t e in (subst (λ m. m < last) (plus_one n i) p.0, subst (λ m. made m ≡ true) (plus_one n i) p.1)

block_and_more_linked : (class : ℕ) (made : ℕ → Bool) (last n : ℕ) (name : ℕ → Option ℕ) (id : ℕ → ℕ) (x : Option ObjectTold) (xs : List (Option ObjectTold)) (role : ℕ → Role) (g f h : Graph)
    → ((t : ObjectTold) → x ≡ Some t → (n < last) × (made n ≡ true)) → IsBlockLinked class made last n name id x role g f → AreLinked class made last (n + 1) name id xs role f h → AreLinked class made last n name id (x ∷ xs) role g h
block_and_more_linked class made last n name id x xs role g f h here first rest = record {
  found = rest.found;
  spared = λ m l b k. rest.spared m l b (omega (arith, k)) ∙ first.spared m l b (λ e. omega (arith, k, e));
  contents = linked;
  fits = fits;
}
  where
    some_of_some : (t : ObjectTold) → Some x ≡ Some (Some t) → x ≡ Some t
    some_of_some t e = cc

    fits : (i : ℕ) (t : ObjectTold) → slice_get (x ∷ xs) i ≡ Some (Some t) → StoresFit name t.slots t.values
    fits zero t e = first.fits t (some_of_some t e)
    fits (suc i) t e = rest.fits i t e

    linked : (i : ℕ) (t : ObjectTold) → slice_get (x ∷ xs) i ≡ Some (Some t) → h.things (id (n + i)) ≡ Some (linked_thing name id t)
    linked zero t e =
        let same : x ≡ Some t = some_of_some t e in
        ap (λ m. h.things (id m)) (plus_zero n) ∙ rest.spared n (here t same).0 (here t same).1 (omega arith) ∙ first.content t same
    linked (suc i) t e = ap (λ m. h.things (id m)) (plus_one n i) ∙ rest.contents i t e

pub objects_are_linked : (slots : ℕ → ℕ) (class : ℕ) (made : ℕ → Bool) (last n : ℕ) (name : ℕ → Option ℕ) (id : ℕ → ℕ) (list : List (Option ObjectTold)) (role : ℕ → Role) (g h : Graph)
    → AreNamed name made last → AreFound class made last id role g → AreThere made last n list → AreAsMade id n list g
    → IsRun slots (linkings name n list) g h → AreLinked class made last n name id list role g h
objects_are_linked slots class made last n name id [] role g h named a there contents r = subst (AreLinked class made last n name id [] role g) r (record {
  found = a;
  spared = λ m l b k. refl;
  contents = λ i t e. (let z : None ≡ Some (Some t) = e in cc);
  fits = λ i t e. (let z : None ≡ Some (Some t) = e in cc);
})
objects_are_linked slots class made last n name id (x ∷ xs) role g h named a there contents r =
    let s = run_in_parts slots (link_block name n x) (linkings name (n + 1) xs) g h r in
    let here = first_is_there made last n id x xs g there contents in
    let later = others_are_there made last n x xs there in
    let first = block_is_linked slots class made last n name id x role g s.0 named a here s.1 in
    block_and_more_linked class made last n name id x xs role g s.0 h (λ t e. ((here t e).0, (here t e).1)) first
    (objects_are_linked slots class made last (n + 1) name id xs role s.0 h named first.found later
    (λ i t e. first.spared (n + 1 + i) (later i t e).0 (later i t e).1 (λ d. omega (arith, d)) ∙ ap (λ m. g.things (id m)) (sym (plus_one n i)) ∙ contents (suc i) t e) s.2)
