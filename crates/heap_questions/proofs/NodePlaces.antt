-- Nodes stand for the objects of an image.
use Rattle.std.proofs.Common.{◌≡◌, ℕ, ◌+◌, ◌<◌, ◌≤◌, Bool, false, cond, List, [], ◌∷◌, ◌++◌, length, map, refl, sym, ap, ap₂, ◌∙◌, subst, inl, inr, arith, rules, take}
use Rattle.std.specs.Prelude.{slice_get, Option, Some, None, IsSome, is_some, not, ◌==◌, IfSome}
use Rattle.std.specs.Option.{option_map}
use Rattle.std.specs.List.{position, position_or_len}
use Rattle.std.proofs.lemmas.Option.{none-some, same_Some, slice_get_within, slice_get_past, slice_get-map, slice_get_cases, get_or_from_slice_get}
use Rattle.std.proofs.lemmas.List.{length-map, length_push, map_more, map_push, take_all, take_more}
use Rattle.std.proofs.lemmas.List.Folds.{find_at}
use Rattle.std.proofs.lemmas.List.Quantifiers.{position-Some}
use Rattle.std.proofs.lemmas.Bool.{cases_lt, lt-ltb, le-ltb, eqb-true, false≢true}
use Rattle.heap_class.specs.declared.ObjRef.{ObjRef}
use Rattle.hprof_text.specs.Image.{Image, DumpedObject}
use Rattle.hprof_text.proofs.Loops.{item_of_list_within}
use Rattle.heap_questions.specs.Graph.{HasId, object_with}
use Rattle.heap_questions.specs.Search.{AreNodes, node_with}
use Rattle.heap_questions.specs.declared.nodes.Node.{Node}

-- a place by a key is the place among the keys
position_by_key : {X : Type 0} (f : X → ℕ) (x : ℕ) (xs : List X) → position_or_len (λ a. f a == x) xs ≡ position_or_len (λ n. n == x) (map f xs)
position_by_key f x [] = refl
position_by_key f x (a ∷ xs) = ap (λ n. cond (not (f a == x)) (1 + n) 0) (position_by_key f x xs)

-- a place that is found
found_at : {X : Type 0} (p : X → Bool) (xs : List X) (j : ℕ) → position p xs ≡ Some j → (position_or_len p xs ≡ j) × (j < length xs)
found_at p xs j h = elim (cases_lt (position_or_len p xs) (length xs)) [
  | inl lt ↦
      let e : j ≡ position_or_len p xs = same_Some j (position_or_len p xs) (sym h ∙ ap (λ b. cond b (Some (position_or_len p xs)) None) (lt-ltb _ _ lt)) in
      (sym e, omega (arith, lt, e))
  | inr ge ↦ absurd (none-some j (sym (ap (λ b. cond b (Some (position_or_len p xs)) None) (le-ltb _ _ ge)) ∙ h))
]

pub found_within : {X : Type 0} (p : X → Bool) (xs : List X) (j : ℕ) → position p xs ≡ Some j → j < length xs
found_within p xs j h = (found_at p xs j h).1

pub place_found : {X : Type 0} (p : X → Bool) (xs : List X) → position_or_len p xs < length xs → position p xs ≡ Some (position_or_len p xs)
place_found p xs h = ap (λ b. cond b (Some (position_or_len p xs)) None) (lt-ltb _ _ h)

-- node j with this id stands for the object with it
pub object_of_node : (image : Image) (places : List ObjRef) (nodes : List Node) (x j : ℕ) → AreNodes image places nodes → node_with nodes x ≡ Some j → object_with image x ≡ slice_get image.objects j
unfolding object_with
object_of_node image places nodes x j h e =
    find_at (λ o. o.id == x) image.objects
    ∙ ap (slice_get image.objects) (position_by_key (λ o. o.id) x image.objects ∙ ap (position_or_len (λ n. n == x)) (sym h.ids) ∙ sym (position_by_key (λ n. n.id) x nodes) ∙ (found_at (λ n. n.id == x) nodes j e).0)

pub as_many : (image : Image) (places : List ObjRef) (nodes : List Node) → AreNodes image places nodes → length nodes ≡ length image.objects
as_many image places nodes h = sym (length-map nodes (λ n. n.id)) ∙ ap length h.ids ∙ length-map image.objects (λ o. o.id)

-- each object has a node
pub node_of_object : (image : Image) (places : List ObjRef) (nodes : List Node) (x : ℕ) → AreNodes image places nodes → HasId image x → (j : ℕ) × (node_with nodes x ≡ Some j)
unfolding object_with
node_of_object image places nodes x h o =
    let at = position_or_len (λ n. n.id == x) nodes in
    let e : position_or_len (λ o. o.id == x) image.objects ≡ at = position_by_key (λ o. o.id) x image.objects ∙ ap (position_or_len (λ n. n == x)) (sym h.ids) ∙ sym (position_by_key (λ n. n.id) x nodes) in
    elim (cases_lt at (length nodes)) [
      | inl lt ↦ (at, place_found (λ n. n.id == x) nodes lt)
      | inr ge ↦
          let past : length image.objects ≤ position_or_len (λ o. o.id == x) image.objects = omega (arith, ge, e, as_many image places nodes h) in
          let n : object_with image x ≡ None = find_at (λ o. o.id == x) image.objects ∙ slice_get_past image.objects _ past in
          absurd (false≢true (subst IsSome n o))
    ]

-- the node at a place that was found has the id, and its place is that of the object
pub node_at : (nodes : List Node) (x j : ℕ) (n : Node) → node_with nodes x ≡ Some j → slice_get nodes j ≡ Some n → n.id ≡ x
node_at nodes x j n e g =
    let p = position-Some (λ n. n.id == x) nodes j n e in
    eqb-true n.id x (ap (λ m. m.id == x) (sym (get_or_from_slice_get nodes j n n g)) ∙ p.1)

pub node_within : (nodes : List Node) (x j : ℕ) → node_with nodes x ≡ Some j → j < length nodes
node_within nodes x j e = (found_at (λ n. n.id == x) nodes j e).1

-- two ids with one node are one id
pub one_id : (nodes : List Node) (x y j : ℕ) → node_with nodes x ≡ Some j → node_with nodes y ≡ Some j → x ≡ y
one_id nodes x y j e f =
    elim (slice_get_cases nodes j).1 [
      | inl c ↦ sym (node_at nodes x j c.0 e c.2) ∙ node_at nodes y j c.0 f c.2
      | inr c ↦ absurd (omega (arith, c.0, node_within nodes x j e))
    ]

pub node_place : (image : Image) (places : List ObjRef) (nodes : List Node) (j : ℕ) (n : Node) → AreNodes image places nodes → slice_get nodes j ≡ Some n → slice_get places j ≡ Some n.at
node_place image places nodes j n h g = ap (λ l. slice_get l j) (sym h.placed) ∙ slice_get-map (λ n. n.at) nodes j ∙ ap (option_map (λ n. n.at)) g

-- ---- node by node

one_more : {X : Type 0} (f : X → ℕ) (xs : List X) (i : ℕ) (x : X) → slice_get xs i ≡ Some x → map f (take (i + 1) xs) ≡ map f (take i xs) ++ f x ∷ []
one_more f xs i x h = map_more f xs i x (slice_get_within xs i x h) ∙ ap (λ y. map f (take i xs) ++ f y ∷ []) (get_or_from_slice_get xs i x x h)

pub ids_more : (image : Image) (nodes new : List Node) (at : ObjRef) (x : ℕ) → length nodes < length image.objects → IfSome (slice_get image.objects (length nodes)) (λ o. x ≡ o.id) → map (λ n. n.id) nodes ≡ map (λ o. o.id) (take (length nodes) image.objects)
    → new ≡ nodes ++ record { at = at; id = x } ∷ [] → map (λ n. n.id) new ≡ map (λ o. o.id) (take (length new) image.objects)
ids_more image nodes new at x h d a e =
    let n : Node = record { at = at; id = x } in
    let o = item_of_list_within image.objects (length nodes) h in
    let P : Option DumpedObject → Type 0 = λ y. IfSome y (λ o. x ≡ o.id) in
    let same : x ≡ o.0.id = subst P o.1 d in
    ap (map (λ n. n.id)) e ∙ map_push (λ n. n.id) nodes n ∙ ap₂ (λ l y. l ++ y ∷ []) a same
    ∙ sym (one_more (λ o. o.id) image.objects (length nodes) o.0 o.1)
    ∙ ap (λ k. map (λ o. o.id) (take k image.objects)) (sym (ap length e ∙ length_push nodes n))

pub places_more : (places : List ObjRef) (nodes new : List Node) (at : ObjRef) (x : ℕ) → slice_get places (length nodes) ≡ Some at → map (λ n. n.at) nodes ≡ take (length nodes) places → new ≡ nodes ++ record { at = at; id = x } ∷ [] → map (λ n. n.at) new ≡ take (length new) places
places_more places nodes new at x h a e =
    let n : Node = record { at = at; id = x } in
    ap (map (λ n. n.at)) e ∙ map_push (λ n. n.at) nodes n ∙ ap (λ l. l ++ at ∷ []) a
    ∙ ap (λ y. take (length nodes) places ++ y ∷ []) (sym (get_or_from_slice_get places (length nodes) at at h))
    ∙ sym (take_more places (length nodes) at (slice_get_within places (length nodes) at h))
    ∙ ap (λ k. take k places) (sym (ap length e ∙ length_push nodes n))

pub all_nodes : (image : Image) (places : List ObjRef) (nodes : List Node) → map (λ n. n.id) nodes ≡ map (λ o. o.id) (take (length nodes) image.objects) → map (λ n. n.at) nodes ≡ take (length nodes) places → length places ≤ length nodes → length places ≡ length image.objects → AreNodes image places nodes
all_nodes image places nodes a b l n =
    record { ids = a ∙ ap (map (λ o. o.id)) (take_all (length nodes) image.objects (omega (arith, l, n))); placed = b ∙ take_all (length nodes) places l }

-- what has a node is an object
pub object_found : (image : Image) (places : List ObjRef) (nodes : List Node) (x j : ℕ) → AreNodes image places nodes → node_with nodes x ≡ Some j → HasId image x
object_found image places nodes x j n e =
    let w = node_within nodes x j e in
    let o = item_of_list_within image.objects j (omega (arith, w, as_many image places nodes n)) in
    subst IsSome (sym (object_of_node image places nodes x j n e ∙ o.1)) (search rules)

-- what is an object has a node, and nothing else
pub has_node : (image : Image) (places : List ObjRef) (nodes : List Node) (x : ℕ) → AreNodes image places nodes → is_some (node_with nodes x) ≡ is_some (object_with image x)
has_node image places nodes x n = go (node_with nodes x) refl
  where
    none : (o : Option DumpedObject) → object_with image x ≡ o → node_with nodes x ≡ None → false ≡ is_some o
    none None e f = refl
    none (Some o) e f = let j = node_of_object image places nodes x n (subst IsSome (sym e) refl) in absurd (none-some j.0 (sym f ∙ j.1))

    go : (j : Option ℕ) → node_with nodes x ≡ j → is_some j ≡ is_some (object_with image x)
    go None f = none (object_with image x) refl f
    go (Some j) f = sym (object_found image places nodes x j n f)
