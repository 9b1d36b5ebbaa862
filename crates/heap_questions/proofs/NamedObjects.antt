-- The object with an id, passed by others.
use Rattle.std.proofs.Common.{◌≡◌, ◌≢◌, ℕ, ◌+◌, ◌<◌, ◌≤◌, List, [], length, replicate, get_or, refl, sym, ap, ◌∙◌, subst, inl, inr, arith}
use Rattle.std.specs.Prelude.{slice_get, Contains, Option, Some, None, IfSome, IsSome, option_map, ◌==◌}
use Rattle.std.specs.List.{position_or_len}
use Rattle.std.proofs.lemmas.Bool.{cases_eq, eq-eqb, ne_eqb}
use Rattle.std.proofs.lemmas.Option.{none-some, same_Some, slice_get_within, slice_get_past, slice_get-get_or, get_or_from_slice_get, slice_get-map}
use Rattle.std.proofs.lemmas.List.{get_or-replicate, length-replicate}
use Rattle.std.proofs.lemmas.List.Folds.{find_at}
use Rattle.std.proofs.lemmas.List.Sums.{position_or_len_is}
use Rattle.heap_class.specs.declared.Kind.{Kind}
use Rattle.heap_class.specs.declared.ObjKind.{ObjKind}
use Rattle.heap_class.specs.declared.ObjKind.TheVariants.{Prim}
use Rattle.heap_class.specs.declared.ObjRef.{ObjRef}
use Rattle.hprof_text.specs.Image.{Image, DumpedObject, IsDumpable}
use Rattle.hprof_text.proofs.Loops.{item_of_list_within}
use Rattle.hprof_text.proofs.ViewedObjects.{IsHere, object_viewed_at_place, is_there}
use Rattle.heap_questions.specs.Graph.{object_with}
use Rattle.heap_questions.specs.Search.{AreNodes, node_with}
use Rattle.heap_questions.specs.declared.nodes.Node.{Node}
use Rattle.heap_questions.proofs.NodePlaces.{as_many, node_at, node_of_object, node_place, node_within, object_of_node}

-- what a view tells of the object at a place that it was led to
pub view_tells_named_object : (image : Image) (places : List ObjRef) (i : ℕ) (next : Option ObjRef) (at : ObjRef) (kind : ObjKind) (words : List ℕ) → next ≡ slice_get places i → next ≡ Some at → IsDumpable image → length places ≡ length image.objects
    → ((j : ℕ) → slice_get places j ≡ Some at → IfSome (slice_get image.objects j) (λ o. kind ≡ o.kind)) → ((j : ℕ) → slice_get places j ≡ Some at → IfSome (slice_get image.objects j) (λ o. words ≡ o.words)) → IsHere image i kind words
view_tells_named_object image places i next at kind words led is limits placed k w = let e = sym led ∙ is in object_viewed_at_place image places i at kind words limits placed e (k i e) (w i e)

-- none of the first i objects has this id
abbrev pub AreOthers : Image → ℕ → ℕ → Type 0
AreOthers image x i = (k : ℕ) (p : DumpedObject) → k < i → slice_get image.objects k ≡ Some p → p.id ≢ x

first_with : (image : Image) (x i : ℕ) (d : DumpedObject) → AreOthers image x i → i ≤ length image.objects → (i < length image.objects → (get_or image.objects i d).id ≡ x) → position_or_len (λ o. o.id == x) image.objects ≡ i
first_with image x i d others l here =
    position_or_len_is (λ o. o.id == x) image.objects i d l
    (λ k lt. ne_eqb _ x (others k (get_or image.objects k d) lt (slice_get-get_or image.objects k d (omega (arith, l, lt)))))
    (λ lt. eq-eqb _ x (here lt))

pub object_is : (image : Image) (x i : ℕ) (o : DumpedObject) → AreOthers image x i → slice_get image.objects i ≡ Some o → o.id ≡ x → object_with image x ≡ Some o
unfolding object_with
object_is image x i o others h e =
    let l = slice_get_within image.objects i o h in
    find_at (λ o. o.id == x) image.objects
    ∙ ap (slice_get image.objects) (first_with image x i o others (omega (arith, l)) (λ lt. ap (λ (p : DumpedObject). p.id) (get_or_from_slice_get image.objects i o o h) ∙ e))
    ∙ h

pub object_none : (image : Image) (x i : ℕ) → AreOthers image x i → i ≡ length image.objects → object_with image x ≡ None
unfolding object_with
object_none image x i others e =
    let d : DumpedObject = record { id = 0; kind = Prim Kind.Boolean; words = [] } in
    find_at (λ o. o.id == x) image.objects
    ∙ slice_get_past image.objects _ (omega (arith, e, first_with image x i d others (omega (arith, e)) (λ lt. absurd (omega (arith, e, lt)))))

pub others_none : (image : Image) (x i : ℕ) → i ≡ 0 → AreOthers image x i
others_none image x i z k p lt h = absurd (omega (arith, z, lt))

-- the next has another
pub others_more : (image : Image) (x i y : ℕ) (o : DumpedObject) → AreOthers image x i → slice_get image.objects i ≡ Some o → y ≡ o.id → y ≢ x → AreOthers image x (i + 1)
others_more image x i y o others h e n k p lt g = elim (cases_eq k i) [
  | inl q ↦
      let same : Some p ≡ Some o = sym g ∙ ap (slice_get image.objects) q ∙ h in
      λ z. n (e ∙ sym (ap (λ (o : DumpedObject). o.id) (same_Some p o same)) ∙ z)
  | inr q ↦ others k p (omega (arith, lt, q)) g
]

-- what is said of the object that is there
pub said_of : (P : DumpedObject → Type 0) (x : Option DumpedObject) (o : DumpedObject) → x ≡ Some o → IfSome x P → P o
said_of P x o e h = subst (λ (y : Option DumpedObject). IfSome y P) e h

-- ---- the object of a node

pub node_placed : (image : Image) (places : List ObjRef) (nodes : List Node) (x j : ℕ) (at : ObjRef) → AreNodes image places nodes → node_with nodes x ≡ Some j → ((n : Node) → slice_get nodes j ≡ Some n → at ≡ n.at) → slice_get places j ≡ Some at
node_placed image places nodes x j at n e p =
    let m = item_of_list_within nodes j (node_within nodes x j e) in
    node_place image places nodes j m.0 n m.1 ∙ ap Some (sym (p m.0 m.1))

pub node_listed : (image : Image) (places : List ObjRef) (nodes : List Node) (x j : ℕ) (at : ObjRef) → AreNodes image places nodes → node_with nodes x ≡ Some j → ((n : Node) → slice_get nodes j ≡ Some n → at ≡ n.at) → Contains places at
node_listed image places nodes x j at n e p = is_there places j at (node_placed image places nodes x j at n e p)

pub node_kind : (image : Image) (places : List ObjRef) (nodes : List Node) (x j : ℕ) (kind : ObjKind) → AreNodes image places nodes → node_with nodes x ≡ Some j → IfSome (slice_get image.objects j) (λ o. kind ≡ o.kind) → Some kind ≡ option_map (λ o. o.kind) (object_with image x)
node_kind image places nodes x j kind n e k =
    let o = item_of_list_within image.objects j (omega (arith, node_within nodes x j e, as_many image places nodes n)) in
    ap Some (said_of (λ o. kind ≡ o.kind) (slice_get image.objects j) o.0 o.1 k)
    ∙ sym (ap (option_map (λ (o : DumpedObject). o.kind)) (object_of_node image places nodes x j n e ∙ o.1))

-- the object of a node that was found has the id
id_of_node : (image : Image) (places : List ObjRef) (nodes : List Node) (x j : ℕ) (o : DumpedObject) → AreNodes image places nodes → node_with nodes x ≡ Some j → slice_get image.objects j ≡ Some o → x ≡ o.id
id_of_node image places nodes x j o h e g =
    let m = item_of_list_within nodes j (node_within nodes x j e) in
    sym (node_at nodes x j m.0 e m.1)
    ∙ same_Some m.0.id o.id (sym (ap (option_map (λ (n : Node). n.id)) m.1) ∙ sym (slice_get-map (λ (n : Node). n.id) nodes j) ∙ ap (λ l. slice_get l j) h.ids ∙ slice_get-map (λ (o : DumpedObject). o.id) image.objects j ∙ ap (option_map (λ (o : DumpedObject). o.id)) g)

pub node_object : (image : Image) (places : List ObjRef) (nodes : List Node) (x j : ℕ) (d : DumpedObject) → AreNodes image places nodes → node_with nodes x ≡ Some j → IfSome (slice_get image.objects j) (λ o. d ≡ o) → Some d ≡ object_with image x
node_object image places nodes x j d n e h =
    let o = item_of_list_within image.objects j (omega (arith, node_within nodes x j e, as_many image places nodes n)) in
    ap Some (said_of (λ (o : DumpedObject). d ≡ o) (slice_get image.objects j) o.0 o.1 h)
    ∙ sym (object_of_node image places nodes x j n e ∙ o.1)

pub no_object : (image : Image) (places : List ObjRef) (nodes : List Node) (x : ℕ) → AreNodes image places nodes → node_with nodes x ≡ None → None ≡ object_with image x
no_object image places nodes x n e = go (object_with image x) refl
  where
    go : (p : Option DumpedObject) → object_with image x ≡ p → None ≡ p
    go None h = refl
    go (Some o) h =
        let j = node_of_object image places nodes x n (subst IsSome (sym h) refl) in
        absurd (none-some j.0 (sym e ∙ j.1))

pub no_node : (image : Image) (places : List ObjRef) (nodes : List Node) (x : ℕ) → AreNodes image places nodes → node_with nodes x ≡ None → None ≡ option_map (λ o. o.kind) (object_with image x)
no_node image places nodes x n e = ap (option_map (λ (o : DumpedObject). o.kind)) (no_object image places nodes x n e)

-- ---- kinds of slots

pub element_kind : (n s : ℕ) (k : Kind) → s < n → slice_get (replicate n k) s ≡ Some k
element_kind n s k l = slice_get-get_or (replicate n k) s k (omega (arith, l, length-replicate n k)) ∙ ap Some (get_or-replicate n s k k l)
