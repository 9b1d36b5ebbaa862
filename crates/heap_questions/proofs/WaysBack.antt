-- The way back from what a search found, entry by entry.
use Rattle.std.proofs.Common.{◌≡◌, ◌≢◌, ℕ, ◌+◌, ◌-◌, ◌<◌, ◌≤◌, ◌++◌, ◌∷◌, [], false, cond, List, length, refl, sym, ap, ap₂, ◌∙◌, subst, inl, inr, arith}
use Rattle.std.specs.Prelude.{slice_get, Option, Some, None, IfSome, ◌==◌, reverse}
use Rattle.std.specs.Option.{option_map_or}
use Rattle.std.proofs.lemmas.Bool.{cases_lt, eq-eqb, true≢false}
use Rattle.std.proofs.lemmas.List.{map_push, reverse-append}
use Rattle.std.proofs.lemmas.Option.{slice_get_within}
use Rattle.heap_class.specs.declared.ObjKind.{ObjKind}
use Rattle.heap_class.specs.declared.ObjRef.{ObjRef}
use Rattle.heap_class.specs.Classes.{Class}
use Rattle.hprof_text.specs.Image.{Image, DumpedObject, IsDumpable}
use Rattle.hprof_text.proofs.Loops.{item_of_list_within}
use Rattle.hprof_text.proofs.ViewedObjects.{object_viewed_at_place}
use Rattle.heap_questions.specs.Graph.{named, slot_names, slot_refers}
use Rattle.heap_questions.specs.Hops.{AreHops, slots_of}
use Rattle.heap_questions.specs.Referrers.{names_at}
use Rattle.heap_questions.specs.Search.{AreNodes, Earlier, Found, IsFirstNaming, IsFirstSlotTo, IsQueueOf, IsReachedBy, Register, Slot, Via, entry_of, from_via, node_with, source_limit}
use Rattle.heap_questions.specs.declared.nodes.Node.{Node}
use Rattle.heap_questions.specs.declared.paths.Hop.{Hop}
use Rattle.heap_questions.specs.declared.search.Entry.{Entry}
use Rattle.heap_questions.proofs.LongerLists.{got_same}
use Rattle.heap_questions.proofs.Looking.{entry_there, named_is, slot_within}
use Rattle.heap_questions.proofs.NodePlaces.{node_at, node_place, node_within, object_of_node}
use Rattle.heap_questions.proofs.TracedPaths.{GoesOn, goes_on, goes_on_more}

-- ---- what an entry keeps of a way

-- an entry that keeps a place was found by a slot of what stands there, before it
pub record IsBySlot (image : Image) (queue : List Found) (k : ℕ) (f : Found) (e : Entry) : Type 0 where
  pub slot : ℕ
  pub parent : ℕ
  pub by : f.via ≡ Slot slot parent
  pub from : e.from ≡ source_limit + parent
  pub before : parent < k
  pub other : Found
  pub there : slice_get queue parent ≡ Some other
  pub names : named image other.id slot ≡ Some f.id

pub by_slot : (image : Image) (nodes : List Node) (entries : List Entry) (queue : List Found) (k : ℕ) (f : Found) (e : Entry) → IsQueueOf image nodes entries queue → slice_get queue k ≡ Some f → entry_of f ≡ e → source_limit ≤ e.from → IsBySlot image queue k f e
by_slot image nodes entries queue k f e q h is l = go f.via refl (q.reached k f h)
  where
    go : (via : Via) → f.via ≡ via → IsReachedBy image queue f.id f.depth via → IsBySlot image queue k f e
    go (Register r) by reached =
        let low = slice_get_within image.registers r f.id reached.1 in
        let from : e.from ≡ r = sym (ap (λ (e : Entry). e.from) is) ∙ ap from_via by in
        absurd (omega (arith, low, q.few, from, l))
    go (Slot s p) by reached =
        record {
          slot = s;
          parent = p;
          by = by;
          from = sym (ap (λ (e : Entry). e.from) is) ∙ ap from_via by;
          before = elim (cases_lt p k) [
            | inl lt ↦ lt
            | inr ge ↦ let rising = q.rising k p f reached.0 ge h reached.1 in absurd (omega (arith, rising, reached.2))
          ];
          other = reached.0;
          there = reached.1;
          names = reached.3;
        }

-- one that keeps a register was found by it
pub by_register : (f : Found) (e : Entry) → entry_of f ≡ e → e.from < source_limit → f.via ≡ Register e.from
by_register f e is l = go f.via refl
  where
    go : (via : Via) → f.via ≡ via → f.via ≡ Register e.from
    go (Register r) by = by ∙ ap Register (sym (sym (ap (λ (e : Entry). e.from) is) ∙ ap from_via by))
    go (Slot s p) by =
        let from : e.from ≡ source_limit + p = sym (ap (λ (e : Entry). e.from) is) ∙ ap from_via by in
        absurd (omega (arith, from, l))

-- what stands there keeps less
pub entry_by_slot_is_lower : (image : Image) (nodes : List Node) (entries : List Entry) (queue : List Found) (k : ℕ) (f : Found) (e next : Entry) → IsQueueOf image nodes entries queue → (b : IsBySlot image queue k f e) → entry_of b.other ≡ next → next.from < e.from
entry_by_slot_is_lower image nodes entries queue k f e next q b is =
    elim (cases_lt next.from source_limit) [
      | inl lt ↦ let from = b.from in omega (arith, lt, from)
      | inr ge ↦ let c = by_slot image nodes entries queue b.parent b.other next q b.there is ge in let from = b.from in let other = c.from in let before = c.before in omega (arith, from, other, before)
    ]

-- a way back goes on from what an entry keeps, and these steps, the last first, lead on from there
pub record GoesOnFrom (image : Image) (queue : List Found) (index : ℕ) (e : Entry) (hops : List Hop) : Type 0 where
  pub here : Found
  pub kept : entry_of here ≡ e
  pub on : GoesOn queue index here (slots_of hops)
  pub ids : AreHops image here.id (reverse hops)

-- it begins there
pub goes_on_first : (image : Image) (queue : List Found) (index : ℕ) (e : Entry) (f : Found) → slice_get queue index ≡ Some f → entry_of f ≡ e → GoesOnFrom image queue index e []
goes_on_first image queue index e f there is = record { here = f; kept = is; on = goes_on queue index f there; ids = tt }

-- the id of a node is that with which it is found
pub id_told : (nodes : List Node) (x k id : ℕ) → node_with nodes x ≡ Some k → ((n : Node) → slice_get nodes k ≡ Some n → id ≡ n.id) → id ≡ x
id_told nodes x k id e told = let n = item_of_list_within nodes k (node_within nodes x k e) in told n.0 n.1 ∙ node_at nodes x k n.0 e n.1

-- ---- the slot

-- the first slot that leads to what was found is that by which it was found
pub same_slot : (image : Image) (nodes : List Node) (entries : List Entry) (queue : List Found) (k : ℕ) (f : Found) (e next : Entry) (s : ℕ) → IsQueueOf image nodes entries queue → slice_get queue k ≡ Some f → entry_of f ≡ e → (b : IsBySlot image queue k f e) → entry_of b.other ≡ next
    → IsFirstNaming image nodes next.node e.node s → s ≡ b.slot
same_slot image nodes entries queue k f e next s q h is b other naming =
    let of_other = q.placed b.parent b.other b.there ∙ ap (λ (e : Entry). Some e.node) other in
    let of_f = q.placed k f h ∙ ap (λ (e : Entry). Some e.node) is in
    let first = naming b.other.id f.id b.slot of_other of_f b.names in
    let no : ¬ Earlier (Slot s b.parent) (Slot b.slot b.parent) = subst (λ (v : Via). ¬ Earlier (Slot s b.parent) v) b.by (q.ordered.1.first k f (Slot s b.parent) h (b.other, b.there, first.0)) in
    elim (cases_lt s b.slot) [
      | inl lt ↦ absurd (no (inr (refl, lt)))
      | inr ge ↦ omega (arith, ge, first.1)
    ]

-- what stands at the place that an entry keeps
pub record HasParent (image : Image) (entries : List Entry) (queue : List Found) (k : ℕ) (f : Found) (e : Entry) : Type 0 where
  pub by : IsBySlot image queue k f e
  pub there : slice_get entries (e.from - source_limit) ≡ Some (entry_of by.other)

pub parent_found : (image : Image) (nodes : List Node) (entries : List Entry) (queue : List Found) (index : ℕ) (e : Entry) (hops : List Hop) → IsQueueOf image nodes entries queue → (v : GoesOnFrom image queue index e hops) → source_limit ≤ e.from → HasParent image entries queue v.on.0 v.here e
parent_found image nodes entries queue index e hops q v l =
    let b = by_slot image nodes entries queue v.on.0 v.here e q v.on.1 v.kept l in
    let place : e.from - source_limit ≡ b.parent = (let from = b.from in omega (arith, from)) in
    record { by = b; there = ap (slice_get entries) place ∙ entry_there entries queue b.parent b.other q.kept b.there }

-- so a way back goes on from there, with one step more
pub goes_on_back : (image : Image) (nodes : List Node) (entries : List Entry) (queue : List Found) (index : ℕ) (e next : Entry) (hops : List Hop) (h : Hop) → IsQueueOf image nodes entries queue → (v : GoesOnFrom image queue index e hops) → source_limit ≤ e.from → slice_get entries (e.from - source_limit) ≡ Some next
    → IsFirstNaming image nodes next.node e.node h.slot → h.to ≡ v.here.id → GoesOnFrom image queue index next (hops ++ h ∷ [])
goes_on_back image nodes entries queue index e next hops h q v l got naming to =
    let p = parent_found image nodes entries queue index e hops q v l in
    let b = p.by in
    let same : entry_of b.other ≡ next = got_same entries (e.from - source_limit) (entry_of b.other) next p.there got in
    let slot = same_slot image nodes entries queue v.on.0 v.here e next h.slot q v.on.1 v.kept b same naming in
    let of_other = q.placed b.parent b.other b.there ∙ ap (λ (e : Entry). Some e.node) same in
    let of_here = q.placed v.on.0 v.here v.on.1 ∙ ap (λ (e : Entry). Some e.node) v.kept in
    let names : named image b.other.id h.slot ≡ Some v.here.id = (naming b.other.id v.here.id b.slot of_other of_here b.names).0 in
    record {
      here = b.other;
      kept = same;
      on = subst (GoesOn queue index b.other) (sym (map_push (λ (h : Hop). h.slot) hops h))
          (goes_on_more queue index v.here b.other (slots_of hops) b.parent h.slot v.on (b.by ∙ ap (λ n. Slot n b.parent) (sym slot)) b.there);
      ids = subst (AreHops image b.other.id) (sym (reverse-append hops (h ∷ []))) (names ∙ ap Some (sym to), subst (λ (y : ℕ). AreHops image y (reverse hops)) (sym to) v.ids);
    }

-- the object of a node, by what a view tells of it, names another's by this slot first
pub first_naming : (image : Image) (places : List ObjRef) (nodes : List Node) (j k s id : ℕ) (at : ObjRef) (kind : ObjKind) (words : List ℕ) (classes : List Class) → AreNodes image places nodes → j < length nodes → k < length nodes
    → ((n : Node) → slice_get nodes j ≡ Some n → at ≡ n.at) → ((n : Node) → slice_get nodes k ≡ Some n → id ≡ n.id) → classes ≡ image.classes → IsDumpable image → length places ≡ length image.objects
    → ((i : ℕ) → slice_get places i ≡ Some at → IfSome (slice_get image.objects i) (λ o. kind ≡ o.kind)) → ((i : ℕ) → slice_get places i ≡ Some at → IfSome (slice_get image.objects i) (λ o. words ≡ o.words))
    → ((o : DumpedObject) → o.kind ≡ kind → o.words ≡ words → IsFirstSlotTo classes o id s) → IsFirstNaming image nodes j k s
first_naming image places nodes j k s id at kind words classes n lj lk placed called same d many kinds slots first x y t ex ey names =
    let m = item_of_list_within nodes j lj in
    let o = item_of_list_within nodes k lk in
    let led : slice_get places j ≡ Some at = node_place image places nodes j m.0 n m.1 ∙ ap Some (sym (placed m.0 m.1)) in
    let h = object_viewed_at_place image places j at kind words d many led (kinds j led) (slots j led) in
    let e = object_of_node image places nodes x j n ex ∙ h.there in
    let is : id ≡ y = called o.0 o.1 ∙ node_at nodes y k o.0 ey o.1 in
    let F = subst (λ z. IsFirstSlotTo classes h.object z s) is (first h.object (sym h.same_kind) (sym h.same_words)) in
    let f = subst (λ (cs : List Class). IsFirstSlotTo cs h.object y s) same F t (sym (named_is image x t h.object e) ∙ names) in
    (named_is image x s h.object e ∙ f.0, f.1)

-- ---- slot by slot

names_alike : (classes : List Class) (o p : DumpedObject) (t : ℕ) → o.kind ≡ p.kind → o.words ≡ p.words → slot_names classes o t ≡ slot_names classes p t
unfolding slot_names
names_alike classes o p t k w = ap₂ (λ (k : ObjKind) (ws : List ℕ). cond (slot_refers classes k t) (slice_get ws t) None) k w

not_named : (classes : List Class) (o : DumpedObject) (x t : ℕ) → names_at classes x o t ≡ false → slot_names classes o t ≢ Some x
not_named classes o x t n e = true≢false (sym (eq-eqb x x refl) ∙ ap (λ (m : Option ℕ). option_map_or (λ y. y == x) m false) (sym e) ∙ n)

-- no slot before this names x
abbrev pub NoneBefore : List Class → ℕ → DumpedObject → ℕ → Type 0
NoneBefore classes x o s = (t : ℕ) → t < s → names_at classes x o t ≡ false

pub is_first_slot : (classes : List Class) (x : ℕ) (o p : DumpedObject) (s : ℕ) → o.kind ≡ p.kind → o.words ≡ p.words → NoneBefore classes x p s → slot_names classes p s ≡ Some x → IsFirstSlotTo classes o x s
is_first_slot classes x o p s k w none there t e = (
  names_alike classes o p s k w ∙ there,
  elim (cases_lt t s) [ inl lt ↦ absurd (not_named classes p x t (none t lt) (sym (names_alike classes o p t k w) ∙ e)) | inr ge ↦ ge ],
)

pub no_first_slot : (classes : List Class) (x : ℕ) (o p : DumpedObject) (n s : ℕ) → o.kind ≡ p.kind → o.words ≡ p.words → NoneBefore classes x p n → length p.words ≤ n → IsFirstSlotTo classes o x s
no_first_slot classes x o p n s k w none all t e =
    let f = sym (names_alike classes o p t k w) ∙ e in
    absurd (not_named classes p x t (none t (omega (arith, all, slot_within classes p t x f))) f)
