-- Looking at the slots of what was found, and at the registers.
use Rattle.std.proofs.Common.{◌≡◌, ℕ, ◌+◌, ◌<◌, ◌≤◌, ◌++◌, ◌∷◌, [], Bool, true, false, cond, List, length, get_or, refl, sym, ap, ◌∙◌, subst, inl, inr, arith}
use Rattle.std.specs.Prelude.{slice_get, Option, Some, None, IfSome, option_and_then, option_map}
use Rattle.std.proofs.lemmas.List.{length-map, map_push}
use Rattle.std.proofs.lemmas.Option.{none-some, same_Some, slice_get_within, slice_get-get_or, slice_get-map}
use Rattle.std.proofs.lemmas.Bool.{cases_eq, cases_lt, cases_Bool}
use Rattle.heap_class.specs.declared.ObjRef.{ObjRef}
use Rattle.heap_class.specs.Classes.{Class}
use Rattle.heap_class.specs.Limits.{large_array_limit}
use Rattle.heap_class.specs.declared.ObjKind.{ObjKind}
use Rattle.hprof_text.specs.Image.{Image, DumpedObject, IsDumpable, IsKnown}
use Rattle.hprof_text.proofs.ViewedObjects.{object_viewed_at_place}
use Rattle.hprof_text.proofs.Loops.{item_of_list_within}
use Rattle.heap_questions.specs.Graph.{HasId, slot_refers, named, object_with, slot_names}
use Rattle.heap_questions.specs.Search.{AreEntries, AreNodes, Earlier, Found, HasAllRoots, HasChildren, IsEnteredIn, IsFound, IsNear, IsOfferedTo, IsOrdered, IsRooting, IsSearching, IsWithin, Register, Slot, Via, entry_of, from_via, node_with}
use Rattle.heap_questions.specs.declared.nodes.Node.{Node}
use Rattle.heap_questions.specs.declared.search.Entry.{Entry}
use Rattle.heap_questions.proofs.NodePlaces.{node_place, node_within, object_of_node}
use Rattle.heap_questions.proofs.SearchOrder.{next_register, next_slot, ordered_more, ordered_next, registers_looked_at, slots_looked_at}
use Rattle.heap_questions.proofs.Searching.{IsKept, look_keeps_search, search_one_step_further}

-- ---- the slots of an object

pub named_is : (image : Image) (x s : ℕ) (o : DumpedObject) → object_with image x ≡ Some o → named image x s ≡ slot_names image.classes o s
unfolding named
named_is image x s o e = ap (option_and_then (λ o. slot_names image.classes o s)) e

pub slot_is : (classes : List Class) (o : DumpedObject) (s w : ℕ) → s < length o.words → w ≡ get_or o.words s w → slot_refers classes o.kind s ≡ true → slot_names classes o s ≡ Some w
unfolding slot_names
slot_is classes o s w h e r = ap (λ b. cond b (slice_get o.words s) None) r ∙ slice_get-get_or o.words s w h ∙ ap Some (sym e)

pub slot_is_none : (classes : List Class) (o : DumpedObject) (s : ℕ) → slot_refers classes o.kind s ≡ false → slot_names classes o s ≡ None
unfolding slot_names
slot_is_none classes o s r = ap (λ b. cond b (slice_get o.words s) None) r

pub slot_within : (classes : List Class) (o : DumpedObject) (s y : ℕ) → slot_names classes o s ≡ Some y → s < length o.words
unfolding slot_names
slot_within classes o s y h =
    elim (cases_Bool (slot_refers classes o.kind s)) [
      | inl t ↦ slice_get_within o.words s y (sym (ap (λ b. cond b (slice_get o.words s) None) t) ∙ h)
      | inr f ↦ absurd (none-some y (sym (ap (λ b. cond b (slice_get o.words s) None) f) ∙ h))
    ]

-- ---- what was found and its object

-- what was found stands at node `f.node`, which is this object's
pub record StandsFor (image : Image) (places : List ObjRef) (nodes : List Node) (f : Found) (at : ObjRef) : Type 0 where
  pub within : f.node < length nodes
  pub placed : slice_get places f.node ≡ Some at
  pub object : object_with image f.id ≡ slice_get image.objects f.node

pub node_stands_for_object : (image : Image) (places : List ObjRef) (nodes : List Node) (f : Found) (at : ObjRef) → AreNodes image places nodes → node_with nodes f.id ≡ Some f.node → ((n : Node) → slice_get nodes f.node ≡ Some n → at ≡ n.at) → StandsFor image places nodes f at
node_stands_for_object image places nodes f at n e p =
    let w = node_within nodes f.id f.node e in
    let m = item_of_list_within nodes f.node w in
    record { within = w; placed = node_place image places nodes f.node m.0 n m.1 ∙ ap Some (sym (p m.0 m.1)); object = object_of_node image places nodes f.id f.node n e }

-- the object of what was found, by what a view tells of it
pub record IsRead (image : Image) (f : Found) (kind : ObjKind) (words : List ℕ) : Type 0 where
  pub object : DumpedObject
  pub there : object_with image f.id ≡ Some object
  pub same_kind : kind ≡ object.kind
  pub same_words : words ≡ object.words
  pub many : length words ≡ length object.words
  pub known : IsKnown image.classes kind (length words)
  pub small : length words ≤ large_array_limit

pub node_is_read_as_object : (image : Image) (places : List ObjRef) (nodes : List Node) (f : Found) (at : ObjRef) (kind : ObjKind) (words : List ℕ) → AreNodes image places nodes → node_with nodes f.id ≡ Some f.node → ((n : Node) → slice_get nodes f.node ≡ Some n → at ≡ n.at)
    → IsDumpable image → length places ≡ length image.objects → ((i : ℕ) → slice_get places i ≡ Some at → IfSome (slice_get image.objects i) (λ o. kind ≡ o.kind)) → ((i : ℕ) → slice_get places i ≡ Some at → IfSome (slice_get image.objects i) (λ o. words ≡ o.words))
    → IsRead image f kind words
node_is_read_as_object image places nodes f at kind words n e p d many k w =
    let s = node_stands_for_object image places nodes f at n e p in
    let h = object_viewed_at_place image places f.node at kind words d many s.placed (k f.node s.placed) (w f.node s.placed) in
    record { object = h.object; there = s.object ∙ h.there; same_kind = h.same_kind; same_words = h.same_words; many = ap length h.same_words; known = h.known; small = h.small }

-- ---- slot by slot

-- the first slots of what stands at `head` were looked at
pub record IsLooking (image : Image) (nodes : List Node) (head : ℕ) (f : Found) (seen : List Bool) (queue : List Found) (slot : ℕ) : Type 0 where
  pub search : IsSearching image nodes seen queue head
  pub within : IsWithin queue (f.depth + 1)
  pub here : slice_get queue head ≡ Some f
  pub children : HasChildren image queue f.id slot (f.depth + 1)
  pub all_roots : HasAllRoots image queue
  pub ordered : IsOrdered image queue (Slot slot head)

pub looking_begins : (image : Image) (nodes : List Node) (queue : List Found) (head : ℕ) (f : Found) (seen : List Bool) → IsSearching image nodes seen queue head → IsNear queue head → HasAllRoots image queue → IsOrdered image queue (Slot 0 head) → slice_get queue head ≡ Some f → IsLooking image nodes head f seen queue 0
looking_begins image nodes queue head f seen s n r o h =
    record { search = s; within = n f h; here = h; children = λ s y l. absurd (omega (arith, l)); all_roots = r; ordered = o }

-- a slot that names nothing
pub looked_past : (image : Image) (nodes : List Node) (head : ℕ) (f : Found) (seen : List Bool) (queue : List Found) (slot : ℕ) → IsLooking image nodes head f seen queue slot → named image f.id slot ≡ None → IsLooking image nodes head f seen queue (slot + 1)
looked_past image nodes head f seen queue slot l n =
    record {
      search = l.search;
      within = l.within;
      here = l.here;
      children = λ s y lt e o. elim (cases_eq s slot) [
        | inl p ↦ absurd (none-some y (sym n ∙ ap (named image f.id) (sym p) ∙ e))
        | inr p ↦ l.children s y (omega (arith, lt, p)) e o
      ];
      all_roots = l.all_roots;
      ordered = ordered_next image queue (Slot slot head) (Slot (slot + 1) head) (next_slot head slot) l.ordered;
    }

-- a slot that names x, which was offered
pub looked_at : (image : Image) (places : List ObjRef) (nodes : List Node) (head : ℕ) (f : Found) (seen : List Bool) (queue : List Found) (slot x : ℕ) (seen_after : List Bool) (new : List Found)
    → AreNodes image places nodes → IsLooking image nodes head f seen queue slot → named image f.id slot ≡ Some x → IsOfferedTo nodes x (f.depth + 1) (Slot slot head) seen queue seen_after new → IsLooking image nodes head f seen_after new (slot + 1)
looked_at image places nodes head f seen queue slot x seen_after new n l e o =
    let w = slice_get_within queue head f l.here in
    let d = l.search.early head f l.here in
    let k : IsKept image nodes seen_after queue new head x (f.depth + 1) =
    look_keeps_search image places nodes seen queue head x (f.depth + 1) (Slot slot head) seen_after new n l.search l.within (omega (arith, w)) (omega (arith, w, d)) (f, l.here, refl, e) o in
    record {
      search = k.search;
      within = k.within;
      here = k.there head f l.here;
      children = λ s y lt q h. elim (cases_eq s slot) [
        | inl p ↦
            let same : x ≡ y = same_Some x y (sym e ∙ ap (named image f.id) (sym p) ∙ q) in
            subst (λ z. IsFound new z (f.depth + 1)) same (k.found (subst (HasId image) (sym same) h))
        | inr p ↦ k.stays y (f.depth + 1) (l.children s y (omega (arith, lt, p)) q h)
      ];
      all_roots = λ r y lt q h. k.stays y 0 (l.all_roots r y lt q h);
      ordered = ordered_more image places nodes seen queue head x (f.depth + 1) (Slot slot head) (Slot (slot + 1) head) seen_after new n l.search l.ordered
          (slots_looked_at image nodes seen queue head slot f l.search l.all_roots l.here l.children) (next_slot head slot) (inr (refl, omega arith)) (f, l.here, refl, e) o;
    }

-- all slots
pub looked_through : (image : Image) (nodes : List Node) (head : ℕ) (f : Found) (seen : List Bool) (queue : List Found) (slot : ℕ) (o : DumpedObject) → IsLooking image nodes head f seen queue slot → object_with image f.id ≡ Some o → slot ≡ length o.words → IsSearching image nodes seen queue (head + 1)
looked_through image nodes head f seen queue slot o l e n =
    search_one_step_further image nodes seen queue head f l.search l.here
    (λ s y q h. l.children s y (omega (arith, n, slot_within image.classes o s y (sym (named_is image f.id s o e) ∙ q))) q h)

-- ---- register by register

pub rooting_begins : (image : Image) (nodes : List Node) (seen : List Bool) (queue : List Found) → IsSearching image nodes seen queue 0 → IsWithin queue 0 → IsOrdered image queue (Register 0) → IsRooting image nodes seen queue 0
rooting_begins image nodes seen queue s w o = record { search = s; within = w; roots = λ n y l. absurd (omega (arith, l)); ordered = o }

pub rooting_of_one_more_register : (image : Image) (places : List ObjRef) (nodes : List Node) (seen : List Bool) (queue : List Found) (r x : ℕ) (seen_after : List Bool) (new : List Found) → AreNodes image places nodes → IsRooting image nodes seen queue r → slice_get image.registers r ≡ Some x
    → IsOfferedTo nodes x 0 (Register r) seen queue seen_after new → IsRooting image nodes seen_after new (r + 1)
rooting_of_one_more_register image places nodes seen queue r x seen_after new n l e o =
    let k : IsKept image nodes seen_after queue new 0 x 0 = look_keeps_search image places nodes seen queue 0 x 0 (Register r) seen_after new n l.search l.within (omega arith) (omega arith) (refl, e) o in
    record {
      search = k.search;
      within = k.within;
      roots = λ s y lt q h. elim (cases_eq s r) [
        | inl p ↦
            let same : x ≡ y = same_Some x y (sym e ∙ ap (slice_get image.registers) (sym p) ∙ q) in
            subst (λ z. IsFound new z 0) same (k.found (subst (HasId image) (sym same) h))
        | inr p ↦ k.stays y 0 (l.roots s y (omega (arith, lt, p)) q h)
      ];
      ordered = ordered_more image places nodes seen queue 0 x 0 (Register r) (Register (r + 1)) seen_after new n l.search l.ordered (registers_looked_at image queue r l.roots) (next_register r) (omega arith) (refl, e) o;
    }

-- registers that name no object
pub rooted_past : (image : Image) (nodes : List Node) (seen : List Bool) (queue : List Found) (r n : ℕ) → IsRooting image nodes seen queue r → r ≤ n → ((q y : ℕ) → r ≤ q → q < n → slice_get image.registers q ≡ Some y → ¬ HasId image y) → IsRooting image nodes seen queue n
rooted_past image nodes seen queue r n l le none =
    record {
      search = l.search;
      within = l.within;
      roots = λ q y lt e h. elim (cases_lt q r) [
        | inl before ↦ l.roots q y before e h
        | inr from ↦ absurd (none q y from lt e h)
      ];
      ordered = ordered_next image queue (Register r) (Register n) (later_register r n le) l.ordered;
    }
  where
    later_register : (r n : ℕ) → r ≤ n → (v : Via) → Earlier v (Register r) → Earlier v (Register n)
    later_register r n le (Register q) e = omega (arith, e, le)
    later_register r n le (Slot s p) e = absurd e

-- ---- by the entries of a queue

-- what stands at a place of a queue is what its entry keeps
pub found_of : (entries : List Entry) (queue : List Found) (k : ℕ) (e : Entry) → AreEntries entries queue → slice_get entries k ≡ Some e → (f : Found) × (slice_get queue k ≡ Some f) × (entry_of f ≡ e)
found_of entries queue k e a h = go (slice_get queue k) refl (sym (slice_get-map entry_of queue k) ∙ ap (λ es. slice_get es k) (sym a) ∙ h)
  where
    go : (o : Option Found) → slice_get queue k ≡ o → option_map entry_of o ≡ Some e → (f : Found) × (slice_get queue k ≡ Some f) × (entry_of f ≡ e)
    go None g h = absurd (none-some e h)
    go (Some f) g h = (f, g, same_Some (entry_of f) e h)

-- and its entry keeps it
pub entry_there : (entries : List Entry) (queue : List Found) (k : ℕ) (f : Found) → AreEntries entries queue → slice_get queue k ≡ Some f → slice_get entries k ≡ Some (entry_of f)
entry_there entries queue k f a h = ap (λ (es : List Entry). slice_get es k) a ∙ slice_get-map entry_of queue k ∙ ap (option_map entry_of) h

pub as_many_entries : (entries : List Entry) (queue : List Found) → AreEntries entries queue → length entries ≡ length queue
as_many_entries entries queue a = ap length a ∙ length-map queue entry_of

-- an entry that was added keeps what was offered
pub added_entry_keeps_offer : (nodes : List Node) (x d : ℕ) (via : Via) (seen : List Bool) (entries : List Entry) (queue : List Found) (seen_after : List Bool) (new : List Entry) → AreEntries entries queue → IsEnteredIn nodes x (from_via via) seen entries seen_after new
    → (after : List Found) × AreEntries new after × IsOfferedTo nodes x d via seen queue seen_after after
added_entry_keeps_offer nodes x d via seen entries queue seen_after new a (inl o) = (queue, o.1 ∙ a, inl (o.0, refl, o.2))
added_entry_keeps_offer nodes x d via seen entries queue seen_after new a (inr o) =
    let f : Found = record { node = o.0; id = x; depth = d; via = via } in
    (queue ++ f ∷ [], o.4 ∙ ap (λ (es : List Entry). es ++ entry_of f ∷ []) a ∙ sym (map_push entry_of queue f), inr (o.0, o.1, o.2, o.3, refl))

-- what is read of a queue at a place is the entry there
pub entry_here : (entries slice : List Entry) (k : ℕ) (e : Entry) → slice ≡ entries → slice_get slice k ≡ Some e → slice_get entries k ≡ Some e
entry_here entries slice k e same is = ap (λ (es : List Entry). slice_get es k) (sym same) ∙ is

pub entry_stands : (image : Image) (places : List ObjRef) (nodes : List Node) (f : Found) (e : Entry) (at : ObjRef) → AreNodes image places nodes → node_with nodes f.id ≡ Some f.node → entry_of f ≡ e → ((n : Node) → slice_get nodes e.node ≡ Some n → at ≡ n.at) → StandsFor image places nodes f at
entry_stands image places nodes f e at n there is p =
    let same : f.node ≡ e.node = ap (λ (e : Entry). e.node) is in
    node_stands_for_object image places nodes f at n there (λ m h. p m (ap (slice_get nodes) (sym same) ∙ h))

-- the object of an entry, by what a view tells of it
pub entry_read : (image : Image) (places : List ObjRef) (nodes : List Node) (f : Found) (e : Entry) (at : ObjRef) (kind : ObjKind) (words : List ℕ) → AreNodes image places nodes → node_with nodes f.id ≡ Some f.node → entry_of f ≡ e → ((n : Node) → slice_get nodes e.node ≡ Some n → at ≡ n.at)
    → IsDumpable image → length places ≡ length image.objects → ((i : ℕ) → slice_get places i ≡ Some at → IfSome (slice_get image.objects i) (λ o. kind ≡ o.kind)) → ((i : ℕ) → slice_get places i ≡ Some at → IfSome (slice_get image.objects i) (λ o. words ≡ o.words))
    → IsRead image f kind words
entry_read image places nodes f e at kind words n there is p d many k w =
    let same : f.node ≡ e.node = ap (λ (e : Entry). e.node) is in
    node_is_read_as_object image places nodes f at kind words n there (λ m h. p m (ap (slice_get nodes) (sym same) ∙ h)) d many k w

-- slot by slot, of what the entry keeps that stood at `head` at the beginning
pub record LooksAt (image : Image) (nodes : List Node) (head : ℕ) (started : List Entry) (seen : List Bool) (entries : List Entry) (slot : ℕ) : Type 0 where
  pub queue : List Found
  pub f : Found
  pub kept : AreEntries entries queue
  pub is : slice_get started head ≡ Some (entry_of f)
  pub looking : IsLooking image nodes head f seen queue slot

pub looks_as : (image : Image) (nodes : List Node) (head : ℕ) (started : List Entry) (seen others : List Bool) (entries same : List Entry) (slot : ℕ) → others ≡ seen → same ≡ entries → LooksAt image nodes head started seen entries slot → LooksAt image nodes head started others same slot
looks_as image nodes head started seen others entries same slot a b l =
    subst (λ (es : List Entry). LooksAt image nodes head started others es slot) (sym b) (subst (λ (m : List Bool). LooksAt image nodes head started m entries slot) (sym a) l)
