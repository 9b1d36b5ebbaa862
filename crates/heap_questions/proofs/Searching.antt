-- What an offer keeps of a search.
use Rattle.std.proofs.Common.{◌≡◌, ℕ, ◌+◌, ◌<◌, ◌≤◌, Bool, true, false, cond, List, [], ◌∷◌, ◌++◌, length, get_or, set, refl, sym, ap, ◌∙◌, subst, inl, inr, arith}
use Rattle.std.specs.Prelude.{slice_get, Some, count_by}
use Rattle.std.proofs.lemmas.List.{length-set, length_push, get_or-set_other, get_or-set_same}
use Rattle.std.proofs.lemmas.List.Sums.{sum_by-set, count_by-le-length}
use Rattle.std.proofs.lemmas.Option.{slice_get_within, none-some}
use Rattle.std.proofs.lemmas.Bool.{cases_eq, true≢false}
use Rattle.heap_class.specs.declared.ObjRef.{ObjRef}
use Rattle.hprof_text.specs.Image.{Image}
use Rattle.heap_questions.specs.Graph.{HasId, named}
use Rattle.heap_questions.specs.Search.{AreNodes, AreSeen, Found, HasAllChildren, HasChildren, HasRoots, IsFound, IsNear, IsOfferedTo, IsReached, IsReachedBy, IsRising, IsSearched, IsSearchedTo, IsSearching, IsWithin, Register, Slot, Via, node_with}
use Rattle.heap_questions.specs.declared.nodes.Node.{Node}
use Rattle.heap_questions.proofs.LongerLists.{got_before, got_last, got_cases, got_same}
use Rattle.heap_questions.proofs.NodePlaces.{node_of_object, node_within, object_found, one_id}

-- ---- one more is found

found_more : (queue : List Found) (g : Found) (x d : ℕ) → IsFound queue x d → IsFound (queue ++ g ∷ []) x d
found_more queue g x d h = (h.0, h.1, got_before queue g h.0 h.1 h.2, h.3, h.4)

reached_more : (image : Image) (queue : List Found) (g : Found) (x d : ℕ) (via : Via) → IsReachedBy image queue x d via → IsReachedBy image (queue ++ g ∷ []) x d via
reached_more image queue g x d (Register r) h = h
reached_more image queue g x d (Slot s parent) h = (h.0, got_before queue g parent h.0 h.1, h.2, h.3)

-- how many are marked, with one more
count_more : (seen : List Bool) (j : ℕ) → j < length seen → get_or seen j false ≡ false → count_by (λ b. b) (set seen j true) ≡ count_by (λ b. b) seen + 1
count_more seen j h e =
    let f : Bool → ℕ = λ b. cond b 1 0 in
    let s = sum_by-set f seen j true false h in
    let z : f (get_or seen j false) ≡ 0 = ap f e in
    omega (arith, s, z)

-- ---- an offer

-- what an offer of x at depth d to a search leaves
pub record IsKept (image : Image) (nodes : List Node) (seen : List Bool) (queue new : List Found) (head x d : ℕ) : Type 0 where
  pub search : IsSearching image nodes seen new head
  pub within : IsWithin new d
  pub found : HasId image x → IsFound new x d
  pub longer : length queue ≤ length new
  pub stays : (y e : ℕ) → IsFound queue y e → IsFound new y e
  pub there : (k : ℕ) (f : Found) → slice_get queue k ≡ Some f → slice_get new k ≡ Some f

known_child_is_skipped : (image : Image) (places : List ObjRef) (nodes : List Node) (seen : List Bool) (queue : List Found) (head x d : ℕ) → AreNodes image places nodes → IsSearching image nodes seen queue head → IsWithin queue d
    → ((j : ℕ) → node_with nodes x ≡ Some j → get_or seen j false ≡ true) → HasId image x → IsFound queue x d
known_child_is_skipped image places nodes seen queue head x d n s w m o =
    let j = node_of_object image places nodes x n o in
    let k = s.marked j.0 (m j.0 j.1) in
    let e : node_with nodes k.1.id ≡ Some j.0 = s.placed k.0 k.1 k.2 ∙ ap Some k.3 in
    (k.0, k.1, k.2, one_id nodes k.1.id x j.0 e j.1, w k.0 k.1 k.2)

rising_more : (queue : List Found) (g : Found) → IsRising queue → IsWithin queue g.depth → IsRising (queue ++ g ∷ [])
rising_more queue g r w i j a b h p q =
    elim (got_cases queue g j b q) [
      | inl u ↦ elim (got_cases queue g i a p) [
        | inl t ↦ r i j a b h t u
        | inr t ↦ absurd (omega (arith, t.0, h, slice_get_within queue j b u))
      ]
      | inr u ↦
          let e : b.depth ≡ g.depth = ap (λ f. f.depth) u.1 in
          elim (got_cases queue g i a p) [
            | inl t ↦ let l = w i a t in omega (arith, l, e)
            | inr t ↦ let f : a.depth ≡ g.depth = ap (λ f. f.depth) t.1 in omega (arith, e, f)
          ]
    ]

marked_more : (seen : List Bool) (queue : List Found) (g : Found) → g.node < length seen
    → ((j : ℕ) → get_or seen j false ≡ true → (k : ℕ) × (f : Found) × (slice_get queue k ≡ Some f) × (f.node ≡ j))
    → (j : ℕ) → get_or (set seen g.node true) j false ≡ true → (k : ℕ) × (f : Found) × (slice_get (queue ++ g ∷ []) k ≡ Some f) × (f.node ≡ j)
marked_more seen queue g h m j e =
    elim (cases_eq j g.node) [
      | inl p ↦ (length queue, g, got_last queue g, sym p)
      | inr p ↦ let o = m j (sym (get_or-set_other seen g.node j true false p) ∙ e) in (o.0, o.1, got_before queue g o.0 o.1 o.2, o.3)
    ]

new_child_is_added : (image : Image) (nodes : List Node) (seen : List Bool) (queue : List Found) (head : ℕ) (g : Found) → head ≤ length queue → IsSearching image nodes seen queue head → IsWithin queue g.depth → g.depth ≤ length queue
    → IsReached image queue g → node_with nodes g.id ≡ Some g.node → get_or seen g.node false ≡ false → IsSearching image nodes (set seen g.node true) (queue ++ g ∷ []) head
new_child_is_added image nodes seen queue head g hd s w d r n m =
    let lt : g.node < length seen = omega (arith, s.as_many, node_within nodes g.id g.node n) in
    record {
      reached = λ k f h. elim (got_cases queue g k f h) [
        | inl p ↦ reached_more image queue g f.id f.depth f.via (s.reached k f p)
        | inr p ↦ subst (λ (f : Found). IsReached image (queue ++ g ∷ []) f) (sym p.1) (reached_more image queue g g.id g.depth g.via r)
      ];
      placed = λ k f h. elim (got_cases queue g k f h) [ inl p ↦ s.placed k f p | inr p ↦ subst (λ (f : Found). node_with nodes f.id ≡ Some f.node) (sym p.1) n ];
      early = λ k f h. elim (got_cases queue g k f h) [
        | inl p ↦ s.early k f p
        | inr p ↦ let e : f.depth ≡ g.depth = ap (λ f. f.depth) p.1 in omega (arith, e, d, p.0)
      ];
      rising = rising_more queue g s.rising w;
      marked = marked_more seen queue g lt s.marked;
      found = λ k f h. elim (got_cases queue g k f h) [
        | inl p ↦ elim (cases_eq f.node g.node) [
          | inl q ↦ ap (λ n. get_or (set seen g.node true) n false) q ∙ get_or-set_same seen g.node true false lt
          | inr q ↦ get_or-set_other seen g.node f.node true false q ∙ s.found k f p
        ]
        | inr p ↦ ap (λ (f : Found). get_or (set seen g.node true) f.node false) p.1 ∙ get_or-set_same seen g.node true false lt
      ];
      as_many = length-set seen g.node true ∙ s.as_many;
      counted = count_more seen g.node lt m ∙ ap (λ n. n + 1) s.counted ∙ sym (length_push queue g);
      closed = λ k f l h. elim (got_cases queue g k f h) [
        | inl p ↦ λ t y e o. found_more queue g y (f.depth + 1) (s.closed k f l p t y e o)
        | inr p ↦ absurd (omega (arith, p.0, l, hd))
      ];
    }

search_kept_without_child : (image : Image) (nodes : List Node) (seen : List Bool) (queue : List Found) (head x d : ℕ) → IsSearching image nodes seen queue head → IsWithin queue d → (HasId image x → IsFound queue x d) → IsKept image nodes seen queue queue head x d
search_kept_without_child image nodes seen queue head x d s w f = record { search = s; within = w; found = f; longer = omega arith; stays = λ y e h. h; there = λ k f h. h }

search_kept_with_child : (image : Image) (nodes : List Node) (seen : List Bool) (queue : List Found) (head : ℕ) (g : Found) → IsSearching image nodes seen (queue ++ g ∷ []) head → IsWithin queue g.depth → IsKept image nodes seen queue (queue ++ g ∷ []) head g.id g.depth
search_kept_with_child image nodes seen queue head g s w =
    record {
      search = s;
      within = λ k f h. elim (got_cases queue g k f h) [ inl p ↦ w k f p | inr p ↦ let e : f.depth ≡ g.depth = ap (λ f. f.depth) p.1 in omega (arith, e) ];
      found = λ o. (length queue, g, got_last queue g, refl, omega arith);
      longer = omega (arith, length_push queue g);
      stays = λ y e h. found_more queue g y e h;
      there = λ k f h. got_before queue g k f h;
    }

pub look_keeps_search : (image : Image) (places : List ObjRef) (nodes : List Node) (seen : List Bool) (queue : List Found) (head x d : ℕ) (via : Via) (seen_after : List Bool) (new : List Found)
    → AreNodes image places nodes → IsSearching image nodes seen queue head → IsWithin queue d → head ≤ length queue → d ≤ length queue → IsReachedBy image queue x d via → IsOfferedTo nodes x d via seen queue seen_after new
    → IsKept image nodes seen_after queue new head x d
look_keeps_search image places nodes seen queue head x d via seen_after new n s w hd dl r (inl o) =
    let k = search_kept_without_child image nodes seen queue head x d s w (known_child_is_skipped image places nodes seen queue head x d n s w o.2) in
    subst (λ (q : List Found). IsKept image nodes seen_after queue q head x d) (sym o.1) (subst (λ (m : List Bool). IsKept image nodes m queue queue head x d) (sym o.0) k)
look_keeps_search image places nodes seen queue head x d via seen_after new n s w hd dl r (inr o) =
    let g : Found = record { node = o.0; id = x; depth = d; via = via } in
    let k = search_kept_with_child image nodes (set seen o.0 true) queue head g (new_child_is_added image nodes seen queue head g hd s w dl r o.1 o.2) w in
    subst (λ (q : List Found). IsKept image nodes seen_after queue q head x d) (sym o.4) (subst (λ (m : List Bool). IsKept image nodes m queue (queue ++ g ∷ []) head x d) (sym o.3) k)

-- ---- the search as it begins

pub search_begins : (image : Image) (nodes : List Node) (seen : List Bool) → length seen ≡ length nodes → ((j : ℕ) → get_or seen j false ≡ false) → count_by (λ b. b) seen ≡ 0 → IsSearching image nodes seen [] 0
search_begins image nodes seen n m c =
    record {
      reached = λ k f h. absurd (none-some f h);
      placed = λ k f h. absurd (none-some f h);
      early = λ k f h. absurd (none-some f h);
      rising = λ i j a b h p q. absurd (none-some a p);
      marked = λ j e. absurd (true≢false (sym e ∙ m j));
      found = λ k f h. absurd (none-some f h);
      as_many = n;
      counted = c;
      closed = λ k f l h. absurd (omega (arith, l));
    }

-- ---- the slots of an object, one after another

-- all of its slots were looked at
pub all_children : (image : Image) (queue : List Found) (x n d : ℕ) → ((s y : ℕ) → named image x s ≡ Some y → s < n) → HasChildren image queue x n d → HasAllChildren image queue x d
all_children image queue x n d w h s y e o = h s y (w s y e) e o

-- so the search is one step further
pub search_one_step_further : (image : Image) (nodes : List Node) (seen : List Bool) (queue : List Found) (head : ℕ) (f : Found) → IsSearching image nodes seen queue head → slice_get queue head ≡ Some f → HasAllChildren image queue f.id (f.depth + 1) → IsSearching image nodes seen queue (head + 1)
search_one_step_further image nodes seen queue head f s g c =
    let closed : (k : ℕ) (e : Found) → k < head + 1 → slice_get queue k ≡ Some e → HasAllChildren image queue e.id (e.depth + 1) = λ k e l h. elim (cases_eq k head) [
      | inl p ↦
          let q : e ≡ f = got_same queue head e f (ap (slice_get queue) (sym p) ∙ h) g in
          subst (λ (e : Found). HasAllChildren image queue e.id (e.depth + 1)) (sym q) c
      | inr p ↦ s.closed k e (omega (arith, l, p)) h
    ] in
    assumption

-- nothing is deeper than one step below what is looked at next
pub near_next : (queue : List Found) (head : ℕ) (f : Found) → IsRising queue → slice_get queue head ≡ Some f → IsWithin queue (f.depth + 1) → IsNear queue (head + 1)
near_next queue head f r g w h p k e q =
    let a = r head (head + 1) f h (omega arith) g p in
    let b = w k e q in
    omega (arith, a, b)

pub near_first : (queue : List Found) → IsWithin queue 0 → IsNear queue 0
near_first queue w h p k f q = let a = w k f q in omega (arith, a)

-- there is no more to be found than nodes
pub found_are_at_most_nodes : (image : Image) (nodes : List Node) (seen : List Bool) (queue : List Found) (head : ℕ) → IsSearching image nodes seen queue head → length queue ≤ length nodes
found_are_at_most_nodes image nodes seen queue head s = omega (arith, s.counted, s.as_many, count_by-le-length (λ b. b) seen)

-- all was looked at whose children are less than d deep
pub searched_to : (image : Image) (places : List ObjRef) (nodes : List Node) (seen : List Bool) (queue : List Found) (head d : ℕ) → AreNodes image places nodes → IsSearching image nodes seen queue head
    → ((k : ℕ) (f : Found) → f.depth + 1 < d → slice_get queue k ≡ Some f → k < head) → HasRoots image queue (length image.registers) → IsSearchedTo image queue d
searched_to image places nodes seen queue head d n s l r =
    record {
      reached = s.reached;
      objects = λ k f h. object_found image places nodes f.id f.node n (s.placed k f h);
      rising = s.rising;
      roots = λ n y e o. r n y (slice_get_within image.registers n y e) e o;
      closed = λ k f m h. s.closed k f (l k f m h) h;
    }

-- all was looked at
pub search_ends : (image : Image) (places : List ObjRef) (nodes : List Node) (seen : List Bool) (queue : List Found) (head : ℕ) → AreNodes image places nodes → IsSearching image nodes seen queue head → length queue ≤ head → HasRoots image queue (length image.registers) → IsSearched image queue
search_ends image places nodes seen queue head n s l r d = searched_to image places nodes seen queue head d n s (λ k f m h. omega (arith, l, slice_get_within queue k f h)) r

pub are_seen : (image : Image) (nodes : List Node) (seen : List Bool) (queue : List Found) (head : ℕ) → IsSearching image nodes seen queue head → AreSeen nodes seen queue
are_seen image nodes seen queue head s = record { placed = s.placed; marked = s.marked; found = s.found; as_many = s.as_many }
