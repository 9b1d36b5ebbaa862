-- The path on which a search found an object.
use Rattle.std.proofs.Common.{◌≡◌, ℕ, ◌+◌, ◌<◌, ◌≤◌, Bool, List, [], ◌∷◌, ◌++◌, length, sym, ap, ◌∙◌, subst, inl, inr, arith}
use Rattle.std.specs.Prelude.{slice_get, Some, None, option_and_then, ◌==◌, reverse}
use Rattle.std.specs.List.{position, position_or_len}
use Rattle.std.proofs.lemmas.Bool.{cases_lt, eq-eqb, eqb-true, true≢false}
use Rattle.std.proofs.lemmas.List.{length-reverse, reverse-append, reverse-reverse}
use Rattle.std.proofs.lemmas.List.Quantifiers.{position-Some}
use Rattle.std.proofs.lemmas.List.Sums.{fails_before_first}
use Rattle.std.proofs.lemmas.Option.{none-some, same_Some, slice_get_within, get_or_from_slice_get}
use Rattle.heap_class.specs.declared.ObjRef.{ObjRef}
use Rattle.hprof_text.specs.Image.{Image}
use Rattle.hprof_text.proofs.Loops.{item_of_list_within}
use Rattle.heap_questions.specs.Graph.{HasId, IsFirstPath, IsPathTo, IsShortest, IsUnreached, followed}
use Rattle.heap_questions.specs.Search.{AreAllSeen, AreNodes, AreReached, Earlier, Found, HasEnded, HasSearchedFor, IsNoHigher, IsQueueOf, IsReachedBy, IsSearch, IsSearchedTo, IsTraced, IsWayBack, Register, Slot, Via, entry_of, node_with, source_limit}
use Rattle.heap_questions.specs.declared.nodes.Node.{Node}
use Rattle.heap_questions.specs.declared.search.Entry.{Entry}
use Rattle.heap_questions.proofs.LongerLists.{got_same}
use Rattle.heap_questions.proofs.Looking.{as_many_entries, entry_there, found_of}
use Rattle.heap_questions.proofs.NodePlaces.{found_within, node_of_object, one_id, place_found}
use Rattle.heap_questions.proofs.PathOrder.{found_first}
use Rattle.heap_questions.proofs.Reaching.{leads_more}
use Rattle.heap_questions.proofs.Searching.{are_seen, search_ends, searched_to}
use Rattle.heap_questions.proofs.TracedPaths.{path_found}

-- ---- the way back

-- the way back to what was found leads there, by as many slots as it is deep
way_leads : (image : Image) (queue : List Found) → AreReached image queue → (back : List ℕ) (k r : ℕ) (f : Found) → slice_get queue k ≡ Some f → IsWayBack queue k r back → IsTraced image r (reverse back) f
way_leads image queue a [] k r f h w =
    let same : w.0 ≡ f = got_same queue k w.0 f w.1 h in
    let by : f.via ≡ Register r = ap (λ (f : Found). f.via) (sym same) ∙ w.2 in
    let p = subst (IsReachedBy image queue f.id f.depth) by (a k f h) in
    (ap (option_and_then (λ y. followed image y [])) p.1, sym p.0)
way_leads image queue a (s ∷ back) k r f h w =
    let same : w.0 ≡ f = got_same queue k w.0 f w.2 h in
    let by : f.via ≡ Slot s w.1 = ap (λ (f : Found). f.via) (sym same) ∙ w.3 in
    let p = subst (IsReachedBy image queue f.id f.depth) by (a k f h) in
    let t = way_leads image queue a back w.1 r p.0 p.1 w.4 in
    let turned : reverse (s ∷ back) ≡ reverse back ++ s ∷ [] = reverse-append (s ∷ []) back in (
      ap (λ (l : List ℕ). option_and_then (λ y. followed image y l) (slice_get image.registers r)) turned ∙ leads_more image r (reverse back) p.0.id s f.id t.0 p.3,
      omega (arith, length-reverse (s ∷ back), length-reverse back, t.1, p.2),
    )

-- ---- what a search leaves

queue_of : (image : Image) (nodes : List Node) (seen : List Bool) (entries : List Entry) (head : ℕ) → length image.registers ≤ source_limit → (s : IsSearch image nodes seen entries head) → IsQueueOf image nodes entries s.queue
queue_of image nodes seen entries head few s =
    record { kept = s.kept; few = few; reached = s.search.reached; placed = s.search.placed; rising = s.search.rising; ordered = (Slot 0 head, s.ordered) }

-- a search that has ended looked at each whose children are less deep than the goal
looked_at_all : (image : Image) (nodes : List Node) (seen : List Bool) (entries : List Entry) (head goal d : ℕ) → (s : IsSearch image nodes seen entries head) → IsNoHigher s.queue goal d → HasEnded seen entries head (Some goal)
    → (k : ℕ) (f : Found) → f.depth + 1 < d → slice_get s.queue k ≡ Some f → k < head
looked_at_all image nodes seen entries head goal d s m (inl l) k f b h = omega (arith, l, as_many_entries entries s.queue s.kept, slice_get_within s.queue k f h)
looked_at_all image nodes seen entries head goal d s m (inr e) k f b h =
    let z = s.search.marked goal e in
    by_way z.1.depth z.1.id z.1.via (m z.0 z.1 z.2 z.3) (s.search.reached z.0 z.1 z.2) (s.ordered.behind z.0 z.1 z.2)
  where
    by_way : (n x : ℕ) (via : Via) → d ≤ n → IsReachedBy image s.queue x n via → Earlier via (Slot 0 head) → k < head
    by_way n x (Register r) l y e = absurd (omega (arith, y.0, l, b))
    by_way n x (Slot t p) l y e =
        let before : p < head = elim e [ inl a ↦ a | inr a ↦ absurd (omega (arith, a.1)) ] in
        elim (cases_lt k p) [
          | inl lt ↦ omega (arith, lt, before)
          | inr ge ↦ let deep = s.search.rising p k y.0 f ge y.1 h in absurd (omega (arith, deep, y.2, l, b))
        ]

pub searched_for : (image : Image) (places : List ObjRef) (nodes : List Node) (seen : List Bool) (entries : List Entry) (head goal : ℕ) → AreNodes image places nodes → length image.registers ≤ source_limit → IsSearch image nodes seen entries head → HasEnded seen entries head (Some goal)
    → HasSearchedFor image nodes entries goal
searched_for image places nodes seen entries head goal n few s e =
    record {
      queue = s.queue;
      found = queue_of image nodes seen entries head few s;
      searched = λ d m. searched_to image places nodes seen s.queue head d n s.search (looked_at_all image nodes seen entries head goal d s m e) s.roots;
    }

pub all_seen : (image : Image) (places : List ObjRef) (nodes : List Node) (seen : List Bool) (entries : List Entry) (head : ℕ) → AreNodes image places nodes → IsSearch image nodes seen entries head → HasEnded seen entries head None → AreAllSeen image nodes seen
all_seen image places nodes seen entries head n s (inr e) = absurd (true≢false (sym e))
all_seen image places nodes seen entries head n s (inl l) =
    record {
      queue = s.queue;
      searched = search_ends image places nodes seen s.queue head n s.search (omega (arith, l, as_many_entries entries s.queue s.kept)) s.roots;
      marked = are_seen image nodes seen s.queue head s.search;
    }

-- ---- the answer

-- what was found with the id of a node is that node
same_node : (nodes : List Node) (x y goal node : ℕ) → node_with nodes x ≡ Some goal → node_with nodes y ≡ Some node → y ≡ x → node ≡ goal
same_node nodes x y goal node e f s = same_Some node goal (sym f ∙ ap (node_with nodes) s ∙ e)

pub path_traced : (image : Image) (nodes : List Node) (entries : List Entry) (goal x index register : ℕ) (slots : List ℕ) → (s : HasSearchedFor image nodes entries goal) → node_with nodes x ≡ Some goal → Some index ≡ position (λ e. e.node == goal) entries
    → IsWayBack s.queue index register (reverse slots) → IsPathTo image register slots x × IsShortest image slots x × IsFirstPath image register slots x
path_traced image nodes entries goal x index register slots s there at way =
    let p : Entry → Bool = λ e. e.node == goal in
    let e = item_of_list_within entries index (found_within p entries index (sym at)) in
    let q = position-Some p entries index e.0 (sym at) in
    let f = found_of entries s.queue index e.0 s.found.kept e.1 in
    let node : f.0.node ≡ goal = ap (λ (e : Entry). e.node) f.2 ∙ eqb-true e.0.node goal (ap p (sym (get_or_from_slice_get entries index e.0 e.0 e.1)) ∙ q.1) in
    let same : f.0.id ≡ x = one_id nodes f.0.id x goal (s.found.placed index f.0 f.1 ∙ ap Some node) there in
    let none_higher : IsNoHigher s.queue goal f.0.depth = λ k g h n. elim (cases_lt k index) [
      | inl lt ↦ absurd (true≢false (sym (eq-eqb g.node goal n) ∙ ap p (sym (get_or_from_slice_get entries k (entry_of g) e.0 (entry_there entries s.queue k g s.found.kept h))) ∙ q.2 k lt))
      | inr ge ↦ s.found.rising index k f.0 g ge f.1 h
    ] in
    let d = s.searched f.0.depth none_higher in
    let t = subst (λ (l : List ℕ). IsTraced image register l f.0) (reverse-reverse slots) (way_leads image s.queue s.found.reached (reverse slots) index register f.0 f.1 way) in
    let to : IsSearchedTo image s.queue (length slots) = subst (IsSearchedTo image s.queue) (sym t.1) d in (
      record { there = subst (HasId image) same (d.objects index f.0 f.1); leads = t.0 ∙ ap Some same },
      λ r others o. elim (cases_lt (length others) f.0.depth) [
        | inl lt ↦
            let c = path_found image s.queue f.0.depth r others x d lt o in
            let m = none_higher c.0 c.1 c.2 (same_node nodes x c.1.id goal c.1.node there (s.found.placed c.0 c.1 c.2) c.3) in
            absurd (omega (arith, m, c.4, lt))
        | inr ge ↦ omega (arith, ge, t.1)
      ],
      found_first image s.queue index f.0 register slots x to s.found.ordered f.1 same way,
    )

-- so is the path that a way leads back
pub path_back : (image : Image) (nodes : List Node) (entries : List Entry) (goal x index r : ℕ) (back : List ℕ) (register : ℕ) (slots : List ℕ) → (s : HasSearchedFor image nodes entries goal) → node_with nodes x ≡ Some goal → Some index ≡ position (λ e. e.node == goal) entries → IsWayBack s.queue index r back
    → register ≡ r → slots ≡ reverse back → IsPathTo image register slots x × IsShortest image slots x × IsFirstPath image register slots x
path_back image nodes entries goal x index r back register slots s there at way same turned =
    let w = subst (IsWayBack s.queue index r) (sym (reverse-reverse back)) way in
    let t = path_traced image nodes entries goal x index r (reverse back) s there at w in
    subst (λ q. IsPathTo image q slots x × IsShortest image slots x × IsFirstPath image q slots x) (sym same)
    (subst (λ (l : List ℕ). IsPathTo image r l x × IsShortest image l x × IsFirstPath image r l x) (sym turned) t)

-- no node has the id
pub no_node_unreached : (image : Image) (places : List ObjRef) (nodes : List Node) (x : ℕ) → AreNodes image places nodes → node_with nodes x ≡ None → IsUnreached image x
no_node_unreached image places nodes x n e r slots p = let j = node_of_object image places nodes x n p.there in none-some j.0 (sym e ∙ j.1)

-- the node was not found
pub none_found : (image : Image) (nodes : List Node) (entries : List Entry) (goal x : ℕ) → HasSearchedFor image nodes entries goal → node_with nodes x ≡ Some goal → None ≡ position (λ e. e.node == goal) entries → IsUnreached image x
none_found image nodes entries goal x s there at r slots path =
    let d = s.searched (length slots + 1) (λ k g h n. absurd (absent k g h n)) in
    let c = path_found image s.queue (length slots + 1) r slots x d (omega arith) path in
    absent c.0 c.1 c.2 (same_node nodes x c.1.id goal c.1.node there (s.found.placed c.0 c.1 c.2) c.3)
  where
    absent : (k : ℕ) (g : Found) → slice_get s.queue k ≡ Some g → g.node ≡ goal → ⊥
    absent k g h n =
        let p : Entry → Bool = λ e. e.node == goal in
        let e = entry_there entries s.queue k g s.found.kept h in
        let l = slice_get_within entries k (entry_of g) e in
        elim (cases_lt (position_or_len p entries) (length entries)) [
          | inl lt ↦ none-some _ (at ∙ place_found p entries lt)
          | inr ge ↦ true≢false (sym (eq-eqb g.node goal n) ∙ ap p (sym (get_or_from_slice_get entries k (entry_of g) (entry_of g) e)) ∙ fails_before_first p entries k (entry_of g) (omega (arith, l, ge)))
        ]
