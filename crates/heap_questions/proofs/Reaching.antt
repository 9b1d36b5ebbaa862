-- What the registers reach, and what a search found.
use Rattle.std.proofs.Common.{◌≡◌, ℕ, zero, suc, ◌≤◌, Bool, true, false, List, [], ◌∷◌, ◌++◌, length, map, refl, sym, ap, ◌∙◌, subst, arith}
use Rattle.std.specs.Prelude.{slice_get, Option, Some, None, option_and_then, not, slice_index_or}
use Rattle.std.specs.Option.{option_map_or}
use Rattle.std.proofs.lemmas.Option.{none-some}
use Rattle.std.proofs.lemmas.Bool.{true≢false}
use Rattle.heap_class.specs.declared.ObjRef.{ObjRef}
use Rattle.heap_class.specs.declared.IdSize.{IdSize}
use Rattle.hprof_text.specs.Image.{Image, DumpedObject}
use Rattle.heap_questions.specs.Graph.{IsPathTo, IsUnreached, named, followed}
use Rattle.heap_questions.specs.Garbage.{IsGarbage, is_reached}
use Rattle.heap_questions.specs.Histogram.{rows_of, without_marked}
use Rattle.heap_questions.specs.Search.{AreNodes, AreReached, AreSeen, Found, IsFound, IsReachedBy, IsSearched, Register, Slot, Via, node_with}
use Rattle.heap_questions.specs.declared.nodes.Node.{Node}
use Rattle.heap_questions.specs.declared.rows.Row.{Row}
use Rattle.heap_questions.proofs.Counting.{unmarked_is_filter}
use Rattle.heap_questions.proofs.NodePlaces.{one_id}
use Rattle.heap_questions.proofs.TracedPaths.{any_path_found}

-- ---- a path to each that was found

then_some : {A : Type 0} (o : Option A) → option_and_then Some o ≡ o
then_some None = refl
then_some (Some x) = refl

-- one slot more
followed_push : (image : Image) (y : ℕ) (slots : List ℕ) (s : ℕ) → followed image y (slots ++ s ∷ []) ≡ option_and_then (λ z. named image z s) (followed image y slots)
followed_push image y [] s = then_some (named image y s)
followed_push image y (t ∷ ts) s = go (named image y t) (λ z. followed_push image z ts s)
  where
    go : (n : Option ℕ) → ((z : ℕ) → followed image z (ts ++ s ∷ []) ≡ option_and_then (λ z. named image z s) (followed image z ts)) → option_and_then (λ z. followed image z (ts ++ s ∷ [])) n ≡ option_and_then (λ z. named image z s) (option_and_then (λ z. followed image z ts) n)
    go None more = refl
    go (Some z) more = more z

-- from register r these slots lead to x
abbrev pub Leads : Image → ℕ → List ℕ → ℕ → Type 0
Leads image r slots x = option_and_then (λ y. followed image y slots) (slice_get image.registers r) ≡ Some x

pub leads_more : (image : Image) (r : ℕ) (slots : List ℕ) (x s y : ℕ) → Leads image r slots x → named image x s ≡ Some y → Leads image r (slots ++ s ∷ []) y
leads_more image r slots x s y l e = go (slice_get image.registers r) l
  where
    go : (n : Option ℕ) → option_and_then (λ z. followed image z slots) n ≡ Some x → option_and_then (λ z. followed image z (slots ++ s ∷ [])) n ≡ Some y
    go None h = absurd (none-some x h)
    go (Some z) h = followed_push image z slots s ∙ ap (option_and_then (λ x. named image x s)) h ∙ e

path_there : (image : Image) (queue : List Found) → AreReached image queue → (d k : ℕ) (f : Found) → slice_get queue k ≡ Some f → f.depth ≤ d → (r : ℕ) × (slots : List ℕ) × Leads image r slots f.id
path_there image queue a zero k f h l = go f.via (a k f h)
  where
    go : (via : Via) → IsReachedBy image queue f.id f.depth via → (r : ℕ) × (slots : List ℕ) × Leads image r slots f.id
    go (Register r) e = (r, [], ap (option_and_then (λ y. followed image y [])) e.1)
    go (Slot s parent) e = absurd (omega (arith, e.2, l))
path_there image queue a (suc d) k f h l = go f.via (a k f h) (λ j p e m. path_there image queue a d j p e m)
  where
    go : (via : Via) → IsReachedBy image queue f.id f.depth via → ((j : ℕ) (p : Found) → slice_get queue j ≡ Some p → p.depth ≤ d → (r : ℕ) × (slots : List ℕ) × Leads image r slots p.id) → (r : ℕ) × (slots : List ℕ) × Leads image r slots f.id
    go (Register r) e rest = (r, [], ap (option_and_then (λ y. followed image y [])) e.1)
    go (Slot s parent) e rest =
        let b = rest parent e.0 e.1 (omega (arith, e.2, l)) in
        (b.0, b.1 ++ s ∷ [], leads_more image b.0 b.1 e.0.id s f.id b.2 e.3)

pub path_to_found : (image : Image) (queue : List Found) (k : ℕ) (f : Found) → IsSearched image queue → slice_get queue k ≡ Some f → (r : ℕ) × (slots : List ℕ) × IsPathTo image r slots f.id
path_to_found image queue k f s h =
    let p = path_there image queue (s 0).reached f.depth k f h (omega arith) in
    (p.0, p.1, record { there = (s 0).objects k f h; leads = p.2 })

-- ---- marks

pub reached_if_found : (nodes : List Node) (seen : List Bool) (queue : List Found) (x d : ℕ) → AreSeen nodes seen queue → IsFound queue x d → is_reached nodes seen x ≡ true
reached_if_found nodes seen queue x d a h =
    let e : node_with nodes x ≡ Some h.1.node = ap (node_with nodes) (sym h.3) ∙ a.placed h.0 h.1 h.2 in
    ap (λ (o : Option ℕ). option_map_or (λ j. slice_index_or seen j false) o false) e ∙ a.found h.0 h.1 h.2

pub found_if_reached : (nodes : List Node) (seen : List Bool) (queue : List Found) (x : ℕ) → AreSeen nodes seen queue → is_reached nodes seen x ≡ true → (k : ℕ) × (f : Found) × (slice_get queue k ≡ Some f) × (f.id ≡ x)
found_if_reached nodes seen queue x a h = go (node_with nodes x) refl h
  where
    go : (o : Option ℕ) → node_with nodes x ≡ o → option_map_or (λ j. slice_index_or seen j false) o false ≡ true → (k : ℕ) × (f : Found) × (slice_get queue k ≡ Some f) × (f.id ≡ x)
    go None e t = absurd (true≢false (sym t))
    go (Some j) e t =
        let m = a.marked j t in
        (m.0, m.1, m.2, one_id nodes m.1.id x j (a.placed m.0 m.1 m.2 ∙ ap Some m.3) e)

-- an id is marked exactly if a register reaches it
pub unreached_is : (image : Image) (nodes : List Node) (seen : List Bool) (queue : List Found) (x : ℕ) → IsSearched image queue → AreSeen nodes seen queue → ((not (is_reached nodes seen x) ≡ true) → IsUnreached image x) × (IsUnreached image x → not (is_reached nodes seen x) ≡ true)
unreached_is image nodes seen queue x s a = (
  λ n r slots p. absurd (true≢false (sym n ∙ ap not (reached_if_found nodes seen queue x (length slots) a (any_path_found image queue r slots x s p)))),
  λ u. go (is_reached nodes seen x) refl u,
)
  where
    go : (b : Bool) → is_reached nodes seen x ≡ b → IsUnreached image x → not b ≡ true
    go true e u =
        let f = found_if_reached nodes seen queue x a e in
        let p = path_to_found image queue f.0 f.1 s f.2 in
        absurd (u p.0 p.1 (subst (IsPathTo image p.0 p.1) f.3 p.2))
    go false e u = refl

pub of_ids : (f : ℕ → Bool) (nodes : List Node) → map (λ n. f n.id) nodes ≡ map f (map (λ n. n.id) nodes)
of_ids f [] = refl
of_ids f (n ∷ ns) = ap (λ (bs : List Bool). f n.id ∷ bs) (of_ids f ns)

-- the rows of the objects that aren't marked are those of the garbage
pub is_garbage : (ids : IdSize) (image : Image) (places : List ObjRef) (nodes : List Node) (seen : List Bool) (queue : List Found) (marks : List Bool) (rows : List Row) → AreNodes image places nodes → IsSearched image queue → AreSeen nodes seen queue
    → marks ≡ map (λ n. is_reached nodes seen n.id) nodes → rows ≡ rows_of ids image.classes (without_marked marks image.objects) → IsGarbage ids image rows
is_garbage ids image places nodes seen queue marks rows n s a m e =
    let f : ℕ → Bool = is_reached nodes seen in
    let t : DumpedObject → Bool = λ o. not (f o.id) in
    let same : marks ≡ map f (map (λ o. o.id) image.objects) = m ∙ of_ids f nodes ∙ ap (map f) n.ids in (
      t,
      λ o c. unreached_is image nodes seen queue o.id s a,
      e ∙ ap (λ bs. rows_of ids image.classes (without_marked bs image.objects)) same ∙ ap (rows_of ids image.classes) (unmarked_is_filter f image.objects),
    )
