-- Finding a node by halves.
use Rattle.std.proofs.Common.{◌≡◌, ◌≢◌, ℕ, ◌+◌, ◌-◌, ◌<◌, ◌≤◌, true, false, ltb, ltb-true, ltb-false, cond, List, length, get_or, sym, ap, ◌∙◌, inl, inr, arith}
use Rattle.std.specs.Prelude.{slice_get, Some, None, ◌==◌}
use Rattle.std.specs.List.{AllWithin, position_or_len}
use Rattle.std.specs.List.Sorted.{IsNonDecreasingBy}
use Rattle.std.proofs.lemmas.Option.{slice_get_within, slice_get-get_or, get_or_from_slice_get}
use Rattle.std.proofs.lemmas.List.Sums.{position_or_len_is}
use Rattle.std.proofs.lemmas.Bool.{cases_eq, eq-eqb, ne_eqb, le-ltb, cases_lt}
use Rattle.heap_questions.specs.Search.{AreSmallerBefore, AreFrom, AreRising, node_with}
use Rattle.heap_questions.specs.declared.nodes.Node.{Node}
use Rattle.heap_questions.proofs.LongerLists.{got_same}
use Rattle.heap_questions.proofs.NodePlaces.{place_found}

-- the first n nodes rise
abbrev pub AreRisingTo : List Node → ℕ → Type 0
AreRisingTo nodes n = (i j : ℕ) (a b : Node) → i ≤ j → j < n → slice_get nodes i ≡ Some a → slice_get nodes j ≡ Some b → a.id ≤ b.id

pub rising_one : (nodes : List Node) → AreRisingTo nodes 1
rising_one nodes i j a b l m p q =
    let z : i ≡ j = omega (arith, l, m) in
    let e : a ≡ b = got_same nodes j a b (ap (slice_get nodes) (sym z) ∙ p) q in
    let d : a.id ≡ b.id = ap (λ (n : Node). n.id) e in
    omega (arith, d)

pub rising_more : (nodes : List Node) (i : ℕ) (d : Node) → 1 ≤ i → i < length nodes → AreRisingTo nodes i → (get_or nodes (i - 1) d).id ≤ (get_or nodes i d).id → AreRisingTo nodes (i + 1)
rising_more nodes i d one lt h le j k a b l m p q =
    elim (cases_eq k i) [
      | inl z ↦
          let be : get_or nodes i d ≡ b = ap (λ n. get_or nodes n d) (sym z) ∙ get_or_from_slice_get nodes k b d q in
          let bd : (get_or nodes i d).id ≡ b.id = ap (λ (n : Node). n.id) be in
          elim (cases_eq j i) [
            | inl y ↦
                let ae : get_or nodes i d ≡ a = ap (λ n. get_or nodes n d) (sym y) ∙ get_or_from_slice_get nodes j a d p in
                let ad : (get_or nodes i d).id ≡ a.id = ap (λ (n : Node). n.id) ae in
                omega (arith, ad, bd)
            | inr y ↦
                let w = h j (i - 1) a (get_or nodes (i - 1) d) (omega (arith, l, y, z)) (omega (arith, one)) p (slice_get-get_or nodes (i - 1) d (omega (arith, lt, one))) in
                omega (arith, w, le, bd)
          ]
      | inr z ↦ h j k a b l (omega (arith, m, z)) p q
    ]

pub rising_all : (nodes : List Node) (n : ℕ) → length nodes ≤ n → AreRisingTo nodes n → AreRising nodes
rising_all nodes n l h i j a b le p q = h i j a b le (omega (arith, l, slice_get_within nodes j b q)) p q

-- ---- halves

node_before_bound_differs : (nodes : List Node) (first x k : ℕ) (d : Node) → AreSmallerBefore nodes first x → first ≤ length nodes → k < first → ((get_or nodes k d).id == x) ≡ false
node_before_bound_differs nodes first x k d b l lt =
    let h = b k (get_or nodes k d) lt (slice_get-get_or nodes k d (omega (arith, l, lt))) in
    ne_eqb _ x (λ e. absurd (omega (arith, h, e)))

pub found_by_halves : (nodes : List Node) (first x : ℕ) (d : Node) → AreSmallerBefore nodes first x → first < length nodes → (get_or nodes first d).id ≡ x → Some first ≡ node_with nodes x
found_by_halves nodes first x d b l e =
    let at : position_or_len (λ n. n.id == x) nodes ≡ first = position_or_len_is (λ n. n.id == x) nodes first d (omega (arith, l)) (λ k h. node_before_bound_differs nodes first x k d b (omega (arith, l)) h) (λ h. eq-eqb _ x e) in
    sym (place_found (λ n. n.id == x) nodes (omega (arith, at, l)) ∙ ap Some at)

pub none_by_halves : (nodes : List Node) (first x : ℕ) (d : Node) → AreSmallerBefore nodes first x → AreFrom nodes first x → first ≤ length nodes → (first < length nodes → (get_or nodes first d).id ≢ x) → AreRising nodes → None ≡ node_with nodes x
none_by_halves nodes first x d b f l ne r =
    let at : position_or_len (λ n. n.id == x) nodes ≡ length nodes = position_or_len_is (λ n. n.id == x) nodes (length nodes) d (omega arith) (λ k h. elim (cases_lt k first) [
      | inl lt ↦ node_before_bound_differs nodes first x k d b l lt
      | inr ge ↦
          let here = slice_get-get_or nodes first d (omega (arith, h, ge)) in
          let w = r first k (get_or nodes first d) (get_or nodes k d) ge here (slice_get-get_or nodes k d h) in
          let g = f first (get_or nodes first d) (omega arith) here in
          ne_eqb _ x (λ e. ne (omega (arith, h, ge)) (omega (arith, w, g, e)))
    ]) (λ h. absurd (omega (arith, h))) in
    sym (ap (λ b. cond b (Some (position_or_len (λ n. n.id == x) nodes)) None) (le-ltb _ _ (omega (arith, at))))

-- rising nodes have rising ids
pub rising_ids : (nodes : List Node) → AreRising nodes → IsNonDecreasingBy (λ (n : Node). n.id) nodes
rising_ids nodes r i j d l w = r i j (get_or nodes i d) (get_or nodes j d) l (slice_get-get_or nodes i d (omega (arith, l, w))) (slice_get-get_or nodes j d w)

pub smaller_before : (nodes : List Node) (i x : ℕ) → AllWithin (λ (n : Node). ltb n.id x ≡ true) nodes 0 i → AreSmallerBefore nodes i x
smaller_before nodes i x h k n l e =
    let same : (get_or nodes k n).id ≡ n.id = ap (λ (m : Node). m.id) (get_or_from_slice_get nodes k n n e) in
    omega (arith, same, ltb-true _ _ (h k n (omega arith) l))

pub from_there : (nodes : List Node) (i x : ℕ) → AllWithin (λ (n : Node). ltb n.id x ≡ false) nodes i (length nodes) → AreFrom nodes i x
from_there nodes i x h k n l e =
    let same : (get_or nodes k n).id ≡ n.id = ap (λ (m : Node). m.id) (get_or_from_slice_get nodes k n n e) in
    omega (arith, same, ltb-false _ _ (h k n l (slice_get_within nodes k n e)))
