-- Shortest ways, by the distances of all objects.
use Rattle.std.proofs.Common.{◌≡◌, ◌≢◌, ℕ, suc, ◌+◌, ◌<◌, ◌≤◌, List, [], ◌∷◌, ◌++◌, length, Option, Some, None, refl, sym, ap, ◌∙◌, subst, inl, inr, arith, append_assoc}
use Rattle.std.specs.Prelude.{IsSome, option_and_then, slice_get}
use Rattle.std.proofs.lemmas.Bool.{cases_eq, cases_lt}
use Rattle.std.proofs.lemmas.List.{append-nil}
use Rattle.std.proofs.lemmas.Option.{none-some, same_Some, slice_get_within}
use Rattle.hprof_text.specs.Image.{DumpedObject, Image}
use Rattle.heap_questions.specs.Distances.{AreDistances, GoesOnTo, HasNearer, IsFirstNearer, IsFirstWay, IsNearestOf, far}
use Rattle.heap_questions.specs.Graph.{AreAtMost, HasId, IsFirstPath, IsPathTo, IsShortest, IsUnreached, followed, named}
use Rattle.heap_questions.specs.Hops.{slots_of}
use Rattle.heap_questions.specs.Search.{with_registers}
use Rattle.heap_questions.specs.declared.nearest.Start.{Start}
use Rattle.heap_questions.specs.declared.paths.Hop.{Hop}
use Rattle.heap_questions.proofs.OtherRegisters.{same_object_with}
use Rattle.heap_questions.proofs.Starting.{same_followed}

-- ---- distances

-- no way is shorter than the distance, and what a way leads from is near
pub no_shorter : (image : Image) (d : ℕ → ℕ) (x : ℕ) (slots : List ℕ) (y : ℕ) → AreDistances image d x → followed image y slots ≡ Some x → (d y ≤ length slots) × (d y < far)
no_shorter image d x [] y a e =
    let zero : d y ≡ 0 = (a y).goal (same_Some y x e) in
    (omega (arith, zero), omega (arith, zero))
no_shorter image d x (s ∷ ss) y a e = go (λ z h. no_shorter image d x ss z a h) (named image y s) refl e
  where
    go : ((z : ℕ) → followed image z ss ≡ Some x → (d z ≤ length ss) × (d z < far)) → (o : Option ℕ) → named image y s ≡ o → option_and_then (λ z. followed image z ss) o ≡ Some x → (d y ≤ suc (length ss)) × (d y < far)
    go on None m h = absurd (none-some x h)
    go on (Some z) m h =
        let b = on z h in
        let near : d y ≤ d z + 1 = (a y).least s z m in
        let room : d z + 1 ≢ far = (a z).room in
        (omega (arith, b.0, near), omega (arith, b.1, near, room))

-- only x itself has the distance 0
pub at_goal : (image : Image) (d : ℕ → ℕ) (x y : ℕ) → AreDistances image d x → d y ≡ 0 → y ≡ x
at_goal image d x y a e = elim (cases_eq y x) [
  | inl same ↦ same
  | inr other ↦ absurd (further ((a y).near other (omega (arith, e))))
]
  where
    further : HasNearer image d y → ⊥
    further n = absurd (omega (arith, e, n.3))

-- ---- step by step

pub way_ends : (image : Image) (d : ℕ → ℕ) (x : ℕ) → AreDistances image d x → IsFirstWay image d x x []
way_ends image d x a = record { leads = refl; ids = tt; long = sym ((a x).goal refl); first = λ others e l. tt }

first_after : (image : Image) (d : ℕ → ℕ) (x y : ℕ) (h : Hop) (rest : List Hop) (others : List ℕ) → AreDistances image d x → IsFirstNearer d (named image y) (d y) (Some h) → IsFirstWay image d h.to x rest → followed image y others ≡ Some x → length others ≡ d y → AreAtMost (h.slot ∷ slots_of rest) others
first_after image d x y h rest [] a n w e l = absurd (let step = n.1 in omega (arith, l, step))
first_after image d x y h rest (t ∷ ts) a n w e l = go (named image y t) refl e
  where
    long : suc (length ts) ≡ d y
    long = l

    go : (o : Option ℕ) → named image y t ≡ o → option_and_then (λ z. followed image z ts) o ≡ Some x → AreAtMost (h.slot ∷ slots_of rest) (t ∷ ts)
    go None m k = absurd (none-some x k)
    go (Some z) m k =
        let b = no_shorter image d x ts z a k in
        let near : d y ≤ d z + 1 = (a y).least t z m in
        let step : d h.to + 1 ≡ d y = n.1 in
        let here : d z + 1 ≡ d y = omega (arith, b.0, near, long) in
        elim (cases_lt t h.slot) [
          | inl lt ↦ absurd (n.2 t z lt m here)
          | inr ge ↦ elim (cases_eq h.slot t) [
            | inl same ↦
                let to : h.to ≡ z = same_Some h.to z (sym n.0 ∙ ap (named image y) same ∙ m) in
                inr (same, w.first ts (subst (λ v. followed image v ts ≡ Some x) (sym to) k) (omega (arith, long, step)))
            | inr other ↦ inl (omega (arith, ge, other))
          ]
        ]

-- a step more at its beginning
pub way_more : (image : Image) (d : ℕ → ℕ) (x y : ℕ) (h : Hop) (rest : List Hop) → AreDistances image d x → IsFirstNearer d (named image y) (d y) (Some h) → IsFirstWay image d h.to x rest → IsFirstWay image d y x (h ∷ rest)
way_more image d x y h rest a n w =
    let step : d h.to + 1 ≡ d y = n.1 in
    record {
      leads = ap (option_and_then (λ z. followed image z (slots_of rest))) n.0 ∙ w.leads;
      ids = (n.0, w.ids);
      long = ap suc w.long ∙ (let e : suc (d h.to) ≡ d y = omega (arith, step) in e);
      first = λ others e l. first_after image d x y h rest others a n w e l;
    }

-- the steps that were added lead on, and `left` steps are left from where they lead
pub record IsPartOfWay (image : Image) (d : ℕ → ℕ) (start x : ℕ) (old hops : List Hop) (here left : ℕ) : Type 0 where
  pub done : List Hop
  pub added : hops ≡ old ++ done
  pub left_over : d here ≡ left
  pub near : left < far
  pub on : (rest : List Hop) → IsFirstWay image d here x rest → IsFirstWay image d start x (done ++ rest)

pub part_begins : (image : Image) (d : ℕ → ℕ) (start x left : ℕ) (old : List Hop) → left ≡ d start → d start < far → IsPartOfWay image d start x old old start left
part_begins image d start x left old e l = record { done = []; added = sym (append-nil old); left_over = sym e; near = omega (arith, e, l); on = λ rest w. w }

pub part_more : (image : Image) (d : ℕ → ℕ) (start x here left less : ℕ) (old hops new : List Hop) (h : Hop) → AreDistances image d x → IsPartOfWay image d start x old hops here left → IsFirstNearer d (named image here) left (Some h) → new ≡ hops ++ h ∷ [] → less + 1 ≡ left → IsPartOfWay image d start x old new h.to less
part_more image d start x here left less old hops new h a p n e l =
    let step : d h.to + 1 ≡ left = n.1 in
    let near = p.near in
    let from : IsFirstNearer d (named image here) (d here) (Some h) = subst (λ k. IsFirstNearer d (named image here) k (Some h)) (sym p.left_over) n in
    record {
      done = p.done ++ h ∷ [];
      added = e ∙ ap (λ (hs : List Hop). hs ++ h ∷ []) p.added ∙ append_assoc old p.done (h ∷ []);
      left_over = omega (arith, step, l);
      near = omega (arith, near, l);
      on = λ rest w. subst (IsFirstWay image d start x) (sym (append_assoc p.done (h ∷ []) rest)) (p.on (h ∷ rest) (way_more image d x here h rest a from w));
    }

pub part_ends : (image : Image) (d : ℕ → ℕ) (start x here left : ℕ) (old hops : List Hop) → AreDistances image d x → IsPartOfWay image d start x old hops here left → left ≡ 0 → GoesOnTo image d start x old hops
part_ends image d start x here left old hops a p e =
    let same : here ≡ x = at_goal image d x here a (p.left_over ∙ e) in
    (p.done, p.added, subst (IsFirstWay image d start x) (append-nil p.done) (p.on [] (subst (λ y. IsFirstWay image d y x []) (sym same) (way_ends image d x a))))

-- some slot leads nearer from each place but the last
pub goes_on_nearer : (image : Image) (d : ℕ → ℕ) (start x here left : ℕ) (old hops : List Hop) → AreDistances image d x → IsPartOfWay image d start x old hops here left → 0 < left → ¬ IsFirstNearer d (named image here) left None
goes_on_nearer image d start x here left old hops a p some n =
    let over = p.left_over in
    let near = p.near in
    nearer ((a here).near (λ same. absurd (let zero = (a here).goal same in omega (arith, zero, over, some))) (omega (arith, over, near)))
  where
    nearer : HasNearer image d here → ⊥
    nearer m = n m.0 m.1 m.2 (sym m.3 ∙ p.left_over)

-- ---- from the nearest start

-- what a path from a register follows
leads_from : (image : Image) (registers : List ℕ) (q : ℕ) (others : List ℕ) (x : ℕ) → IsPathTo (with_registers image registers) q others x → (z : ℕ) × (slice_get registers q ≡ Some z) × (followed image z others ≡ Some x)
leads_from image registers q others x p = go (slice_get registers q) refl p.leads
  where
    go : (o : Option ℕ) → slice_get registers q ≡ o → option_and_then (λ y. followed (with_registers image registers) y others) o ≡ Some x → (z : ℕ) × (slice_get registers q ≡ Some z) × (followed image z others ≡ Some x)
    go None m h = absurd (none-some x h)
    go (Some z) m h = (z, m, sym (same_followed image registers others z) ∙ h)

pub nearest_path : (image : Image) (registers : List ℕ) (d : ℕ → ℕ) (x : ℕ) (b : Start) (way : List Hop) → AreDistances image d x → HasId image x → IsNearestOf d registers (length registers) (Some b) → IsFirstWay image d b.id x way
    → IsPathTo (with_registers image registers) b.number (slots_of way) x × IsShortest (with_registers image registers) (slots_of way) x × IsFirstPath (with_registers image registers) b.number (slots_of way) x
nearest_path image registers d x b way a there n w = (
  record {
    there = subst (λ (o : Option DumpedObject). IsSome o) (sym (same_object_with image registers x)) there;
    leads = ap (option_and_then (λ y. followed (with_registers image registers) y (slots_of way))) n.1 ∙ same_followed image registers (slots_of way) b.id ∙ w.leads;
  },
  λ q others p.
      let l = leads_from image registers q others x p in
      let least = no_shorter image d x others l.0 a l.2 in
      let long : length (slots_of way) ≡ b.distance = w.long ∙ n.2 in
      elim (n.4 q l.0 (slice_get_within registers q l.0 l.1) l.1 least.1) [
        | inl lt ↦ omega (arith, lt, least.0, long)
        | inr le ↦ omega (arith, le.0, least.0, long)
      ],
  λ q others p many.
      let l = leads_from image registers q others x p in
      let least = no_shorter image d x others l.0 a l.2 in
      let long : length (slots_of way) ≡ b.distance = w.long ∙ n.2 in
      elim (n.4 q l.0 (slice_get_within registers q l.0 l.1) l.1 least.1) [
        | inl lt ↦ absurd (omega (arith, lt, least.0, long, many))
        | inr le ↦ elim (cases_eq b.number q) [
          | inr other ↦ inl (let at = le.1 in omega (arith, at, other))
          | inl same ↦
              let to : b.id ≡ l.0 = same_Some b.id l.0 (sym n.1 ∙ ap (slice_get registers) same ∙ l.1) in
              inr (same, w.first others (subst (λ v. followed image v others ≡ Some x) (sym to) l.2) (many ∙ w.long))
        ]
      ],
)

pub none_near : (image : Image) (registers : List ℕ) (d : ℕ → ℕ) (x : ℕ) → AreDistances image d x → IsNearestOf d registers (length registers) None → IsUnreached (with_registers image registers) x
none_near image registers d x a n r slots p =
    let l = leads_from image registers r slots x p in
    let least = no_shorter image d x slots l.0 a l.2 in
    let past = n r l.0 (slice_get_within registers r l.0 l.1) l.1 in
    absurd (omega (arith, least.1, past))
