-- Of all shortest paths a search finds the first by register, then by slot.
use Rattle.std.proofs.Common.{◌≡◌, ◌⊎◌, ℕ, zero, suc, ◌<◌, ◌≤◌, List, [], ◌∷◌, ◌++◌, length, Option, Some, None, refl, sym, ap, ap₂, ◌∙◌, subst, inl, inr, arith}
use Rattle.std.specs.Prelude.{option_and_then, reverse, slice_get}
use Rattle.std.proofs.lemmas.Bool.{cases_lt}
use Rattle.std.proofs.lemmas.List.{length-reverse, reverse-append, reverse-reverse}
use Rattle.std.proofs.lemmas.Option.{none-some, same_Some}
use Rattle.hprof_text.specs.Image.{Image}
use Rattle.heap_questions.specs.Graph.{AreAtMost, HasId, IsPathTo, followed, named}
use Rattle.heap_questions.specs.Search.{AreReached, Earlier, Found, HasSearchOrder, IsFound, IsOrdered, IsReachedBy, IsSearchedTo, IsWayBack, LeadsBy, Register, Slot, Via}
use Rattle.heap_questions.proofs.LongerLists.{got_same}
use Rattle.heap_questions.proofs.TracedPaths.{named_object}

-- ---- paths by their length, then by register, then by slot

-- a register and slots, the last first, come before others
abbrev Before : ℕ → List ℕ → ℕ → List ℕ → Type 0
Before r [] q [] = r < q
Before r [] q (t ∷ c) = Unit {0}
Before r (s ∷ b) q [] = ⊥
Before r (s ∷ b) q (t ∷ c) = Before r b q c ⊎ ((r ≡ q) × (b ≡ c) × (s < t))

abbrev AtMost : ℕ → List ℕ → ℕ → List ℕ → Type 0
AtMost r b q c = Before r b q c ⊎ ((r ≡ q) × (b ≡ c))

before_same : (r : ℕ) (b : List ℕ) (q p : ℕ) (c d : List ℕ) → q ≡ p → c ≡ d → Before r b q c → Before r b p d
before_same r b q p c d e f h = subst (λ k. Before r b k d) e (subst (λ (l : List ℕ). Before r b q l) f h)

same_before : (r q p : ℕ) (b c d : List ℕ) → r ≡ q → b ≡ c → Before q c p d → Before r b p d
same_before r q p b c d e f h = subst (λ k. Before k b p d) (sym e) (subst (λ (l : List ℕ). Before q l p d) (sym f) h)

before_before : (r : ℕ) (b : List ℕ) (q : ℕ) (c : List ℕ) (p : ℕ) (d : List ℕ) → Before r b q c → Before q c p d → Before r b p d
before_before r [] q [] p [] h k = omega (arith, h, k)
before_before r [] q c p (u ∷ d) h k = tt
before_before r [] q (t ∷ c) p [] h k = absurd k
before_before r (s ∷ b) q [] p d h k = absurd h
before_before r (s ∷ b) q (t ∷ c) p [] h k = absurd k
before_before r (s ∷ b) q (t ∷ c) p (u ∷ d) h k = elim h [
  | inl x ↦ elim k [
    | inl y ↦ inl (before_before r b q c p d x y)
    | inr y ↦ inl (before_same r b q p c d y.0 y.1 x)
  ]
  | inr x ↦ elim k [
    | inl y ↦ inl (same_before r q p b c d x.0 x.1 y)
    | inr y ↦ inr (x.0 ∙ y.0, x.1 ∙ y.1, omega (arith, x.2, y.2))
  ]
]

before_most : (r : ℕ) (b : List ℕ) (q : ℕ) (c : List ℕ) (p : ℕ) (d : List ℕ) → Before r b q c → AtMost q c p d → Before r b p d
before_most r b q c p d h (inl k) = before_before r b q c p d h k
before_most r b q c p d h (inr k) = before_same r b q p c d k.0 k.1 h

-- ---- chains

way_same : (queue : List Found) (k : ℕ) (f g : Found) (v w : Via) → slice_get queue k ≡ Some f → slice_get queue k ≡ Some g → f.via ≡ v → g.via ≡ w → v ≡ w
way_same queue k f g v w h i e m = sym e ∙ ap (λ (f : Found). f.via) (got_same queue k f g h i) ∙ m

-- what stands at a place has one chain
one_chain : (queue : List Found) (k r q : ℕ) (b c : List ℕ) → IsWayBack queue k r b → IsWayBack queue k q c → (r ≡ q) × (b ≡ c)
one_chain queue k r q [] [] h i = let e = way_same queue k h.0 i.0 (Register r) (Register q) h.1 i.1 h.2 i.2 in (cc, refl)
one_chain queue k r q [] (t ∷ c) h i = let e = way_same queue k h.0 i.0 (Register r) (Slot t i.1) h.1 i.2 h.2 i.3 in cc
one_chain queue k r q (s ∷ b) [] h i = let e = way_same queue k h.0 i.0 (Slot s h.1) (Register q) h.2 i.1 h.3 i.2 in cc
one_chain queue k r q (s ∷ b) (t ∷ c) h i =
    let e : Slot s h.1 ≡ Slot t i.1 = way_same queue k h.0 i.0 (Slot s h.1) (Slot t i.1) h.2 i.2 h.3 i.3 in
    let p : h.1 ≡ i.1 = cc in
    let same : s ≡ t = cc in
    let o = one_chain queue h.1 r q b c h.4 (subst (λ n. IsWayBack queue n q c) (sym p) i.4) in
    (o.0, ap₂ (λ (n : ℕ) (l : List ℕ). n ∷ l) same o.1)

-- what was found before has the chain that comes before
chains_rise : (image : Image) (queue : List Found) (next : Via) → IsOrdered image queue next → (b c : List ℕ) (i j r q : ℕ) → i < j → IsWayBack queue i r b → IsWayBack queue j q c → Before r b q c
chains_rise image queue next o [] [] i j r q l h k = subst (λ (v : Via). Earlier v (Register q)) h.2 (subst (λ (w : Via). Earlier h.0.via w) k.2 (o.sorted i j h.0 k.0 l h.1 k.1))
chains_rise image queue next o [] (t ∷ c) i j r q l h k = tt
chains_rise image queue next o (s ∷ b) [] i j r q l h k = subst (λ (v : Via). Earlier v (Register q)) h.3 (subst (λ (w : Via). Earlier h.0.via w) k.2 (o.sorted i j h.0 k.0 l h.2 k.1))
chains_rise image queue next o (s ∷ b) (t ∷ c) i j r q l h k = elim (subst (λ (v : Via). Earlier v (Slot t k.1)) h.3 (subst (λ (w : Via). Earlier h.0.via w) k.3 (o.sorted i j h.0 k.0 l h.2 k.2))) [
  | inl m ↦ inl (chains_rise image queue next o b c h.1 k.1 r q m h.4 k.4)
  | inr m ↦
      let e = one_chain queue h.1 r q b c h.4 (subst (λ n. IsWayBack queue n q c) (sym m.0) k.4) in
      inr (e.0, e.1, m.1)
]

-- each that was found has a chain
chain_there : (image : Image) (queue : List Found) → AreReached image queue → (d k : ℕ) (f : Found) → slice_get queue k ≡ Some f → f.depth ≤ d → (r : ℕ) × (b : List ℕ) × IsWayBack queue k r b
chain_there image queue s zero k f h l = go f.via refl (s k f h)
  where
    go : (via : Via) → f.via ≡ via → IsReachedBy image queue f.id f.depth via → (r : ℕ) × (b : List ℕ) × IsWayBack queue k r b
    go (Register r) e m = (r, [], (f, h, e))
    go (Slot t p) e m = absurd (omega (arith, m.2, l))
chain_there image queue s (suc d) k f h l = go f.via refl (s k f h) (λ j g i m. chain_there image queue s d j g i m)
  where
    go : (via : Via) → f.via ≡ via → IsReachedBy image queue f.id f.depth via → ((j : ℕ) (g : Found) → slice_get queue j ≡ Some g → g.depth ≤ d → (r : ℕ) × (b : List ℕ) × IsWayBack queue j r b) → (r : ℕ) × (b : List ℕ) × IsWayBack queue k r b
    go (Register r) e m rest = (r, [], (f, h, e))
    go (Slot t p) e m rest = let c = rest p m.0 m.1 (omega (arith, m.2, l)) in (c.0, t ∷ c.1, (f, p, h, e, c.2))

-- ---- any path

-- register q and these slots, the last first, lead to x
abbrev LeadsTo : Image → ℕ → List ℕ → ℕ → Type 0
LeadsTo image q [] x = slice_get image.registers q ≡ Some x
LeadsTo image q (t ∷ c) x = (z : ℕ) × LeadsTo image q c z × (named image z t ≡ Some x)

leads_found : (image : Image) (queue : List Found) (n : ℕ) → IsSearchedTo image queue n → (q : ℕ) (c : List ℕ) (x : ℕ) → length c < n → LeadsTo image q c x → HasId image x → IsFound queue x (length c)
leads_found image queue n s q [] x l h o = s.roots q x h o
leads_found image queue n s q (t ∷ c) x l h o =
    let k = leads_found image queue n s q c h.0 (omega (arith, l)) h.1 (named_object image h.0 t x h.2) in
    let m = s.closed k.0 k.1 (omega (arith, l, k.4)) k.2 t x (ap (λ y. named image y t) k.3 ∙ h.2) o in
    (m.0, m.1, m.2, m.3, omega (arith, m.4, k.4))

-- the chain of what was found comes before each path to it, or is that path
chain_first : (image : Image) (queue : List Found) (next : Via) (n : ℕ) → IsSearchedTo image queue n → IsOrdered image queue next → (q : ℕ) (c : List ℕ) (x : ℕ) → length c ≤ n → LeadsTo image q c x → HasId image x
    → (k : ℕ) (f : Found) (r : ℕ) (b : List ℕ) → slice_get queue k ≡ Some f → f.id ≡ x → IsWayBack queue k r b → AtMost r b q c
chain_first image queue next n s o q [] x l h there k f r [] g e i =
    let no : ¬ Earlier (Register q) (Register r) = subst (λ (v : Via). ¬ Earlier (Register q) v) (i.2) (o.first k i.0 (Register q) i.1 (subst (λ y. slice_get image.registers q ≡ Some y) (sym (ap (λ (f : Found). f.id) (got_same queue k i.0 f i.1 g) ∙ e)) h)) in
    elim (cases_lt q r) [
      | inl b ↦ absurd (no b)
      | inr b ↦ elim (cases_lt r q) [ inl m ↦ inl m | inr m ↦ inr (omega (arith, b, m), refl) ]
    ]
chain_first image queue next n s o q [] x l h there k f r (t ∷ b) g e i =
    absurd (subst (λ (v : Via). ¬ Earlier (Register q) v) i.3 (o.first k i.0 (Register q) i.2 (subst (λ y. slice_get image.registers q ≡ Some y) (sym (ap (λ (f : Found). f.id) (got_same queue k i.0 f i.2 g) ∙ e)) h)) tt)
chain_first image queue next n s o q (t ∷ c) x l h there k f r [] g e i = inl tt
chain_first image queue next n s o q (t ∷ c) x l h there k f r (u ∷ b) g e i =
    let z = h.0 in
    let object : HasId image z = named_object image z t x h.2 in
    let w = leads_found image queue n s q c z (omega (arith, l)) h.1 object in
    let p = w.0 in
    let chain = chain_there image queue s.reached w.1.depth p w.1 w.2 (omega arith) in
    let most = chain_first image queue next n s o q c z (omega (arith, l)) h.1 object p w.1 chain.0 chain.1 w.2 w.3 chain.2 in
    let lead : LeadsBy image queue (Slot t p) i.0.id =
    (w.1, w.2, ap (λ y. named image y t) w.3 ∙ h.2 ∙ ap Some (sym (ap (λ (f : Found). f.id) (got_same queue k i.0 f i.2 g) ∙ e))) in
    let no : ¬ Earlier (Slot t p) (Slot u i.1) = subst (λ (v : Via). ¬ Earlier (Slot t p) v) i.3 (o.first k i.0 (Slot t p) i.2 lead) in
    elim (cases_lt p i.1) [
      | inl l ↦ absurd (no (inl l))
      | inr l ↦ elim (cases_lt i.1 p) [
        | inl m ↦ inl (inl (before_most r b chain.0 chain.1 q c (chains_rise image queue next o b chain.1 i.1 p r chain.0 m i.4 chain.2) most))
        | inr m ↦
            let same : i.1 ≡ p = omega (arith, l, m) in
            let one = one_chain queue i.1 r chain.0 b chain.1 i.4 (subst (λ n. IsWayBack queue n chain.0 chain.1) (sym same) chain.2) in
            by_slot u one (λ v. no (inr (sym same, v))) most
      ]
    ]
  where
    by_slot : {r2 : ℕ} {b2 : List ℕ} (u : ℕ) → (r ≡ r2) × (b ≡ b2) → (t < u → ⊥) → AtMost r2 b2 q c → AtMost r (u ∷ b) q (t ∷ c)
    by_slot u one never (inl m) = inl (inl (same_before r _ q b _ c one.0 one.1 m))
    by_slot u one never (inr m) = elim (cases_lt u t) [
      | inl l ↦ inl (inr (one.0 ∙ m.0, one.1 ∙ m.1, l))
      | inr l ↦ elim (cases_lt t u) [
        | inl v ↦ absurd (never v)
        | inr v ↦ let e : u ≡ t = omega (arith, l, v) in inr (one.0 ∙ m.0, ap₂ (λ (n : ℕ) (k : List ℕ). n ∷ k) e (one.1 ∙ m.1))
      ]
    ]

-- ---- in the order in which a path is walked

abbrev AreLower : List ℕ → List ℕ → Type 0
AreLower [] ys = ⊥
AreLower (x ∷ xs) [] = ⊥
AreLower (x ∷ xs) (y ∷ ys) = (x < y) ⊎ ((x ≡ y) × AreLower xs ys)

lower_more : (xs ys ms ns : List ℕ) → AreLower xs ys → AreLower (xs ++ ms) (ys ++ ns)
lower_more [] ys ms ns h = absurd h
lower_more (x ∷ xs) [] ms ns h = absurd h
lower_more (x ∷ xs) (y ∷ ys) ms ns h = elim h [ inl l ↦ inl l | inr l ↦ inr (l.0, lower_more xs ys ms ns l.1) ]

lower_last : (xs : List ℕ) (s t : ℕ) → s < t → AreLower (xs ++ s ∷ []) (xs ++ t ∷ [])
lower_last [] s t l = inl l
lower_last (x ∷ xs) s t l = inr (refl, lower_last xs s t l)

lower_most : (xs ys : List ℕ) → AreLower xs ys → AreAtMost xs ys
lower_most [] ys h = absurd h
lower_most (x ∷ xs) [] h = absurd h
lower_most (x ∷ xs) (y ∷ ys) h = elim h [ inl l ↦ inl l | inr l ↦ inr (l.0, lower_most xs ys l.1) ]

same_most : (xs : List ℕ) → AreAtMost xs xs
same_most [] = tt
same_most (x ∷ xs) = inr (refl, same_most xs)

reverse_of_longer_path : (r s : ℕ) (b : List ℕ) → r ∷ reverse (s ∷ b) ≡ (r ∷ reverse b) ++ s ∷ []
reverse_of_longer_path r s b = ap (λ (l : List ℕ). r ∷ l) (reverse-append (s ∷ []) b)

lower_turned : (r : ℕ) (b : List ℕ) (q : ℕ) (c : List ℕ) → length b ≡ length c → Before r b q c → AreLower (r ∷ reverse b) (q ∷ reverse c)
lower_turned r [] q [] e h = inl h
lower_turned r [] q (t ∷ c) e h = absurd (omega (arith, e))
lower_turned r (s ∷ b) q [] e h = absurd h
lower_turned r (s ∷ b) q (t ∷ c) e h =
    subst (λ (l : List ℕ). AreLower l (q ∷ reverse (t ∷ c))) (sym (reverse_of_longer_path r s b)) (subst (λ (l : List ℕ). AreLower ((r ∷ reverse b) ++ s ∷ []) l) (sym (reverse_of_longer_path q t c)) (elim h [
      | inl m ↦ lower_more (r ∷ reverse b) (q ∷ reverse c) (s ∷ []) (t ∷ []) (lower_turned r b q c (omega (arith, e)) m)
      | inr m ↦
          let same : r ∷ reverse b ≡ q ∷ reverse c = ap₂ (λ (n : ℕ) (l : List ℕ). n ∷ reverse l) m.0 m.1 in
          subst (λ (l : List ℕ). AreLower ((r ∷ reverse b) ++ s ∷ []) (l ++ t ∷ [])) same (lower_last (r ∷ reverse b) s t m.2)
    ]))

most_turned : (r : ℕ) (b : List ℕ) (q : ℕ) (c : List ℕ) → length b ≡ length c → AtMost r b q c → AreAtMost (r ∷ reverse b) (q ∷ reverse c)
most_turned r b q c e (inl h) = lower_most (r ∷ reverse b) (q ∷ reverse c) (lower_turned r b q c e h)
most_turned r b q c e (inr h) = subst (AreAtMost (r ∷ reverse b)) (ap₂ (λ (n : ℕ) (l : List ℕ). n ∷ reverse l) h.0 h.1) (same_most (r ∷ reverse b))

-- ---- a path as it is given

-- slots that lead on from where others lead
slots_lead_further : (image : Image) (q : ℕ) (slots c : List ℕ) (y x : ℕ) → LeadsTo image q c y → followed image y slots ≡ Some x → LeadsTo image q (reverse slots ++ c) x
slots_lead_further image q [] c y x h e = subst (LeadsTo image q c) (same_Some y x e) h
slots_lead_further image q (s ∷ ss) c y x h e = go (named image y s) refl e (λ z l f. slots_lead_further image q ss (s ∷ c) z x l f)
  where
    again : reverse ss ++ s ∷ c ≡ reverse (s ∷ ss) ++ c
    again = sym (append_more (reverse ss) s c) ∙ ap (λ (l : List ℕ). l ++ c) (sym (reverse-append (s ∷ []) ss))
      where
        append_more : (xs : List ℕ) (s : ℕ) (c : List ℕ) → (xs ++ s ∷ []) ++ c ≡ xs ++ s ∷ c
        append_more [] s c = refl
        append_more (x ∷ xs) s c = ap (λ (l : List ℕ). x ∷ l) (append_more xs s c)

    go : (n : Option ℕ) → named image y s ≡ n → option_and_then (λ z. followed image z ss) n ≡ Some x → ((z : ℕ) → LeadsTo image q (s ∷ c) z → followed image z ss ≡ Some x → LeadsTo image q (reverse ss ++ s ∷ c) x) → LeadsTo image q (reverse (s ∷ ss) ++ c) x
    go None f k rest = absurd (none-some x k)
    go (Some z) f k rest = subst (λ (l : List ℕ). LeadsTo image q l x) again (rest z (y, h, f) k)

leads_to : (image : Image) (q : ℕ) (slots : List ℕ) (x : ℕ) → IsPathTo image q slots x → LeadsTo image q (reverse slots) x
leads_to image q slots x p = go (slice_get image.registers q) refl p.leads
  where
    no_more : (xs : List ℕ) → xs ++ [] ≡ xs
    no_more [] = refl
    no_more (x ∷ xs) = ap (λ (l : List ℕ). x ∷ l) (no_more xs)

    go : (n : Option ℕ) → slice_get image.registers q ≡ n → option_and_then (λ y. followed image y slots) n ≡ Some x → LeadsTo image q (reverse slots) x
    go None e h = absurd (none-some x h)
    go (Some y) e h = subst (λ (l : List ℕ). LeadsTo image q l x) (no_more (reverse slots)) (slots_lead_further image q slots [] y x e h)

-- the way on which an object was found is the first of all with as many slots
pub found_first : (image : Image) (queue : List Found) (k : ℕ) (f : Found) (r : ℕ) (slots : List ℕ) (x : ℕ) → IsSearchedTo image queue (length slots) → HasSearchOrder image queue → slice_get queue k ≡ Some f → f.id ≡ x → IsWayBack queue k r (reverse slots)
    → (q : ℕ) (others : List ℕ) → IsPathTo image q others x → length others ≡ length slots → AreAtMost (r ∷ slots) (q ∷ others)
found_first image queue k f r slots x s o g e i q others p n =
    let m = chain_first image queue o.0 (length slots) s o.1 q (reverse others) x (omega (arith, length-reverse others, n)) (leads_to image q others x p) p.there k f r (reverse slots) g e i in
    let many : length (reverse slots) ≡ length (reverse others) = length-reverse slots ∙ sym n ∙ sym (length-reverse others) in
    let turn = most_turned r (reverse slots) q (reverse others) many m in
    subst (λ (l : List ℕ). AreAtMost (r ∷ slots) (q ∷ l)) (reverse-reverse others) (subst (λ (l : List ℕ). AreAtMost (r ∷ l) (q ∷ reverse (reverse others))) (reverse-reverse slots) turn)
