-- The nearest starts in order, and the first of them that isn't used.
use Rattle.std.proofs.Common.{◌≡◌, ◌≢◌, ◌⊎◌, ℕ, suc, zero, ◌+◌, ◌*◌, ◌/◌, ◌%◌, ◌<◌, ◌≤◌, Bool, true, false, cond, eqb, leb, get_or, List, [], ◌∷◌, length, ltb-true, ltb-false, map, take, Option, Some, None, refl, sym, ap, ◌∙◌, subst, inl, inr, arith}
use Rattle.std.specs.Prelude.{◌||◌, find, nat_lt, not, slice_get, unwrap_or}
use Rattle.std.specs.List.{AllByRecursion, IsDistinct, insert, list_any, position_or_len}
use Rattle.std.specs.List.Sorted.{IsNonDecreasingBy, IsPartitionPoint}
use Rattle.std.proofs.lemmas.Bool.{cases_Bool, cases_lt, eqb-true, eq-eqb, le-ltb, leb-true, lt-ltb, ne_eqb, true≢false}
use Rattle.std.proofs.lemmas.Bool.Decides.{leb_tells}
use Rattle.std.proofs.lemmas.List.Sums.{position_or_len_is}
use Rattle.std.proofs.lemmas.List.{length-map, length-take-le}
use Rattle.std.proofs.lemmas.Cmp.{nat_eq_equiv}
use Rattle.std.proofs.lemmas.Map.Keys.{IsDistinct-cons}
use Rattle.std.proofs.lemmas.Map.Made.{length-le_from_is_member}
use Rattle.std.proofs.lemmas.Option.{none-some, same_Some}
use Rattle.heap_questions.specs.Distances.{AreInOrder, AreNearest, IsNearerStart, IsNearStart, StandsIn, far, with_start}
use Rattle.heap_questions.specs.PathsApart.{Route}
use Rattle.heap_questions.specs.Search.{slot_span}
use Rattle.heap_questions.specs.Starts.{starts_by}
use Rattle.heap_questions.specs.declared.nearest.Start.{Start}
use Rattle.heap_questions.proofs.PathStarts.{tells_by}

-- ---- all of a list

all_as : (P Q : Start → Type 0) → ((b : Start) → P b → Q b) → (bs : List Start) → AllByRecursion P bs → AllByRecursion Q bs
all_as P Q f [] a = tt
all_as P Q f (b ∷ bs) a = (f b a.0, all_as P Q f bs a.1)

all_first : (P : Start → Type 0) (n : ℕ) (bs : List Start) → AllByRecursion P bs → AllByRecursion P (take n bs)
all_first P zero [] a = tt
all_first P zero (b ∷ bs) a = tt
all_first P (suc n) [] a = tt
all_first P (suc n) (b ∷ bs) a = (a.0, all_first P n bs a.1)

pub one_of_all : (P : Start → Type 0) (b : Start) (bs : List Start) → AllByRecursion P bs → StandsIn b bs → P b
one_of_all P b [] a s = absurd s
one_of_all P b (c ∷ cs) a (inl e) = subst P e a.0
one_of_all P b (c ∷ cs) a (inr s) = one_of_all P b cs a.1 s

-- ---- a start that is put before the first that is farther

put_here : (b c : Start) (cs : List Start) → nat_lt b.distance c.distance ≡ true → with_start b (c ∷ cs) ≡ b ∷ c ∷ cs
put_here b c cs t = ap (λ x. cond x (b ∷ c ∷ cs) (c ∷ with_start b cs)) t

put_later : (b c : Start) (cs : List Start) → nat_lt b.distance c.distance ≡ false → with_start b (c ∷ cs) ≡ c ∷ with_start b cs
put_later b c cs f = ap (λ x. cond x (b ∷ c ∷ cs) (c ∷ with_start b cs)) f

pub put_at_place : (b : Start) (bs : List Start) → insert bs (position_or_len (λ (c : Start). nat_lt b.distance c.distance) bs) b ≡ with_start b bs
put_at_place b [] = refl
put_at_place b (c ∷ cs) = elim (cases_Bool (nat_lt b.distance c.distance)) [
  | inl t ↦ ap (λ x. insert (c ∷ cs) (cond (not x) (1 + place) 0) b) t ∙ sym (put_here b c cs t)
  | inr f ↦ ap (λ x. insert (c ∷ cs) (cond (not x) (1 + place) 0) b) f ∙ ap (λ k. insert (c ∷ cs) k b) (let e : 1 + place ≡ suc place = omega arith in e) ∙ ap (λ (l : List Start). c ∷ l) (put_at_place b cs) ∙ sym (put_later b c cs f)
]
  where
    place : ℕ
    place = position_or_len (λ (c : Start). nat_lt b.distance c.distance) cs

all_put : (P : Start → Type 0) (b : Start) (bs : List Start) → P b → AllByRecursion P bs → AllByRecursion P (with_start b bs)
all_put P b [] p a = (p, tt)
all_put P b (c ∷ cs) p a = elim (cases_Bool (nat_lt b.distance c.distance)) [
  | inl t ↦ subst (AllByRecursion P) (sym (put_here b c cs t)) (p, a)
  | inr f ↦ subst (AllByRecursion P) (sym (put_later b c cs f)) (a.0, all_put P b cs p a.1)
]

put_stands : (b : Start) (bs : List Start) → StandsIn b (with_start b bs)
put_stands b [] = inl refl
put_stands b (c ∷ cs) = elim (cases_Bool (nat_lt b.distance c.distance)) [
  | inl t ↦ subst (StandsIn b) (sym (put_here b c cs t)) (inl refl)
  | inr f ↦ subst (StandsIn b) (sym (put_later b c cs f)) (inr (put_stands b cs))
]

others_stand : (b a : Start) (bs : List Start) → StandsIn a bs → StandsIn a (with_start b bs)
others_stand b a [] s = absurd s
others_stand b a (c ∷ cs) (inl e) = elim (cases_Bool (nat_lt b.distance c.distance)) [
  | inl t ↦ subst (StandsIn a) (sym (put_here b c cs t)) (inr (inl e))
  | inr f ↦ subst (StandsIn a) (sym (put_later b c cs f)) (inl e)
]
others_stand b a (c ∷ cs) (inr r) = elim (cases_Bool (nat_lt b.distance c.distance)) [
  | inl t ↦ subst (StandsIn a) (sym (put_here b c cs t)) (inr (inr r))
  | inr f ↦ subst (StandsIn a) (sym (put_later b c cs f)) (inr (others_stand b a cs r))
]

nearer_than : (b c a : Start) → b.distance < c.distance → IsNearerStart c a → IsNearerStart b a
nearer_than b c a l (inl m) = inl (omega (arith, l, m))
nearer_than b c a l (inr m) = inl (let e = m.0 in omega (arith, l, e))

order_put : (b : Start) (bs : List Start) → AllByRecursion (λ a. a.number < b.number) bs → AreInOrder bs → AreInOrder (with_start b bs)
order_put b [] n o = (tt, tt)
order_put b (c ∷ cs) n o = elim (cases_Bool (nat_lt b.distance c.distance)) [
  | inl t ↦
      let l : b.distance < c.distance = ltb-true b.distance c.distance t in
      subst AreInOrder (sym (put_here b c cs t)) ((inl l, all_as (IsNearerStart c) (IsNearerStart b) (λ a m. nearer_than b c a l m) cs o.0), o)
  | inr f ↦
      let l : c.distance ≤ b.distance = ltb-false b.distance c.distance f in
      subst AreInOrder (sym (put_later b c cs f)) (all_put (IsNearerStart c) b cs (not_nearer l) o.0, order_put b cs n.1 o.1)
]
  where
    not_nearer : c.distance ≤ b.distance → IsNearerStart c b
    not_nearer l = elim (cases_lt c.distance b.distance) [ inl m ↦ inl m | inr m ↦ inr (omega (arith, l, m), n.0) ]

-- ---- their distances

no_nearer : (b : Start) (bs : List Start) (j : ℕ) (d : Start) → AllByRecursion (IsNearerStart b) bs → j < length bs → b.distance ≤ (get_or bs j d).distance
no_nearer b [] j d a l = absurd (omega (arith, l))
no_nearer b (c ∷ cs) zero d a l = elim a.0 [ inl m ↦ omega (arith, m) | inr m ↦ (let same = m.0 in omega (arith, same)) ]
no_nearer b (c ∷ cs) (suc j) d a l = no_nearer b cs j d a.1 (omega (arith, l))

pub distances_rise : (bs : List Start) → AreInOrder bs → IsNonDecreasingBy (λ (b : Start). b.distance) bs
distances_rise [] o i j d le l = absurd (omega (arith, l))
distances_rise (b ∷ bs) o zero zero d le l = omega arith
distances_rise (b ∷ bs) o zero (suc j) d le l = no_nearer b bs j d o.0 (omega (arith, l))
distances_rise (b ∷ bs) o (suc i) zero d le l = absurd (omega (arith, le))
distances_rise (b ∷ bs) o (suc i) (suc j) d le l = distances_rise bs o.1 i j d (omega (arith, le)) (omega (arith, l))

pub first_past : (distance i : ℕ) (bs : List Start) → i ≤ length bs → IsPartitionPoint (λ (b : Start). leb b.distance distance ≡ true) (λ (b : Start). leb b.distance distance ≡ false) bs i → i ≡ position_or_len (λ (b : Start). nat_lt distance b.distance) bs
first_past distance i bs within point = sym (position_or_len_is (λ (b : Start). nat_lt distance b.distance) bs i some within near past)
  where
    some : Start
    some = record { number = 0; id = 0; distance = 0 }

    near : (k : ℕ) → k < i → nat_lt distance (get_or bs k some).distance ≡ false
    near k l = le-ltb distance (get_or bs k some).distance (leb-true (get_or bs k some).distance distance (point.0 k some (omega arith) l))

    past : i < length bs → nat_lt distance (get_or bs i some).distance ≡ true
    past l = elim (leb_tells (get_or bs i some).distance distance) [
      | inl is ↦ absurd (true≢false (sym is.0 ∙ point.1 i some (omega arith) l))
      | inr is ↦ lt-ltb distance (get_or bs i some).distance is.1
    ]

-- ---- the first of them

order_first : (n : ℕ) (bs : List Start) → AreInOrder bs → AreInOrder (take n bs)
order_first zero [] o = tt
order_first zero (b ∷ bs) o = tt
order_first (suc n) [] o = tt
order_first (suc n) (b ∷ bs) o = (all_first (IsNearerStart b) n bs o.0, order_first n bs o.1)

-- one of them is among the first n, or these come before it
stands_first : (n : ℕ) (b : Start) (bs : List Start) → AreInOrder bs → StandsIn b bs → StandsIn b (take n bs) ⊎ ((length (take n bs) ≡ n) × AllByRecursion (λ a. IsNearerStart a b) (take n bs))
stands_first n b [] o s = absurd s
stands_first zero b (c ∷ cs) o s = inr (refl, tt)
stands_first (suc n) b (c ∷ cs) o (inl e) = inl (inl e)
stands_first (suc n) b (c ∷ cs) o (inr s) = elim (stands_first n b cs o.1 s) [
  | inl t ↦ inl (inr t)
  | inr r ↦ inr (ap suc r.0, (one_of_all (IsNearerStart c) b cs o.0 s, r.1))
]

-- those that come before a stay before it, if one more is put among them and the last is taken away
before_stays : (a b : Start) (bs : List Start) → AllByRecursion (λ c. IsNearerStart c a) bs → (length (take (length bs) (with_start b bs)) ≡ length bs) × AllByRecursion (λ c. IsNearerStart c a) (take (length bs) (with_start b bs))
before_stays a b [] h = (refl, tt)
before_stays a b (c ∷ cs) h = elim (cases_Bool (nat_lt b.distance c.distance)) [
  | inl t ↦
      let l : b.distance < c.distance = ltb-true b.distance c.distance t in
      subst (λ (l : List Start). (length (take (length (c ∷ cs)) l) ≡ length (c ∷ cs)) × AllByRecursion (λ c. IsNearerStart c a) (take (length (c ∷ cs)) l)) (sym (put_here b c cs t))
      (ap suc (length-take-le (length cs) (c ∷ cs) (omega arith)), (nearer_than b c a l h.0, all_first (λ c. IsNearerStart c a) (length cs) (c ∷ cs) h))
  | inr f ↦
      let rest = before_stays a b cs h.1 in
      subst (λ (l : List Start). (length (take (length (c ∷ cs)) l) ≡ length (c ∷ cs)) × AllByRecursion (λ c. IsNearerStart c a) (take (length (c ∷ cs)) l)) (sym (put_later b c cs f))
      (ap suc rest.0, (h.0, rest.1))
]

-- ---- register by register

pub nearest_none : (d : ℕ → ℕ) (registers : List ℕ) (most : ℕ) → AreNearest d registers 0 most []
nearest_none d registers most = record { each = tt; ordered = tt; rest = λ b n. absurd (let below = n.below in omega (arith, below)) }

near_in_more : (d : ℕ → ℕ) (registers : List ℕ) (i n : ℕ) (b : Start) → i ≤ n → IsNearStart d registers i b → IsNearStart d registers n b
near_in_more d registers i n b le s = record { below = let below = s.below in omega (arith, below, le); names = s.names; told = s.told; near = s.near }

-- registers that name nothing near are passed over
pub nearest_past : (d : ℕ → ℕ) (registers : List ℕ) (i n most : ℕ) (bs : List Start) → i ≤ n → ((q z : ℕ) → i ≤ q → q < n → slice_get registers q ≡ Some z → far ≤ d z) → AreNearest d registers i most bs → AreNearest d registers n most bs
nearest_past d registers i n most bs le none is = record {
  each = all_as (IsNearStart d registers i) (IsNearStart d registers n) (λ b s. near_in_more d registers i n b le s) bs is.each;
  ordered = is.ordered;
  rest = λ b s. elim (cases_lt b.number i) [
    | inl l ↦ is.rest b (record { below = l; names = s.names; told = s.told; near = s.near })
    | inr ge ↦
        let past = none b.number b.id ge s.below s.names in
        let told = s.told in
        let near = s.near in
        absurd (omega (arith, past, told, near))
  ];
}

-- one that names something near
pub nearest_more : (d : ℕ → ℕ) (registers : List ℕ) (n most : ℕ) (b : Start) (bs : List Start) → b.number ≡ n → IsNearStart d registers (n + 1) b → AreNearest d registers n most bs → AreNearest d registers (n + 1) most (take most (with_start b bs))
nearest_more d registers n most b bs at near is = record {
  each = all_first (IsNearStart d registers (n + 1)) most (with_start b bs) (all_put (IsNearStart d registers (n + 1)) b bs near (all_as (IsNearStart d registers n) (IsNearStart d registers (n + 1)) (λ c s. near_in_more d registers n (n + 1) c (omega arith) s) bs is.each));
  ordered = order_first most (with_start b bs) order;
  rest = λ c s. elim (cases_lt c.number n) [
    | inl l ↦ elim (is.rest c (record { below = l; names = s.names; told = s.told; near = s.near })) [
      | inl t ↦ stands_first most c (with_start b bs) order (others_stand b c bs t)
      | inr full ↦ inr (subst (λ k. (length (take k (with_start b bs)) ≡ k) × AllByRecursion (λ x. IsNearerStart x c) (take k (with_start b bs))) full.0 (before_stays c b bs full.1))
    ]
    | inr ge ↦ stands_first most c (with_start b bs) order (subst (λ x. StandsIn x (with_start b bs)) (same c s ge) (put_stands b bs))
  ];
}
  where
    order : AreInOrder (with_start b bs)
    order = order_put b bs (all_as (IsNearStart d registers n) (λ c. c.number < b.number) (λ c s. let below = s.below in omega (arith, below, at)) bs is.each) is.ordered

    same : (c : Start) → IsNearStart d registers (n + 1) c → n ≤ c.number → b ≡ c
    same c s ge =
        let number : b.number ≡ c.number = let below = s.below in omega (arith, below, ge, at) in
        let id : b.id ≡ c.id = same_Some b.id c.id (sym near.names ∙ ap (slice_get registers) number ∙ s.names) in
        let distance : b.distance ≡ c.distance = sym near.told ∙ ap d id ∙ s.told in
        λ i. record { number = number i; id = id i; distance = distance i }

-- ---- the first that passes a test

pub first_passes : (test : Start → Bool) (b : Start) (bs : List Start) → AreInOrder bs → find test bs ≡ Some b → StandsIn b bs × (test b ≡ true) × ((c : Start) → StandsIn c bs → test c ≡ true → (b ≡ c) ⊎ IsNearerStart b c)
first_passes test b [] o e = absurd (none-some b e)
first_passes test b (x ∷ xs) o e = elim (cases_Bool (test x)) [
  | inl t ↦
      let same : x ≡ b = same_Some x b (sym (ap (λ y. cond y (Some x) (find test xs)) t) ∙ e) in
      (inl same, subst (λ y. test y ≡ true) same t, λ c s h. here same c s)
  | inr f ↦
      let rest = first_passes test b xs o.1 (sym (ap (λ y. cond y (Some x) (find test xs)) f) ∙ e) in
      (inr rest.0, rest.1, λ c s h. there f rest.2 c s h)
]
  where
    here : x ≡ b → (c : Start) → StandsIn c (x ∷ xs) → (b ≡ c) ⊎ IsNearerStart b c
    here same c (inl s) = inl (sym same ∙ s)
    here same c (inr s) = inr (subst (λ y. IsNearerStart y c) same (one_of_all (IsNearerStart x) c xs o.0 s))

    there : test x ≡ false → ((c : Start) → StandsIn c xs → test c ≡ true → (b ≡ c) ⊎ IsNearerStart b c) → (c : Start) → StandsIn c (x ∷ xs) → test c ≡ true → (b ≡ c) ⊎ IsNearerStart b c
    there f rest c (inl s) h = absurd (true≢false (sym h ∙ ap test (sym s) ∙ f))
    there f rest c (inr s) h = rest c s h

pub none_passes : (test : Start → Bool) (c : Start) (bs : List Start) → find test bs ≡ None → StandsIn c bs → test c ≡ false
none_passes test c [] e s = absurd s
none_passes test c (x ∷ xs) e (inl s) = elim (cases_Bool (test x)) [
  | inl t ↦ absurd (none-some x (sym e ∙ ap (λ y. cond y (Some x) (find test xs)) t))
  | inr f ↦ ap test (sym s) ∙ f
]
none_passes test c (x ∷ xs) e (inr s) = elim (cases_Bool (test x)) [
  | inl t ↦ absurd (none-some x (sym e ∙ ap (λ y. cond y (Some x) (find test xs)) t))
  | inr f ↦ none_passes test c xs (sym (ap (λ y. cond y (Some x) (find test xs)) f) ∙ e) s
]

-- ---- if each is used, there are as many paths

abbrev pub is_used : List Route → Start → Bool
is_used earlier b = list_any (starts_by (b.number / slot_span) (b.number % slot_span)) earlier

abbrev number_of : Route → ℕ
number_of p = p.register * slot_span + unwrap_or (slice_get p.slots 0) 0

numbers_differ : (d : ℕ → ℕ) (registers : List ℕ) (n : ℕ) (b c : Start) → IsNearStart d registers n b → IsNearStart d registers n c → IsNearerStart b c → b.number ≢ c.number
numbers_differ d registers n b c s t before e = go before
  where
    far_alike : b.distance ≡ c.distance
    far_alike = sym s.told ∙ ap d (same_Some b.id c.id (sym s.names ∙ ap (slice_get registers) e ∙ t.names)) ∙ t.told

    go : IsNearerStart b c → ⊥
    go (inl l) = absurd (omega (arith, l, far_alike))
    go (inr l) = absurd (let less = l.1 in omega (arith, less, e))

numbers_distinct : (d : ℕ → ℕ) (registers : List ℕ) (n : ℕ) (bs : List Start) → AllByRecursion (IsNearStart d registers n) bs → AreInOrder bs → IsDistinct eqb (map (λ (b : Start). b.number) bs)
unfolding IsDistinct
numbers_distinct d registers n [] a o = tt
numbers_distinct d registers n (b ∷ bs) a o = IsDistinct-cons eqb b.number (map (λ (b : Start). b.number) bs) (others bs a.1 o.0) (numbers_distinct d registers n bs a.1 o.1)
  where
    others : (cs : List Start) → AllByRecursion (IsNearStart d registers n) cs → AllByRecursion (IsNearerStart b) cs → AllByRecursion (λ y. eqb b.number y ≡ false) (map (λ (b : Start). b.number) cs)
    others [] s l = tt
    others (c ∷ cs) s l = (ne_eqb b.number c.number (numbers_differ d registers n b c a.0 s.0 l.0), others cs s.1 l.1)

used_number : (earlier : List Route) (q : ℕ) → list_any (starts_by (q / slot_span) (q % slot_span)) earlier ≡ true → list_any (eqb q) (map number_of earlier) ≡ true
used_number [] q h = h
used_number (p ∷ ps) q h = elim (cases_Bool (starts_by (q / slot_span) (q % slot_span) p)) [
  | inl t ↦
      let alike = (tells_by (q / slot_span) (q % slot_span) [] p).1 t in
      let register : p.register ≡ q / slot_span = alike.0 in
      let slot : unwrap_or (slice_get p.slots 0) 0 ≡ q % slot_span = ap (λ (o : Option ℕ). unwrap_or o 0) alike.1 in
      let is : q ≡ number_of p = omega (arith, register, slot) in
      ap (λ b. b || list_any (eqb q) (map number_of ps)) (eq-eqb q (number_of p) is)
  | inr f ↦
      let rest = used_number ps q (sym (ap (λ b. b || list_any (starts_by (q / slot_span) (q % slot_span)) ps) f) ∙ h) in
      go (eqb q (number_of p)) rest
]
  where
    go : (b : Bool) → list_any (eqb q) (map number_of ps) ≡ true → (b || list_any (eqb q) (map number_of ps)) ≡ true
    go true r = refl
    go false r = r

used_numbers : (earlier : List Route) (bs : List Start) (q : ℕ) → ((c : Start) → StandsIn c bs → is_used earlier c ≡ true) → list_any (eqb q) (map (λ (b : Start). b.number) bs) ≡ true → list_any (eqb q) (map number_of earlier) ≡ true
used_numbers earlier [] q all h = absurd (true≢false (sym h))
used_numbers earlier (b ∷ bs) q all h = elim (cases_Bool (eqb q b.number)) [
  | inl t ↦ subst (λ k. list_any (eqb k) (map number_of earlier) ≡ true) (sym (eqb-true q b.number t)) (used_number earlier b.number (all b (inl refl)))
  | inr f ↦ used_numbers earlier bs q (λ c s. all c (inr s)) (sym (ap (λ x. x || list_any (eqb q) (map (λ (b : Start). b.number) bs)) f) ∙ h)
]

pub as_many_paths : (d : ℕ → ℕ) (registers : List ℕ) (n : ℕ) (earlier : List Route) (bs : List Start) → AllByRecursion (IsNearStart d registers n) bs → AreInOrder bs → ((c : Start) → StandsIn c bs → is_used earlier c ≡ true) → length bs ≤ length earlier
as_many_paths d registers n earlier bs a o all =
    let fewer : length (map (λ (b : Start). b.number) bs) ≤ length (map number_of earlier) = length-le_from_is_member nat_eq_equiv (map (λ (b : Start). b.number) bs) (map number_of earlier) (numbers_distinct d registers n bs a o) (λ q h. used_numbers earlier bs q all h) in
    omega (arith, fewer, length-map bs (λ (b : Start). b.number), length-map earlier number_of)
