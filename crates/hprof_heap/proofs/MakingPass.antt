-- All objects are made, one after another.
use Rattle.std.proofs.Common.{◌≡◌, ◌≢◌, ◌⊎◌, ℕ, zero, suc, ◌+◌, ◌^◌, ◌<◌, ◌≤◌, Bool, true, false, List, [], ◌∷◌, ◌++◌, length, refl, sym, ap, subst, ◌∙◌, Option, Some, None, inl, inr, arith}
use Rattle.std.specs.Prelude.{slice_get, IsSome, is_some, nat_lt, if◌then◌else◌}
use Rattle.std.proofs.lemmas.Bool.{cases_eq, cases_lt, false_from_ne_true, le-ltb, lt-ltb}
use Rattle.heap_step.specs.declared.Event.{Event}
use Rattle.hprof_heap.specs.ToldObjects.{ObjectTold}
use Rattle.hprof_heap.proofs.Graphs.{Graph, IsRun, run_in_parts}
use Rattle.hprof_heap.proofs.Placed.{ArePlaced, IsKept, Object, Role, Stays, kept, stays_twice, unmoved_stays}
use Rattle.hprof_heap.proofs.Filled.{PutsFit}
use Rattle.hprof_heap.proofs.Making.{IsBlockMade, IsSized, block_is_made, made_block, made_thing}

-- the events that make objects, from number n on
abbrev pub making_block : ℕ → ℕ → Option ObjectTold → List Event
making_block class n x = if nat_lt n (2 ^ 22) then made_block class n x else []

abbrev pub makings : ℕ → ℕ → List (Option ObjectTold) → List Event
makings class n [] = []
makings class n (x ∷ xs) = making_block class n x ++ makings class (n + 1) xs

-- an object has as many slots as its class, and a number below 2^22; `made` tells which are made
pub record IsRight (slots : ℕ → ℕ) (made : ℕ → Bool) (n : ℕ) (x : Option ObjectTold) : Type 0 where
  pub told : made n ≡ is_some x
  pub few : is_some x ≡ true → n < 2 ^ 22
  pub sized : (t : ObjectTold) → x ≡ Some t → IsSized slots t.kind t.slots

abbrev pub AreRight : (ℕ → ℕ) → (ℕ → Bool) → ℕ → List (Option ObjectTold) → Type 0
AreRight slots made n [] = Unit {0}
AreRight slots made n (x ∷ xs) = IsRight slots made n x × AreRight slots made (n + 1) xs

-- the objects of this list are made, from number n on, and those before them aren't changed
pub record AreMade (class : ℕ) (made : ℕ → Bool) (n : ℕ) (list : List (Option ObjectTold)) (role : ℕ → Role) (g h : Graph) : Type 0 where
  pub after : ℕ → Role
  pub last : ℕ
  pub few : last ≤ 2 ^ 22
  pub reached : (m : ℕ) → made m ≡ true → m < n + length list → m < last
  pub placed : ArePlaced class made last after h
  pub stays : (m : ℕ) → m < n → Stays g h m
  pub spared : (x m : ℕ) → IsSome (g.things x) → role x ≡ Object m → m < n → h.things x ≡ g.things x
  pub contents : (i : ℕ) (t : ObjectTold) → slice_get list i ≡ Some (Some t) → h.things (kept h (n + i)) ≡ Some (made_thing t)
  pub fits : (i : ℕ) (t : ObjectTold) → slice_get list i ≡ Some (Some t) → PutsFit t.slots t.values

no_more_made : (class : ℕ) (made : ℕ → Bool) (n : ℕ) (role : ℕ → Role) (g : Graph) → n ≤ 2 ^ 22 → ArePlaced class made n role g → AreMade class made n [] role g g
no_more_made class made n role g few a = record {
  after = role;
  last = n;
  few = few;
  reached = λ m b l. omega (arith, l);
  placed = a;
  stays = λ m l. unmoved_stays g m;
  spared = λ x m p e l. refl;
  contents = λ i t e. (let z : None ≡ Some (Some t) = e in cc);
  fits = λ i t e. (let z : None ≡ Some (Some t) = e in cc);
}

-- past the last number none is made
pub past_block_is_empty : (class n : ℕ) (x : Option ObjectTold) → 2 ^ 22 ≤ n → making_block class n x ≡ []
past_block_is_empty class n x past = ap (λ b. if b then made_block class n x else []) (le-ltb n (2 ^ 22) past)

past_is_not_made : (slots : ℕ → ℕ) (made : ℕ → Bool) (n : ℕ) (x : Option ObjectTold) → 2 ^ 22 ≤ n → IsRight slots made n x → is_some x ≡ false
past_is_not_made slots made n x past right = false_from_ne_true (is_some x) (λ e. let l : n < 2 ^ 22 = right.few e in omega (arith, l, past))

not_some : (y : Option ObjectTold) (t : ObjectTold) → is_some y ≡ false → y ≢ Some t
not_some None t e f = let z : None ≡ Some t = f in cc
not_some (Some u) t e f = let z : true ≡ false = e in cc

first_or_later : (n m : ℕ) → n ≤ m → (m ≡ n) ⊎ (n + 1 ≤ m)
first_or_later n m l = elim (cases_eq m n) [ inl e ↦ inl e | inr d ↦ inr (omega (arith, l, d)) ]

-- none of this list is made
abbrev NoneMade : (ℕ → Bool) → ℕ → List (Option ObjectTold) → Type 0
NoneMade made n list = ((m : ℕ) → n ≤ m → m < n + length list → made m ≡ false) × ((i : ℕ) (t : ObjectTold) → slice_get list i ≢ Some (Some t))

none_of_more : (slots : ℕ → ℕ) (made : ℕ → Bool) (n : ℕ) (x : Option ObjectTold) (xs : List (Option ObjectTold)) → 2 ^ 22 ≤ n → IsRight slots made n x → NoneMade made (n + 1) xs → NoneMade made n (x ∷ xs)
none_of_more slots made n x xs past right rest = (made_none, none)
  where
    made_none : (m : ℕ) → n ≤ m → m < n + length (x ∷ xs) → made m ≡ false
    made_none m l k = elim (first_or_later n m l) [
      | inl e ↦ ap made e ∙ right.told ∙ past_is_not_made slots made n x past right
      | inr s ↦ rest.0 m s (omega (arith, k))
    ]

    some_of_some : (t : ObjectTold) → Some x ≡ Some (Some t) → x ≡ Some t
    some_of_some t e = cc

    none : (i : ℕ) (t : ObjectTold) → slice_get (x ∷ xs) i ≢ Some (Some t)
    none zero t e = not_some x t (past_is_not_made slots made n x past right) (some_of_some t e)
    none (suc i) t e = rest.1 i t e

none_past_last : (slots : ℕ → ℕ) (class : ℕ) (made : ℕ → Bool) (n : ℕ) (list : List (Option ObjectTold)) (g h : Graph) → 2 ^ 22 ≤ n → AreRight slots made n list → IsRun slots (makings class n list) g h
    → (g ≡ h) × NoneMade made n list
none_past_last slots class made n [] g h past right r = (r, ((λ m l k. absurd (omega (arith, l, k))), λ i t e. let z : None ≡ Some (Some t) = e in cc))
none_past_last slots class made n (x ∷ xs) g h past right r =
    let rest = none_past_last slots class made (n + 1) xs g h (omega (arith, past)) right.1 (subst (λ es. IsRun slots (es ++ makings class (n + 1) xs) g h) (past_block_is_empty class n x past) r) in
    (rest.0, none_of_more slots made n x xs past right.0 rest.1)

stop_at_last : (slots : ℕ → ℕ) (class : ℕ) (made : ℕ → Bool) (n : ℕ) (list : List (Option ObjectTold)) (role : ℕ → Role) (g h : Graph) → n ≤ 2 ^ 22 → 2 ^ 22 ≤ n → AreRight slots made n list → ArePlaced class made n role g
    → IsRun slots (makings class n list) g h → AreMade class made n list role g h
stop_at_last slots class made n list role g h few past right a r = subst (AreMade class made n list role g) none.0 (record {
  after = role;
  last = n;
  few = few;
  reached = λ m b l. elim (cases_lt m n) [ inl s ↦ s | inr s ↦ (let z : true ≡ false = sym b ∙ none.1.0 m s l in cc) ];
  placed = a;
  stays = λ m l. unmoved_stays g m;
  spared = λ x m p e l. refl;
  contents = λ i t e. absurd (none.1.1 i t e);
  fits = λ i t e. absurd (none.1.1 i t e);
})
  where
    none : (g ≡ h) × NoneMade made n list
    none = none_past_last slots class made n list g h past right r

one_and_more_made : (class : ℕ) (made : ℕ → Bool) (n : ℕ) (x : Option ObjectTold) (xs : List (Option ObjectTold)) (role : ℕ → Role) (g f h : Graph) → made n ≡ is_some x → (p : IsBlockMade class made n x role g f) → AreMade class made (n + 1) xs p.after f h
    → AreMade class made n (x ∷ xs) role g h
one_and_more_made class made n x xs role g f h told p q = record {
  after = q.after;
  last = q.last;
  few = q.few;
  reached = λ m b l. q.reached m b (omega (arith, l));
  placed = q.placed;
  stays = λ m l. stays_twice g f h m (p.stays m l) (q.stays m (omega (arith, l)));
  spared = λ y m s e l. q.spared y m (p.moves.there y s) (p.moves.roles y s ∙ e) (omega (arith, l)) ∙ p.moves.objects y m s e (λ d. omega (arith, l, d));
  contents = contents;
  fits = fits;
}
  where
    some_of_some : (t : ObjectTold) → Some x ≡ Some (Some t) → x ≡ Some t
    some_of_some t e = cc

    fits : (i : ℕ) (t : ObjectTold) → slice_get (x ∷ xs) i ≡ Some (Some t) → PutsFit t.slots t.values
    fits zero t e = p.fits t (some_of_some t e)
    fits (suc i) t e = q.fits i t e

    contents : (i : ℕ) (t : ObjectTold) → slice_get (x ∷ xs) i ≡ Some (Some t) → h.things (kept h (n + i)) ≡ Some (made_thing t)
    contents zero t e =
        ap (λ m. h.things (kept h m)) (omega arith) ∙ ap h.things (q.stays n (omega arith)).object_stays
        ∙ q.spared (kept f n) n k.there k.purpose (omega arith) ∙ p.content t same
      where
        same : x ≡ Some t
        same = some_of_some t e

        k : IsKept p.after f n
        k = p.placed.objects n (omega arith) (told ∙ ap is_some same)
    contents (suc i) t e = ap (λ m. h.things (kept h m)) (omega arith) ∙ q.contents i t e

pub block_below_last : (class n : ℕ) (x : Option ObjectTold) → n < 2 ^ 22 → making_block class n x ≡ made_block class n x
block_below_last class n x less = ap (λ b. if b then made_block class n x else []) (lt-ltb n (2 ^ 22) less)

pub objects_are_made : (slots : ℕ → ℕ) (class : ℕ) (made : ℕ → Bool) (n : ℕ) (list : List (Option ObjectTold)) (role : ℕ → Role) (g h : Graph) → n ≤ 2 ^ 22 → AreRight slots made n list → ArePlaced class made n role g
    → IsRun slots (makings class n list) g h → AreMade class made n list role g h
objects_are_made slots class made n [] role g h few right a r = subst (AreMade class made n [] role g) r (no_more_made class made n role g few a)
objects_are_made slots class made n (x ∷ xs) role g h few right a r = elim (cases_lt n (2 ^ 22)) [
  | inr past ↦ stop_at_last slots class made n (x ∷ xs) role g h few past right a r
  | inl less ↦ (let s = run_in_parts slots (made_block class n x) (makings class (n + 1) xs) g h (subst (λ es. IsRun slots (es ++ makings class (n + 1) xs) g h) (block_below_last class n x less) r) in
      let block = block_is_made slots class made n x role g s.0 less right.0.told right.0.sized a s.1 in
      one_and_more_made class made n x xs role g s.0 h right.0.told block (objects_are_made slots class made (n + 1) xs block.after s.0 h (omega (arith, less)) right.1 block.placed s.2))
]
