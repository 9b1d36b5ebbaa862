-- Slots of a table that are looked at one after another.
use Rattle.std.proofs.Common.{◌≡◌, ◌≢◌, ◌⊎◌, ℕ, ◌+◌, ◌-◌, ◌<◌, ◌≤◌, ◌^◌, List, [], ◌∷◌, ◌++◌, length, get_or, set, Option, Some, None, refl, sym, ap, subst, ◌∙◌, inl, inr, arith}
use Rattle.std.specs.Prelude.{nat_eq, position, if◌then◌else◌}
use Rattle.std.proofs.lemmas.Bool.{cases_eq, cases_lt, eqb-true}
use Rattle.std.proofs.lemmas.List.{get_or_append_left, get_or-set_other, get_or-set_same, length-append, length-set, set_past}
use Rattle.std.proofs.lemmas.List.Quantifiers.{position-Some}
use Rattle.id_table.specs.Tables.{AreNoneEmpty, AreNumbersPlaced, IsFree, IsNumberPlaced, IsIdTable, home, looked_at, slot_after}
use Rattle.id_table.proofs.Places.{apart_and_one, found_at_its_place, last_number_is}

-- ---- one slot after another

pub home_is_looked_at_first : (size at : ℕ) → at < size → at ≡ slot_after size at 0
home_is_looked_at_first size at h = grind arith

pub next_slot_looked_at : (size at d : ℕ) → at < size → d < size → (if nat_eq (slot_after size at d + 1) size then 0 else slot_after size at d + 1) ≡ slot_after size at (d + 1)
next_slot_looked_at size at d h k = grind arith

pub looked_at_within : (size at d : ℕ) → at < size → d < size → slot_after size at d < size
looked_at_within size at d h k = grind arith

pub none_before_first : (slots : List ℕ) (id : ℕ) → AreNoneEmpty slots id 0
none_before_first slots id e h = λ _. omega (arith, h)

pub none_empty_and_one : (slots : List ℕ) (id d : ℕ) → AreNoneEmpty slots id d → looked_at slots id d ≢ 0 → AreNoneEmpty slots id (d + 1)
none_empty_and_one slots id d taken this e h =
    elim (cases_lt e d) [
      | inl lt ↦ taken e lt
      | inr le ↦ subst (λ (k : ℕ). looked_at slots id k ≢ 0) (omega (arith, le, h)) this
    ]

-- ---- a number that is put into an empty slot

module _ (slots : List ℕ) (at n : ℕ) where
  seen : (id d : ℕ) → looked_at (set slots at n) id d ≡ get_or (set slots at n) (slot_after (length slots) (home (length slots) id) d) 0
  seen id d = ap (λ (s : ℕ). get_or (set slots at n) (slot_after s (home s id) d) 0) (length-set slots at n)

  still_not_empty : (k : ℕ) → at < length slots → n ≢ 0 → get_or slots k 0 ≢ 0 → get_or (set slots at n) k 0 ≢ 0
  still_not_empty k inside new was =
      elim (cases_eq k at) [
        | inl e ↦ λ z. new (sym (get_or-set_same slots at n 0 inside) ∙ (ap (λ (j : ℕ). get_or (set slots at n) j 0) (sym e) ∙ z))
        | inr ne ↦ λ z. was (sym (get_or-set_other slots at k n 0 ne) ∙ z)
      ]

  still_none_empty : (id d : ℕ) → at < length slots → n ≢ 0 → AreNoneEmpty slots id d → AreNoneEmpty (set slots at n) id d
  still_none_empty id d inside new taken e h =
      λ z. still_not_empty (slot_after (length slots) (home (length slots) id) e) inside new (taken e h) (sym (seen id e) ∙ z)

  pub stays_placed : (id m : ℕ) → at < length slots → n ≢ 0 → get_or slots at 0 ≡ 0 → m ≢ 0 → IsNumberPlaced slots id m → IsNumberPlaced (set slots at n) id m
  stays_placed id m inside new empty old p = record {
    others = p.others;
    within = omega (arith, p.within, length-set slots at n);
    there = seen id p.others ∙ (get_or-set_other slots at (slot_after (length slots) (home (length slots) id) p.others) n 0 (λ e. old (sym p.there ∙ (ap (λ (j : ℕ). get_or slots j 0) e ∙ empty))) ∙ p.there);
    taken = still_none_empty id p.others inside new p.taken;
  }

  pub put_is_placed : (id : ℕ) → n ≢ 0 → IsFree slots id at → IsNumberPlaced (set slots at n) id n
  put_is_placed id new f = record {
    others = f.others;
    within = omega (arith, f.within, length-set slots at n);
    there = seen id f.others ∙ (ap (λ (j : ℕ). get_or (set slots at n) j 0) (sym f.place) ∙ get_or-set_same slots at n 0 f.there);
    taken = still_none_empty id f.others f.there new f.taken;
  }

  number_within : (k m : ℕ) → n ≤ m → get_or slots k 0 ≤ m → get_or (set slots at n) k 0 ≤ m
  number_within k m new was =
      elim (cases_eq k at) [
        | inl e ↦ elim (cases_lt at (length slots)) [
          | inl inside ↦ omega (arith, new, ap (λ (j : ℕ). get_or (set slots at n) j 0) e, get_or-set_same slots at n 0 inside)
          | inr past ↦ omega (arith, was, ap (λ (xs : List ℕ). get_or xs k 0) (set_past slots at n past))
        ]
        | inr ne ↦ omega (arith, was, get_or-set_other slots at k n 0 ne)
      ]

one_more_is_some : (n : ℕ) → n + 1 ≢ 0
one_more_is_some n = λ e. omega (arith, e)

-- the number of one more identifier is put into its slot
pub placed_and_one : (slots ids : List ℕ) (n at : ℕ) → AreNumbersPlaced slots ids n → IsFree slots (get_or ids n 0) at → AreNumbersPlaced (set slots at (n + 1)) ids (n + 1)
placed_and_one slots ids n at are free = record {
  placed = λ i h.
      elim (cases_lt i n) [
        | inl lt ↦ stays_placed slots at (n + 1) (get_or ids i 0) (i + 1) free.there (one_more_is_some n) free.empty (one_more_is_some i) (are.placed i lt)
        | inr le ↦ let e : n ≡ i = omega (arith, le, h) in subst (λ (j : ℕ). IsNumberPlaced (set slots at (n + 1)) (get_or ids j 0) (j + 1)) e (put_is_placed slots at (n + 1) (get_or ids n 0) (one_more_is_some n) free)
      ];
  numbers = λ k. number_within slots at (n + 1) k (n + 1) (omega arith) (omega (arith, are.numbers k));
}

pub none_placed : (slots ids : List ℕ) → ((k : ℕ) → get_or slots k 0 ≡ 0) → AreNumbersPlaced slots ids 0
none_placed slots ids empty = record { placed = λ i h. absurd (omega (arith, h)); numbers = λ k. omega (arith, empty k) }

-- one more identifier behind the others
pub table_and_one : (slots ids : List ℕ) (id at : ℕ) → IsIdTable slots ids → position (nat_eq id) ids ≡ None → IsFree slots id at → length ids + 1 < 2 ^ 32 → IsIdTable (set slots at (length ids + 1)) (ids ++ id ∷ [])
table_and_one slots ids id at table none free few =
    let more = ids ++ id ∷ [] in
    let long : length more ≡ length ids + 1 = omega (arith, length-append ids (id ∷ [])) in
    let are : AreNumbersPlaced slots more (length ids) = record {
      placed = λ i h. subst (λ (x : ℕ). IsNumberPlaced slots x (i + 1)) (sym (get_or_append_left ids (id ∷ []) 0 i h)) (table.placed.placed i h);
      numbers = table.placed.numbers;
    } in
    record {
      placed = subst (AreNumbersPlaced (set slots at (length ids + 1)) more) (sym long) (placed_and_one slots more (length ids) at are (subst (λ (x : ℕ). IsFree slots x at) (sym (last_number_is ids id)) free));
      few = omega (arith, few, long);
      size = omega (arith, table.size, length-set slots at (length ids + 1));
      once = apart_and_one ids id table.once none;
    }

-- ---- an identifier that is looked for

-- the first d slots of an identifier have the numbers of others
abbrev pub AreOthers : List ℕ → List ℕ → ℕ → ℕ → Type 0
AreOthers slots ids id d = (e : ℕ) → e < d → get_or ids (looked_at slots id e - 1) 0 ≢ id

pub no_others_before_first : (slots ids : List ℕ) (id : ℕ) → AreOthers slots ids id 0
no_others_before_first slots ids id e h = λ _. omega (arith, h)

pub others_and_one : (slots ids : List ℕ) (id d : ℕ) → AreOthers slots ids id d → get_or ids (looked_at slots id d - 1) 0 ≢ id → AreOthers slots ids id (d + 1)
others_and_one slots ids id d others this e h =
    elim (cases_lt e d) [
      | inl lt ↦ others e lt
      | inr le ↦ subst (λ (k : ℕ). get_or ids (looked_at slots id k - 1) 0 ≢ id) (omega (arith, le, h)) this
    ]

-- an identifier isn't there if only others are in its slots up to an empty one, or in all
pub not_there : (slots ids : List ℕ) (id d : ℕ) → IsIdTable slots ids → AreOthers slots ids id d → (looked_at slots id d ≡ 0) ⊎ (length slots ≤ d) → position (nat_eq id) ids ≡ None
not_there slots ids id d table others ends = go (position (nat_eq id) ids) refl
  where
    clash : (i : ℕ) → i < length ids → get_or ids i 0 ≡ id → IsNumberPlaced slots id (i + 1) → ⊥
    clash i within is p =
        elim (cases_lt p.others d) [
          | inl lt ↦ others p.others lt (ap (λ (k : ℕ). get_or ids (k - 1) 0) p.there ∙ (ap (λ (k : ℕ). get_or ids k 0) (omega arith) ∙ is))
          | inr le ↦ elim ends [
            | inl empty ↦ elim (cases_eq p.others d) [
              | inl e ↦ one_more_is_some i (sym p.there ∙ (ap (looked_at slots id) e ∙ empty))
              | inr ne ↦ p.taken d (omega (arith, le, ne)) empty
            ]
            | inr all ↦ omega (arith, le, all, p.within)
          ]
        ]

    go : (o : Option ℕ) → position (nat_eq id) ids ≡ o → o ≡ None
    go None at = refl
    go (Some i) at =
        let h = position-Some (nat_eq id) ids i 0 at in
        let is : get_or ids i 0 ≡ id = sym (eqb-true id (get_or ids i 0) h.1) in
        absurd (clash i h.0 is (subst (λ (x : ℕ). IsNumberPlaced slots x (i + 1)) is (table.placed.placed i h.0)))

-- an identifier that is found
pub looked_at_is_found : (slots ids : List ℕ) (id k : ℕ) → IsIdTable slots ids → get_or slots k 0 ≢ 0 → get_or ids (get_or slots k 0 - 1) 0 ≡ id → position (nat_eq id) ids ≡ Some (get_or slots k 0 - 1)
looked_at_is_found slots ids id k table some is = found_at_its_place ids (get_or slots k 0 - 1) id table.once (omega (arith, some, table.placed.numbers k)) is
