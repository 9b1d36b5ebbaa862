-- How the roots are kept.
use Rattle.std.proofs.Common.{◌≡◌, ◌≢◌, ℕ, suc, ◌+◌, ◌-◌, ◌*◌, ◌/◌, ◌%◌, ◌<◌, ◌≤◌, Bool, true, false, List, [], ◌∷◌, ◌++◌, length, replicate, refl, sym, ap, subst, ◌∙◌, inl, inr, arith}
use Rattle.std.specs.Prelude.{slice_index, IsSome, min, ◌==◌, if◌then◌else◌}
use Rattle.std.proofs.lemmas.Bool.{cases_eq, eqb-true, eqb-false}
use Rattle.std.proofs.lemmas.List.{length-replicate}
use Rattle.heap_class.specs.declared.ObjKind.TheVariants.{Array}
use Rattle.heap_step.specs.declared.Event.TheVariants.{NewArray, Store}
use Rattle.hprof_session.specs.Places.{fetch_events}
use Rattle.hprof_lines.specs.Roots.{arrays_for, root_array, root_events, roots_from}
use Rattle.hprof_heap.proofs.Graphs.{Graph, word, word_in, IsCreation, IsRun, IsWriting, changed_at_id, changed_here, older_is_not_new, run_in_parts, word_after_write, word_written}
use Rattle.hprof_heap.proofs.Placed.{IsArrayOf, Role, RootArray, Roots, array_is_there}
use Rattle.hprof_heap.proofs.Linking.{AreFound, IsFetched, object_is_fetched}
use Rattle.hprof_heap.proofs.RootSteps.{Spares, array_after_write, array_slot_spares, creation_spares, found_after_creation, found_after_write, found_alike, root_arrays_are_plain, root_slot_spares, roots_are_plain, spares_fewer, spares_nothing, spares_twice}

-- register 7 names x, the array of roots
pub record IsRootArray (roots x : ℕ) (role : ℕ → Role) (g : Graph) : Type 0 where
  pub held : g.registers 7 ≡ x
  pub array : IsArrayOf roots 1024 g x
  pub purpose : role x ≡ Roots

-- the array in a slot of the array of roots
pub record IsArrayAt (class n slot x : ℕ) (role : ℕ → Role) (g : Graph) : Type 0 where
  pub array : IsArrayOf class n g (word g x slot)
  pub purpose : role (word g x slot) ≡ RootArray slot

-- the length of array k of the arrays of `count` roots
abbrev pub length_at : ℕ → ℕ → ℕ
length_at count k = min (count - k * 1024) 1024

-- the first i roots of a kind are named by arrays
pub record AreNamedRoots (id : ℕ → ℕ) (class first count : ℕ) (numbers : List ℕ) (i x : ℕ) (role : ℕ → Role) (g : Graph) : Type 0 where
  pub arrays : (k : ℕ) → k * 1024 < i → IsArrayAt class (length_at count k) (first + k) x role g
  pub named : (j : ℕ) → j < i → word g (word g x (first + j / 1024)) (j % 1024) ≡ id (slice_index numbers j)

-- ---- what stays

array_stays : (class n slot first x : ℕ) (role after : ℕ → Role) (g h : Graph) → Spares first x role after g h → slot < first → IsArrayAt class n slot x role g → IsArrayAt class n slot x after h
array_stays class n slot first x role after g h p l a = record {
  array = subst (IsArrayOf class n h) (sym (p.slots slot l)) (a.array.0, same ∙ a.array.1, a.array.2, a.array.3);
  purpose = ap after (p.slots slot l) ∙ p.roles (word g x slot) there ∙ a.purpose;
}
  where
    there : IsSome (g.things (word g x slot))
    there = array_is_there class n g (word g x slot) a.array

    same : h.things (word g x slot) ≡ g.things (word g x slot)
    same = p.arrays (word g x slot) slot there a.purpose l

named_stays : (class n slot first x s : ℕ) (role after : ℕ → Role) (g h : Graph) → Spares first x role after g h → slot < first → IsArrayAt class n slot x role g → word h (word h x slot) s ≡ word g (word g x slot) s
named_stays class n slot first x s role after g h p l a =
    ap (λ y. word h y s) (p.slots slot l) ∙ ap (λ o. word_in o s) (p.arrays (word g x slot) slot (array_is_there class n g (word g x slot) a.array) a.purpose l)

pub named_roots_stay : (id : ℕ → ℕ) (class first count : ℕ) (numbers : List ℕ) (i x done : ℕ) (role after : ℕ → Role) (g h : Graph) → Spares done x role after g h → ((k : ℕ) → k * 1024 < i → first + k < done)
    → AreNamedRoots id class first count numbers i x role g → AreNamedRoots id class first count numbers i x after h
named_roots_stay id class first count numbers i x done role after g h p below a = record {
  arrays = λ k l. array_stays class (length_at count k) (first + k) done x role after g h p (below k l) (a.arrays k l);
  named = λ j l. (let k : j / 1024 * 1024 < i = omega (arith, l) in
      named_stays class (length_at count (j / 1024)) (first + j / 1024) done x (j % 1024) role after g h p (below (j / 1024) k) (a.arrays (j / 1024) k) ∙ a.named j l);
}

-- ---- a root

-- the state before root i: the objects, the array of roots, what was kept of this kind, and nothing behind
pub record AreBefore (class : ℕ) (made : ℕ → Bool) (last : ℕ) (id : ℕ → ℕ) (roots kind first count : ℕ) (numbers : List ℕ) (i x : ℕ) (role : ℕ → Role) (g : Graph) : Type 0 where
  pub found : AreFound class made last id role g
  pub top : IsRootArray roots x role g
  pub kept_roots : AreNamedRoots id kind first count numbers i x role g
  pub current : i % 1024 ≢ 0 → g.registers 5 ≡ word g x (first + i / 1024)
  pub empty : (s : ℕ) → first + arrays_for i ≤ s → word g x s ≡ 0

-- the array for root i is there
pub record IsArrayReady (class : ℕ) (made : ℕ → Bool) (last : ℕ) (id : ℕ → ℕ) (roots kind first count : ℕ) (numbers : List ℕ) (i x : ℕ) (role : ℕ → Role) (g h : Graph) : Type 0 where
  pub after : ℕ → Role
  pub spared : Spares (first + i / 1024) x role after g h
  pub found : AreFound class made last id after h
  pub top : IsRootArray roots x after h
  pub kept_roots : AreNamedRoots id kind first count numbers i x after h
  pub array : IsArrayAt kind (length_at count (i / 1024)) (first + i / 1024) x after h
  pub current : h.registers 5 ≡ word h x (first + i / 1024)
  pub empty : (s : ℕ) → first + i / 1024 < s → word h x s ≡ 0

array_stays_ready : (class : ℕ) (made : ℕ → Bool) (last : ℕ) (id : ℕ → ℕ) (roots kind first count : ℕ) (numbers : List ℕ) (i x : ℕ) (role : ℕ → Role) (g : Graph) → i % 1024 ≢ 0
    → AreBefore class made last id roots kind first count numbers i x role g → IsArrayReady class made last id roots kind first count numbers i x role g g
array_stays_ready class made last id roots kind first count numbers i x role g part b = record {
  after = role;
  spared = spares_nothing (first + i / 1024) x role g g (λ y. refl);
  found = b.found;
  top = b.top;
  kept_roots = b.kept_roots;
  array = b.kept_roots.arrays (i / 1024) (omega (arith, part));
  current = b.current part;
  empty = λ s l. b.empty s (omega (arith, part, l));
}

-- a new array of references
new_array : (class r n : ℕ) (g h : Graph) → IsCreation r (Array class) n g h → IsArrayOf class n h (h.registers r)
new_array class r n g h c = (record { kind = Array class; words = replicate n 0 }, c.here, refl, length-replicate n 0)

array_created : (class : ℕ) (made : ℕ → Bool) (last : ℕ) (id : ℕ → ℕ) (roots kind first count : ℕ) (numbers : List ℕ) (i x : ℕ) (role : ℕ → Role) (g f h : Graph) → i % 1024 ≡ 0
    → AreBefore class made last id roots kind first count numbers i x role g → IsCreation 5 (Array kind) (min (count - i) 1024) g f → IsWriting 7 (first + i / 1024) (f.registers 5) f h
    → IsArrayReady class made last id roots kind first count numbers i x role g h
array_created class made last id roots kind first count numbers i x role g f h whole b c w = record {
  after = after;
  spared = both;
  found = found_after_write class made last id after 7 (first + i / 1024) (f.registers 5) f h (roots_are_plain (after (f.registers 7)) for7) w (found_after_creation class made last id role (RootArray (first + i / 1024)) 5 (Array kind) (min (count - i) 1024) g f (omega arith) c b.found);
  top = record {
    held = w.registers 7 ∙ held;
    array = array_after_write roots 1024 7 (first + i / 1024) (f.registers 5) x f h w (b.top.array.0, c.others x (older_is_not_new 5 (Array kind) (min (count - i) 1024) g f x c there) ∙ b.top.array.1, b.top.array.2, b.top.array.3);
    purpose = for;
  };
  kept_roots = named_roots_stay id kind first count numbers i x (first + i / 1024) role after g h both (λ k l. omega (arith, l, whole)) b.kept_roots;
  array = record {
    array = subst (λ n. IsArrayOf kind n h (word h x (first + i / 1024))) (ap (λ m. min (count - m) 1024) even)
        (subst (IsArrayOf kind (min (count - i) 1024) h) (sym named) (array_after_write kind (min (count - i) 1024) 7 (first + i / 1024) (f.registers 5) (f.registers 5) f h w (new_array kind 5 (min (count - i) 1024) g f c)));
    purpose = ap after named ∙ changed_here role (f.registers 5) (RootArray (first + i / 1024));
  };
  current = w.registers 5 ∙ sym named;
  empty = λ s l. word_after_write 7 (first + i / 1024) (f.registers 5) f h x s w (inr (λ e. omega (arith, l, e))) ∙ ap (λ o. word_in o s) (c.others x (older_is_not_new 5 (Array kind) (min (count - i) 1024) g f x c there)) ∙ b.empty s (omega (arith, l, whole));
}
  where
    after : ℕ → Role
    after = changed_at_id role (f.registers 5) (RootArray (first + i / 1024))

    there : IsSome (g.things x)
    there = array_is_there roots 1024 g x b.top.array

    held : f.registers 7 ≡ x
    held = c.registers 7 (omega arith) ∙ b.top.held

    first_step : Spares (first + i / 1024) x role (changed_at_id role (f.registers 5) (RootArray (first + i / 1024))) g f
    first_step = creation_spares (first + i / 1024) x role (RootArray (first + i / 1024)) 5 (Array kind) (min (count - i) 1024) g f there c

    for : changed_at_id role (f.registers 5) (RootArray (first + i / 1024)) x ≡ Roots
    for = first_step.roles x there ∙ b.top.purpose

    for7 : changed_at_id role (f.registers 5) (RootArray (first + i / 1024)) (f.registers 7) ≡ Roots
    for7 = ap after held ∙ for

    second_step : Spares (first + i / 1024) x (changed_at_id role (f.registers 5) (RootArray (first + i / 1024))) (changed_at_id role (f.registers 5) (RootArray (first + i / 1024))) f h
    second_step = root_slot_spares (first + i / 1024) x 7 (first + i / 1024) (f.registers 5) after f h for7 (omega arith) w

    both : Spares (first + i / 1024) x role (changed_at_id role (f.registers 5) (RootArray (first + i / 1024))) g h
    both = spares_twice (first + i / 1024) x role after after g f h first_step second_step

    named : word h x (first + i / 1024) ≡ f.registers 5
    named = ap (λ y. word h y (first + i / 1024)) (sym held) ∙ word_written 7 (first + i / 1024) (f.registers 5) f h w

    even : i ≡ i / 1024 * 1024
    even = omega (arith, whole)

pub array_is_ready : (slots : ℕ → ℕ) (class : ℕ) (made : ℕ → Bool) (last : ℕ) (id : ℕ → ℕ) (roots kind first count : ℕ) (numbers : List ℕ) (i x : ℕ) (role : ℕ → Role) (g h : Graph)
    → AreBefore class made last id roots kind first count numbers i x role g → IsRun slots (root_array kind first count i) g h → IsArrayReady class made last id roots kind first count numbers i x role g h
array_is_ready slots class made last id roots kind first count numbers i x role g h b = go (i % 1024 == 0) refl
  where
    go : (c : Bool) → (i % 1024 == 0) ≡ c → IsRun slots (if c then NewArray 0 5 kind (min (count - i) 1024) ∷ Store 0 7 (first + i / 1024) 5 ∷ [] else []) g h → IsArrayReady class made last id roots kind first count numbers i x role g h
    go true e r = array_created class made last id roots kind first count numbers i x role g r.0 h (eqb-true (i % 1024) 0 e) b r.1 (subst (IsWriting 7 (first + i / 1024) (r.0.registers 5) r.0) r.2.2 r.2.1)
    go false e r = subst (IsArrayReady class made last id roots kind first count numbers i x role g) r (array_stays_ready class made last id roots kind first count numbers i x role g (eqb-false (i % 1024) 0 e) b)

-- root i is kept
pub record IsRootKept (class : ℕ) (made : ℕ → Bool) (last : ℕ) (id : ℕ → ℕ) (roots kind first count : ℕ) (numbers : List ℕ) (i x : ℕ) (role : ℕ → Role) (g h : Graph) : Type 0 where
  pub after : ℕ → Role
  pub spared : Spares first x role after g h
  pub later : AreBefore class made last id roots kind first count numbers (i + 1) x after h

root_named : (class : ℕ) (made : ℕ → Bool) (last : ℕ) (id : ℕ → ℕ) (roots kind first count : ℕ) (numbers : List ℕ) (i x n : ℕ) (role : ℕ → Role) (g f k h : Graph) → slice_index numbers i ≡ n
    → (p : IsArrayReady class made last id roots kind first count numbers i x role g f) → IsFetched 6 (id n) f k → IsWriting 5 (i % 1024) (k.registers 6) k h
    → IsRootKept class made last id roots kind first count numbers i x role g h
root_named class made last id roots kind first count numbers i x n role g f k h is p t w = record {
  after = p.after;
  spared = spares_twice first x role p.after p.after g f h (spares_fewer first slot x role p.after g f (omega arith) p.spared) (spares_twice first x p.after p.after p.after f k h (spares_nothing first x p.after f k t.things) (spares_fewer first slot x p.after p.after k h (omega arith) third));
  later = record {
    found = found_after_write class made last id p.after 5 (i % 1024) (k.registers 6) k h (root_arrays_are_plain (p.after (k.registers 5)) slot for5) w
        (found_alike class made last id p.after f k t.things (λ q l. t.registers q (λ e. omega (arith, l, e)) (λ e. omega (arith, l, e))) p.found);
    top = record {
      held = w.registers 7 ∙ t.registers 7 (omega arith) (omega arith) ∙ p.top.held;
      array = array_after_write roots 1024 5 (i % 1024) (k.registers 6) x k h w (p.top.array.0, t.things x ∙ p.top.array.1, p.top.array.2, p.top.array.3);
      purpose = p.top.purpose;
    };
    kept_roots = record { arrays = arrays; named = named };
    current = λ d. w.registers 5 ∙ five ∙ ap (λ s. word k x (first + s)) (omega (arith, d)) ∙ sym (same_slot (first + (i + 1) / 1024));
    empty = λ s l. same_slot s ∙ ap (λ o. word_in o s) (t.things x) ∙ p.empty s (omega (arith, l));
  };
}
  where
    slot : ℕ
    slot = first + i / 1024

    register_names_fetched_object : Spares slot x p.after p.after f k
    register_names_fetched_object = spares_nothing slot x p.after f k t.things

    five : k.registers 5 ≡ word k x (first + i / 1024)
    five = t.registers 5 (omega arith) (omega arith) ∙ p.current ∙ sym (ap (λ o. word_in o (first + i / 1024)) (t.things x))

    array_then : IsArrayAt kind (length_at count (i / 1024)) (first + i / 1024) x p.after k
    array_then = record {
      array = subst (IsArrayOf kind (length_at count (i / 1024)) k) (sym (ap (λ o. word_in o (first + i / 1024)) (t.things x))) (p.array.array.0, t.things (word f x (first + i / 1024)) ∙ p.array.array.1, p.array.array.2, p.array.array.3);
      purpose = ap p.after (ap (λ o. word_in o (first + i / 1024)) (t.things x)) ∙ p.array.purpose;
    }

    for5 : p.after (k.registers 5) ≡ RootArray (first + i / 1024)
    for5 = ap p.after five ∙ array_then.purpose

    apart : x ≢ k.registers 5
    apart e = let z : Roots ≡ RootArray (first + i / 1024) = sym p.top.purpose ∙ ap p.after e ∙ for5 in cc

    third : Spares (first + i / 1024) x p.after p.after k h
    third = array_slot_spares (first + i / 1024) x 5 (i % 1024) (k.registers 6) (first + i / 1024) p.after k h for5 (omega arith) apart w

    same_slot : (s : ℕ) → word h x s ≡ word k x s
    same_slot s = word_after_write 5 (i % 1024) (k.registers 6) k h x s w (inl apart)

    array_now : IsArrayAt kind (length_at count (i / 1024)) (first + i / 1024) x p.after h
    array_now = record {
      array = subst (IsArrayOf kind (length_at count (i / 1024)) h) (sym (same_slot (first + i / 1024))) (array_after_write kind (length_at count (i / 1024)) 5 (i % 1024) (k.registers 6) (word k x (first + i / 1024)) k h w array_then.array);
      purpose = ap p.after (same_slot (first + i / 1024)) ∙ array_then.purpose;
    }

    both : Spares (first + i / 1024) x p.after p.after f h
    both = spares_twice (first + i / 1024) x p.after p.after p.after f k h (spares_nothing (first + i / 1024) x p.after f k t.things) third

    arrays : (m : ℕ) → m * 1024 < i + 1 → IsArrayAt kind (length_at count m) (first + m) x p.after h
    arrays m l = elim (cases_eq m (i / 1024)) [
      | inl e ↦ subst (λ q. IsArrayAt kind (length_at count q) (first + q) x p.after h) (sym e) array_now
      | inr d ↦ array_stays kind (length_at count m) (first + m) (first + i / 1024) x p.after p.after f h both (omega (arith, l, d)) (p.kept_roots.arrays m (omega (arith, l, d)))
    ]

    named : (j : ℕ) → j < i + 1 → word h (word h x (first + j / 1024)) (j % 1024) ≡ id (slice_index numbers j)
    named j l = elim (cases_eq j i) [
      | inl e ↦ subst (λ q. word h (word h x (first + q / 1024)) (q % 1024) ≡ id (slice_index numbers q)) (sym e)
          (ap (λ y. word h y (i % 1024)) (same_slot (first + i / 1024) ∙ sym five) ∙ word_written 5 (i % 1024) (k.registers 6) k h w ∙ t.held ∙ ap id (sym is))
      | inr d ↦ elim (cases_eq (j / 1024) (i / 1024)) [
        | inl e ↦ ap (λ y. word h y (j % 1024)) (same_slot (first + j / 1024))
            ∙ word_after_write 5 (i % 1024) (k.registers 6) k h (word k x (first + j / 1024)) (j % 1024) w (inr (λ s. d (omega (arith, e, s))))
            ∙ ap (λ y. word k y (j % 1024)) (ap (λ o. word_in o (first + j / 1024)) (t.things x)) ∙ ap (λ o. word_in o (j % 1024)) (t.things (word f x (first + j / 1024)))
            ∙ p.kept_roots.named j (omega (arith, l, d))
        | inr e ↦ named_stays kind (length_at count (j / 1024)) (first + j / 1024) (first + i / 1024) x (j % 1024) p.after p.after f h both (omega (arith, l, d, e)) (p.kept_roots.arrays (j / 1024) (omega (arith, l, d))) ∙ p.kept_roots.named j (omega (arith, l, d))
      ]
    ]

pub root_is_kept : (slots : ℕ → ℕ) (class : ℕ) (made : ℕ → Bool) (last : ℕ) (id : ℕ → ℕ) (roots kind first count : ℕ) (numbers : List ℕ) (i x n : ℕ) (role : ℕ → Role) (g h : Graph) → slice_index numbers i ≡ n → n < last
    → AreBefore class made last id roots kind first count numbers i x role g → IsRun slots (root_events kind first count i n) g h → IsRootKept class made last id roots kind first count numbers i x role g h
root_is_kept slots class made last id roots kind first count numbers i x n role g h is l b r = root_named class made last id roots kind first count numbers i x n role g s.0 t.0 h is p
    (subst (λ y. IsFetched 6 y s.0 t.0) (p.found.ids n l) (object_is_fetched slots class p.after 6 n s.0 t.0 (p.found.tops n l) (p.found.keepers n l) s.2))
    (subst (IsWriting 5 (i % 1024) (t.0.registers 6) t.0) t.2.2 t.2.1)
  where
    t : (f : Graph) × IsRun slots (root_array kind first count i ++ fetch_events n 6) g f × IsRun slots (Store 0 5 (i % 1024) 6 ∷ []) f h
    t = run_in_parts slots (root_array kind first count i ++ fetch_events n 6) (Store 0 5 (i % 1024) 6 ∷ []) g h r

    s : (f : Graph) × IsRun slots (root_array kind first count i) g f × IsRun slots (fetch_events n 6) f t.0
    s = run_in_parts slots (root_array kind first count i) (fetch_events n 6) g t.0 t.1

    p : IsArrayReady class made last id roots kind first count numbers i x role g s.0
    p = array_is_ready slots class made last id roots kind first count numbers i x role g s.0 b s.1

-- ---- the roots of a kind

-- each of these numbers is that of an object that is made
abbrev pub AreNumbers : ℕ → List ℕ → Type 0
AreNumbers last [] = Unit {0}
AreNumbers last (n ∷ numbers) = (n < last) × AreNumbers last numbers

-- roots from i on are kept
pub record AreRootsKept (class : ℕ) (made : ℕ → Bool) (last : ℕ) (id : ℕ → ℕ) (roots kind first count : ℕ) (numbers : List ℕ) (i x : ℕ) (role : ℕ → Role) (g h : Graph) : Type 0 where
  pub after : ℕ → Role
  pub spared : Spares first x role after g h
  pub later : AreBefore class made last id roots kind first count numbers i x after h

roots_and_more : (class : ℕ) (made : ℕ → Bool) (last : ℕ) (id : ℕ → ℕ) (roots kind first count : ℕ) (numbers : List ℕ) (i j x : ℕ) (role : ℕ → Role) (g f h : Graph) → (p : IsRootKept class made last id roots kind first count numbers i x role g f)
    → AreRootsKept class made last id roots kind first count numbers j x p.after f h → AreRootsKept class made last id roots kind first count numbers j x role g h
roots_and_more class made last id roots kind first count numbers i j x role g f h p q = record { after = q.after; spared = spares_twice first x role p.after q.after g f h p.spared q.spared; later = q.later }

pub roots_are_kept : (slots : ℕ → ℕ) (class : ℕ) (made : ℕ → Bool) (last : ℕ) (id : ℕ → ℕ) (roots kind first count : ℕ) (numbers : List ℕ) (left : List ℕ) (i x : ℕ) (role : ℕ → Role) (g h : Graph)
    → ((j : ℕ) → slice_index numbers (i + j) ≡ slice_index left j) → AreNumbers last left
    → AreBefore class made last id roots kind first count numbers i x role g → IsRun slots (roots_from kind first count i left) g h
    → AreRootsKept class made last id roots kind first count numbers (i + length left) x role g h
unfolding roots_from
roots_are_kept slots class made last id roots kind first count numbers [] i x role g h same l b r =
    subst (AreRootsKept class made last id roots kind first count numbers (i + 0) x role g) r (record { after = role; spared = spares_nothing first x role g g (λ y. refl); later = subst (λ m. AreBefore class made last id roots kind first count numbers m x role g) (omega arith) b })
roots_are_kept slots class made last id roots kind first count numbers (n ∷ left) i x role g h same l b r =
    let s = run_in_parts slots (root_events kind first count i n) (roots_from kind first count (i + 1) left) g h r in
    let p = root_is_kept slots class made last id roots kind first count numbers i x n role g s.0 (ap (slice_index numbers) (omega arith) ∙ same 0) l.0 b s.1 in
    subst (λ m. AreRootsKept class made last id roots kind first count numbers m x role g h) (omega arith)
    (roots_and_more class made last id roots kind first count numbers i (i + 1 + length left) x role g s.0 h p
    (roots_are_kept slots class made last id roots kind first count numbers left (i + 1) x p.after s.0 h (λ j. ap (slice_index numbers) (omega arith) ∙ same (suc j)) l.1 p.later s.2))
