-- The events that keep the roots can run.
use Rattle.std.proofs.Common.{◌≡◌, ℕ, suc, ◌+◌, ◌-◌, ◌*◌, ◌/◌, ◌%◌, ◌<◌, ◌≤◌, Bool, true, List, [], ◌∷◌, ◌++◌, length, refl, sym, ap, subst, ◌∙◌, arith}
use Rattle.std.specs.Prelude.{slice_index, min, ◌==◌}
use Rattle.std.proofs.lemmas.List.{length-take}
use Rattle.heap_class.specs.declared.Kind.{Kind}
use Rattle.heap_class.specs.declared.ObjKind.TheVariants.{Array}
use Rattle.heap_class.specs.Classes.{Class, is_array_class}
use Rattle.heap_step.specs.declared.Event.TheVariants.{NewArray, Store}
use Rattle.hprof_session.specs.Places.{fetch_events}
use Rattle.hprof_lines.specs.Roots.{arrays_for, clear_events, kind_events, root_array, root_events, roots_from, with_room}
use Rattle.hprof_heap.proofs.Graphs.{Graph, IsCreation, run_in_parts, thing_after_creation, word}
use Rattle.hprof_heap.proofs.PlaceNumbers.{few_tops}
use Rattle.hprof_heap.proofs.Placed.{IsArrayOf, Role, Roots, array_is_there}
use Rattle.hprof_heap.proofs.Graphs.{changed_at_id}
use Rattle.hprof_heap.proofs.Linking.{AreFound, object_is_fetched}
use Rattle.hprof_heap.proofs.Acceptable.{CanRun, HasSlotOf, can_run_both}
use Rattle.hprof_heap.proofs.MakingRuns.{array_has_slot, can_run_if}
use Rattle.hprof_heap.proofs.LinkingRuns.{fetch_can_run}
use Rattle.hprof_heap.proofs.RootArrays.{AreBefore, AreNumbers, array_is_ready, length_at, root_is_kept}
use Rattle.hprof_heap.proofs.RootKinds.{AreKindsBefore, keepings, kind_is_kept, kinds_later, none_of_kind, numbers_taken, root_keepings, roots_begin}

-- ---- a root

array_can_be_made : (classes : List Class) (most : ℕ) (slots : ℕ → ℕ) (class : ℕ) (made : ℕ → Bool) (last : ℕ) (id : ℕ → ℕ) (roots kind first count : ℕ) (numbers : List ℕ) (i x : ℕ) (role : ℕ → Role) (g : Graph)
    → is_array_class classes kind ≡ true → 1024 ≤ most → first + i / 1024 < 1024 → AreBefore class made last id roots kind first count numbers i x role g → CanRun classes most slots (root_array kind first count i) g
array_can_be_made classes most slots class made last id roots kind first count numbers i x role g arrays room within b =
    can_run_if classes most slots (i % 1024 == 0) (NewArray 0 5 kind (min (count - i) 1024) ∷ Store 0 7 (first + i / 1024) 5 ∷ []) g
    ((omega arith, arrays, omega (arith, room)), λ h c. ((omega arith, omega arith, (Kind.Object, there h c, refl)), λ k s. tt))
  where
    there : (h : Graph) → IsCreation 5 (Array kind) (min (count - i) 1024) g h → HasSlotOf classes h (h.registers 7) (first + i / 1024) Kind.Object
    there h c = array_has_slot classes roots 1024 h (h.registers 7) (first + i / 1024) within
        (subst (IsArrayOf roots 1024 h) (sym (c.registers 7 (omega arith) ∙ b.top.held))
        (b.top.array.0, thing_after_creation 5 (Array kind) (min (count - i) 1024) g h x c (array_is_there roots 1024 g x b.top.array) ∙ b.top.array.1, b.top.array.2, b.top.array.3))

root_can_run : (classes : List Class) (most : ℕ) (slots : ℕ → ℕ) (class : ℕ) (made : ℕ → Bool) (last : ℕ) (id : ℕ → ℕ) (roots kind first count : ℕ) (numbers : List ℕ) (i x n : ℕ) (role : ℕ → Role) (g : Graph)
    → is_array_class classes kind ≡ true → 1024 ≤ most → first + i / 1024 < 1024 → i < count → n < last → AreBefore class made last id roots kind first count numbers i x role g → CanRun classes most slots (root_events kind first count i n) g
root_can_run classes most slots class made last id roots kind first count numbers i x n role g arrays room within less l b =
    can_run_both classes most slots (root_array kind first count i ++ fetch_events n 6) (Store 0 5 (i % 1024) 6 ∷ []) g
    (can_run_both classes most slots (root_array kind first count i) (fetch_events n 6) g (array_can_be_made classes most slots class made last id roots kind first count numbers i x role g arrays room within b)
    (λ h r. (let p = array_is_ready slots class made last id roots kind first count numbers i x role g h b r in
    fetch_can_run classes most slots class p.after 6 n h (omega arith) (few_tops n (omega (arith, l, p.found.few))) (p.found.tops n l) (p.found.keepers n l))))
    (λ k r. (let s = run_in_parts slots (root_array kind first count i) (fetch_events n 6) g k r in
    let p = array_is_ready slots class made last id roots kind first count numbers i x role g s.0 b s.1 in
    let t = object_is_fetched slots class p.after 6 n s.0 k (p.found.tops n l) (p.found.keepers n l) s.2 in
    let five : k.registers 5 ≡ word s.0 x (first + i / 1024) = t.registers 5 (omega arith) (omega arith) ∙ p.current in (
      (
        omega arith,
        omega arith,
        (
          Kind.Object,
          array_has_slot classes kind (length_at count (i / 1024)) k (k.registers 5) (i % 1024) (omega (arith, less))
              (subst (IsArrayOf kind (length_at count (i / 1024)) k) (sym five) (p.array.array.0, t.things (word s.0 x (first + i / 1024)) ∙ p.array.array.1, p.array.array.2, p.array.array.3)),
          refl,
        ),
      ),
      λ j q. tt,
    )))

-- ---- the roots of a kind

roots_can_run : (classes : List Class) (most : ℕ) (slots : ℕ → ℕ) (class : ℕ) (made : ℕ → Bool) (last : ℕ) (id : ℕ → ℕ) (roots kind first count : ℕ) (numbers left : List ℕ) (i x : ℕ) (role : ℕ → Role) (g : Graph)
    → is_array_class classes kind ≡ true → 1024 ≤ most → count ≤ (1024 - first) * 1024 → i + length left ≤ count → ((j : ℕ) → slice_index numbers (i + j) ≡ slice_index left j) → AreNumbers last left
    → AreBefore class made last id roots kind first count numbers i x role g → CanRun classes most slots (roots_from kind first count i left) g
unfolding roots_from
roots_can_run classes most slots class made last id roots kind first count numbers [] i x role g arrays room fits few same l b = tt
roots_can_run classes most slots class made last id roots kind first count numbers (n ∷ left) i x role g arrays room fits few same l b =
    let is : slice_index numbers i ≡ n = ap (slice_index numbers) (omega arith) ∙ same 0 in
    can_run_both classes most slots (root_events kind first count i n) (roots_from kind first count (i + 1) left) g
    (root_can_run classes most slots class made last id roots kind first count numbers i x n role g arrays room (omega (arith, fits, few)) (omega (arith, few)) l.0 b)
    (λ h r. (let p = root_is_kept slots class made last id roots kind first count numbers i x n role g h is l.0 b r in
    roots_can_run classes most slots class made last id roots kind first count numbers left (i + 1) x p.after h arrays room fits (omega (arith, few)) (λ j. ap (slice_index numbers) (omega arith) ∙ same (suc j)) l.1 p.later))

-- ---- all kinds

-- the classes of kinds of roots are array classes
abbrev pub AreArrayClasses : List Class → ℕ → List ℕ → Type 0
AreArrayClasses classes kind [] = Unit {0}
AreArrayClasses classes kind (tag ∷ tags) = (is_array_class classes kind ≡ true) × AreArrayClasses classes (kind + 1) tags

fits_room : (first : ℕ) (numbers : List ℕ) → length (with_room first numbers) ≤ (1024 - first) * 1024
fits_room first numbers = omega (arith, length-take ((1024 - first) * 1024) numbers)

keepings_can_run : (classes : List Class) (most : ℕ) (slots : ℕ → ℕ) (class : ℕ) (made : ℕ → Bool) (last : ℕ) (id : ℕ → ℕ) (roots : ℕ) (named : ℕ → List ℕ) (kind first : ℕ) (tags : List ℕ) (x : ℕ) (role : ℕ → Role) (g : Graph)
    → AreArrayClasses classes kind tags → 1024 ≤ most → ((tag : ℕ) → AreNumbers last (named tag)) → AreKindsBefore class made last id roots first x role g → CanRun classes most slots (keepings named kind first tags) g
keepings_can_run classes most slots class made last id roots named kind first [] x role g arrays room l b = tt
keepings_can_run classes most slots class made last id roots named kind first (tag ∷ tags) x role g arrays room l b =
    let numbers = with_room first (named tag) in
    let next = first + arrays_for (length numbers) in
    let below = numbers_taken last ((1024 - first) * 1024) (named tag) (l tag) in
    can_run_both classes most slots (kind_events kind first numbers) (keepings named (kind + 1) next tags) g
    (roots_can_run classes most slots class made last id roots kind first (length numbers) numbers numbers 0 x role g arrays.0 room (fits_room first (named tag)) (omega arith) (λ j. ap (slice_index numbers) (omega arith)) below (none_of_kind class made last id roots kind first (length numbers) numbers x role g b))
    (λ h r. (let p = kind_is_kept slots class made last id roots kind first numbers x role g h below b r in
    keepings_can_run classes most slots class made last id roots named (kind + 1) next tags x p.after h arrays.1 room l (kinds_later class made last id roots kind first numbers x role g h p)))

clears_can_run : (classes : List Class) (most : ℕ) (slots : ℕ → ℕ) (g : Graph) → CanRun classes most slots clear_events g
clears_can_run classes most slots g =
    (omega arith, λ h0 s0. (omega arith, λ h1 s1. (omega arith, λ h2 s2. (omega arith, λ h3 s3. (omega arith, λ h4 s4. (omega arith, λ h5 s5. (omega arith, λ h6 s6. tt)))))))

pub root_keepings_can_run : (classes : List Class) (most : ℕ) (slots : ℕ → ℕ) (class : ℕ) (made : ℕ → Bool) (last : ℕ) (id : ℕ → ℕ) (named : ℕ → List ℕ) (roots : ℕ) (tags : List ℕ) (role : ℕ → Role) (g : Graph)
    → is_array_class classes roots ≡ true → AreArrayClasses classes (roots + 1) tags → 1024 ≤ most → ((tag : ℕ) → AreNumbers last (named tag)) → AreFound class made last id role g → CanRun classes most slots (root_keepings named roots tags) g
root_keepings_can_run classes most slots class made last id named roots tags role g top arrays room l a = (
  (omega arith, top, room),
  λ h c. can_run_both classes most slots (keepings named (roots + 1) 0 tags) clear_events h
      (keepings_can_run classes most slots class made last id roots named (roots + 1) 0 tags (h.registers 7) (changed_at_id role (h.registers 7) Roots) h arrays room l (roots_begin class made last id roots 1024 role g h refl a c))
      (λ k r. clears_can_run classes most slots k),
)
