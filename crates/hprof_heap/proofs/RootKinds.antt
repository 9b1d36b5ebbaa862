-- How the roots of all kinds are kept, and all registers but one cleared.
use Rattle.std.proofs.Common.{◌≡◌, ℕ, zero, suc, ◌+◌, ◌-◌, ◌*◌, ◌<◌, ◌≤◌, Bool, List, [], ◌∷◌, ◌++◌, length, replicate, take, refl, sym, ap, subst, ◌∙◌, inl, inr, arith}
use Rattle.std.specs.Prelude.{slice_index, IsSome}
use Rattle.std.proofs.lemmas.Bool.{cases_eq}
use Rattle.std.proofs.lemmas.List.{length-replicate}
use Rattle.heap_class.specs.declared.ObjKind.TheVariants.{Array}
use Rattle.heap_step.specs.declared.Event.{Event}
use Rattle.heap_step.specs.declared.Event.TheVariants.{NewArray}
use Rattle.hprof_lines.specs.Roots.{arrays_for, clear_events, kind_events, with_room}
use Rattle.hprof_heap.proofs.Graphs.{Graph, word, word_in, IsClearing, IsCreation, IsRun, changed_at_id, changed_here, run_in_parts}
use Rattle.hprof_heap.proofs.Placed.{IsArrayOf, Object, Role, Roots}
use Rattle.hprof_heap.proofs.Linking.{AreFound}
use Rattle.hprof_heap.proofs.RootSteps.{Spares, creation_spares, found_after_creation, spares_fewer, spares_nothing, spares_twice}
use Rattle.hprof_heap.proofs.RootArrays.{AreBefore, AreNamedRoots, AreNumbers, AreRootsKept, IsRootArray, named_roots_stay, roots_are_kept}

-- the events that keep the roots of kinds, if `named` tells the numbers of the objects that they name
abbrev pub keepings : (ℕ → List ℕ) → ℕ → ℕ → List ℕ → List Event
keepings named class first [] = []
keepings named class first (tag ∷ tags) =
    kind_events class first (with_room first (named tag)) ++ keepings named (class + 1) (first + arrays_for (length (with_room first (named tag)))) tags

-- the roots of kinds are named by arrays, and the slots behind are null
abbrev pub AreKindsKept : (ℕ → ℕ) → (ℕ → List ℕ) → ℕ → ℕ → List ℕ → ℕ → (ℕ → Role) → Graph → Type 0
AreKindsKept id named class first [] x role g = (s : ℕ) → first ≤ s → word g x s ≡ 0
AreKindsKept id named class first (tag ∷ tags) x role g =
    AreNamedRoots id class first (length (with_room first (named tag))) (with_room first (named tag)) (length (with_room first (named tag))) x role g
    × AreKindsKept id named (class + 1) (first + arrays_for (length (with_room first (named tag)))) tags x role g

pub numbers_taken : (last n : ℕ) (numbers : List ℕ) → AreNumbers last numbers → AreNumbers last (take n numbers)
numbers_taken last zero numbers a = tt
numbers_taken last (suc n) [] a = tt
numbers_taken last (suc n) (x ∷ numbers) a = (a.0, numbers_taken last n numbers a.1)

-- the objects, the array of roots, and nothing from slot `first` of it on
pub record AreKindsBefore (class : ℕ) (made : ℕ → Bool) (last : ℕ) (id : ℕ → ℕ) (roots first x : ℕ) (role : ℕ → Role) (g : Graph) : Type 0 where
  pub found : AreFound class made last id role g
  pub top : IsRootArray roots x role g
  pub empty : (s : ℕ) → first ≤ s → word g x s ≡ 0

pub record AreAllKept (class : ℕ) (made : ℕ → Bool) (last : ℕ) (id : ℕ → ℕ) (roots : ℕ) (named : ℕ → List ℕ) (kind first : ℕ) (tags : List ℕ) (x : ℕ) (role : ℕ → Role) (g h : Graph) : Type 0 where
  pub after : ℕ → Role
  pub spared : Spares first x role after g h
  pub found : AreFound class made last id after h
  pub top : IsRootArray roots x after h
  pub kept : AreKindsKept id named kind first tags x after h

no_kinds_kept : (class : ℕ) (made : ℕ → Bool) (last : ℕ) (id : ℕ → ℕ) (roots : ℕ) (named : ℕ → List ℕ) (kind first x : ℕ) (role : ℕ → Role) (g : Graph) → AreKindsBefore class made last id roots first x role g
    → AreAllKept class made last id roots named kind first [] x role g g
no_kinds_kept class made last id roots named kind first x role g b = record { after = role; spared = spares_nothing first x role g g (λ y. refl); found = b.found; top = b.top; kept = b.empty }

-- before the first root of a kind
pub none_of_kind : (class : ℕ) (made : ℕ → Bool) (last : ℕ) (id : ℕ → ℕ) (roots kind first count : ℕ) (numbers : List ℕ) (x : ℕ) (role : ℕ → Role) (g : Graph) → AreKindsBefore class made last id roots first x role g
    → AreBefore class made last id roots kind first count numbers 0 x role g
none_of_kind class made last id roots kind first count numbers x role g b = record {
  found = b.found;
  top = b.top;
  kept_roots = record { arrays = λ k l. absurd (omega (arith, l)); named = λ j l. absurd (omega (arith, l)) };
  current = λ d. absurd (d refl);
  empty = λ s l. b.empty s (omega (arith, l));
}

pub kind_is_kept : (slots : ℕ → ℕ) (class : ℕ) (made : ℕ → Bool) (last : ℕ) (id : ℕ → ℕ) (roots kind first : ℕ) (numbers : List ℕ) (x : ℕ) (role : ℕ → Role) (g h : Graph) → AreNumbers last numbers
    → AreKindsBefore class made last id roots first x role g → IsRun slots (kind_events kind first numbers) g h → AreRootsKept class made last id roots kind first (length numbers) numbers (length numbers) x role g h
kind_is_kept slots class made last id roots kind first numbers x role g h l b r =
    subst (λ m. AreRootsKept class made last id roots kind first (length numbers) numbers m x role g h) (omega arith)
    (roots_are_kept slots class made last id roots kind first (length numbers) numbers numbers 0 x role g h (λ j. ap (slice_index numbers) (omega arith)) l (none_of_kind class made last id roots kind first (length numbers) numbers x role g b) r)

pub kinds_later : (class : ℕ) (made : ℕ → Bool) (last : ℕ) (id : ℕ → ℕ) (roots kind first : ℕ) (numbers : List ℕ) (x : ℕ) (role : ℕ → Role) (g h : Graph) → (p : AreRootsKept class made last id roots kind first (length numbers) numbers (length numbers) x role g h)
    → AreKindsBefore class made last id roots (first + arrays_for (length numbers)) x p.after h
kinds_later class made last id roots kind first numbers x role g h p = record { found = p.later.found; top = p.later.top; empty = p.later.empty }

kind_and_more : (class : ℕ) (made : ℕ → Bool) (last : ℕ) (id : ℕ → ℕ) (roots : ℕ) (named : ℕ → List ℕ) (kind first tag : ℕ) (tags : List ℕ) (x : ℕ) (role : ℕ → Role) (g f h : Graph)
    → (p : AreRootsKept class made last id roots kind first (length (with_room first (named tag))) (with_room first (named tag)) (length (with_room first (named tag))) x role g f)
    → AreAllKept class made last id roots named (kind + 1) (first + arrays_for (length (with_room first (named tag)))) tags x p.after f h
    → AreAllKept class made last id roots named kind first (tag ∷ tags) x role g h
kind_and_more class made last id roots named kind first tag tags x role g f h p q = record {
  after = q.after;
  spared = spares_twice first x role p.after q.after g f h p.spared (spares_fewer first next x p.after q.after f h (omega arith) q.spared);
  found = q.found;
  top = q.top;
  kept = (named_roots_stay id kind first (length numbers) numbers (length numbers) x next p.after q.after f h q.spared (λ k l. omega (arith, l)) p.later.kept_roots, q.kept);
}
  where
    numbers : List ℕ
    numbers = with_room first (named tag)

    next : ℕ
    next = first + arrays_for (length (with_room first (named tag)))

pub kinds_are_kept : (slots : ℕ → ℕ) (class : ℕ) (made : ℕ → Bool) (last : ℕ) (id : ℕ → ℕ) (roots : ℕ) (named : ℕ → List ℕ) (kind first : ℕ) (tags : List ℕ) (x : ℕ) (role : ℕ → Role) (g h : Graph) → ((tag : ℕ) → AreNumbers last (named tag))
    → AreKindsBefore class made last id roots first x role g → IsRun slots (keepings named kind first tags) g h → AreAllKept class made last id roots named kind first tags x role g h
kinds_are_kept slots class made last id roots named kind first [] x role g h l b r = subst (AreAllKept class made last id roots named kind first [] x role g) r (no_kinds_kept class made last id roots named kind first x role g b)
kinds_are_kept slots class made last id roots named kind first (tag ∷ tags) x role g h l b r =
    let numbers = with_room first (named tag) in
    let next = first + arrays_for (length numbers) in
    let s = run_in_parts slots (kind_events kind first numbers) (keepings named (kind + 1) next tags) g h r in
    let p = kind_is_kept slots class made last id roots kind first numbers x role g s.0 (numbers_taken last ((1024 - first) * 1024) (named tag) (l tag)) b s.1 in
    kind_and_more class made last id roots named kind first tag tags x role g s.0 h p
    (kinds_are_kept slots class made last id roots named (kind + 1) next tags x p.after s.0 h l (kinds_later class made last id roots kind first numbers x role g s.0 p) s.2)

-- ---- registers are cleared

clear_more : (k : ℕ) (g h : Graph) → ((q : ℕ) → q < k → g.registers q ≡ 0) → IsClearing k g h → (q : ℕ) → q < k + 1 → h.registers q ≡ 0
clear_more k g h z c q l = elim (cases_eq q k) [ inl e ↦ ap h.registers e ∙ c.cleared | inr d ↦ c.registers q d ∙ z q (omega (arith, l, d)) ]

-- registers 0 to 6 are null, and nothing else changes
pub record AreCleared (g h : Graph) : Type 0 where
  pub cleared : (q : ℕ) → q < 7 → h.registers q ≡ 0
  pub things : (y : ℕ) → h.things y ≡ g.things y
  pub held : h.registers 7 ≡ g.registers 7

pub registers_are_cleared : (slots : ℕ → ℕ) (g h : Graph) → IsRun slots clear_events g h → AreCleared g h
registers_are_cleared slots g h r =
    let r1 = r.2 in
    let r2 = r1.2 in
    let r3 = r2.2 in
    let r4 = r3.2 in
    let r5 = r4.2 in
    let r6 = r5.2 in
    subst (AreCleared g) r6.2 (record {
      cleared = clear_more 6 r5.0 r6.0 (clear_more 5 r4.0 r5.0 (clear_more 4 r3.0 r4.0 (clear_more 3 r2.0 r3.0 (clear_more 2 r1.0 r2.0 (clear_more 1 r.0 r1.0 (clear_more 0 g r.0 (λ q l. absurd (omega (arith, l))) r.1) r1.1) r2.1) r3.1) r4.1) r5.1) r6.1;
      things = λ y. r6.1.things y ∙ r5.1.things y ∙ r4.1.things y ∙ r3.1.things y ∙ r2.1.things y ∙ r1.1.things y ∙ r.1.things y;
      held = r6.1.registers 7 (omega arith) ∙ r5.1.registers 7 (omega arith) ∙ r4.1.registers 7 (omega arith) ∙ r3.1.registers 7 (omega arith) ∙ r2.1.registers 7 (omega arith) ∙ r1.1.registers 7 (omega arith) ∙ r.1.registers 7 (omega arith);
    })

-- ---- all of it

-- the events after the objects are linked
abbrev pub root_keepings : (ℕ → List ℕ) → ℕ → List ℕ → List Event
root_keepings named roots tags = NewArray 0 7 roots 1024 ∷ keepings named (roots + 1) 0 tags ++ clear_events

-- the roots are kept: objects aren't changed, and register 7 alone names an object
pub record AreRootsDone (id : ℕ → ℕ) (named : ℕ → List ℕ) (roots : ℕ) (tags : List ℕ) (role : ℕ → Role) (g h : Graph) : Type 0 where
  pub objects : (y m : ℕ) → IsSome (g.things y) → role y ≡ Object m → h.things y ≡ g.things y
  pub array : IsArrayOf roots 1024 h (h.registers 7)
  pub after : ℕ → Role
  pub kept : AreKindsKept id named (roots + 1) 0 tags (h.registers 7) after h
  pub cleared : (q : ℕ) → q < 7 → h.registers q ≡ 0

new_words_are_null : (n s : ℕ) → slice_index (replicate n 0) s ≡ 0
new_words_are_null zero s = refl
new_words_are_null (suc n) zero = refl
new_words_are_null (suc n) (suc s) = new_words_are_null n s

-- the array of roots, when it is new
pub roots_begin : (class : ℕ) (made : ℕ → Bool) (last : ℕ) (id : ℕ → ℕ) (roots n : ℕ) (role : ℕ → Role) (g f : Graph) → n ≡ 1024 → AreFound class made last id role g → IsCreation 7 (Array roots) n g f
    → AreKindsBefore class made last id roots 0 (f.registers 7) (changed_at_id role (f.registers 7) Roots) f
roots_begin class made last id roots n role g f e a c = record {
  found = found_after_creation class made last id role Roots 7 (Array roots) n g f (omega arith) c a;
  top = record {
    held = refl;
    array = (record { kind = Array roots; words = replicate n 0 }, c.here, refl, length-replicate n 0 ∙ e);
    purpose = changed_here role (f.registers 7) Roots;
  };
  empty = λ s l. ap (λ o. word_in o s) c.here ∙ new_words_are_null n s;
}

creation_leaves_objects : (roots n : ℕ) (role : ℕ → Role) (g f : Graph) → IsCreation 7 (Array roots) n g f → (y m : ℕ) → IsSome (g.things y) → role y ≡ Object m
    → (f.things y ≡ g.things y) × IsSome (f.things y) × (changed_at_id role (f.registers 7) Roots y ≡ Object m)
creation_leaves_objects roots n role g f c y m there e =
    let p : Spares 0 y role (changed_at_id role (f.registers 7) Roots) g f = creation_spares 0 y role Roots 7 (Array roots) n g f there c in
    (p.objects y m there e, p.there y there, p.roles y there ∙ e)

-- the same graph with registers cleared
kinds_alike : (id : ℕ → ℕ) (named : ℕ → List ℕ) (class first : ℕ) (tags : List ℕ) (x : ℕ) (role : ℕ → Role) (g h : Graph) → ((y : ℕ) → h.things y ≡ g.things y) → AreKindsKept id named class first tags x role g → AreKindsKept id named class first tags x role h
kinds_alike id named class first [] x role g h e a = λ s l. ap (λ o. word_in o s) (e x) ∙ a s l
kinds_alike id named class first (tag ∷ tags) x role g h e a =
    let numbers = with_room first (named tag) in
    let next = first + arrays_for (length numbers) in (
      named_roots_stay id class first (length numbers) numbers (length numbers) x next role role g h (spares_nothing next x role g h e) (λ k l. omega (arith, l)) a.0,
      kinds_alike id named (class + 1) next tags x role g h e a.1,
    )

pub roots_are_done : (slots : ℕ → ℕ) (class : ℕ) (made : ℕ → Bool) (last : ℕ) (id : ℕ → ℕ) (named : ℕ → List ℕ) (roots : ℕ) (tags : List ℕ) (role : ℕ → Role) (g h : Graph) → ((tag : ℕ) → AreNumbers last (named tag))
    → AreFound class made last id role g → IsRun slots (root_keepings named roots tags) g h → AreRootsDone id named roots tags role g h
roots_are_done slots class made last id named roots tags role g h numbers a r = record {
  objects = λ y m there e. (let p = creation_leaves_objects roots 1024 role g r.0 r.1 y m there e in
      cleared.things y ∙ all.spared.objects y m p.1 p.2 ∙ p.0);
  array = subst (IsArrayOf roots 1024 h) (sym seven) (all.top.array.0, cleared.things (r.0.registers 7) ∙ all.top.array.1, all.top.array.2, all.top.array.3);
  after = all.after;
  kept = subst (λ x. AreKindsKept id named (roots + 1) 0 tags x all.after h) (sym seven) (kinds_alike id named (roots + 1) 0 tags (r.0.registers 7) all.after s.0 h cleared.things all.kept);
  cleared = cleared.cleared;
}
  where
    s : (f : Graph) × IsRun slots (keepings named (roots + 1) 0 tags) r.0 f × IsRun slots clear_events f h
    s = run_in_parts slots (keepings named (roots + 1) 0 tags) clear_events r.0 h r.2

    all : AreAllKept class made last id roots named (roots + 1) 0 tags (r.0.registers 7) (changed_at_id role (r.0.registers 7) Roots) r.0 s.0
    all = kinds_are_kept slots class made last id roots named (roots + 1) 0 tags (r.0.registers 7) (changed_at_id role (r.0.registers 7) Roots) r.0 s.0 numbers (roots_begin class made last id roots 1024 role g r.0 refl a r.1) s.1

    cleared : AreCleared s.0 h
    cleared = registers_are_cleared slots s.0 h s.2

    seven : h.registers 7 ≡ r.0.registers 7
    seven = cleared.held ∙ all.top.held
