-- Steps that keep roots, and what they leave of the objects.
use Rattle.std.proofs.Common.{◌≡◌, ◌≢◌, ◌⊎◌, ℕ, ◌/◌, ◌<◌, ◌≤◌, Bool, length, refl, sym, ap, subst, ◌∙◌, inl, inr, arith}
use Rattle.std.specs.Prelude.{slice_set, IsSome}
use Rattle.std.proofs.lemmas.Bool.{cases_eq}
use Rattle.std.proofs.lemmas.List.{length-set}
use Rattle.heap_class.specs.declared.ObjKind.{ObjKind}
use Rattle.hprof_session.specs.Places.{top_of}
use Rattle.hprof_heap.proofs.Graphs.{Graph, Thing, word, word_in, IsCreation, IsWriting, changed_at_id, changed_elsewhere, older_is_not_new, thing_after_creation, thing_is_there, word_after_write}
use Rattle.hprof_heap.proofs.PlaceNumbers.{few_tops}
use Rattle.hprof_heap.proofs.Placed.{IsArrayOf, Keeper, Moves, Object, Role, RootArray, Roots, Stays, Top, alike_moves, alike_stays, creation_moves, creation_stays, keeper, keeper_moves, kept_moves, place_array_is_there, same_thing, top_moves, writing_moves, writing_stays}
use Rattle.hprof_heap.proofs.Linking.{AreFound}

-- ---- the objects stay found

pub found_moves : (class : ℕ) (made : ℕ → Bool) (last n : ℕ) (id : ℕ → ℕ) (role after : ℕ → Role) (g h : Graph) → Moves class n role after g h → ((m : ℕ) → m < last → Stays g h m) → AreFound class made last id role g → AreFound class made last id after h
found_moves class made last n id role after g h moves stays a = record {
  few = a.few;
  tops = λ m l. top_moves class n m role after g h moves (stays m l).top_stays (a.tops m l);
  keepers = λ m l. keeper_moves class n m role after g h moves (stays m l).array_stays (a.keepers m l);
  objects = λ m l b. kept_moves class n m role after g h moves (stays m l) (a.objects m l b);
  ids = λ m l. (stays m l).object_stays ∙ a.ids m l;
}

pub few_of : (class : ℕ) (made : ℕ → Bool) (last : ℕ) (id : ℕ → ℕ) (role : ℕ → Role) (g : Graph) (m : ℕ) → AreFound class made last id role g → m < last → top_of m < 4
few_of class made last id role g m a l = few_tops m (omega (arith, l, a.few))

pub found_after_creation : (class : ℕ) (made : ℕ → Bool) (last : ℕ) (id : ℕ → ℕ) (role : ℕ → Role) (a : Role) (r : ℕ) (kind : ObjKind) (len : ℕ) (g h : Graph) → 4 ≤ r → IsCreation r kind len g h → AreFound class made last id role g
    → AreFound class made last id (changed_at_id role (h.registers r) a) h
found_after_creation class made last id role a r kind len g h high c p =
    found_moves class made last 0 id role (changed_at_id role (h.registers r) a) g h (creation_moves class 0 r kind len role a g h c)
    (λ m l. creation_stays r kind len m g h c (λ e. (let few : top_of m < 4 = few_of class made last id role g m p l in omega (arith, few, high, e)))
    (place_array_is_there class g (g.registers (top_of m)) (p.tops m l).there) (place_array_is_there class g (keeper g m) (p.keepers m l).there)) p

-- a thing that keeps no object
pub record IsPlain (a : Role) : Type 0 where
  pub no_top : (n : ℕ) → a ≢ Top n
  pub no_keeper : (n : ℕ) → a ≢ Keeper n
  pub no_object : (n : ℕ) → a ≢ Object n

pub roots_are_plain : (a : Role) → a ≡ Roots → IsPlain a
roots_are_plain a e = record {
  no_top = λ n f. (let z : Roots ≡ Top n = sym e ∙ f in cc);
  no_keeper = λ n f. (let z : Roots ≡ Keeper n = sym e ∙ f in cc);
  no_object = λ n f. (let z : Roots ≡ Object n = sym e ∙ f in cc);
}

pub root_arrays_are_plain : (a : Role) (s : ℕ) → a ≡ RootArray s → IsPlain a
root_arrays_are_plain a s e = record {
  no_top = λ n f. (let z : RootArray s ≡ Top n = sym e ∙ f in cc);
  no_keeper = λ n f. (let z : RootArray s ≡ Keeper n = sym e ∙ f in cc);
  no_object = λ n f. (let z : RootArray s ≡ Object n = sym e ∙ f in cc);
}

pub found_after_write : (class : ℕ) (made : ℕ → Bool) (last : ℕ) (id : ℕ → ℕ) (role : ℕ → Role) (r slot v : ℕ) (g h : Graph) → IsPlain (role (g.registers r)) → IsWriting r slot v g h → AreFound class made last id role g → AreFound class made last id role h
found_after_write class made last id role r slot v g h plain w p =
    found_moves class made last 0 id role role g h (writing_moves class 0 r slot v role g h w (λ m e. absurd (plain.no_object m e)))
    (λ m l. writing_stays r slot v m g h w (inl (λ e. plain.no_top (top_of m) (ap role (sym e) ∙ (p.tops m l).purpose))) (inl (λ e. plain.no_keeper (m / 1024) (ap role (sym e) ∙ (p.keepers m l).purpose)))) p

pub found_alike : (class : ℕ) (made : ℕ → Bool) (last : ℕ) (id : ℕ → ℕ) (role : ℕ → Role) (g h : Graph) → ((y : ℕ) → h.things y ≡ g.things y) → ((q : ℕ) → q < 4 → h.registers q ≡ g.registers q) → AreFound class made last id role g → AreFound class made last id role h
found_alike class made last id role g h things registers p =
    found_moves class made last 0 id role role g h (alike_moves class 0 role g h things) (λ m l. alike_stays g h m things (registers (top_of m) (few_of class made last id role g m p l))) p

-- ---- what stays of objects and of the arrays of roots

-- things are there as before, each for what it was for; objects, the first arrays of roots and the slots that name these stay
pub record Spares (first x : ℕ) (role after : ℕ → Role) (g h : Graph) : Type 0 where
  pub there : (y : ℕ) → IsSome (g.things y) → IsSome (h.things y)
  pub roles : (y : ℕ) → IsSome (g.things y) → after y ≡ role y
  pub objects : (y m : ℕ) → IsSome (g.things y) → role y ≡ Object m → h.things y ≡ g.things y
  pub arrays : (y s : ℕ) → IsSome (g.things y) → role y ≡ RootArray s → s < first → h.things y ≡ g.things y
  pub slots : (s : ℕ) → s < first → word h x s ≡ word g x s

pub spares_nothing : (first x : ℕ) (role : ℕ → Role) (g h : Graph) → ((y : ℕ) → h.things y ≡ g.things y) → Spares first x role role g h
spares_nothing first x role g h e = record {
  there = λ y p. subst IsSome (sym (e y)) p;
  roles = λ y p. refl;
  objects = λ y m p f. e y;
  arrays = λ y s p f l. e y;
  slots = λ s l. ap (λ o. word_in o s) (e x);
}

-- fewer arrays
pub spares_fewer : (first second x : ℕ) (role after : ℕ → Role) (g h : Graph) → first ≤ second → Spares second x role after g h → Spares first x role after g h
spares_fewer first second x role after g h le p = record {
  there = p.there;
  roles = p.roles;
  objects = p.objects;
  arrays = λ y s q e l. p.arrays y s q e (omega (arith, l, le));
  slots = λ s l. p.slots s (omega (arith, l, le));
}

pub spares_twice : (first x : ℕ) (a b c : ℕ → Role) (f g h : Graph) → Spares first x a b f g → Spares first x b c g h → Spares first x a c f h
spares_twice first x a b c f g h p q = record {
  there = λ y t. q.there y (p.there y t);
  roles = λ y t. q.roles y (p.there y t) ∙ p.roles y t;
  objects = λ y m t e. q.objects y m (p.there y t) (p.roles y t ∙ e) ∙ p.objects y m t e;
  arrays = λ y s t e l. q.arrays y s (p.there y t) (p.roles y t ∙ e) l ∙ p.arrays y s t e l;
  slots = λ s l. q.slots s l ∙ p.slots s l;
}

pub creation_spares : (first x : ℕ) (role : ℕ → Role) (a : Role) (r : ℕ) (kind : ObjKind) (len : ℕ) (g h : Graph) → IsSome (g.things x) → IsCreation r kind len g h → Spares first x role (changed_at_id role (h.registers r) a) g h
creation_spares first x role a r kind len g h there c = record {
  there = λ y p. subst IsSome (sym (thing_after_creation r kind len g h y c p)) p;
  roles = λ y p. changed_elsewhere role (h.registers r) a y (older_is_not_new r kind len g h y c p);
  objects = λ y m p e. thing_after_creation r kind len g h y c p;
  arrays = λ y s p e l. thing_after_creation r kind len g h y c p;
  slots = λ s l. ap (λ o. word_in o s) (thing_after_creation r kind len g h x c there);
}

pub thing_stays_there : (r slot v y : ℕ) (g h : Graph) → IsWriting r slot v g h → IsSome (g.things y) → IsSome (h.things y)
thing_stays_there r slot v y g h w p = elim (cases_eq y (g.registers r)) [
  | inl e ↦ thing_is_there (h.things y) (record { kind = w.thing.kind; words = slice_set w.thing.words slot v }) (ap h.things e ∙ w.here)
  | inr d ↦ subst IsSome (sym (w.others y d)) p
]

pub array_after_write : (class n r slot v y : ℕ) (g h : Graph) → IsWriting r slot v g h → IsArrayOf class n g y → IsArrayOf class n h y
array_after_write class n r slot v y g h w p = go (cases_eq y (g.registers r))
  where
    go : (y ≡ g.registers r) ⊎ (y ≢ g.registers r) → IsArrayOf class n h y
    go (inr d) = (p.0, w.others y d ∙ p.1, p.2, p.3)
    go (inl e) =
        let t : p.0 ≡ w.thing = same_thing (g.things y) p.0 w.thing p.1 (ap g.things e ∙ w.there) in
        (record { kind = w.thing.kind; words = slice_set w.thing.words slot v }, ap h.things e ∙ w.here, ap (λ (z : Thing). z.kind) (sym t) ∙ p.2, length-set w.thing.words slot v ∙ ap (λ (z : Thing). length z.words) (sym t) ∙ p.3)

-- a write to the array of roots itself, of slot `first` or one behind
pub root_slot_spares : (first x r slot v : ℕ) (role : ℕ → Role) (g h : Graph) → role (g.registers r) ≡ Roots → first ≤ slot → IsWriting r slot v g h → Spares first x role role g h
root_slot_spares first x r slot v role g h for le w = record {
  there = λ y p. thing_stays_there r slot v y g h w p;
  roles = λ y p. refl;
  objects = λ y m p e. w.others y (λ s. (let z : Roots ≡ Object m = sym for ∙ ap role (sym s) ∙ e in cc));
  arrays = λ y s p e l. w.others y (λ t. (let z : Roots ≡ RootArray s = sym for ∙ ap role (sym t) ∙ e in cc));
  slots = λ s l. word_after_write r slot v g h x s w (inr (λ e. omega (arith, l, le, e)));
}

pub array_number : (a b : ℕ) → RootArray a ≡ RootArray b → a ≡ b
array_number a b e = cc

-- a write to array `first` or one behind
pub array_slot_spares : (first x r slot v s : ℕ) (role : ℕ → Role) (g h : Graph) → role (g.registers r) ≡ RootArray s → first ≤ s → x ≢ g.registers r → IsWriting r slot v g h → Spares first x role role g h
array_slot_spares first x r slot v s role g h for le apart w = record {
  there = λ y p. thing_stays_there r slot v y g h w p;
  roles = λ y p. refl;
  objects = λ y m p e. w.others y (λ t. (let z : RootArray s ≡ Object m = sym for ∙ ap role (sym t) ∙ e in cc));
  arrays = λ y q p e l. w.others y (λ t. (let n : s ≡ q = array_number s q (sym for ∙ ap role (sym t) ∙ e) in omega (arith, n, l, le)));
  slots = λ q l. word_after_write r slot v g h x q w (inl apart);
}
