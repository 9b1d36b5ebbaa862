-- Where the objects are kept while the heap is made, and what steps leave of that.
use Rattle.std.proofs.Common.{◌≡◌, ◌≢◌, ◌⊎◌, ℕ, ◌+◌, ◌/◌, ◌<◌, Bool, true, length, refl, sym, ap, subst, ◌∙◌, Option, Some, inl, inr, arith}
use Rattle.std.specs.Prelude.{slice_set, IsSome}
use Rattle.std.proofs.lemmas.Bool.{cases_eq}
use Rattle.std.proofs.lemmas.List.{length-set}
use Rattle.heap_class.specs.declared.ObjKind.{ObjKind}
use Rattle.heap_class.specs.declared.ObjKind.TheVariants.{Array}
use Rattle.hprof_session.specs.Places.{array_slot, slot_of, top_of}
use Rattle.hprof_heap.proofs.PlaceNumbers.{same_chunk_same_array, same_chunk_same_top, same_or_next_chunk}
use Rattle.hprof_heap.proofs.Graphs.{Graph, Thing, word, word_in, IsCreation, IsWriting, changed_at_id, changed_elsewhere, thing_after_creation, older_is_not_new, thing_is_there, word_after_write}

-- what a thing is for
pub data Role : Type 0 where
  Other : Role
  Top : (n : ℕ) → Role
  Keeper : (n : ℕ) → Role
  Object : (n : ℕ) → Role
  Roots : Role
  RootArray : (slot : ℕ) → Role

pub top_number : (a b : ℕ) → Top a ≡ Top b → a ≡ b
top_number a b e = cc

pub keeper_number : (a b : ℕ) → Keeper a ≡ Keeper b → a ≡ b
keeper_number a b e = cc

pub object_number : (a b : ℕ) → Object a ≡ Object b → a ≡ b
object_number a b e = cc

pub top_is_no_keeper : (a b : ℕ) → Top a ≡ Keeper b → ⊥
top_is_no_keeper a b e = cc

pub top_is_no_object : (a b : ℕ) → Top a ≡ Object b → ⊥
top_is_no_object a b e = cc

pub keeper_is_no_object : (a b : ℕ) → Keeper a ≡ Object b → ⊥
keeper_is_no_object a b e = cc

-- x names an array of n references
abbrev pub IsArrayOf : ℕ → ℕ → Graph → ℕ → Type 0
IsArrayOf class n g x = (t : Thing) × (g.things x ≡ Some t) × (t.kind ≡ Array class) × (length t.words ≡ n)

-- x names an array of 1,024 references
abbrev pub IsPlaceArray : ℕ → Graph → ℕ → Type 0
IsPlaceArray class g x = IsArrayOf class 1024 g x

pub array_is_there : (class n : ℕ) (g : Graph) (x : ℕ) → IsArrayOf class n g x → IsSome (g.things x)
array_is_there class n g x p = thing_is_there (g.things x) p.0 p.1

pub place_array_is_there : (class : ℕ) (g : Graph) (x : ℕ) → IsPlaceArray class g x → IsSome (g.things x)
place_array_is_there class g x p = thing_is_there (g.things x) p.0 p.1

-- the array that keeps object m, by the slot of the array of arrays
abbrev pub keeper : Graph → ℕ → ℕ
keeper g m = word g (g.registers (top_of m)) (array_slot m)

-- what is kept as object m
abbrev pub kept : Graph → ℕ → ℕ
kept g m = word g (keeper g m) (slot_of m)

-- the register for object m names its array of arrays
pub record IsTop (class : ℕ) (role : ℕ → Role) (g : Graph) (m : ℕ) : Type 0 where
  pub there : IsPlaceArray class g (g.registers (top_of m))
  pub purpose : role (g.registers (top_of m)) ≡ Top (top_of m)

-- the array that keeps object m is there
pub record IsKeeper (class : ℕ) (role : ℕ → Role) (g : Graph) (m : ℕ) : Type 0 where
  pub there : IsPlaceArray class g (keeper g m)
  pub purpose : role (keeper g m) ≡ Keeper (m / 1024)

-- object m is there
pub record IsKept (role : ℕ → Role) (g : Graph) (m : ℕ) : Type 0 where
  pub there : IsSome (g.things (kept g m))
  pub purpose : role (kept g m) ≡ Object m

-- two numbers with one array
pub same_chunk_same_keeper : (g : Graph) (n m : ℕ) → m / 1024 ≡ n / 1024 → keeper g m ≡ keeper g n
same_chunk_same_keeper g n m e = ap (λ q. word g (g.registers q) (array_slot m)) (same_chunk_same_top n m e) ∙ ap (word g (g.registers (top_of n))) (same_chunk_same_array n m e)

-- ---- what steps leave

-- place arrays stay such, things stay there, each for what it was for, and those that are for objects other than n aren't changed
pub record Moves (class n : ℕ) (role after : ℕ → Role) (g h : Graph) : Type 0 where
  pub arrays : (x : ℕ) → IsPlaceArray class g x → IsPlaceArray class h x
  pub there : (x : ℕ) → IsSome (g.things x) → IsSome (h.things x)
  pub roles : (x : ℕ) → IsSome (g.things x) → after x ≡ role x
  pub objects : (x m : ℕ) → IsSome (g.things x) → role x ≡ Object m → m ≢ n → h.things x ≡ g.things x

-- object m is found as before
pub record Stays (g h : Graph) (m : ℕ) : Type 0 where
  pub top_stays : h.registers (top_of m) ≡ g.registers (top_of m)
  pub array_stays : keeper h m ≡ keeper g m
  pub object_stays : kept h m ≡ kept g m

pub no_move : (class n : ℕ) (role : ℕ → Role) (g : Graph) → Moves class n role role g g
no_move class n role g = record { arrays = λ x p. p; there = λ x p. p; roles = λ x p. refl; objects = λ x m p e d. refl }

pub two_moves : (class n : ℕ) (a b c : ℕ → Role) (f g h : Graph) → Moves class n a b f g → Moves class n b c g h → Moves class n a c f h
two_moves class n a b c f g h p q = record {
  arrays = λ x t. q.arrays x (p.arrays x t);
  there = λ x t. q.there x (p.there x t);
  roles = λ x t. q.roles x (p.there x t) ∙ p.roles x t;
  objects = λ x m t e d. q.objects x m (p.there x t) (p.roles x t ∙ e) d ∙ p.objects x m t e d;
}

pub unmoved_stays : (g : Graph) (m : ℕ) → Stays g g m
unmoved_stays g m = record { top_stays = refl; array_stays = refl; object_stays = refl }

pub stays_twice : (f g h : Graph) (m : ℕ) → Stays f g m → Stays g h m → Stays f h m
stays_twice f g h m p q = record {
  top_stays = q.top_stays ∙ p.top_stays;
  array_stays = q.array_stays ∙ p.array_stays;
  object_stays = q.object_stays ∙ p.object_stays;
}

-- things and registers that are alike
pub alike_moves : (class n : ℕ) (role : ℕ → Role) (g h : Graph) → ((y : ℕ) → h.things y ≡ g.things y) → Moves class n role role g h
alike_moves class n role g h e = record {
  arrays = λ x p. (p.0, e x ∙ p.1, p.2, p.3);
  there = λ x p. subst IsSome (sym (e x)) p;
  roles = λ x p. refl;
  objects = λ x m p q d. e x;
}

pub alike_stays : (g h : Graph) (m : ℕ) → ((y : ℕ) → h.things y ≡ g.things y) → h.registers (top_of m) ≡ g.registers (top_of m) → Stays g h m
alike_stays g h m e t = record { top_stays = t; array_stays = array; object_stays = ap (λ x. word h x (slot_of m)) array ∙ ap (λ o. word_in o (slot_of m)) (e (keeper g m)) }
  where
    array : keeper h m ≡ keeper g m
    array = ap (λ x. word h x (array_slot m)) t ∙ ap (λ o. word_in o (array_slot m)) (e (g.registers (top_of m)))

-- ---- a new thing

pub creation_moves : (class n r : ℕ) (kind : ObjKind) (len : ℕ) (role : ℕ → Role) (a : Role) (g h : Graph) → IsCreation r kind len g h → Moves class n role (changed_at_id role (h.registers r) a) g h
creation_moves class n r kind len role a g h c = record {
  arrays = λ x p. (p.0, thing_after_creation r kind len g h x c (place_array_is_there class g x p) ∙ p.1, p.2, p.3);
  there = λ x p. subst IsSome (sym (thing_after_creation r kind len g h x c p)) p;
  roles = λ x p. changed_elsewhere role (h.registers r) a x (older_is_not_new r kind len g h x c p);
  objects = λ x m p e d. thing_after_creation r kind len g h x c p;
}

pub creation_stays : (r : ℕ) (kind : ObjKind) (len m : ℕ) (g h : Graph) → IsCreation r kind len g h → top_of m ≢ r → IsSome (g.things (g.registers (top_of m))) → IsSome (g.things (keeper g m)) → Stays g h m
creation_stays r kind len m g h c d top array = record {
  top_stays = c.registers (top_of m) d;
  array_stays = same;
  object_stays = ap (λ x. word h x (slot_of m)) same ∙ ap (λ o. word_in o (slot_of m)) (thing_after_creation r kind len g h (keeper g m) c array);
}
  where
    same : keeper h m ≡ keeper g m
    same = ap (λ x. word h x (array_slot m)) (c.registers (top_of m) d) ∙ ap (λ o. word_in o (array_slot m)) (thing_after_creation r kind len g h (g.registers (top_of m)) c top)

-- ---- a word that is written

pub same_thing : (o : Option Thing) (a b : Thing) → o ≡ Some a → o ≡ Some b → a ≡ b
same_thing o a b p q = let e : Some a ≡ Some b = sym p ∙ q in cc

pub writing_moves : (class n r slot v : ℕ) (role : ℕ → Role) (g h : Graph) → IsWriting r slot v g h → ((m : ℕ) → role (g.registers r) ≡ Object m → m ≡ n) → Moves class n role role g h
writing_moves class n r slot v role g h w only = record {
  arrays = λ x p. arrays x p (cases_eq x (g.registers r));
  there = λ x p. there x p (cases_eq x (g.registers r));
  roles = λ x p. refl;
  objects = λ x m p e d. w.others x (λ s. d (only m (ap role (sym s) ∙ e)));
}
  where
    arrays : (x : ℕ) → IsPlaceArray class g x → (x ≡ g.registers r) ⊎ (x ≢ g.registers r) → IsPlaceArray class h x
    arrays x p (inr d) = (p.0, w.others x d ∙ p.1, p.2, p.3)
    arrays x p (inl e) =
        let t : p.0 ≡ w.thing = same_thing (g.things x) p.0 w.thing p.1 (ap g.things e ∙ w.there) in
        (record { kind = w.thing.kind; words = slice_set w.thing.words slot v }, ap h.things e ∙ w.here, ap (λ (z : Thing). z.kind) (sym t) ∙ p.2, length-set w.thing.words slot v ∙ ap (λ (z : Thing). length z.words) (sym t) ∙ p.3)

    there : (x : ℕ) → IsSome (g.things x) → (x ≡ g.registers r) ⊎ (x ≢ g.registers r) → IsSome (h.things x)
    there x p (inr d) = subst IsSome (sym (w.others x d)) p
    there x p (inl e) = thing_is_there (h.things x) (record { kind = w.thing.kind; words = slice_set w.thing.words slot v }) (ap h.things e ∙ w.here)

pub writing_stays : (r slot v m : ℕ) (g h : Graph) → IsWriting r slot v g h → (g.registers (top_of m) ≢ g.registers r) ⊎ (array_slot m ≢ slot) → (keeper g m ≢ g.registers r) ⊎ (slot_of m ≢ slot) → Stays g h m
writing_stays r slot v m g h w p q = record {
  top_stays = w.registers (top_of m);
  array_stays = same;
  object_stays = ap (λ x. word h x (slot_of m)) same ∙ word_after_write r slot v g h (keeper g m) (slot_of m) w q;
}
  where
    same : keeper h m ≡ keeper g m
    same = ap (λ x. word h x (array_slot m)) (w.registers (top_of m)) ∙ word_after_write r slot v g h (g.registers (top_of m)) (array_slot m) w p

-- ---- what was found is found

pub top_moves : (class n m : ℕ) (role after : ℕ → Role) (g h : Graph) → Moves class n role after g h → h.registers (top_of m) ≡ g.registers (top_of m) → IsTop class role g m → IsTop class after h m
top_moves class n m role after g h p s t = record {
  there = subst (IsPlaceArray class h) (sym s) (p.arrays (g.registers (top_of m)) t.there);
  purpose = ap after s ∙ p.roles (g.registers (top_of m)) (place_array_is_there class g (g.registers (top_of m)) t.there) ∙ t.purpose;
}

pub keeper_moves : (class n m : ℕ) (role after : ℕ → Role) (g h : Graph) → Moves class n role after g h → keeper h m ≡ keeper g m → IsKeeper class role g m → IsKeeper class after h m
keeper_moves class n m role after g h p s t = record {
  there = subst (IsPlaceArray class h) (sym s) (p.arrays (keeper g m) t.there);
  purpose = ap after s ∙ p.roles (keeper g m) (place_array_is_there class g (keeper g m) t.there) ∙ t.purpose;
}

pub kept_moves : (class n m : ℕ) (role after : ℕ → Role) (g h : Graph) → Moves class n role after g h → Stays g h m → IsKept role g m → IsKept after h m
kept_moves class n m role after g h p s t = record {
  there = subst (λ x. IsSome (h.things x)) (sym s.object_stays) (p.there (kept g m) t.there);
  purpose = ap after s.object_stays ∙ p.roles (kept g m) t.there ∙ t.purpose;
}

-- ---- all numbers below n

-- the objects below n that are made are kept, and register 4 names the array for n, if there is one
pub record ArePlaced (class : ℕ) (made : ℕ → Bool) (n : ℕ) (role : ℕ → Role) (g : Graph) : Type 0 where
  pub tops : (m : ℕ) → m < n → IsTop class role g m
  pub keepers : (m : ℕ) → m < n → IsKeeper class role g m
  pub objects : (m : ℕ) → m < n → made m ≡ true → IsKept role g m
  pub current : (m : ℕ) → m < n → m / 1024 ≡ n / 1024 → g.registers 4 ≡ keeper g m

pub placed_moves : (class n k : ℕ) (made : ℕ → Bool) (role after : ℕ → Role) (g h : Graph) → Moves class k role after g h → ((m : ℕ) → m < n → Stays g h m)
    → ((m : ℕ) → m < n → m / 1024 ≡ n / 1024 → h.registers 4 ≡ keeper h m) → ArePlaced class made n role g → ArePlaced class made n after h
placed_moves class n k made role after g h p s current a = record {
  tops = λ m l. top_moves class k m role after g h p (s m l).top_stays (a.tops m l);
  keepers = λ m l. keeper_moves class k m role after g h p (s m l).array_stays (a.keepers m l);
  objects = λ m l b. kept_moves class k m role after g h p (s m l) (a.objects m l b);
  current = current;
}

pub below_or_last : (n m : ℕ) → m < n + 1 → (m < n) ⊎ (m ≡ n)
below_or_last n m l = elim (cases_eq m n) [ inl e ↦ inr e | inr d ↦ inl (omega (arith, l, d)) ]

-- what is known of the numbers below n, and of n
pub placed_more : (class n : ℕ) (made : ℕ → Bool) (role : ℕ → Role) (g : Graph) → ArePlaced class made n role g → IsTop class role g n → IsKeeper class role g n → g.registers 4 ≡ keeper g n
    → (made n ≡ true → IsKept role g n) → ArePlaced class made (n + 1) role g
placed_more class n made role g a t k current kept_n = record {
  tops = λ m l. elim (below_or_last n m l) [ inl s ↦ a.tops m s | inr e ↦ subst (IsTop class role g) (sym e) t ];
  keepers = λ m l. elim (below_or_last n m l) [ inl s ↦ a.keepers m s | inr e ↦ subst (IsKeeper class role g) (sym e) k ];
  objects = λ m l b. elim (below_or_last n m l) [ inl s ↦ a.objects m s b | inr e ↦ subst (IsKept role g) (sym e) (kept_n (subst (λ i. made i ≡ true) e b)) ];
  current = λ m l e. current ∙ sym (same_chunk_same_keeper g n m (same_or_next_chunk n m l e));
}
