-- A heap as a graph: things by their ids, and registers; and what an event of a session does to it.
use Rattle.std.proofs.Common.{◌≡◌, ◌≢◌, ◌⊎◌, ℕ, zero, ◌<◌, true, false, List, [], ◌∷◌, ◌++◌, length, replicate, refl, sym, ap, subst, ◌∙◌, Option, Some, None, inl, inr}
use Rattle.std.specs.Prelude.{slice_index, slice_set, IsSome, ◌==◌, if◌then◌else◌}
use Rattle.std.proofs.lemmas.Bool.{cases_eq, eq-eqb, ne_eqb}
use Rattle.std.proofs.lemmas.List.{get_or-set_same, get_or-set_other}
use Rattle.heap_class.specs.declared.ObjKind.{ObjKind}
use Rattle.heap_class.specs.declared.ObjKind.TheVariants.{Instance, Array, Prim}
use Rattle.heap_step.specs.declared.Event.{Event}
use Rattle.heap_step.specs.declared.Event.TheVariants.{New, NewArray, NewPrim, Put, Load, Store, Clear}

-- an object without where it lies
pub record Thing : Type 0 where
  pub kind : ObjKind
  pub words : List ℕ

-- what each id names, and what each register holds
pub record Graph : Type 0 where
  pub things : ℕ → Option Thing
  pub registers : ℕ → ℕ

-- the word in a slot of a thing
abbrev pub word_in : Option Thing → ℕ → ℕ
word_in None slot = 0
word_in (Some t) slot = slice_index t.words slot

abbrev pub word : Graph → ℕ → ℕ → ℕ
word g x slot = word_in (g.things x) slot

-- ---- steps

-- a register names a new thing, whose words are 0
pub record IsCreation (r : ℕ) (kind : ObjKind) (n : ℕ) (g h : Graph) : Type 0 where
  pub fresh : g.things (h.registers r) ≡ None
  pub here : h.things (h.registers r) ≡ Some (record { kind = kind; words = replicate n 0 })
  pub others : (y : ℕ) → y ≢ h.registers r → h.things y ≡ g.things y
  pub registers : (q : ℕ) → q ≢ r → h.registers q ≡ g.registers q

-- a slot of the thing that a register names has this word
pub record IsWriting (r slot word : ℕ) (g h : Graph) : Type 0 where
  pub thing : Thing
  pub there : g.things (g.registers r) ≡ Some thing
  pub within : slot < length thing.words
  pub here : h.things (g.registers r) ≡ Some (record { kind = thing.kind; words = slice_set thing.words slot word })
  pub others : (y : ℕ) → y ≢ g.registers r → h.things y ≡ g.things y
  pub registers : (q : ℕ) → h.registers q ≡ g.registers q

-- a register has the word of a slot of the array of references that another names
pub record IsLoading (to from slot : ℕ) (g h : Graph) : Type 0 where
  pub loaded : (class : ℕ) (t : Thing) → g.things (g.registers from) ≡ Some t → t.kind ≡ Array class
      → h.registers to ≡ slice_index t.words slot
  pub things : (y : ℕ) → h.things y ≡ g.things y
  pub registers : (q : ℕ) → q ≢ to → h.registers q ≡ g.registers q

-- a register is null
pub record IsClearing (r : ℕ) (g h : Graph) : Type 0 where
  pub cleared : h.registers r ≡ 0
  pub things : (y : ℕ) → h.things y ≡ g.things y
  pub registers : (q : ℕ) → q ≢ r → h.registers q ≡ g.registers q

-- what an event of mutator 0 does, if `slots` tells the number of slots of each class
abbrev pub IsGraphStep : (ℕ → ℕ) → Event → Graph → Graph → Type 0
IsGraphStep slots (New zero r class) g h = IsCreation r (Instance class) (slots class) g h
IsGraphStep slots (NewArray zero r class n) g h = IsCreation r (Array class) n g h
IsGraphStep slots (NewPrim zero r kind n) g h = IsCreation r (Prim kind) n g h
IsGraphStep slots (Put zero r slot value) g h = IsWriting r slot value g h
IsGraphStep slots (Store zero r slot source) g h = IsWriting r slot (g.registers source) g h
IsGraphStep slots (Load zero to from slot) g h = IsLoading to from slot g h
IsGraphStep slots (Clear zero r) g h = IsClearing r g h
IsGraphStep slots _ g h = Unit {0}

-- what events do, one after another
abbrev pub IsRun : (ℕ → ℕ) → List Event → Graph → Graph → Type 0
IsRun slots [] g h = g ≡ h
IsRun slots (e ∷ es) g h = (f : Graph) × IsGraphStep slots e g f × IsRun slots es f h

pub run_in_parts : (slots : ℕ → ℕ) (xs ys : List Event) (g h : Graph) → IsRun slots (xs ++ ys) g h → (f : Graph) × IsRun slots xs g f × IsRun slots ys f h
run_in_parts slots [] ys g h r = (g, refl, r)
run_in_parts slots (x ∷ xs) ys g h r = let s = run_in_parts slots xs ys r.0 h r.2 in (s.0, (r.0, r.1, s.1), s.2)

-- ---- what a step leaves

pub no_thing : {A : Type 0} (o : Option A) → o ≡ None → IsSome o → ⊥
no_thing None e h = let z : false ≡ true = h in cc
no_thing (Some x) e h = let z : Some x ≡ None = e in cc

pub thing_is_there : (o : Option Thing) (x : Thing) → o ≡ Some x → IsSome o
thing_is_there None x e = let z : None ≡ Some x = e in cc
thing_is_there (Some y) x e = refl

-- what was there isn't new
pub older_is_not_new : (r : ℕ) (kind : ObjKind) (n : ℕ) (g h : Graph) (x : ℕ) → IsCreation r kind n g h → IsSome (g.things x) → x ≢ h.registers r
older_is_not_new r kind n g h x c there e = no_thing (g.things (h.registers r)) c.fresh (subst (λ y. IsSome (g.things y)) e there)

pub thing_after_creation : (r : ℕ) (kind : ObjKind) (n : ℕ) (g h : Graph) (x : ℕ) → IsCreation r kind n g h → IsSome (g.things x) → h.things x ≡ g.things x
thing_after_creation r kind n g h x c there = c.others x (older_is_not_new r kind n g h x c there)

-- a word after a write
pub word_after_write : (r slot v : ℕ) (g h : Graph) (x s : ℕ) → IsWriting r slot v g h → (x ≢ g.registers r) ⊎ (s ≢ slot) → word h x s ≡ word g x s
word_after_write r slot v g h x s w d = go d (cases_eq x (g.registers r))
  where
    go : (x ≢ g.registers r) ⊎ (s ≢ slot) → (x ≡ g.registers r) ⊎ (x ≢ g.registers r) → word h x s ≡ word g x s
    go (inl n) e = ap (λ t. word_in t s) (w.others x n)
    go (inr n) (inr m) = ap (λ t. word_in t s) (w.others x m)
    go (inr n) (inl e) =
        ap (λ y. word_in (h.things y) s) e ∙ ap (λ t. word_in t s) w.here ∙ get_or-set_other w.thing.words slot s v 0 n
        ∙ sym (ap (λ y. word_in (g.things y) s) e ∙ ap (λ t. word_in t s) w.there)

pub word_written : (r slot v : ℕ) (g h : Graph) → IsWriting r slot v g h → word h (g.registers r) slot ≡ v
word_written r slot v g h w = ap (λ t. word_in t slot) w.here ∙ get_or-set_same w.thing.words slot v 0 w.within

-- a thing is a function of its id alone
abbrev pub changed_at_id : {A : Type 0} → (ℕ → A) → ℕ → A → ℕ → A
changed_at_id f x a y = if y == x then a else f y

pub changed_here : {A : Type 0} (f : ℕ → A) (x : ℕ) (a : A) → changed_at_id f x a x ≡ a
changed_here f x a = ap (λ b. if b then a else f x) (eq-eqb x x refl)

pub changed_elsewhere : {A : Type 0} (f : ℕ → A) (x : ℕ) (a : A) (y : ℕ) → y ≢ x → changed_at_id f x a y ≡ f y
changed_elsewhere f x a y n = ap (λ b. if b then a else f y) (ne_eqb y x n)
