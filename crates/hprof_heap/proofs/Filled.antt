-- A thing whose words are written, one after another.
use Rattle.std.proofs.Common.{◌≡◌, ◌≢◌, ◌⊎◌, ℕ, ◌/◌, ◌<◌, Bool, true, false, List, [], ◌∷◌, length, refl, sym, ap, subst, ◌∙◌, Some, inl, inr}
use Rattle.std.specs.Prelude.{slice_set, IsSome, ◌==◌, ◌||◌, if◌then◌else◌, flat_map}
use Rattle.std.proofs.lemmas.Bool.{cases_eq}
use Rattle.std.proofs.lemmas.List.{length-set}
use Rattle.heap_class.specs.declared.ObjKind.{ObjKind}
use Rattle.heap_class.specs.Kinds.{is_reference}
use Rattle.heap_step.specs.declared.Event.TheVariants.{Put}
use Rattle.hprof_session.specs.Places.{array_slot, slot_of, top_of}
use Rattle.hprof_lines.specs.declared.values.SlotValue.{SlotValue}
use Rattle.hprof_lines.specs.Objects.{shown, value_events}
use Rattle.hprof_heap.proofs.Graphs.{Graph, Thing, word, word_in, IsRun, IsWriting, run_in_parts, thing_is_there}
use Rattle.hprof_heap.proofs.Placed.{IsKeeper, IsPlaceArray, IsTop, Moves, Object, Role, Stays, keeper, keeper_is_no_object, top_is_no_object, object_number, same_thing}

-- only the words of the thing z change, and no register below 4
pub record IsFilling (z : ℕ) (kind : ObjKind) (old new : List ℕ) (g h : Graph) : Type 0 where
  pub before : g.things z ≡ Some (record { kind = kind; words = old })
  pub here : h.things z ≡ Some (record { kind = kind; words = new })
  pub len : length new ≡ length old
  pub others : (y : ℕ) → y ≢ z → h.things y ≡ g.things y
  pub registers : (q : ℕ) → q < 4 → h.registers q ≡ g.registers q

pub nothing_filled : (z : ℕ) (kind : ObjKind) (old : List ℕ) (g h : Graph) → g.things z ≡ Some (record { kind = kind; words = old }) → ((y : ℕ) → h.things y ≡ g.things y)
    → ((q : ℕ) → q < 4 → h.registers q ≡ g.registers q) → IsFilling z kind old old g h
nothing_filled z kind old g h e s r = record { before = e; here = s z ∙ e; len = refl; others = λ y d. s y; registers = r }

pub two_fillings : (z : ℕ) (kind : ObjKind) (a b c : List ℕ) (f g h : Graph) → IsFilling z kind a b f g → IsFilling z kind b c g h → IsFilling z kind a c f h
two_fillings z kind a b c f g h p q = record {
  before = p.before;
  here = q.here;
  len = q.len ∙ p.len;
  others = λ y d. q.others y d ∙ p.others y d;
  registers = λ r l. q.registers r l ∙ p.registers r l;
}

-- a write to it
pub writing_fills : (z r slot v : ℕ) (kind : ObjKind) (old : List ℕ) (g h : Graph) → g.registers r ≡ z → g.things z ≡ Some (record { kind = kind; words = old }) → IsWriting r slot v g h → IsFilling z kind old (slice_set old slot v) g h
writing_fills z r slot v kind old g h e before w = record {
  before = before;
  here = ap h.things (sym e) ∙ w.here ∙ ap (λ (t : Thing). Some (record { kind = t.kind; words = slice_set t.words slot v })) same;
  len = length-set old slot v;
  others = λ y d. w.others y (λ s. d (s ∙ e));
  registers = λ q l. w.registers q;
}
  where
    same : w.thing ≡ record { kind = kind; words = old }
    same = same_thing (g.things (g.registers r)) w.thing (record { kind = kind; words = old }) w.there (ap g.things e ∙ before)

pub writing_within : (z r slot v : ℕ) (kind : ObjKind) (old : List ℕ) (g h : Graph) → g.registers r ≡ z → g.things z ≡ Some (record { kind = kind; words = old }) → IsWriting r slot v g h → slot < length old
writing_within z r slot v kind old g h e before w =
    subst (λ (t : Thing). slot < length t.words) (same_thing (g.things (g.registers r)) w.thing (record { kind = kind; words = old }) w.there (ap g.things e ∙ before)) w.within

pub filling_moves : (class n z : ℕ) (role : ℕ → Role) (kind : ObjKind) (old new : List ℕ) (g h : Graph) → role z ≡ Object n → IsFilling z kind old new g h → Moves class n role role g h
filling_moves class n z role kind old new g h for f = record {
  arrays = λ x p. arrays x p (cases_eq x z);
  there = λ x p. there x p (cases_eq x z);
  roles = λ x p. refl;
  objects = λ x m p e d. f.others x (λ s. d (object_number m n (sym e ∙ ap role s ∙ for)));
}
  where
    arrays : (x : ℕ) → IsPlaceArray class g x → (x ≡ z) ⊎ (x ≢ z) → IsPlaceArray class h x
    arrays x p (inr d) = (p.0, f.others x d ∙ p.1, p.2, p.3)
    arrays x p (inl e) =
        let t : p.0 ≡ record { kind = kind; words = old } = same_thing (g.things x) p.0 (record { kind = kind; words = old }) p.1 (ap g.things e ∙ f.before) in
        (record { kind = kind; words = new }, ap h.things e ∙ f.here, ap (λ (y : Thing). y.kind) (sym t) ∙ p.2, f.len ∙ ap (λ (y : Thing). length y.words) (sym t) ∙ p.3)

    there : (x : ℕ) → IsSome (g.things x) → (x ≡ z) ⊎ (x ≢ z) → IsSome (h.things x)
    there x p (inr d) = subst IsSome (sym (f.others x d)) p
    there x p (inl e) = thing_is_there (h.things x) (record { kind = kind; words = new }) (ap h.things e ∙ f.here)

-- what is found by arrays that aren't the thing stays
pub filling_stays : (class n m z : ℕ) (role : ℕ → Role) (kind : ObjKind) (old new : List ℕ) (g h : Graph) → role z ≡ Object n → top_of m < 4 → IsTop class role g m → IsKeeper class role g m → IsFilling z kind old new g h → Stays g h m
filling_stays class n m z role kind old new g h for few t k f = record {
  top_stays = top;
  array_stays = array;
  object_stays = ap (λ x. word h x (slot_of m)) array ∙ ap (λ o. word_in o (slot_of m)) (f.others (keeper g m) (λ e. keeper_is_no_object (m / 1024) n (sym k.purpose ∙ ap role e ∙ for)));
}
  where
    top : h.registers (top_of m) ≡ g.registers (top_of m)
    top = f.registers (top_of m) few

    array : keeper h m ≡ keeper g m
    array = ap (λ x. word h x (array_slot m)) top ∙ ap (λ o. word_in o (array_slot m)) (f.others (g.registers (top_of m)) (λ e. top_is_no_object (top_of m) n (sym t.purpose ∙ ap role e ∙ for)))

-- ---- values

-- the words after a value is put
abbrev pub with_value : List ℕ → SlotValue → List ℕ
with_value words v = if is_reference v.kind || v.value == 0 then words else slice_set words v.slot (shown v.kind v.value)

-- the words after values are put
abbrev pub with_values : List ℕ → List SlotValue → List ℕ
with_values words [] = words
with_values words (v ∷ values) = with_values (with_value words v) values

pub length_with_value : (words : List ℕ) (v : SlotValue) → length (with_value words v) ≡ length words
length_with_value words v = go (is_reference v.kind || v.value == 0)
  where
    go : (b : Bool) → length (if b then words else slice_set words v.slot (shown v.kind v.value)) ≡ length words
    go true = refl
    go false = length-set words v.slot (shown v.kind v.value)

pub length_with_values : (values : List SlotValue) (words : List ℕ) → length (with_values words values) ≡ length words
length_with_values [] words = refl
length_with_values (v ∷ values) words = length_with_values values (with_value words v) ∙ length_with_value words v

-- each value that is put has a slot below n
abbrev pub PutsFit : ℕ → List SlotValue → Type 0
PutsFit n [] = Unit {0}
PutsFit n (v ∷ values) = ((is_reference v.kind || v.value == 0) ≡ false → v.slot < n) × PutsFit n values

-- the thing of register 5 has words put, and no register changes
pub record ArePut (z : ℕ) (kind : ObjKind) (old new : List ℕ) (g h : Graph) : Type 0 where
  pub filled : IsFilling z kind old new g h
  pub registers : (q : ℕ) → h.registers q ≡ g.registers q

put_twice : (z : ℕ) (kind : ObjKind) (a b c : List ℕ) (f g h : Graph) → ArePut z kind a b f g → ArePut z kind b c g h → ArePut z kind a c f h
put_twice z kind a b c f g h p q = record { filled = two_fillings z kind a b c f g h p.filled q.filled; registers = λ r. q.registers r ∙ p.registers r }

nothing_put : (z : ℕ) (kind : ObjKind) (old : List ℕ) (g h : Graph) → g.things z ≡ Some (record { kind = kind; words = old }) → g ≡ h → ArePut z kind old old g h
nothing_put z kind old g h before r = subst (ArePut z kind old old g) r (record { filled = nothing_filled z kind old g g before (λ y. refl) (λ q l. refl); registers = λ q. refl })

pub put_value : (slots : ℕ → ℕ) (z : ℕ) (kind : ObjKind) (old : List ℕ) (v : SlotValue) (g h : Graph) → g.registers 5 ≡ z → g.things z ≡ Some (record { kind = kind; words = old })
    → IsRun slots (value_events v) g h → ArePut z kind old (with_value old v) g h × ((is_reference v.kind || v.value == 0) ≡ false → v.slot < length old)
unfolding value_events
put_value slots z kind old v g h e before = go (is_reference v.kind || v.value == 0)
  where
    go : (b : Bool) → IsRun slots (if b then [] else Put 0 5 v.slot (shown v.kind v.value) ∷ []) g h
        → ArePut z kind old (if b then old else slice_set old v.slot (shown v.kind v.value)) g h × (b ≡ false → v.slot < length old)
    go true r = (nothing_put z kind old g h before r, λ f. let c : true ≡ false = f in cc)
    go false r = (
      subst (ArePut z kind old (slice_set old v.slot (shown v.kind v.value)) g) r.2
          (record { filled = writing_fills z 5 v.slot (shown v.kind v.value) kind old g r.0 e before r.1; registers = r.1.registers }),
      λ f. writing_within z 5 v.slot (shown v.kind v.value) kind old g r.0 e before r.1,
    )

pub put_values : (slots : ℕ → ℕ) (z : ℕ) (kind : ObjKind) (values : List SlotValue) (old : List ℕ) (g h : Graph) → g.registers 5 ≡ z → g.things z ≡ Some (record { kind = kind; words = old })
    → IsRun slots (flat_map value_events values) g h → ArePut z kind old (with_values old values) g h × PutsFit (length old) values
put_values slots z kind [] old g h e before r = (nothing_put z kind old g h before r, tt)
put_values slots z kind (v ∷ values) old g h e before r =
    let s = run_in_parts slots (value_events v) (flat_map value_events values) g h r in
    let first = put_value slots z kind old v g s.0 e before s.1 in
    let rest = put_values slots z kind values (with_value old v) s.0 h (first.0.registers 5 ∙ e) first.0.filled.here s.2 in (
      put_twice z kind old (with_value old v) (with_values (with_value old v) values) g s.0 h first.0 rest.0,
      (first.1, subst (λ n. PutsFit n values) first.0.filled.len rest.1),
    )
