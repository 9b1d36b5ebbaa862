-- How an object is made and kept.
use Rattle.std.proofs.Common.{◌≡◌, ◌≢◌, ◌⊎◌, ℕ, ◌+◌, ◌-◌, ◌/◌, ◌%◌, ◌^◌, ◌<◌, Bool, true, false, List, [], ◌∷◌, ◌++◌, length, replicate, refl, sym, ap, subst, ◌∙◌, Option, Some, None, inl, inr, arith}
use Rattle.std.specs.Prelude.{is_some, ◌==◌, if◌then◌else◌, flat_map}
use Rattle.std.proofs.lemmas.Bool.{cases_eq, eqb-true, eqb-false}
use Rattle.std.proofs.lemmas.List.{length-replicate}
use Rattle.heap_class.specs.declared.ObjKind.{ObjKind}
use Rattle.heap_class.specs.declared.ObjKind.TheVariants.{Instance, Array, Prim}
use Rattle.heap_step.specs.declared.Event.{Event}
use Rattle.heap_step.specs.declared.Event.TheVariants.{New, NewArray, NewPrim, Store}
use Rattle.hprof_session.specs.Places.{array_events, array_slot, keep_event, place_events, slot_of, top_events, top_of}
use Rattle.hprof_lines.specs.Objects.{value_events}
use Rattle.hprof_heap.specs.ToldObjects.{ObjectTold}
use Rattle.hprof_heap.proofs.Graphs.{Graph, Thing, word, IsCreation, IsGraphStep, IsRun, IsWriting, changed_at_id, changed_here, run_in_parts, thing_is_there, word_after_write, word_written}
use Rattle.hprof_heap.proofs.PlaceNumbers.{array_differs, chunk_differs, chunk_of_previous, few_tops, slot_differs, top_differs, top_of_previous, previous_is_less, whole_top_is_whole_chunk}
use Rattle.hprof_heap.proofs.Placed.{ArePlaced, IsKeeper, IsPlaceArray, IsTop, Keeper, Moves, Object, Role, Stays, Top, creation_moves, creation_stays, keeper, keeper_is_no_object, keeper_moves, keeper_number, kept, no_move, place_array_is_there, placed_more, placed_moves, same_chunk_same_keeper, stays_twice, top_is_no_keeper, top_is_no_object, top_moves, top_number, two_moves, unmoved_stays, writing_moves, writing_stays}
use Rattle.hprof_heap.proofs.Filled.{ArePut, PutsFit, filling_moves, filling_stays, put_values, with_values}

-- from g to h what is found of the numbers below n stays, and none of their things changes
pub record Leads (class : ℕ) (made : ℕ → Bool) (n : ℕ) (role : ℕ → Role) (g h : Graph) : Type 0 where
  pub after : ℕ → Role
  pub moves : Moves class n role after g h
  pub stays : (m : ℕ) → m < n → Stays g h m
  pub placed : ArePlaced class made n after h

abbrev pub leads_nowhere : (class : ℕ) (made : ℕ → Bool) (n : ℕ) (role : ℕ → Role) (g : Graph) → ArePlaced class made n role g → Leads class made n role g g
leads_nowhere class made n role g a = record { after = role; moves = no_move class n role g; stays = λ m l. unmoved_stays g m; placed = a }

abbrev pub leads_on : (class : ℕ) (made : ℕ → Bool) (n : ℕ) (role : ℕ → Role) (f g h : Graph) → (p : Leads class made n role f g) → Leads class made n p.after g h → Leads class made n role f h
leads_on class made n role f g h p q = record {
  after = q.after;
  moves = two_moves class n role p.after q.after f g h p.moves q.moves;
  stays = λ m l. stays_twice f g h m (p.stays m l) (q.stays m l);
  placed = q.placed;
}

-- a new array names 1,024 references
pub new_array_is_place : (class r n : ℕ) (g h : Graph) → n ≡ 1024 → IsCreation r (Array class) n g h → IsPlaceArray class h (h.registers r)
new_array_is_place class r n g h e c = (record { kind = Array class; words = replicate n 0 }, c.here, refl, length-replicate n 0 ∙ e)

one_step : (slots : ℕ → ℕ) (e : Event) (g h : Graph) → IsRun slots (e ∷ []) g h → IsGraphStep slots e g h
one_step slots e g h r = subst (IsGraphStep slots e g) r.2 r.1

-- ---- the array of arrays

pub record IsTopReady (class : ℕ) (made : ℕ → Bool) (n : ℕ) (role : ℕ → Role) (g h : Graph) : Type 0 where
  pub led : Leads class made n role g h
  pub top : IsTop class led.after h n

top_created : (class : ℕ) (made : ℕ → Bool) (n : ℕ) (role : ℕ → Role) (g h : Graph) → n < 2 ^ 22 → n % 2 ^ 20 ≡ 0 → ArePlaced class made n role g → IsCreation (top_of n) (Array class) 1024 g h → IsTopReady class made n role g h
top_created class made n role g h few whole a c = record {
  led = record {
    after = after;
    moves = moves;
    stays = stays;
    placed = placed_moves class n n made role after g h moves stays (λ m l e. absurd (chunk_differs n m (whole_top_is_whole_chunk n whole) l e)) a;
  };
  top = record {
    there = new_array_is_place class (top_of n) 1024 g h refl c;
    purpose = changed_here role (h.registers (top_of n)) (Top (top_of n));
  };
}
  where
    after : ℕ → Role
    after = changed_at_id role (h.registers (top_of n)) (Top (top_of n))

    moves : Moves class n role (changed_at_id role (h.registers (top_of n)) (Top (top_of n))) g h
    moves = creation_moves class n (top_of n) (Array class) 1024 role (Top (top_of n)) g h c

    stays : (m : ℕ) → m < n → Stays g h m
    stays m l = creation_stays (top_of n) (Array class) 1024 m g h c (top_differs n m whole l)
        (place_array_is_there class g (g.registers (top_of m)) (a.tops m l).there) (place_array_is_there class g (keeper g m) (a.keepers m l).there)

top_stays_ready : (class : ℕ) (made : ℕ → Bool) (n : ℕ) (role : ℕ → Role) (g : Graph) → n % 2 ^ 20 ≢ 0 → ArePlaced class made n role g → IsTopReady class made n role g g
top_stays_ready class made n role g part a = record {
  led = leads_nowhere class made n role g a;
  top = record {
    there = subst (λ t. IsPlaceArray class g (g.registers t)) (top_of_previous n part) before.there;
    purpose = subst (λ t. role (g.registers t) ≡ Top t) (top_of_previous n part) before.purpose;
  };
}
  where
    before : IsTop class role g (n - 1)
    before = a.tops (n - 1) (previous_is_less n (λ e. part (ap (λ i. i % 2 ^ 20) e)))

pub top_is_ready : (slots : ℕ → ℕ) (class : ℕ) (made : ℕ → Bool) (n : ℕ) (role : ℕ → Role) (g h : Graph) → n < 2 ^ 22 → ArePlaced class made n role g → IsRun slots (top_events class n) g h → IsTopReady class made n role g h
top_is_ready slots class made n role g h few a = go (n % 2 ^ 20 == 0) refl
  where
    go : (b : Bool) → (n % 2 ^ 20 == 0) ≡ b → IsRun slots (if b then NewArray 0 (top_of n) class 1024 ∷ [] else []) g h → IsTopReady class made n role g h
    go true e r = top_created class made n role g h few (eqb-true (n % 2 ^ 20) 0 e) a (one_step slots (NewArray 0 (top_of n) class 1024) g h r)
    go false e r = subst (IsTopReady class made n role g) r (top_stays_ready class made n role g (eqb-false (n % 2 ^ 20) 0 e) a)

-- ---- the array that keeps it

pub record IsKeeperReady (class : ℕ) (made : ℕ → Bool) (n : ℕ) (role : ℕ → Role) (g h : Graph) : Type 0 where
  pub led : Leads class made n role g h
  pub top : IsTop class led.after h n
  pub array : IsKeeper class led.after h n
  pub current : h.registers 4 ≡ keeper h n

keeper_stays_ready : (class : ℕ) (made : ℕ → Bool) (n : ℕ) (role : ℕ → Role) (g : Graph) → n % 1024 ≢ 0 → ArePlaced class made n role g → IsTop class role g n → IsKeeperReady class made n role g g
keeper_stays_ready class made n role g part a t = record {
  led = leads_nowhere class made n role g a;
  top = t;
  array = record {
    there = subst (IsPlaceArray class g) same before.there;
    purpose = ap role (sym same) ∙ before.purpose ∙ ap Keeper chunk;
  };
  current = a.current (n - 1) less chunk ∙ same;
}
  where
    less : n - 1 < n
    less = previous_is_less n (λ e. part (ap (λ i. i % 1024) e))

    chunk : (n - 1) / 1024 ≡ n / 1024
    chunk = chunk_of_previous n part

    before : IsKeeper class role g (n - 1)
    before = a.keepers (n - 1) less

    same : keeper g (n - 1) ≡ keeper g n
    same = same_chunk_same_keeper g n (n - 1) chunk

keeper_created : (class : ℕ) (made : ℕ → Bool) (n : ℕ) (role : ℕ → Role) (g f h : Graph) → n < 2 ^ 22 → n % 1024 ≡ 0 → ArePlaced class made n role g → IsTop class role g n
    → IsCreation 4 (Array class) 1024 g f → IsWriting (top_of n) (array_slot n) (f.registers 4) f h → IsKeeperReady class made n role g h
keeper_created class made n role g f h few whole a t c w = record {
  led = record {
    after = after;
    moves = both;
    stays = stays;
    placed = placed_moves class n n made role after g h both stays (λ m l e. absurd (chunk_differs n m whole l e)) a;
  };
  top = top_moves class n n after after f h second (w.registers (top_of n)) t1;
  array = record {
    there = subst (IsPlaceArray class h) (sym is_kept) (second.arrays (f.registers 4) (new_array_is_place class 4 1024 g f refl c));
    purpose = ap after is_kept ∙ changed_here role (f.registers 4) (Keeper (n / 1024));
  };
  current = w.registers 4 ∙ sym is_kept;
}
  where
    after : ℕ → Role
    after = changed_at_id role (f.registers 4) (Keeper (n / 1024))

    small : (m : ℕ) → m < 2 ^ 22 → top_of m ≢ 4
    small m l e = let s : top_of m < 4 = few_tops m l in omega (arith, s, e)

    first : Moves class n role (changed_at_id role (f.registers 4) (Keeper (n / 1024))) g f
    first = creation_moves class n 4 (Array class) 1024 role (Keeper (n / 1024)) g f c

    t1 : IsTop class (changed_at_id role (f.registers 4) (Keeper (n / 1024))) f n
    t1 = top_moves class n n role after g f first (c.registers (top_of n) (small n few)) t

    second : Moves class n (changed_at_id role (f.registers 4) (Keeper (n / 1024))) (changed_at_id role (f.registers 4) (Keeper (n / 1024))) f h
    second = writing_moves class n (top_of n) (array_slot n) (f.registers 4) after f h w (λ m e. absurd (top_is_no_object (top_of n) m (sym t1.purpose ∙ e)))

    both : Moves class n role (changed_at_id role (f.registers 4) (Keeper (n / 1024))) g h
    both = two_moves class n role after after g f h first second

    first_stays : (m : ℕ) → m < n → Stays g f m
    first_stays m l = creation_stays 4 (Array class) 1024 m g f c (small m (omega (arith, l, few)))
        (place_array_is_there class g (g.registers (top_of m)) (a.tops m l).there) (place_array_is_there class g (keeper g m) (a.keepers m l).there)

    second_stays : (m : ℕ) → m < n → Stays f h m
    second_stays m l = writing_stays (top_of n) (array_slot n) (f.registers 4) m f h w (go (cases_eq (top_of m) (top_of n)))
        (inl (λ e. top_is_no_keeper (top_of n) (m / 1024) (sym t1.purpose ∙ ap after (sym e) ∙ km.purpose)))
      where
        tm : IsTop class (changed_at_id role (f.registers 4) (Keeper (n / 1024))) f m
        tm = top_moves class n m role after g f first (first_stays m l).top_stays (a.tops m l)

        km : IsKeeper class (changed_at_id role (f.registers 4) (Keeper (n / 1024))) f m
        km = keeper_moves class n m role after g f first (first_stays m l).array_stays (a.keepers m l)

        go : (top_of m ≡ top_of n) ⊎ (top_of m ≢ top_of n) → (f.registers (top_of m) ≢ f.registers (top_of n)) ⊎ (array_slot m ≢ array_slot n)
        go (inl e) = inr (array_differs n m whole l e)
        go (inr d) = inl (λ e. d (top_number (top_of m) (top_of n) (sym tm.purpose ∙ ap after e ∙ t1.purpose)))

    stays : (m : ℕ) → m < n → Stays g h m
    stays m l = stays_twice g f h m (first_stays m l) (second_stays m l)

    is_kept : keeper h n ≡ f.registers 4
    is_kept = ap (λ x. word h x (array_slot n)) (w.registers (top_of n)) ∙ word_written (top_of n) (array_slot n) (f.registers 4) f h w

pub keeper_is_ready : (slots : ℕ → ℕ) (class : ℕ) (made : ℕ → Bool) (n : ℕ) (role : ℕ → Role) (g h : Graph) → n < 2 ^ 22 → ArePlaced class made n role g → IsTop class role g n → IsRun slots (array_events class n) g h → IsKeeperReady class made n role g h
keeper_is_ready slots class made n role g h few a t = go (n % 1024 == 0) refl
  where
    go : (b : Bool) → (n % 1024 == 0) ≡ b → IsRun slots (if b then NewArray 0 4 class 1024 ∷ Store 0 (top_of n) (array_slot n) 4 ∷ [] else []) g h → IsKeeperReady class made n role g h
    go true e r = keeper_created class made n role g r.0 h few (eqb-true (n % 1024) 0 e) a t r.1 (one_step slots (Store 0 (top_of n) (array_slot n) 4) r.0 h r.2)
    go false e r = subst (IsKeeperReady class made n role g) r (keeper_stays_ready class made n role g (eqb-false (n % 1024) 0 e) a t)

-- both
pub place_is_ready : (slots : ℕ → ℕ) (class : ℕ) (made : ℕ → Bool) (n : ℕ) (role : ℕ → Role) (g h : Graph) → n < 2 ^ 22 → ArePlaced class made n role g → IsRun slots (place_events class n) g h → IsKeeperReady class made n role g h
place_is_ready slots class made n role g h few a r = record { led = leads_on class made n role g s.0 h first.led second.led; top = second.top; array = second.array; current = second.current }
  where
    s : (f : Graph) × IsRun slots (top_events class n) g f × IsRun slots (array_events class n) f h
    s = run_in_parts slots (top_events class n) (array_events class n) g h r

    first : IsTopReady class made n role g s.0
    first = top_is_ready slots class made n role g s.0 few a s.1

    second : IsKeeperReady class made n first.led.after s.0 h
    second = keeper_is_ready slots class made n first.led.after s.0 h few first.led.placed first.top s.2

-- ---- the object

-- the event that makes an object of this kind with n slots
abbrev pub creation_of : ObjKind → ℕ → Event
creation_of (Instance class) n = New 0 5 class
creation_of (Array class) n = NewArray 0 5 class n
creation_of (Prim kind) n = NewPrim 0 5 kind n

-- an instance has as many slots as its class
abbrev pub IsSized : (ℕ → ℕ) → ObjKind → ℕ → Type 0
IsSized slots (Instance class) n = slots class ≡ n
IsSized slots (Array class) n = Unit {0}
IsSized slots (Prim kind) n = Unit {0}

pub creation_step : (slots : ℕ → ℕ) (kind : ObjKind) (n : ℕ) (g h : Graph) → IsSized slots kind n → IsGraphStep slots (creation_of kind n) g h → IsCreation 5 kind n g h
creation_step slots (Instance class) n g h e c = subst (λ k. IsCreation 5 (Instance class) k g h) e c
creation_step slots (Array class) n g h e c = c
creation_step slots (Prim kind) n g h e c = c

-- an object as it is made: its references are null
abbrev pub made_thing : ObjectTold → Thing
made_thing t = record { kind = t.kind; words = with_values (replicate t.slots 0) t.values }

-- object n is made and kept
pub record IsMade (class : ℕ) (made : ℕ → Bool) (n : ℕ) (t : ObjectTold) (role : ℕ → Role) (g h : Graph) : Type 0 where
  pub after : ℕ → Role
  pub moves : Moves class n role after g h
  pub stays : (m : ℕ) → m < n → Stays g h m
  pub placed : ArePlaced class made (n + 1) after h
  pub content : h.things (kept h n) ≡ Some (made_thing t)

object_created : (class : ℕ) (made : ℕ → Bool) (n : ℕ) (t : ObjectTold) (role : ℕ → Role) (g f k h : Graph) → n < 2 ^ 22 → ArePlaced class made n role g → IsTop class role g n → IsKeeper class role g n
    → g.registers 4 ≡ keeper g n → IsCreation 5 t.kind t.slots g f → ArePut (f.registers 5) t.kind (replicate t.slots 0) (made_thing t).words f k → IsWriting 4 (slot_of n) (k.registers 5) k h
    → IsMade class made n t role g h
object_created class made n t role g f k h few a tn kn current c p w = record {
  after = after;
  moves = all_moves;
  stays = λ m l. all_stay m l;
  placed = placed_more class n made after h
      (placed_moves class n n made role after g h all_moves all_stay (λ m l e. now ∙ sym (same_chunk_same_keeper h n m e)) a)
      (top_moves class n n role after g h all_moves top_same tn)
      (keeper_moves class n n role after g h all_moves array_same kn)
      now
      (λ b. record { there = thing_is_there (h.things (kept h n)) (made_thing t) content; purpose = ap after is_kept ∙ for });
  content = content;
}
  where
    z : ℕ
    z = f.registers 5

    after : ℕ → Role
    after = changed_at_id role (f.registers 5) (Object n)

    for : changed_at_id role (f.registers 5) (Object n) (f.registers 5) ≡ Object n
    for = changed_here role (f.registers 5) (Object n)

    apart : (m : ℕ) → m < 2 ^ 22 → top_of m ≢ 5
    apart m l e = let s : top_of m < 4 = few_tops m l in omega (arith, s, e)

    less : (m : ℕ) → m < n → m < 2 ^ 22
    less m l = omega (arith, l, few)

    -- it is made
    first : Moves class n role (changed_at_id role (f.registers 5) (Object n)) g f
    first = creation_moves class n 5 t.kind t.slots role (Object n) g f c

    first_stays : (m : ℕ) → m < 2 ^ 22 → IsTop class role g m → IsKeeper class role g m → Stays g f m
    first_stays m l tm km = creation_stays 5 t.kind t.slots m g f c (apart m l) (place_array_is_there class g (g.registers (top_of m)) tm.there) (place_array_is_there class g (keeper g m) km.there)

    -- its values are put
    second : Moves class n (changed_at_id role (f.registers 5) (Object n)) (changed_at_id role (f.registers 5) (Object n)) f k
    second = filling_moves class n (f.registers 5) after t.kind (replicate t.slots 0) (made_thing t).words f k for p.filled

    second_stays : (m : ℕ) → m < 2 ^ 22 → IsTop class role g m → IsKeeper class role g m → Stays f k m
    second_stays m l tm km = filling_stays class n m (f.registers 5) after t.kind (replicate t.slots 0) (made_thing t).words f k for (few_tops m l)
        (top_moves class n m role after g f first (first_stays m l tm km).top_stays tm) (keeper_moves class n m role after g f first (first_stays m l tm km).array_stays km) p.filled

    both : Moves class n role (changed_at_id role (f.registers 5) (Object n)) g k
    both = two_moves class n role after after g f k first second

    both_stay : (m : ℕ) → m < 2 ^ 22 → IsTop class role g m → IsKeeper class role g m → Stays g k m
    both_stay m l tm km = stays_twice g f k m (first_stays m l tm km) (second_stays m l tm km)

    t2 : (m : ℕ) → m < 2 ^ 22 → IsTop class role g m → IsKeeper class role g m → IsTop class (changed_at_id role (f.registers 5) (Object n)) k m
    t2 m l tm km = top_moves class n m role after g k both (both_stay m l tm km).top_stays tm

    k2 : (m : ℕ) → m < 2 ^ 22 → IsTop class role g m → IsKeeper class role g m → IsKeeper class (changed_at_id role (f.registers 5) (Object n)) k m
    k2 m l tm km = keeper_moves class n m role after g k both (both_stay m l tm km).array_stays km

    -- it is kept
    array : k.registers 4 ≡ keeper k n
    array = p.registers 4 ∙ c.registers 4 (omega arith) ∙ current ∙ sym (both_stay n few tn kn).array_stays

    for_array : changed_at_id role (f.registers 5) (Object n) (k.registers 4) ≡ Keeper (n / 1024)
    for_array = ap after array ∙ (k2 n few tn kn).purpose

    third : Moves class n (changed_at_id role (f.registers 5) (Object n)) (changed_at_id role (f.registers 5) (Object n)) k h
    third = writing_moves class n 4 (slot_of n) (k.registers 5) after k h w (λ m e. absurd (keeper_is_no_object (n / 1024) m (sym for_array ∙ e)))

    third_stays : (m : ℕ) → m < n → Stays k h m
    third_stays m l = writing_stays 4 (slot_of n) (k.registers 5) m k h w
        (inl (λ e. top_is_no_keeper (top_of m) (n / 1024) (sym (t2 m (less m l) (a.tops m l) (a.keepers m l)).purpose ∙ ap after e ∙ for_array)))
        (go (cases_eq (m / 1024) (n / 1024)))
      where
        go : (m / 1024 ≡ n / 1024) ⊎ (m / 1024 ≢ n / 1024) → (keeper k m ≢ k.registers 4) ⊎ (slot_of m ≢ slot_of n)
        go (inl e) = inr (slot_differs n m e (λ s. omega (arith, l, s)))
        go (inr d) = inl (λ e. d (keeper_number (m / 1024) (n / 1024) (sym (k2 m (less m l) (a.tops m l) (a.keepers m l)).purpose ∙ ap after e ∙ for_array)))

    -- all together
    all_moves : Moves class n role (changed_at_id role (f.registers 5) (Object n)) g h
    all_moves = two_moves class n role after after g k h both third

    all_stay : (m : ℕ) → m < n → Stays g h m
    all_stay m l = stays_twice g k h m (both_stay m (less m l) (a.tops m l) (a.keepers m l)) (third_stays m l)

    top_same : h.registers (top_of n) ≡ g.registers (top_of n)
    top_same = w.registers (top_of n) ∙ (both_stay n few tn kn).top_stays

    array_later : keeper h n ≡ keeper k n
    array_later = ap (λ x. word h x (array_slot n)) (w.registers (top_of n))
        ∙ word_after_write 4 (slot_of n) (k.registers 5) k h (k.registers (top_of n)) (array_slot n) w (inl (λ e. top_is_no_keeper (top_of n) (n / 1024) (sym (t2 n few tn kn).purpose ∙ ap after e ∙ for_array)))

    array_same : keeper h n ≡ keeper g n
    array_same = array_later ∙ (both_stay n few tn kn).array_stays

    now : h.registers 4 ≡ keeper h n
    now = w.registers 4 ∙ array ∙ sym array_later

    is_kept : kept h n ≡ f.registers 5
    is_kept = ap (λ x. word h x (slot_of n)) (array_later ∙ sym array) ∙ word_written 4 (slot_of n) (k.registers 5) k h w ∙ p.registers 5

    content : h.things (kept h n) ≡ Some (made_thing t)
    content = ap h.things is_kept ∙ w.others (f.registers 5) (λ e. keeper_is_no_object (n / 1024) n (sym for_array ∙ ap after (sym e) ∙ for)) ∙ p.filled.here

-- the events of object n after its place is ready, if it is one that is made
abbrev pub made_tail : ℕ → Option ObjectTold → List Event
made_tail n None = []
made_tail n (Some t) = creation_of t.kind t.slots ∷ flat_map value_events t.values ++ keep_event n ∷ []

-- the events of object n
abbrev pub made_block : ℕ → ℕ → Option ObjectTold → List Event
made_block class n x = place_events class n ++ made_tail n x

-- object n is made and kept, if it is one that is made
pub record IsBlockMade (class : ℕ) (made : ℕ → Bool) (n : ℕ) (x : Option ObjectTold) (role : ℕ → Role) (g h : Graph) : Type 0 where
  pub after : ℕ → Role
  pub moves : Moves class n role after g h
  pub stays : (m : ℕ) → m < n → Stays g h m
  pub placed : ArePlaced class made (n + 1) after h
  pub content : (t : ObjectTold) → x ≡ Some t → h.things (kept h n) ≡ Some (made_thing t)
  pub fits : (t : ObjectTold) → x ≡ Some t → PutsFit t.slots t.values

nothing_made : (class : ℕ) (made : ℕ → Bool) (n : ℕ) (role : ℕ → Role) (g h : Graph) → made n ≡ false → IsKeeperReady class made n role g h → IsBlockMade class made n None role g h
nothing_made class made n role g h not_made p = record {
  after = p.led.after;
  moves = p.led.moves;
  stays = p.led.stays;
  placed = placed_more class n made p.led.after h p.led.placed p.top p.array p.current (λ b. let z : true ≡ false = sym b ∙ not_made in cc);
  content = λ t e. (let z : None ≡ Some t = e in cc);
  fits = λ t e. (let z : None ≡ Some t = e in cc);
}

one_object_made : (slots : ℕ → ℕ) (class : ℕ) (made : ℕ → Bool) (n : ℕ) (t : ObjectTold) (role : ℕ → Role) (g f h : Graph) → n < 2 ^ 22 → IsSized slots t.kind t.slots → IsKeeperReady class made n role g f
    → IsRun slots (creation_of t.kind t.slots ∷ flat_map value_events t.values ++ keep_event n ∷ []) f h → IsBlockMade class made n (Some t) role g h
one_object_made slots class made n t role g f h few sized p r = record {
  after = m.after;
  moves = two_moves class n role p.led.after m.after g f h p.led.moves m.moves;
  stays = λ i l. stays_twice g f h i (p.led.stays i l) (m.stays i l);
  placed = m.placed;
  content = λ u e. (let same : t ≡ u = some_is_one t u e in m.content ∙ ap (λ v. Some (made_thing v)) same);
  fits = λ u e. subst (λ (v : ObjectTold). PutsFit v.slots v.values) (some_is_one t u e) (subst (λ k. PutsFit k t.values) (length-replicate t.slots 0) put.1);
}
  where
    some_is_one : (t u : ObjectTold) → Some t ≡ Some u → t ≡ u
    some_is_one t u e = cc

    created : IsCreation 5 t.kind t.slots f r.0
    created = creation_step slots t.kind t.slots f r.0 sized r.1

    s : (k : Graph) × IsRun slots (flat_map value_events t.values) r.0 k × IsRun slots (keep_event n ∷ []) k h
    s = run_in_parts slots (flat_map value_events t.values) (keep_event n ∷ []) r.0 h r.2

    put : ArePut (r.0.registers 5) t.kind (replicate t.slots 0) (made_thing t).words r.0 s.0 × PutsFit (length {A = ℕ} (replicate t.slots 0)) t.values
    put = put_values slots (r.0.registers 5) t.kind t.values (replicate t.slots 0) r.0 s.0 refl created.here s.1

    m : IsMade class made n t p.led.after f h
    m = object_created class made n t p.led.after f r.0 s.0 h few p.led.placed p.top p.array p.current created put.0 (one_step slots (Store 0 4 (slot_of n) 5) s.0 h s.2)

pub block_is_made : (slots : ℕ → ℕ) (class : ℕ) (made : ℕ → Bool) (n : ℕ) (x : Option ObjectTold) (role : ℕ → Role) (g h : Graph) → n < 2 ^ 22 → made n ≡ is_some x → ((t : ObjectTold) → x ≡ Some t → IsSized slots t.kind t.slots)
    → ArePlaced class made n role g → IsRun slots (made_block class n x) g h → IsBlockMade class made n x role g h
block_is_made slots class made n None role g h few is sized a r =
    let s = run_in_parts slots (place_events class n) (made_tail n None) g h r in
    subst (IsBlockMade class made n None role g) s.2 (nothing_made class made n role g s.0 is (place_is_ready slots class made n role g s.0 few a s.1))
block_is_made slots class made n (Some t) role g h few is sized a r =
    let s = run_in_parts slots (place_events class n) (made_tail n (Some t)) g h r in
    one_object_made slots class made n t role g s.0 h few (sized t refl) (place_is_ready slots class made n role g s.0 few a s.1) s.2
