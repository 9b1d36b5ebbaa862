-- What names an object, slot by slot.
use Rattle.std.proofs.Common.{◌≡◌, ◌≢◌, ℕ, ◌+◌, ◌<◌, Bool, true, false, cond, List, [], ◌∷◌, ◌++◌, length, map, take, get_or, refl, sym, ap, ap₂, ◌∙◌, subst, arith, append_assoc}
use Rattle.std.specs.Prelude.{slice_get, Option, Some, None, filter, flat_map, ◌==◌, IfSome}
use Rattle.std.specs.Option.{option_map_or}
use Rattle.std.specs.List.{range_with_len}
use Rattle.std.proofs.lemmas.List.{append-nil, map-id, map-append, take_more}
use Rattle.std.proofs.lemmas.Bool.{eq-eqb, ne_eqb}
use Rattle.std.proofs.lemmas.List.Concat.{flat_map-append}
use Rattle.std.proofs.lemmas.List.Elements.{filter-append}
use Rattle.std.proofs.lemmas.List.FromFn.{map-range_with_len_more}
use Rattle.std.proofs.lemmas.Option.{slice_get-get_or, slice_get_within, get_or_from_slice_get}
use Rattle.heap_class.specs.declared.ObjKind.{ObjKind}
use Rattle.heap_class.specs.Classes.{Class}
use Rattle.hprof_text.specs.Image.{Image, DumpedObject}
use Rattle.heap_questions.specs.Graph.{slot_names, slot_refers}
use Rattle.heap_questions.specs.Referrers.{names_at, naming_slots}
use Rattle.heap_questions.specs.declared.references.Referrer.{Referrer}

-- the first n numbers that pass, each as f makes it
abbrev pub passing : {X : Type 0} → (ℕ → Bool) → (ℕ → X) → ℕ → List X
passing p f n = map f (filter p (range_with_len 0 n))

pub one_more_number : (n : ℕ) → range_with_len 0 (n + 1) ≡ range_with_len 0 n ++ n ∷ []
one_more_number n = sym (map-id (range_with_len 0 (n + 1))) ∙ map-range_with_len_more (λ k. k) 0 n n (omega arith) ∙ ap (λ l. l ++ n ∷ []) (map-id (range_with_len 0 n))

passing_more : {X : Type 0} (p : ℕ → Bool) (f : ℕ → X) (n : ℕ) → passing p f (n + 1) ≡ passing p f n ++ map f (cond (p n) (n ∷ []) [])
passing_more p f n =
    ap (λ l. map f (filter p l)) (one_more_number n)
    ∙ ap (map f) (filter-append p (range_with_len 0 n) (n ∷ []))
    ∙ map-append f (filter p (range_with_len 0 n)) (cond (p n) (n ∷ []) [])

pub passing_one_more : {X : Type 0} (p : ℕ → Bool) (f : ℕ → X) (n : ℕ) (old now new : List X) → p n ≡ true → now ≡ old ++ passing p f n → new ≡ now ++ f n ∷ [] → new ≡ old ++ passing p f (n + 1)
passing_one_more p f n old now new t h e =
    e ∙ ap (λ l. l ++ f n ∷ []) h ∙ append_assoc old (passing p f n) (f n ∷ [])
    ∙ ap (λ l. old ++ l) (sym (passing_more p f n ∙ ap (λ b. passing p f n ++ map f (cond b (n ∷ []) [])) t))

pub passing_no_more : {X : Type 0} (p : ℕ → Bool) (f : ℕ → X) (n : ℕ) (old now : List X) → p n ≡ false → now ≡ old ++ passing p f n → now ≡ old ++ passing p f (n + 1)
passing_no_more p f n old now t h =
    h ∙ ap (λ l. old ++ l) (sym (passing_more p f n ∙ ap (λ b. passing p f n ++ map f (cond b (n ∷ []) [])) t ∙ append-nil (passing p f n)))

-- slot s of an object, whose word is w, names x
pub named_so : (classes : List Class) (x : ℕ) (o : DumpedObject) (s w : ℕ) → s < length o.words → w ≡ get_or o.words s w → slot_refers classes o.kind s ≡ true → w ≡ x → names_at classes x o s ≡ true
unfolding slot_names
named_so classes x o s w h e r n =
    ap (λ b. option_map_or (λ y. y == x) (cond b (slice_get o.words s) None) false) r
    ∙ ap (λ y. option_map_or (λ y. y == x) y false) (slice_get-get_or o.words s w h ∙ ap Some (sym e ∙ n))
    ∙ eq-eqb x x refl

pub other_word : (classes : List Class) (x : ℕ) (o : DumpedObject) (s w : ℕ) → s < length o.words → w ≡ get_or o.words s w → w ≢ x → names_at classes x o s ≡ false
unfolding slot_names
other_word classes x o s w h e n =
    by_kind (slot_refers classes o.kind s)
  where
    by_kind : (b : Bool) → option_map_or (λ y. y == x) (cond b (slice_get o.words s) None) false ≡ false
    by_kind false = refl
    by_kind true = ap (λ y. option_map_or (λ y. y == x) y false) (slice_get-get_or o.words s w h ∙ ap Some (sym e)) ∙ ne_eqb w x n

pub no_reference : (classes : List Class) (x : ℕ) (o : DumpedObject) (s : ℕ) → slot_refers classes o.kind s ≡ false → names_at classes x o s ≡ false
unfolding slot_names
no_reference classes x o s r = ap (λ b. option_map_or (λ y. y == x) (cond b (slice_get o.words s) None) false) r

-- ---- object by object

pub slots_more : (classes : List Class) (x : ℕ) (objects : List DumpedObject) (i : ℕ) (o : DumpedObject) (first now new : List Referrer) → slice_get objects i ≡ Some o → now ≡ first ++ flat_map (naming_slots classes x) (take i objects) → new ≡ now ++ naming_slots classes x o
    → new ≡ first ++ flat_map (naming_slots classes x) (take (i + 1) objects)
slots_more classes x objects i o first now new h a e =
    let f = naming_slots classes x in
    e ∙ ap (λ l. l ++ f o) a
    ∙ append_assoc first (flat_map f (take i objects)) (f o)
    ∙ ap (λ l. first ++ (flat_map f (take i objects) ++ l)) (sym (append-nil (f o)))
    ∙ ap (λ l. first ++ l) (sym (flat_map-append f (take i objects) (o ∷ [])))
    ∙ ap (λ l. first ++ flat_map f l) (ap (λ y. take i objects ++ y ∷ []) (sym (get_or_from_slice_get objects i o o h)) ∙ sym (take_more objects i o (slice_get_within objects i o h)))

-- the object here, by what a view tells of it
pub same_object : (image : Image) (i : ℕ) (o : DumpedObject) (x : ℕ) (kind : ObjKind) (words : List ℕ) → slice_get image.objects i ≡ Some o → IfSome (slice_get image.objects i) (λ o. x ≡ o.id) → kind ≡ o.kind → words ≡ o.words
    → ◌≡◌ {A = DumpedObject} (record { id = x; kind = kind; words = words }) o
same_object image i o x kind words h a k w =
    let P : Option DumpedObject → Type 0 = λ y. IfSome y (λ o. x ≡ o.id) in
    let d : x ≡ o.id = subst P h a in
    ap (λ (x : ℕ). let r : DumpedObject = record { id = x; kind = kind; words = words } in r) d
    ∙ ap₂ (λ (k : ObjKind) (ws : List ℕ). let r : DumpedObject = record { id = o.id; kind = k; words = ws } in r) k w
