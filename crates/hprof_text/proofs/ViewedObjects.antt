-- What a view tells of the object at a place.
use Rattle.std.proofs.Common.{◌≡◌, ◌≤◌, ◌<◌, ℕ, ◌+◌, ◌-◌, List, [], ◌∷◌, length, get_or, sym, ap, ap₂, ◌∙◌, subst, arith, inl, inr}
use Rattle.std.specs.Prelude.{slice_get, Option, Some, None, IfSome}
use Rattle.std.proofs.lemmas.Option.{slice_get_within, slice_get_cases, get_or_from_slice_get}
use Rattle.heap_class.specs.declared.IdSize.{IdSize}
use Rattle.heap_class.specs.Classes.{Class}
use Rattle.heap_class.specs.declared.ObjKind.{ObjKind}
use Rattle.heap_class.specs.declared.ObjRef.{ObjRef}
use Rattle.heap_class.specs.Limits.{large_array_limit}
pub use Rattle.heap_class.proofs.Lists.{got_is_in as is_there}
use Rattle.hprof_text.specs.Image.{Image, DumpedObject, IsKnown, IsDumpable}
use Rattle.hprof_text.specs.declared.section.Section.TheVariants.{Objects}
use Rattle.hprof_text.specs.Sizes.{dump_size}
use Rattle.hprof_text.specs.Text.{dump_of, object_dump, items_of}
use Rattle.hprof_text.proofs.Lengths.{dump_length}
use Rattle.hprof_text.proofs.Loops.{item_of_list_within}
use Rattle.hprof_text.proofs.Sections.{object_item_is_its_dump, items_counted}

-- the object at a place, by what a view tells of it
pub record IsHere (image : Image) (i : ℕ) (kind : ObjKind) (words : List ℕ) : Type 0 where
  pub object : DumpedObject
  pub there : slice_get image.objects i ≡ Some object
  pub same_kind : kind ≡ object.kind
  pub same_words : words ≡ object.words
  pub known : IsKnown image.classes kind (length words)
  pub small : length words ≤ large_array_limit

pub object_viewed_at_place : (image : Image) (places : List ObjRef) (i : ℕ) (at : ObjRef) (kind : ObjKind) (words : List ℕ) → IsDumpable image → length places ≡ length image.objects → slice_get places i ≡ Some at
    → IfSome (slice_get image.objects i) (λ o. kind ≡ o.kind) → IfSome (slice_get image.objects i) (λ o. words ≡ o.words) → IsHere image i kind words
object_viewed_at_place image places i at kind words d n e k w =
    let h : i < length image.objects = omega (arith, slice_get_within places i at e, n) in
    let p = item_of_list_within image.objects i h in
    let o = p.0 in
    let K : Option DumpedObject → Type 0 = λ x. IfSome x (λ o. kind ≡ o.kind) in
    let W : Option DumpedObject → Type 0 = λ x. IfSome x (λ o. words ≡ o.words) in
    let sk : kind ≡ o.kind = subst K p.1 k in
    let sw : words ≡ o.words = subst W p.1 w in
    let g : get_or image.objects i o ≡ o = get_or_from_slice_get image.objects i o o p.1 in
    let A : DumpedObject → Type 0 = λ x. IsKnown image.classes x.kind (length x.words) in
    let B : DumpedObject → Type 0 = λ x. length x.words ≤ large_array_limit in
    let kn : A o = subst A g (d.known i o h) in
    let sm : B o = subst B g (d.small i o h) in
    let C : ObjKind → Type 0 = λ x. IsKnown image.classes x (length o.words) in
    let D : List ℕ → Type 0 = λ x. IsKnown image.classes kind (length x) in
    let F : List ℕ → Type 0 = λ x. length x ≤ large_array_limit in
    record { object = o; there = p.1; same_kind = sk; same_words = sw; known = subst D (sym sw) (subst C (sym sk) kn); small = subst F (sym sw) sm }

-- an object is the one that a view shows, if each part of it is that one's
pub object_of_its_parts : (x : Option DumpedObject) (d : DumpedObject) → IfSome x (λ o. d.id ≡ o.id) → IfSome x (λ o. d.kind ≡ o.kind) → IfSome x (λ o. d.words ≡ o.words) → IfSome x (λ o. d ≡ o)
object_of_its_parts None d a b c = tt
object_of_its_parts (Some o) d a b c = λ i. record { id = a i; kind = b i; words = c i }

-- each part of the object that a view shows is that one's
pub part_of_object : {A : Type 0} (f : DumpedObject → A) (x : Option DumpedObject) (d : DumpedObject) (y : A) → y ≡ f d → IfSome x (λ o. d ≡ o) → IfSome x (λ o. y ≡ f o)
part_of_object f None d y e h = tt
part_of_object f (Some o) d y e h = e ∙ ap f h

pub object_bytes_are : (ids : IdSize) (image : Image) (j : ℕ) (o : DumpedObject) (s : IdSize) (cs : List Class) (x : ℕ) (kind : ObjKind) (words : List ℕ) → slice_get image.objects j ≡ Some o → s ≡ ids → cs ≡ image.classes
    → IfSome (slice_get image.objects j) (λ o. x ≡ o.id) → kind ≡ o.kind → words ≡ o.words → dump_of s cs x kind words ≡ object_dump ids image.classes o
unfolding object_dump
object_bytes_are ids image j o s cs x kind words e a b i k w =
    let X : Option DumpedObject → Type 0 = λ y. IfSome y (λ o. x ≡ o.id) in
    ap₂ (λ t ds. dump_of t ds x kind words) a b ∙ ap₂ (λ y m. dump_of ids image.classes y m words) (subst X e i) k ∙ ap (dump_of ids image.classes o.id o.kind) w

-- the object that a loop over the places has come to
pub record IsVisited (image : Image) (places : List ObjRef) (i : ℕ) (at : ObjRef) : Type 0 where
  pub led : slice_get places i ≡ Some at
  pub passed : i + 1 ≤ length places
  pub object : DumpedObject
  pub there : slice_get image.objects i ≡ Some object

pub next_place_is_visited : (image : Image) (places : List ObjRef) (i : ℕ) (next : Option ObjRef) (at : ObjRef) → next ≡ slice_get places i → next ≡ Some at → length places ≡ length image.objects → IsVisited image places i at
next_place_is_visited image places i next at e is placed =
    let led : slice_get places i ≡ Some at = sym e ∙ is in
    let number_after_place_within = slice_get_within places i at led in
    let o = item_of_list_within image.objects i (omega (arith, number_after_place_within, placed)) in
    record { led = led; passed = omega (arith, number_after_place_within); object = o.0; there = o.1 }

-- fewer are left after it
pub fewer_places_left_after_next : (places : List ObjRef) (i : ℕ) (next : Option ObjRef) (at : ObjRef) → next ≡ slice_get places i → next ≡ Some at → length places - (i + 1) < length places - i
fewer_places_left_after_next places i next at e is = let led : slice_get places i ≡ Some at = sym e ∙ is in omega (arith, slice_get_within places i at led)

-- the next place is within the places or just past them
pub number_after_place_within : (places : List ObjRef) (j : ℕ) (at : ObjRef) → slice_get places j ≡ Some at → j + 1 ≤ length places
number_after_place_within places j at e = omega (arith, slice_get_within places j at e)

-- with no object here there are no more
pub no_next_place_is_past_all : (places : List ObjRef) (j : ℕ) → None ≡ slice_get places j → length places ≤ j
no_next_place_is_past_all places j e = elim (slice_get_cases places j).1 [ inl p ↦ absurd (none_some p.0 (e ∙ p.2)) | inr p ↦ p.0 ]
  where
    none_some : (x : ObjRef) → ◌≡◌ {A = Option ObjRef} None (Some x) → ⊥
    none_some x e = cc

-- and all have been passed
pub all_objects_were_visited : (image : Image) (places : List ObjRef) (i : ℕ) (next : Option ObjRef) → next ≡ slice_get places i → next ≡ None → i ≤ length places → length places ≡ length image.objects → i ≡ length image.objects
all_objects_were_visited image places i next e none passed placed = omega (arith, no_next_place_is_past_all places i (sym none ∙ e), passed, placed)

-- the record of the object at place i, by what a view tells of it
pub object_record : (ids : IdSize) (image : Image) (places : List ObjRef) (i : ℕ) (at : ObjRef) (s : IdSize) (cs : List Class) (x : ℕ) (kind : ObjKind) (words : List ℕ) → IsDumpable image → length places ≡ length image.objects → slice_get places i ≡ Some at
    → s ≡ ids → cs ≡ image.classes → IfSome (slice_get image.objects i) (λ o. x ≡ o.id) → IfSome (slice_get image.objects i) (λ o. kind ≡ o.kind) → IfSome (slice_get image.objects i) (λ o. words ≡ o.words)
    → slice_get (items_of ids image Objects) i ≡ Some (dump_of s cs x kind words ∷ [])
object_record ids image places i at s cs x kind words d n e a b f g h =
    let o = object_viewed_at_place image places i at kind words d n e g h in
    object_item_is_its_dump ids image i o.object o.there
    ∙ ap (λ l. Some (l ∷ [])) (sym (object_bytes_are ids image i o.object s cs x kind words o.there a b f o.same_kind o.same_words))

-- its size, by what a view tells of it
pub object_sized : (ids : IdSize) (image : Image) (i : ℕ) (kind : ObjKind) (words : List ℕ) (here : IsHere image i kind words) → length (object_dump ids image.classes here.object) ≡ dump_size ids image.classes kind (length words)
unfolding object_dump
object_sized ids image i kind words h =
    ap₂ (λ k ws. length (dump_of ids image.classes h.object.id k ws)) (sym h.same_kind) (sym h.same_words)
    ∙ dump_length ids image.classes h.object.id kind words h.known

-- all have been passed, where there are no more
pub no_objects_past_places : (ids : IdSize) (image : Image) (places : List ObjRef) (i : ℕ) → None ≡ slice_get places i → length places ≡ length image.objects → length (items_of ids image Objects) ≤ i
no_objects_past_places ids image places i e n = omega (arith, no_next_place_is_past_all places i e, n, items_counted ids image Objects)
