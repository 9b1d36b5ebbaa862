-- Nothing in the dump of a legal heap is cut off.
use Rattle.std.proofs.Common.{◌≡◌, ◌≢◌, ◌⊎◌, ℕ, suc, ◌^◌, ◌<◌, true, List, [], ◌∷◌, length, inl, inr, refl, ap, arith, Some}
use Rattle.std.specs.Prelude.{slice_get, Contains, All, zip, is_some}
use Rattle.std.proofs.lemmas.Bool.{cases_eq}
use Rattle.std.proofs.lemmas.List.Elements.{All-nil, All-cons, All-head, All-tail, All-map, All-weaker, All-contains_itself, filter_passes}
use Rattle.heap_class.specs.declared.IdSize.{IdSize}
use Rattle.heap_class.specs.declared.Kind.{Kind}
use Rattle.heap_class.specs.declared.Kind.TheVariants.{Boolean, Char, Float, Double, Byte, Short, Int, Long}
use Rattle.heap_class.specs.declared.ObjRef.{ObjRef}
use Rattle.heap_class.specs.Kinds.{width_of, value_limit}
use Rattle.heap_class.specs.Classes.{slot_kinds_of}
use Rattle.heap_world.specs.Regions.{Object, id_of, object_of, slot_kinds, live_objects, objects_in}
use Rattle.heap_world.proofs.References.{slot_is_reference}
use Rattle.heap_world.specs.State.{HeapState}
use Rattle.heap_world.specs.Legal.{IsLegal}
use Rattle.heap_world.proofs.NamedObjects.{object_named}
use Rattle.heap_world.proofs.Registers.{names_of}
use Rattle.heap_step.proofs.Ids.{ids_fit}
use Rattle.hprof_text.specs.Image.{DumpedObject}
use Rattle.hprof_text.specs.Fits.{FitsBytes, FitsId, WordsFit, ShowsWhole}
use Rattle.hprof_text.proofs.Fits.{small_number_fits_id, numbers_fit}
use Rattle.heap_trail.specs.Laws.{DumpIsWhole}
use Rattle.heap_pins.specs.Images.{dumped_objects, image_of}
use Rattle.heap_pins.proofs.LiveCounts.{Stands, live_stand}
use Rattle.heap_pins.proofs.DumpLimits.{legal_heap_is_dumpable}

-- ---- words

-- a value within its kind's limit, and a reference below 2^32
word_fits : (ids : IdSize) (k : Kind) (w : ℕ) → (k ≢ Kind.Object → w < value_limit k) → (k ≡ Kind.Object → w < 2 ^ 32) → FitsBytes (width_of ids k) w
word_fits ids Kind.Object w v r = small_number_fits_id ids w (r refl)
word_fits ids Boolean w v r = let h : w < 2 = v (λ e. cc) in omega (arith, h)
word_fits ids Char w v r = v (λ e. cc)
word_fits ids Float w v r = v (λ e. cc)
word_fits ids Double w v r = v (λ e. cc)
word_fits ids Byte w v r = v (λ e. cc)
word_fits ids Short w v r = v (λ e. cc)
word_fits ids Int w v r = v (λ e. cc)
word_fits ids Long w v r = v (λ e. cc)

abbrev IsInRange : Kind × ℕ → Type 0
IsInRange p = p.0 ≢ Kind.Object → p.1 < value_limit p.0

abbrev Fits : IdSize → Kind × ℕ → Type 0
Fits ids p = FitsBytes (width_of ids p.0) p.1

words_fit : (ids : IdSize) (ks : List Kind) (ws : List ℕ) → All IsInRange (zip ks ws) → ((i w : ℕ) → slice_get ks i ≡ Some Kind.Object → slice_get ws i ≡ Some w → w < 2 ^ 32) → WordsFit ids ks ws
words_fit ids [] ws v r = All-nil (Fits ids)
words_fit ids (k ∷ ks) [] v r = All-nil (Fits ids)
words_fit ids (k ∷ ks) (w ∷ ws) v r =
    All-cons (Fits ids) (k, w) (zip ks ws)
    (word_fits ids k w (All-head IsInRange (k, w) (zip ks ws) v) (λ e. r 0 w (ap (λ (x : Kind). Some x) e) refl))
    (words_fit ids ks ws (All-tail IsInRange (k, w) (zip ks ws) v) (λ i x. r (suc i) x))

-- ---- each object

-- the object stands there, and is live
abbrev StandsLive : HeapState → ObjRef × Object → Type 0
StandsLive w p = Stands w.regions p × (p.1.live ≡ true)

all_have_both_properties : {X : Type 0} (P Q : X → Type 0) (xs : List X) → All P xs → All Q xs → All (λ x. P x × Q x) xs
all_have_both_properties P Q xs p q k d l = (p k d l, q k d l)

live_passes : (w : HeapState) → All (λ (p : ObjRef × Object). p.1.live ≡ true) (live_objects w.regions)
unfolding live_objects
live_passes w = filter_passes (λ (p : ObjRef × Object). p.1.live) (objects_in w.regions)

module _ (ids : IdSize) (w : HeapState) (legal : IsLegal w) where
  all_live : All (StandsLive w) (live_objects w.regions)
  all_live = all_have_both_properties (Stands w.regions) (λ (p : ObjRef × Object). p.1.live ≡ true) (live_objects w.regions) (live_stand w.regions) (live_passes w)

  id_fits : (at : ObjRef) (o : Object) → Stands w.regions (at, o) → FitsId ids (id_of w.regions at)
  id_fits at o there = small_number_fits_id ids _ ((ids_fit w legal).objects (id_of w.regions at) (ap is_some (object_named w legal at o there)))

  reference_small : (at : ObjRef) (o : Object) → StandsLive w (at, o) → (i y : ℕ) → slice_get (slot_kinds w.classes o) i ≡ Some Kind.Object → slice_get o.words i ≡ Some y → y < 2 ^ 32
  reference_small at o s i y kind word = go (cases_eq y 0)
    where
      x : ℕ
      x = id_of w.regions at

      named : object_of w.regions x ≡ Some o
      named = object_named w legal at o s.0

      go : (y ≡ 0) ⊎ (y ≢ 0) → y < 2 ^ 32
      go (inl e) = omega (arith, e)
      go (inr n) = (ids_fit w legal).slots x y (o, named, s.1) (names_of w x y o named (slot_is_reference w.classes o i y Kind.Object kind refl word n))

  object_fits : (at : ObjRef) (o : Object) → StandsLive w (at, o) → WordsFit ids (slot_kinds_of w.classes o.kind (length o.words)) o.words
  unfolding slot_kinds
  object_fits at o s = words_fit ids (slot_kinds w.classes o) o.words (legal.objects at o s.0).values (reference_small at o s)

  shown : ObjRef × Object → DumpedObject
  shown p = record { id = id_of w.regions p.0; kind = p.1.kind; words = p.1.words }

  pub shows_whole : ShowsWhole ids (image_of w)
  unfolding image_of dumped_objects shown
  shows_whole = record {
    objects = All-map (λ (o : DumpedObject). FitsId ids o.id) shown (live_objects w.regions) (All-weaker (StandsLive w) (λ p. FitsId ids (id_of w.regions p.0)) (λ p s. id_fits p.0 p.1 s.0) (live_objects w.regions) all_live);
    words = All-map (λ (o : DumpedObject). WordsFit ids (slot_kinds_of w.classes o.kind (length o.words)) o.words) shown (live_objects w.regions)
        (All-weaker (StandsLive w) (λ p. WordsFit ids (slot_kinds_of w.classes p.1.kind (length p.1.words)) p.1.words) (λ p s. object_fits p.0 p.1 s) (live_objects w.regions) all_live);
    registers = All-weaker (Contains w.registers) (FitsId ids) (λ x there. small_number_fits_id ids x ((ids_fit w legal).registers x there)) w.registers (All-contains_itself w.registers);
  }

pub dump_is_whole : (ids : IdSize) (w : HeapState) (time : ℕ) → DumpIsWhole ids w time
dump_is_whole ids w time legal h = (numbers_fit ids (image_of w) (legal_heap_is_dumpable w legal) time h, shows_whole ids w legal)
