-- The rows of a count together: their total is that of the objects.
use Rattle.std.proofs.Common.{◌≡◌, ◌∙◌, ℕ, zero, suc, Bool, true, false, ◌+◌, ◌*◌, ◌^◌, ◌<◌, ◌≤◌, cond, List, [], ◌∷◌, length, map, refl, sym, ap, ap₂, subst, inl, inr, arith}
use Rattle.std.specs.Prelude.{slice_index_or, sum_by, ◌==◌, filter}
use Rattle.std.specs.List.{AllByRecursion, range_with_len}
use Rattle.std.proofs.lemmas.List.Sums.{count_by-le-length, length-filter, sum_by-cons, sum_by-le}
use Rattle.std.proofs.lemmas.List.Elements.{All-from_recursion, recursion_from_All}
use Rattle.std.proofs.lemmas.List.FromFn.{length-map-range_with_len}
use Rattle.std.proofs.lemmas.Bool.{cases_eq, eq-eqb, ne_eqb}
use Rattle.heap_class.specs.declared.IdSize.{IdSize}
use Rattle.heap_class.specs.declared.IdSize.TheVariants.{Four, Eight}
use Rattle.heap_class.specs.declared.Kind.{Kind}
use Rattle.heap_class.specs.declared.Kind.TheVariants.{Boolean, Char, Float, Double, Byte, Short, Int, Long}
use Rattle.heap_class.specs.declared.ObjKind.{ObjKind}
use Rattle.heap_class.specs.declared.ObjKind.TheVariants.{Instance, Array, Prim}
use Rattle.heap_class.specs.Kinds.{id_bytes, width_of}
use Rattle.heap_class.specs.Classes.{Class, instance_size, slots_of}
use Rattle.hprof_text.specs.Image.{DumpedObject, Image, IsDumpable, IsKnown, object_limit}
use Rattle.hprof_text.proofs.Bounds.{width_small}
use Rattle.heap_questions.specs.declared.rows.Row.{Row}
use Rattle.heap_questions.specs.Histogram.{class_rows, kind_row, members, object_bytes, row_number, row_of, rows_of, value_size}
use Rattle.question_rows.specs.Histograms.{IsCountText, IsRowsText, sum_of, total_of}

-- a measure of lists: 0 of none, and so much more with each object
record IsMeasure (m : List DumpedObject → ℕ) (v : DumpedObject → ℕ) : Type 0 where
  nil : m [] ≡ 0
  cons : (o : DumpedObject) (os : List DumpedObject) → m (o ∷ os) ≡ v o + m os

left_zero : (n : ℕ) → n ≡ 0 + n
left_zero n = omega arith

right_zero : (n : ℕ) → n + 0 ≡ n
right_zero n = omega arith

-- ---- one object

abbrev counted_here : (k v : ℕ) (gs : List ℕ) → ℕ
counted_here k v gs = sum_by (λ g. cond (k == g) v 0) gs

none_before_range : (k v n a : ℕ) → k < a → counted_here k v (range_with_len a n) ≡ 0
none_before_range k v zero a h = refl
none_before_range k v (suc n) a h =
    let e : (k == a) ≡ false = ne_eqb k a (λ p. omega (arith, p, h)) in
    sum_by-cons (λ g. cond (k == g) v 0) a (range_with_len (a + 1) n)
    ∙ ap₂ (λ (b : Bool) (r : ℕ). cond b v 0 + r) e (none_before_range k v n (a + 1) (omega (arith, h)))

once_in_range : (k v n a : ℕ) → a ≤ k → k < a + n → counted_here k v (range_with_len a n) ≡ v
once_in_range k v zero a low high = absurd (omega (arith, low, high))
once_in_range k v (suc n) a low high =
    let c = sum_by-cons (λ g. cond (k == g) v 0) a (range_with_len (a + 1) n) in
    elim (cases_eq k a) [
      | inl e ↦ c ∙ ap₂ (λ (b : Bool) (r : ℕ). cond b v 0 + r) (eq-eqb k a e) (none_before_range k v n (a + 1) (omega (arith, e))) ∙ right_zero v
      | inr e ↦ c ∙ ap₂ (λ (b : Bool) (r : ℕ). cond b v 0 + r) (ne_eqb k a e) (once_in_range k v n (a + 1) (omega (arith, low, e)) (omega (arith, high))) ∙ sym (left_zero v)
    ]

-- ---- all objects

abbrev by_rows : (m : List DumpedObject → ℕ) (objects : List DumpedObject) (gs : List ℕ) → ℕ
by_rows m objects gs = sum_by (λ g. m (members objects g)) gs

no_objects_measure_nothing : (m : List DumpedObject → ℕ) (v : DumpedObject → ℕ) → IsMeasure m v → (gs : List ℕ) → by_rows m [] gs ≡ 0
no_objects_measure_nothing m v is [] = refl
no_objects_measure_nothing m v is (g ∷ gs) = sum_by-cons (λ g. m (members [] g)) g gs ∙ ap₂ (λ (a b : ℕ). a + b) is.nil (no_objects_measure_nothing m v is gs)

measure_splits_first : (m : List DumpedObject → ℕ) (v : DumpedObject → ℕ) → IsMeasure m v → (b : Bool) (o : DumpedObject) (ms : List DumpedObject)
    → m (cond b (o ∷ ms) ms) ≡ cond b (v o) 0 + m ms
measure_splits_first m v is true o ms = is.cons o ms
measure_splits_first m v is false o ms = left_zero (m ms)

one_more : (m : List DumpedObject → ℕ) (v : DumpedObject → ℕ) → IsMeasure m v → (o : DumpedObject) (os : List DumpedObject) (gs : List ℕ)
    → by_rows m (o ∷ os) gs ≡ counted_here (row_number o.kind) (v o) gs + by_rows m os gs
one_more m v is o os [] = left_zero 0
one_more m v is o os (g ∷ gs) =
    let k = row_number o.kind in
    let a : by_rows m (o ∷ os) (g ∷ gs) ≡ m (cond (k == g) (o ∷ members os g) (members os g)) + by_rows m (o ∷ os) gs = sum_by-cons (λ g. m (members (o ∷ os) g)) g gs in
    let b : counted_here k (v o) (g ∷ gs) ≡ cond (k == g) (v o) 0 + counted_here k (v o) gs = sum_by-cons (λ g. cond (k == g) (v o) 0) g gs in
    let d : by_rows m os (g ∷ gs) ≡ m (members os g) + by_rows m os gs = sum_by-cons (λ g. m (members os g)) g gs in
    let h = measure_splits_first m v is (k == g) o (members os g) in
    let r = one_more m v is o os gs in
    omega (arith, a, b, d, h, r)

all_of : (m : List DumpedObject → ℕ) (v : DumpedObject → ℕ) → IsMeasure m v → (n : ℕ) (objects : List DumpedObject)
    → AllByRecursion (λ o. row_number o.kind < n) objects → by_rows m objects (range_with_len 0 n) ≡ m objects
all_of m v is n [] within = no_objects_measure_nothing m v is (range_with_len 0 n) ∙ sym is.nil
all_of m v is n (o ∷ os) within =
    one_more m v is o os (range_with_len 0 n)
    ∙ ap₂ (λ (a b : ℕ). a + b) (once_in_range (row_number o.kind) (v o) n 0 (omega arith) (omega (arith, within.0))) (all_of m v is n os within.1)
    ∙ sym (is.cons o os)

-- ---- bounds

row_small : (kind : Kind) → kind_row kind < class_rows
row_small Kind.Object = omega arith
row_small _ = omega arith

known_row : (classes : List Class) (kind : ObjKind) (n : ℕ) → IsKnown classes kind n → row_number kind < class_rows + length classes
unfolding row_number
known_row classes (Instance k) n known = omega (arith, known.0)
known_row classes (Array k) n known = omega (arith, known)
known_row classes (Prim kind) n known = omega (arith, row_small kind)

width_within : (ids : IdSize) (kind : Kind) (n : ℕ) → n ≤ 2097147 → width_of ids kind * n ≤ 16777176
width_within Four Kind.Object n h = omega (arith, h)
width_within Eight Kind.Object n h = omega (arith, h)
width_within ids Boolean n h = omega (arith, h)
width_within ids Char n h = omega (arith, h)
width_within ids Float n h = omega (arith, h)
width_within ids Double n h = omega (arith, h)
width_within ids Byte n h = omega (arith, h)
width_within ids Short n h = omega (arith, h)
width_within ids Int n h = omega (arith, h)
width_within ids Long n h = omega (arith, h)

instance_within : (ids : IdSize) (classes : List Class) (k : ℕ) → instance_size ids classes k ≤ length (slots_of classes k) * 8
unfolding instance_size
instance_within ids classes k = sum_by-le (width_of ids) 8 (slots_of classes k) (λ i d h. width_small ids (slice_index_or (slots_of classes k) i d))

array_within : (ids : IdSize) (n : ℕ) → n ≤ 2097147 → id_bytes ids * n ≤ 16777176
array_within Four n h = omega (arith, h)
array_within Eight n h = omega (arith, h)

value_small : (ids : IdSize) (classes : List Class) (kind : ObjKind) (n : ℕ) → IsKnown classes kind n → n ≤ 2097147 → value_size ids classes kind n ≤ 16777176
unfolding value_size
value_small ids classes (Instance k) n known small = omega (arith, instance_within ids classes k, known.1, small)
value_small ids classes (Array k) n known small = array_within ids n small
value_small ids classes (Prim kind) n known small = width_within ids kind n small

-- ---- objects that can be counted

abbrev IsCountable : List Class → DumpedObject → Type 0
IsCountable classes o = IsKnown classes o.kind (length o.words) × (length o.words ≤ 2097147)

abbrev pub AreCountable : List Class → List DumpedObject → Type 0
AreCountable classes objects = AllByRecursion (IsCountable classes) objects

rows_there : (classes : List Class) (objects : List DumpedObject) → AreCountable classes objects
    → AllByRecursion (λ o. row_number o.kind < class_rows + length classes) objects
rows_there classes [] all = tt
rows_there classes (o ∷ os) all = (known_row classes o.kind (length o.words) all.0.0, rows_there classes os all.1)

-- a countable object has few bytes
bytes_small : (ids : IdSize) (classes : List Class) (o : DumpedObject) → IsCountable classes o → object_bytes ids classes o ≤ 16777176
bytes_small ids classes o k = value_small ids classes o.kind (length o.words) k.0 k.1

-- the objects of an image can be counted
pub image_is_countable : (image : Image) → IsDumpable image → AreCountable image.classes image.objects
image_is_countable image d = recursion_from_All (IsCountable image.classes) image.objects (λ i o h. (d.known i o h, d.small i o h))

-- and those that pass a test
pub some_countable : (classes : List Class) (test : DumpedObject → Bool) (objects : List DumpedObject) → AreCountable classes objects
    → AreCountable classes (filter test objects)
some_countable classes test [] all = tt
some_countable classes test (o ∷ os) all = go (some_countable classes test os all.1) (test o)
  where
    go : AreCountable classes (filter test os) → (b : Bool) → AreCountable classes (cond b (o ∷ filter test os) (filter test os))
    go more true = (all.0, more)
    go more false = more

-- they are no more
pub filter_few : (test : DumpedObject → Bool) (objects : List DumpedObject) → length (filter test objects) ≤ length objects
filter_few test objects = omega (arith, length-filter test objects, count_by-le-length test objects)

-- as many rows as an image needs
pub row_count : (ids : IdSize) (classes : List Class) (objects : List DumpedObject) → length (rows_of ids classes objects) ≡ class_rows + length classes
row_count ids classes objects = length-map-range_with_len (row_of ids classes objects) 0 (class_rows + length classes)

-- ---- rows

sum_map : {X : Type 0} (f : X → ℕ) (h : ℕ → X) (gs : List ℕ) → sum_by f (map h gs) ≡ sum_by (λ g. f (h g)) gs
sum_map f h [] = refl
sum_map f h (g ∷ gs) = sum_by-cons f (h g) (map h gs) ∙ ap (λ (r : ℕ). f (h g) + r) (sum_map f h gs) ∙ sym (sum_by-cons (λ g. f (h g)) g gs)

length_is_measure : IsMeasure length (λ o. 1)
length_is_measure = record { nil = refl; cons = λ o os. omega arith }

bytes_are_measure : (ids : IdSize) (classes : List Class) → IsMeasure (sum_by (object_bytes ids classes)) (object_bytes ids classes)
bytes_are_measure ids classes = record { nil = refl; cons = λ o os. sum_by-cons (object_bytes ids classes) o os }

-- the total of all rows is that of the objects
pub rows_total_is_that_of_objects : (ids : IdSize) (classes : List Class) (objects : List DumpedObject) → AreCountable classes objects
    → sum_of (rows_of ids classes objects) ≡ total_of ids classes objects
unfolding row_of
rows_total_is_that_of_objects ids classes objects each =
    let n = class_rows + length classes in
    let gs = range_with_len 0 n in
    let all = rows_there classes objects each in
    let a : (sum_of (rows_of ids classes objects)).objects ≡ length objects =
    sum_map (λ (r : Row). r.objects) (row_of ids classes objects) gs ∙ all_of length (λ o. 1) length_is_measure n objects all in
    let b : (sum_of (rows_of ids classes objects)).bytes ≡ sum_by (object_bytes ids classes) objects =
    sum_map (λ (r : Row). r.bytes) (row_of ids classes objects) gs ∙ all_of (sum_by (object_bytes ids classes)) (object_bytes ids classes) (bytes_are_measure ids classes) n objects all in
    ap₂ (λ (a b : ℕ). let r : Row = record { objects = a; bytes = b } in r) a b

-- the total of countable rows is small
pub sums_small : (ids : IdSize) (classes : List Class) (objects : List DumpedObject) (rows : List Row) → rows ≡ rows_of ids classes objects
    → AreCountable classes objects → length objects ≤ object_limit → ((sum_of rows).objects < 2 ^ 64) × ((sum_of rows).bytes < 2 ^ 64)
sums_small ids classes objects rows e each few =
    let t = ap (λ (rs : List Row). sum_of rs) e ∙ rows_total_is_that_of_objects ids classes objects each in
    let a : (sum_of rows).objects ≡ length objects = ap (λ (r : Row). r.objects) t in
    let b : (sum_of rows).bytes ≡ (total_of ids classes objects).bytes = ap (λ (r : Row). r.bytes) t in
    let small = sum_by-le (object_bytes ids classes) 16777176 objects (λ i o h. bytes_small ids classes (slice_index_or objects i o) (All-from_recursion (IsCountable classes) objects each i o h)) in
    (omega (arith, a, few), omega (arith, b, small, few))

-- so are those of all objects of an image, and of some of them
pub all_rows_small : (ids : IdSize) (image : Image) (rows : List Row) → IsDumpable image → rows ≡ rows_of ids image.classes image.objects → ((sum_of rows).objects < 2 ^ 64) × ((sum_of rows).bytes < 2 ^ 64)
all_rows_small ids image rows d e = sums_small ids image.classes image.objects rows e (image_is_countable image d) d.few_objects

pub some_rows_small : (ids : IdSize) (image : Image) (test : DumpedObject → Bool) (rows : List Row) → IsDumpable image → rows ≡ rows_of ids image.classes (filter test image.objects) → ((sum_of rows).objects < 2 ^ 64) × ((sum_of rows).bytes < 2 ^ 64)
some_rows_small ids image test rows d e = sums_small ids image.classes (filter test image.objects) rows e (some_countable image.classes test image.objects (image_is_countable image d)) (omega (arith, d.few_objects, filter_few test image.objects))

-- the rows of classes as a view has them
pub viewed_rows : (ids : IdSize) (classes seen : List Class) (objects : List DumpedObject) (rows : List Row) → rows ≡ rows_of ids classes objects → seen ≡ classes → length rows ≡ class_rows + length seen
viewed_rows ids classes seen objects rows e same = ap length e ∙ row_count ids classes objects ∙ ap (λ (cs : List Class). class_rows + length cs) (sym same)

-- the lines of rows and their sum count the objects
pub as_count : (ids : IdSize) (classes : List Class) (objects : List DumpedObject) (rows : List Row) (text : List ℕ) → rows ≡ rows_of ids classes objects
    → AreCountable classes objects → IsRowsText classes rows (sum_of rows) text → IsCountText ids classes objects text
as_count ids classes objects rows text e each h =
    let t = ap (λ (rs : List Row). sum_of rs) e ∙ rows_total_is_that_of_objects ids classes objects each in
    subst (λ (r : Row). IsRowsText classes (rows_of ids classes objects) r text) t
    (subst (λ (rs : List Row). IsRowsText classes rs (sum_of rows) text) e h)
