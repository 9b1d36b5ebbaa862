-- Rows, object by object.
use Rattle.std.proofs.Common.{◌≡◌, ◌≢◌, ℕ, zero, suc, map, add-one, Bool, true, false, ◌+◌, ◌*◌, ◌<◌, ◌≤◌, cond, List, [], ◌∷◌, ◌++◌, length, take, get_or, set, replicate, refl, sym, ap, ap₂, ◌∙◌, subst, inl, inr, arith}
use Rattle.std.specs.Prelude.{slice_get, Some, All, sum_by, ◌==◌, filter, not}
use Rattle.std.proofs.lemmas.List.{append-nil, length-take-le, take_more, length-set, length_push, length-replicate, get_or-set_same, get_or-set_other, get_or-replicate, take_all}
use Rattle.std.proofs.lemmas.List.Elements.{All-set, All-weaker, All-replicate, All-get_or, filter-append}
use Rattle.std.proofs.lemmas.List.Sums.{sum_by_push}
use Rattle.std.proofs.lemmas.List.FromFn.{fill_by_all}
use Rattle.std.proofs.lemmas.Bool.{cases_eq, eq-eqb, ne_eqb}
use Rattle.std.proofs.lemmas.Option.{get_or_from_slice_get, slice_get_within, none-some, same_Some}
use Rattle.heap_class.specs.declared.IdSize.{IdSize}
use Rattle.heap_class.specs.Classes.{Class}
use Rattle.hprof_text.specs.Image.{DumpedObject, Image}
use Rattle.heap_questions.specs.declared.rows.Row.{Row}
use Rattle.heap_questions.specs.Histogram.{AreRows, class_rows, counted_unless, members, no_objects, object_bytes, one_more, row_at, row_number, row_of, rows_of, values_limit, without_marked, with_counted}

-- ---- one object more

more_members : (counted : List DumpedObject) (g : ℕ) (o : DumpedObject) → members (counted ++ o ∷ []) g ≡ members counted g ++ cond (row_number o.kind == g) (o ∷ []) []
more_members counted g o = filter-append (λ o. row_number o.kind == g) counted (o ∷ [])

counted_row : (ids : IdSize) (classes : List Class) (xs ys : List DumpedObject) (g : ℕ) (o : DumpedObject) → members ys g ≡ members xs g ++ o ∷ [] → row_of ids classes ys g ≡ one_more (row_of ids classes xs g) (object_bytes ids classes o)
unfolding row_of
counted_row ids classes xs ys g o e =
    ap (λ (ms : List DumpedObject). let r : Row = record { objects = length ms; bytes = sum_by (object_bytes ids classes) ms } in r) e
    ∙ ap₂ (λ (a b : ℕ). let r : Row = record { objects = a; bytes = b } in r) (length_push (members xs g) o) (sum_by_push (object_bytes ids classes) (members xs g) o)

same_row : (ids : IdSize) (classes : List Class) (xs ys : List DumpedObject) (g : ℕ) → members xs g ≡ members ys g → row_of ids classes xs g ≡ row_of ids classes ys g
unfolding row_of
same_row ids classes xs ys g e = ap (λ (ms : List DumpedObject). let r : Row = record { objects = length ms; bytes = sum_by (object_bytes ids classes) ms } in r) e

more_here : (ids : IdSize) (classes : List Class) (counted : List DumpedObject) (g : ℕ) (o : DumpedObject) → row_number o.kind ≡ g → row_of ids classes (counted ++ o ∷ []) g ≡ one_more (row_of ids classes counted g) (object_bytes ids classes o)
more_here ids classes counted g o e =
    counted_row ids classes counted (counted ++ o ∷ []) g o
    (more_members counted g o ∙ ap (λ b. members counted g ++ cond b (o ∷ []) []) (eq-eqb (row_number o.kind) g e))

more_elsewhere : (ids : IdSize) (classes : List Class) (counted : List DumpedObject) (g : ℕ) (o : DumpedObject) → row_number o.kind ≢ g → row_of ids classes (counted ++ o ∷ []) g ≡ row_of ids classes counted g
more_elsewhere ids classes counted g o e =
    same_row ids classes (counted ++ o ∷ []) counted g
    (more_members counted g o ∙ ap (λ b. members counted g ++ cond b (o ∷ []) []) (ne_eqb (row_number o.kind) g e) ∙ append-nil (members counted g))

none_counted : (ids : IdSize) (classes : List Class) (rows : List Row) → rows ≡ replicate (class_rows + length classes) no_objects → AreRows ids classes [] rows
unfolding row_of
none_counted ids classes rows e =
    let n = class_rows + length classes in
    let many : length rows ≡ n = ap length e ∙ length-replicate n no_objects in
    record {
      count = many;
      each = λ g h. ap (λ (rs : List Row). row_at rs g) e ∙ get_or-replicate n g no_objects no_objects (omega (arith, h, many));
      small = subst (All (λ r. (r.objects ≤ 0) × (r.bytes ≤ 0 * values_limit))) (sym e) (All-replicate (λ (r : Row). (r.objects ≤ 0) × (r.bytes ≤ 0 * values_limit)) n no_objects (omega arith, omega arith));
    }

one_counted : (ids : IdSize) (classes : List Class) (counted : List DumpedObject) (rows : List Row) (o : DumpedObject) → AreRows ids classes counted rows → row_number o.kind < length rows → object_bytes ids classes o ≤ values_limit
    → AreRows ids classes (counted ++ o ∷ []) (with_counted rows (row_number o.kind) (object_bytes ids classes o))
one_counted ids classes counted rows o a w b =
    let k = row_number o.kind in
    let n = object_bytes ids classes o in
    let i = length counted in
    let j = length (counted ++ o ∷ []) in
    let more : j ≡ i + 1 = length_push counted o in
    let s = All-get_or (λ r. (r.objects ≤ i) × (r.bytes ≤ i * values_limit)) rows k no_objects w a.small in
    record {
      count = length-set rows k (one_more (row_at rows k) n) ∙ a.count;
      each = λ g l.
          let l' : g < length rows = omega (arith, l, length-set rows k (one_more (row_at rows k) n)) in
          elim (cases_eq g k) [
            | inl e ↦
                ap (λ j. get_or (set rows k (one_more (row_at rows k) n)) j no_objects) e
                ∙ get_or-set_same rows k (one_more (row_at rows k) n) no_objects w
                ∙ ap (λ r. one_more r n) (a.each k w)
                ∙ sym (more_here ids classes counted k o refl)
                ∙ ap (row_of ids classes (counted ++ o ∷ [])) (sym e)
            | inr e ↦
                get_or-set_other rows k g (one_more (row_at rows k) n) no_objects e
                ∙ a.each g l'
                ∙ sym (more_elsewhere ids classes counted g o (λ p. e (sym p)))
          ];
      small = All-set (λ r. (r.objects ≤ j) × (r.bytes ≤ j * values_limit)) rows k (one_more (row_at rows k) n) (omega (arith, s.0, more), omega (arith, s.1, b, more))
          (All-weaker (λ r. (r.objects ≤ i) × (r.bytes ≤ i * values_limit)) (λ r. (r.objects ≤ j) × (r.bytes ≤ j * values_limit)) (λ r p. (omega (arith, p.0, more), omega (arith, p.1, more))) rows a.small);
    }

-- ---- objects that aren't marked

none_unmarked : (marks : List Bool) → without_marked marks [] ≡ []
none_unmarked [] = refl
none_unmarked (b ∷ bs) = refl

unmarked_more : (marks : List Bool) (objects : List DumpedObject) (i : ℕ) (o : DumpedObject) → slice_get objects i ≡ Some o → without_marked marks (take (suc i) objects) ≡ without_marked marks (take i objects) ++ cond (get_or marks i false) [] (o ∷ [])
unmarked_more [] objects i o h =
    ap (λ n. take n objects) (sym (add-one i))
    ∙ take_more objects i o (slice_get_within objects i o h)
    ∙ ap (λ (x : DumpedObject). take i objects ++ x ∷ []) (get_or_from_slice_get objects i o o h)
unmarked_more (b ∷ bs) [] i o h = absurd (none-some o h)
unmarked_more (b ∷ bs) (x ∷ xs) zero o h = go b
  where
    go : (b : Bool) → without_marked (b ∷ bs) (x ∷ []) ≡ cond b [] (o ∷ [])
    go true = none_unmarked bs
    go false = ap₂ (λ (y : DumpedObject) (ys : List DumpedObject). y ∷ ys) (same_Some x o h) (none_unmarked bs)
unmarked_more (b ∷ bs) (x ∷ xs) (suc i) o h = go b (unmarked_more bs xs i o h)
  where
    go : (b : Bool) → without_marked bs (take (suc i) xs) ≡ without_marked bs (take i xs) ++ cond (get_or bs i false) [] (o ∷ []) → without_marked (b ∷ bs) (x ∷ take (suc i) xs) ≡ without_marked (b ∷ bs) (x ∷ take i xs) ++ cond (get_or bs i false) [] (o ∷ [])
    go true e = e
    go false e = ap (λ (ys : List DumpedObject). x ∷ ys) e

unmarked_few : (marks : List Bool) (objects : List DumpedObject) → length (without_marked marks objects) ≤ length objects
unmarked_few [] objects = omega arith
unmarked_few (b ∷ bs) [] = omega arith
unmarked_few (b ∷ bs) (o ∷ os) = go b (unmarked_few bs os)
  where
    go : (b : Bool) → length (without_marked bs os) ≤ length os → length (without_marked (b ∷ bs) (o ∷ os)) ≤ suc (length os)
    go true l = omega (arith, l)
    go false l = omega (arith, l)

-- the objects left out by marks are those for which a test of their ids gives true
pub unmarked_is_filter : (f : ℕ → Bool) (objects : List DumpedObject) → without_marked (map f (map (λ o. o.id) objects)) objects ≡ filter (λ o. not (f o.id)) objects
unmarked_is_filter f [] = refl
unmarked_is_filter f (o ∷ os) = go (f o.id) (unmarked_is_filter f os)
  where
    go : (b : Bool) → without_marked (map f (map (λ o. o.id) os)) os ≡ filter (λ o. not (f o.id)) os → cond b (without_marked (map f (map (λ o. o.id) os)) os) (o ∷ without_marked (map f (map (λ o. o.id) os)) os) ≡ cond (not b) (o ∷ filter (λ o. not (f o.id)) os) (filter (λ o. not (f o.id)) os)
    go true e = e
    go false e = ap (λ (ys : List DumpedObject). o ∷ ys) e

-- ---- the first i objects

pub rows_begin : (ids : IdSize) (classes : List Class) (marks : List Bool) (objects : List DumpedObject) (rows : List Row) → rows ≡ replicate (class_rows + length classes) no_objects → AreRows ids classes (without_marked marks (take 0 objects)) rows
rows_begin ids classes marks objects rows e = subst (λ (os : List DumpedObject). AreRows ids classes os rows) (sym (none_unmarked marks)) (none_counted ids classes rows e)

pub rows_more : (ids : IdSize) (classes : List Class) (marks : List Bool) (objects : List DumpedObject) (i : ℕ) (rows : List Row) (o : DumpedObject) → AreRows ids classes (without_marked marks (take i objects)) rows → slice_get objects i ≡ Some o → row_number o.kind < length rows → object_bytes ids classes o ≤ values_limit
    → AreRows ids classes (without_marked marks (take (i + 1) objects)) (counted_unless (get_or marks i false) (row_number o.kind) (object_bytes ids classes o) rows)
rows_more ids classes marks objects i rows o a h w b =
    let before = without_marked marks (take i objects) in
    let e : without_marked marks (take (i + 1) objects) ≡ before ++ cond (get_or marks i false) [] (o ∷ []) = ap (λ n. without_marked marks (take n objects)) (add-one i) ∙ unmarked_more marks objects i o h in
    subst (λ (os : List DumpedObject). AreRows ids classes os (counted_unless (get_or marks i false) (row_number o.kind) (object_bytes ids classes o) rows)) (sym e) (go before (get_or marks i false) a)
  where
    go : (before : List DumpedObject) (marked : Bool) → AreRows ids classes before rows → AreRows ids classes (before ++ cond marked [] (o ∷ [])) (counted_unless marked (row_number o.kind) (object_bytes ids classes o) rows)
    go before true a = subst (λ (os : List DumpedObject). AreRows ids classes os rows) (sym (append-nil before)) a
    go before false a = one_counted ids classes before rows o a w b

pub row_count_has_room : (ids : IdSize) (classes : List Class) (marks : List Bool) (objects : List DumpedObject) (i : ℕ) (rows : List Row) (k : ℕ) → AreRows ids classes (without_marked marks (take i objects)) rows → i ≤ length objects → k < length rows → ((row_at rows k).objects ≤ i) × ((row_at rows k).bytes ≤ i * values_limit)
row_count_has_room ids classes marks objects i rows k a l w =
    let n = length (without_marked marks (take i objects)) in
    let s = All-get_or (λ r. (r.objects ≤ n) × (r.bytes ≤ n * values_limit)) rows k no_objects w a.small in
    let few = unmarked_few marks (take i objects) in
    let m = length-take-le i objects l in
    (omega (arith, s.0, few, m), omega (arith, s.1, few, m))

-- the room of the row of one of the classes
pub room_among : (ids : IdSize) (image : Image) (classes : List Class) (marks : List Bool) (i : ℕ) (rows : List Row) (k : ℕ) → AreRows ids image.classes (without_marked marks (take i image.objects)) rows → i ≤ length image.objects → classes ≡ image.classes → k < class_rows + length classes
    → ((row_at rows k).objects ≤ i) × ((row_at rows k).bytes ≤ i * values_limit)
room_among ids image classes marks i rows k a l e w = row_count_has_room ids image.classes marks image.objects i rows k a l (omega (arith, ap length e, w, a.count))

pub rows_end : (ids : IdSize) (classes : List Class) (marks : List Bool) (objects : List DumpedObject) (i : ℕ) (rows : List Row) → AreRows ids classes (without_marked marks (take i objects)) rows → i ≡ length objects → rows ≡ rows_of ids classes (without_marked marks objects)
rows_end ids classes marks objects i rows a e =
    fill_by_all (row_of ids classes (without_marked marks objects)) rows (class_rows + length classes) no_objects a.count
    (λ g h. a.each g (omega (arith, h, a.count)) ∙ ap (λ os. row_of ids classes (without_marked marks os) g) (take_all i objects (omega (arith, e))))
