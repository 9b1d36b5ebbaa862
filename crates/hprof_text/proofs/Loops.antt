-- A loop that appends what each item of a list gives.
use Rattle.std.proofs.Common.{◌≡◌, ℕ, zero, suc, ◌+◌, ◌<◌, ◌≤◌, List, [], ◌∷◌, ◌++◌, length, take, drop, get_or, map, refl, sym, ap, ap₂, ◌∙◌, subst, arith, append_assoc, length-append}
use Rattle.std.specs.Prelude.{flat_map, zip, Option, Some, slice_get, IfSome, sum_by, All}
use Rattle.std.specs.List.{enumerate_from}
use Rattle.std.specs.Option.{option_map}
use Rattle.std.proofs.lemmas.List.{append-nil, take_more, get_or_default, take_all, take-append-drop}
use Rattle.std.proofs.lemmas.List.Elements.{All-nil, All-cons, All-head, All-tail}
use Rattle.std.proofs.lemmas.List.Sums.{sum_by_more}
use Rattle.std.proofs.lemmas.List.Concat.{flat_map-append}
use Rattle.std.proofs.lemmas.List.Folds.{length-flat_map-take}
use Rattle.std.proofs.lemmas.List.FromFn.{get_or-enumerate_from, length-enumerate_from}
use Rattle.std.proofs.lemmas.Slice.Zip.{get_or-zip, length-zip}
use Rattle.std.proofs.lemmas.Option.{get_or_from_slice_get, slice_get-map, slice_get-get_or}
use Rattle.heap_class.specs.declared.IdSize.{IdSize}
use Rattle.heap_class.specs.declared.Kind.{Kind}
use Rattle.heap_class.specs.declared.Field.{Field}
use Rattle.heap_class.specs.Classes.{Class, name_id, array_class}
use Rattle.hprof_text.specs.Records.{field_bytes, class_at}
use Rattle.hprof_text.specs.Text.{field_entry}

-- so far each item of the first i has been appended
abbrev pub IsSoFar : {X : Type 0} → (X → List ℕ) → List X → ℕ → List ℕ → List ℕ → Type 0
IsSoFar f xs i old now = now ≡ old ++ flat_map f (take i xs)

pub so_far_none : {X : Type 0} (f : X → List ℕ) (xs : List X) (old : List ℕ) → IsSoFar f xs 0 old old
so_far_none f xs old = sym (append-nil old)

pub so_far_all : {X : Type 0} (f : X → List ℕ) (xs : List X) (old now : List ℕ) (i : ℕ) → i ≡ length xs → IsSoFar f xs i old now → now ≡ old ++ flat_map f xs
so_far_all f xs old now i e h = h ∙ ap (λ l. old ++ flat_map f l) (take_all i xs (omega (arith, e)))

-- one more item
pub loop_text_one_item_further : {X : Type 0} (f : X → List ℕ) (xs : List X) (old now new : List ℕ) (i : ℕ) (x : X) → i < length xs → x ≡ get_or xs i x → IsSoFar f xs i old now → new ≡ now ++ f x → IsSoFar f xs (i + 1) old new
loop_text_one_item_further f xs old now new i x h e s n =
    n ∙ ap₂ (λ a b. a ++ f b) s e ∙ append_assoc old (flat_map f (take i xs)) (f (get_or xs i x))
    ∙ ap (λ l. old ++ l)
    (ap (λ l. flat_map f (take i xs) ++ l) (sym (append-nil (f (get_or xs i x))))
    ∙ sym (flat_map-append f (take i xs) (get_or xs i x ∷ []))
    ∙ ap (flat_map f) (sym (take_more xs i x h)))

-- there is room for it
pub so_far_room : {X : Type 0} (f : X → List ℕ) (xs : List X) (old now : List ℕ) (i limit : ℕ) (x : X) → i < length xs → x ≡ get_or xs i x → IsSoFar f xs i old now → length old + length (flat_map f xs) ≤ limit → length now + length (f x) ≤ limit
so_far_room f xs old now i limit x h e s room =
    let n : length now ≡ length old + length (flat_map f (take i xs)) = ap length s ∙ length-append old (flat_map f (take i xs)) in
    let r : length (flat_map f (take i xs)) + length (f (get_or xs i x)) ≤ length (flat_map f xs) = length-flat_map-take f xs i x h in
    let d : length (f x) ≡ length (f (get_or xs i x)) = ap (λ y. length (f y)) e in
    omega (arith, n, r, d, room)

-- ---- which item

pub indexed_item_is_default_free : {X : Type 0} (xs : List X) (i : ℕ) (d : X) → i < length xs → get_or xs i d ≡ get_or xs i (get_or xs i d)
indexed_item_is_default_free xs i d h = get_or_default xs i d (get_or xs i d) h

pub indexed_item_from_slice : {X : Type 0} (xs : List X) (i : ℕ) (x : X) → slice_get xs i ≡ Some x → x ≡ get_or xs i x
indexed_item_from_slice xs i x h = sym (get_or_from_slice_get xs i x x h)

pub item_with_its_number : {X : Type 0} (n m : ℕ) (xs : List X) (i : ℕ) (x : X) → m ≡ n + i → i < length xs → x ≡ get_or xs i x → ◌≡◌ {A = ℕ × X} (m, x) (get_or (enumerate_from n xs) i (m, x))
item_with_its_number {X} n m xs i x e h d = ap₂ (λ (a : ℕ) (b : X). let p : ℕ × X = (a, b) in p) e d ∙ sym (get_or-enumerate_from n xs i (m, x) h)

pub item_of_two_lists : {A B : Type 0} (ks : List A) (ws : List B) (i : ℕ) (k : A) (w : B) → i < length ks → i < length ws → k ≡ get_or ks i k → w ≡ get_or ws i w → ◌≡◌ {A = A × B} (k, w) (get_or (zip ks ws) i (k, w))
item_of_two_lists {A} {B} ks ws i k w h g a b = ap₂ (λ (x : A) (y : B). let p : A × B = (x, y) in p) a b ∙ sym (get_or-zip ks ws i (k, w) h g)

-- two lists at once
zipped_items_at_index : {A B : Type 0} (ks : List A) (ws : List B) (i : ℕ) (a : A) (b : B) → length ws ≡ length ks → i < length ks → ◌≡◌ {A = A × B} (get_or ks i a, get_or ws i b) (get_or (zip ks ws) i (get_or ks i a, get_or ws i b))
zipped_items_at_index ks ws i a b same h = let g : i < length ws = omega (arith, same, h) in item_of_two_lists ks ws i (get_or ks i a) (get_or ws i b) h g (indexed_item_is_default_free ks i a h) (indexed_item_is_default_free ws i b g)

pub room_for_zipped_item : {A B : Type 0} (f : A × B → List ℕ) (ks : List A) (ws : List B) (i limit : ℕ) (a : A) (b : B) (old now : List ℕ) → length ws ≡ length ks → i < length ks → IsSoFar f (zip ks ws) i old now → length old + length (flat_map f (zip ks ws)) ≤ limit
    → length now + length (f (get_or ks i a, get_or ws i b)) ≤ limit
room_for_zipped_item f ks ws i limit a b old now same h s room = so_far_room f (zip ks ws) old now i limit (get_or ks i a, get_or ws i b) (omega (arith, length-zip ks ws, same, h)) (zipped_items_at_index ks ws i a b same h) s room

pub loop_text_one_zipped_further : {A B : Type 0} (f : A × B → List ℕ) (ks : List A) (ws : List B) (i : ℕ) (a : A) (b : B) (old now new : List ℕ) → length ws ≡ length ks → i < length ks → IsSoFar f (zip ks ws) i old now → new ≡ now ++ f (get_or ks i a, get_or ws i b)
    → IsSoFar f (zip ks ws) (i + 1) old new
loop_text_one_zipped_further f ks ws i a b old now new same h s n = loop_text_one_item_further f (zip ks ws) old now new i (get_or ks i a, get_or ws i b) (omega (arith, length-zip ks ws, same, h)) (zipped_items_at_index ks ws i a b same h) s n

-- items by their numbers
pub room_for_numbered_item : {X : Type 0} (f : ℕ × X → List ℕ) (first : ℕ) (xs : List X) (i m limit : ℕ) (x : X) (old now : List ℕ) → m ≡ first + i → i < length xs → x ≡ get_or xs i x → IsSoFar f (enumerate_from first xs) i old now → length old + length (flat_map f (enumerate_from first xs)) ≤ limit
    → length now + length (f (m, x)) ≤ limit
room_for_numbered_item f first xs i m limit x old now e h d s room = so_far_room f (enumerate_from first xs) old now i limit (m, x) (omega (arith, length-enumerate_from first xs, h)) (item_with_its_number first m xs i x e h d) s room

pub loop_text_one_numbered_further : {X : Type 0} (f : ℕ × X → List ℕ) (first : ℕ) (xs : List X) (i m : ℕ) (x : X) (old now new : List ℕ) → m ≡ first + i → i < length xs → x ≡ get_or xs i x → IsSoFar f (enumerate_from first xs) i old now → new ≡ now ++ f (m, x)
    → IsSoFar f (enumerate_from first xs) (i + 1) old new
loop_text_one_numbered_further f first xs i m x old now new e h d s n = loop_text_one_item_further f (enumerate_from first xs) old now new i (m, x) (omega (arith, length-enumerate_from first xs, h)) (item_with_its_number first m xs i x e h d) s n

pub item_of_list_within : {X : Type 0} (xs : List X) (i : ℕ) → i < length xs → (x : X) × (slice_get xs i ≡ Some x)
item_of_list_within [] i h = absurd (omega (arith, h))
item_of_list_within (x ∷ xs) zero h = (x, refl)
item_of_list_within (x ∷ xs) (suc i) h = item_of_list_within xs i (omega (arith, h))

pub drop_at_item_begins_with_it : {X : Type 0} (xs : List X) (n : ℕ) (x : X) → slice_get xs n ≡ Some x → drop n xs ≡ x ∷ drop (n + 1) xs
drop_at_item_begins_with_it [] n x h = absurd (cc)
drop_at_item_begins_with_it (y ∷ ys) zero x h = ap (λ z. z ∷ ys) (same y x h)
  where
    same : {X : Type 0} (y x : X) → ◌≡◌ {A = Option X} (Some y) (Some x) → y ≡ x
    same y x h = cc
drop_at_item_begins_with_it (y ∷ ys) (suc n) x h = drop_at_item_begins_with_it ys n x h ∙ ap (λ k. x ∷ drop k (y ∷ ys)) (let e : suc (n + 1) ≡ suc n + 1 = omega arith in e)

-- a sum over the items so far, and one more
pub sum_so_far : {X : Type 0} (f : X → ℕ) (xs : List X) (i : ℕ) (x : X) → i < length xs → x ≡ get_or xs i x → sum_by f (take (i + 1) xs) ≡ sum_by f (take i xs) + f x
sum_so_far f xs i x h e = sum_by_more f xs i x h ∙ ap (λ y. sum_by f (take i xs) + f y) (sym e)

pub take_of_whole_length : {X : Type 0} (i : ℕ) (xs : List X) → i ≡ length xs → take i xs ≡ xs
take_of_whole_length i xs e = take_all i xs (omega (arith, e))

-- ---- an own field

pub own_field_bytes_are_entry : (ids : IdSize) (classes : List Class) (fs : List Field) (i n : ℕ) (kind : Kind) (f : Field) → slice_get fs i ≡ Some f → IfSome (slice_get fs i) (λ f. n ≡ name_id classes f.name) → IfSome (slice_get fs i) (λ f. kind ≡ f.kind) → field_bytes ids n kind ≡ field_entry ids classes f
unfolding field_entry
own_field_bytes_are_entry ids classes fs i n kind f e a b =
    let P : Option Field → Type 0 = λ o. IfSome o (λ f. n ≡ name_id classes f.name) in
    let Q : Option Field → Type 0 = λ o. IfSome o (λ f. kind ≡ f.kind) in
    ap₂ (λ m k. field_bytes ids m k) (subst P e a) (subst Q e b)

pub room_for_field_entry : (ids : IdSize) (classes : List Class) (fs : List Field) (i n limit : ℕ) (kind : Kind) (old now : List ℕ) → i < length fs → IfSome (slice_get fs i) (λ f. n ≡ name_id classes f.name) → IfSome (slice_get fs i) (λ f. kind ≡ f.kind) → IsSoFar (field_entry ids classes) fs i old now
    → length old + length (flat_map (field_entry ids classes) fs) ≤ limit → length now + length (field_bytes ids n kind) ≤ limit
room_for_field_entry ids classes fs i n limit kind old now h a b s room =
    let p = item_of_list_within fs i h in
    let r = so_far_room (field_entry ids classes) fs old now i limit p.0 h (indexed_item_from_slice fs i p.0 p.1) s room in
    omega (arith, r, ap length (own_field_bytes_are_entry ids classes fs i n kind p.0 p.1 a b))

pub loop_text_one_field_further : (ids : IdSize) (classes : List Class) (fs : List Field) (i n : ℕ) (kind : Kind) (old now new : List ℕ) → i < length fs → IfSome (slice_get fs i) (λ f. n ≡ name_id classes f.name) → IfSome (slice_get fs i) (λ f. kind ≡ f.kind) → IsSoFar (field_entry ids classes) fs i old now
    → new ≡ now ++ field_bytes ids n kind → IsSoFar (field_entry ids classes) fs (i + 1) old new
loop_text_one_field_further ids classes fs i n kind old now new h a b s e =
    let p = item_of_list_within fs i h in
    loop_text_one_item_further (field_entry ids classes) fs old now new i p.0 h (indexed_item_from_slice fs i p.0 p.1) s (e ∙ ap (λ l. now ++ l) (own_field_bytes_are_entry ids classes fs i n kind p.0 p.1 a b))

-- ---- what each class gives

pub item_of_numbered_class : {X : Type 0} (f : ℕ × Class → X) (classes : List Class) (k : ℕ) → k < length classes → slice_get (map f (enumerate_from 0 classes)) k ≡ Some (f (k, class_at classes k))
item_of_numbered_class f classes k h =
    let g : k < length (enumerate_from 0 classes) = omega (arith, length-enumerate_from 0 classes, h) in
    let d : ℕ × Class = (k, class_at classes k) in
    slice_get-map f (enumerate_from 0 classes) k
    ∙ ap (option_map f) (slice_get-get_or (enumerate_from 0 classes) k d g ∙ ap Some (sym (item_with_its_number 0 k classes k (class_at classes k) (omega arith) h (indexed_item_is_default_free classes k (array_class []) h))))

-- what holds of each item with its number
pub all_hold_with_their_numbers : {A : Type 0} (P : ℕ × A → Type 0) (Q : A → Type 0) (m n : ℕ) (xs : List A) → n + length xs ≤ m → ((k : ℕ) (x : A) → k < m → Q x → P (k, x)) → All Q xs → All P (enumerate_from n xs)
all_hold_with_their_numbers P Q m n [] l h q = All-nil P
all_hold_with_their_numbers P Q m n (x ∷ xs) l h q =
    let here : n < m = omega (arith, l) in
    let later : n + 1 + length xs ≤ m = omega (arith, l) in
    All-cons P (n, x) (enumerate_from (n + 1) xs) (h n x here (All-head Q x xs q)) (all_hold_with_their_numbers P Q m (n + 1) xs later h (All-tail Q x xs q))

-- ---- several at a time

-- there is room for the first of what is left
pub room_for_front_items : {X : Type 0} (f : X → List ℕ) (xs rest first : List X) (old now : List ℕ) (n limit : ℕ) → first ≡ take n rest → now ++ flat_map f rest ≡ old ++ flat_map f xs → length old + length (flat_map f xs) ≤ limit → length now + length (flat_map f first) ≤ limit
room_for_front_items f xs rest first old now n limit e h room =
    let s : length (flat_map f rest) ≡ length (flat_map f (take n rest)) + length (flat_map f (drop n rest)) =
    ap (λ l. length (flat_map f l)) (sym (take-append-drop n rest)) ∙ ap length (flat_map-append f (take n rest) (drop n rest)) ∙ length-append (flat_map f (take n rest)) (flat_map f (drop n rest)) in
    let d : length (flat_map f first) ≡ length (flat_map f (take n rest)) = ap (λ l. length (flat_map f l)) e in
    let w : length (now ++ flat_map f rest) ≡ length (old ++ flat_map f xs) = ap length h in
    omega (arith, s, d, w, length-append now (flat_map f rest), length-append old (flat_map f xs), room)
