-- The rows of some slots of an object.
use Rattle.std.proofs.Common.{◌≡◌, ◌∙◌, ◌+◌, ◌-◌, ◌<◌, ◌≤◌, ℕ, zero, suc, List, [], ◌∷◌, ◌++◌, Some, length, get_or, drop, take, min, refl, sym, ap, inl, inr, arith}
use Rattle.std.proofs.lemmas.List.{at_drop_more, drop-take, drop_all, length-drop, take_all}
use Rattle.std.proofs.lemmas.Bool.{cases_lt}
use Rattle.heap_class.specs.declared.Field.{Field}
use Rattle.heap_class.specs.declared.Kind.{Kind}
use Rattle.heap_class.specs.declared.ObjKind.{ObjKind}
use Rattle.heap_class.specs.declared.ObjKind.TheVariants.{Instance, Array, Prim}
use Rattle.heap_class.specs.Classes.{Class}
use Rattle.question_words.specs.declared.ranges.SlotRange.{SlotRange}
use Rattle.question_words.specs.declared.ranges.SlotRange.TheVariants.{AllSlots, FromSlot}
use Rattle.question_rows.specs.Objects.{element_row, element_rows, end_in, field_row, field_rows, first_in, rows_in, slot_rows}
use Rattle.question_words.specs.Names.{fields_up}

-- the first n of two lists, one after the other, are left out
pub drop_both : {X : Type 0} (n : ℕ) (xs ys : List X) → drop n (xs ++ ys) ≡ drop n xs ++ drop (n - length xs) ys
drop_both zero xs ys = let e : 0 ≡ 0 - length xs = omega arith in ap (λ k. xs ++ drop k ys) e
drop_both {X = X} (suc n) [] ys = let e : suc n ≡ suc n - length {A = X} [] = omega arith in ap (λ k. drop k ys) e
drop_both (suc n) (x ∷ xs) ys =
    let e : n - length xs ≡ suc n - length (x ∷ xs) = omega arith in
    drop_both n xs ys ∙ ap (λ k. drop n xs ++ drop k ys) e

-- ---- elements

pub length_elements : (kind : Kind) (n : ℕ) (ws : List ℕ) → length (element_rows kind n ws) ≡ length ws
length_elements kind n [] = refl
length_elements kind n (w ∷ ws) = omega (arith, length_elements kind (n + 1) ws)

elements_dropped : (i n : ℕ) (kind : Kind) (ws : List ℕ) → drop i (element_rows kind n ws) ≡ element_rows kind (n + i) (drop i ws)
elements_dropped zero n kind ws = let e : n ≡ n + zero = omega arith in ap (λ m. element_rows kind m ws) e
elements_dropped (suc i) n kind [] = refl
elements_dropped (suc i) n kind (w ∷ ws) =
    let e : (n + 1) + i ≡ n + suc i = omega arith in
    elements_dropped i (n + 1) kind ws ∙ ap (λ m. element_rows kind m (drop i ws)) e

-- the next element, and those after it
pub element_further : (i : ℕ) (kind : Kind) (ws : List ℕ) → i < length ws → drop i (element_rows kind 0 ws) ≡ element_row kind i (get_or ws i 0) ∷ drop (i + 1) (element_rows kind 0 ws)
element_further i kind ws lt =
    let e : 0 + i ≡ i = omega arith in
    let q : i + 1 ≡ 0 + (i + 1) = omega arith in
    elements_dropped i 0 kind ws
    ∙ ap (λ m. element_rows kind m (drop i ws)) e
    ∙ at_drop_more (λ vs. element_rows kind i vs) ws i 0 lt
    ∙ ap (λ m. element_row kind i (get_or ws i 0) ∷ element_rows kind m (drop (i + 1) ws)) q
    ∙ ap (λ rows. element_row kind i (get_or ws i 0) ∷ rows) (sym (elements_dropped (i + 1) 0 kind ws))

elements_taken : (n k : ℕ) (kind : Kind) (ws : List ℕ) → take n (element_rows kind k ws) ≡ element_rows kind k (take n ws)
elements_taken zero k kind ws = refl
elements_taken (suc n) k kind [] = refl
elements_taken (suc n) k kind (w ∷ ws) = ap (λ rows. element_row kind k w ∷ rows) (elements_taken n (k + 1) kind ws)

-- ---- fields

fields_taken : (n k : ℕ) (fs : List Field) (ws : List ℕ) → take n (field_rows k fs ws) ≡ field_rows k fs (take n ws)
fields_taken zero k [] ws = refl
fields_taken zero k (f ∷ fs) ws = refl
fields_taken (suc n) k [] ws = refl
fields_taken (suc n) k (f ∷ fs) [] = refl
fields_taken (suc n) k (f ∷ fs) (w ∷ ws) = ap (λ rows. field_row k f.name f.kind w ∷ rows) (fields_taken n (k + 1) fs ws)

few_fields : (k : ℕ) (fs : List Field) (ws : List ℕ) → length (field_rows k fs ws) ≤ length ws
few_fields k [] ws = omega arith
few_fields k (f ∷ fs) [] = omega arith
few_fields k (f ∷ fs) (w ∷ ws) = omega (arith, few_fields (k + 1) fs ws)

-- ---- slots

rows_taken : (n : ℕ) (cs : List Class) (kind : ObjKind) (ws : List ℕ) → take n (slot_rows cs kind ws) ≡ slot_rows cs kind (take n ws)
unfolding slot_rows
rows_taken n cs (Instance k) ws = fields_taken n 0 (fields_up cs (length cs) (Some k)) ws
rows_taken n cs (Array k) ws = elements_taken n 0 Kind.Object ws
rows_taken n cs (Prim kind) ws = elements_taken n 0 kind ws

few_rows : (cs : List Class) (kind : ObjKind) (ws : List ℕ) → length (slot_rows cs kind ws) ≤ length ws
unfolding slot_rows
few_rows cs (Instance k) ws = few_fields 0 (fields_up cs (length cs) (Some k)) ws
few_rows cs (Array k) ws = omega (arith, length_elements Kind.Object 0 ws)
few_rows cs (Prim kind) ws = omega (arith, length_elements kind 0 ws)

take_bounded : {X : Type 0} (n m : ℕ) (xs : List X) → length xs ≤ m → take (min n m) xs ≡ take n xs
take_bounded n m xs h = elim (cases_lt n m) [
  | inl lt ↦ (let e : min n m ≡ n = omega (arith, lt) in ap (λ k. take k xs) e)
  | inr ge ↦ take_all (min n m) xs (omega (arith, ge, h)) ∙ sym (take_all n xs (omega (arith, ge, h)))
]

drop_bounded : {X : Type 0} (n m : ℕ) (xs : List X) → length xs ≤ m → drop (min n m) xs ≡ drop n xs
drop_bounded n m xs h = elim (cases_lt n m) [
  | inl lt ↦ (let e : min n m ≡ n = omega (arith, lt) in ap (λ k. drop k xs) e)
  | inr ge ↦ drop_all (min n m) xs (omega (arith, ge, h)) ∙ sym (drop_all n xs (omega (arith, ge, h)))
]

part_of_rows : {X : Type 0} (first count n : ℕ) (rows : List X) → length rows ≤ n → drop (min first n) (take (min first n + min count (n - min first n)) rows) ≡ take count (drop first rows)
part_of_rows first count n rows h =
    let rest = length-drop (min first n) rows in
    drop-take (min first n) (min count (n - min first n)) rows
    ∙ take_bounded count (n - min first n) (drop (min first n) rows) (omega (arith, rest, h))
    ∙ ap (take count) (drop_bounded first n rows h)

-- the rows of the words up to the end, from the first on
pub part_of_slots : (slots : SlotRange) (cs : List Class) (kind : ObjKind) (ws : List ℕ) → drop (first_in slots (length ws)) (slot_rows cs kind (take (end_in slots (length ws)) ws)) ≡ rows_in slots (slot_rows cs kind ws)
part_of_slots AllSlots cs kind ws = ap (slot_rows cs kind) (take_all (length ws) ws (omega arith))
part_of_slots (FromSlot first count) cs kind ws =
    let f = min first (length ws) in
    ap (drop f) (sym (rows_taken (f + min count (length ws - f)) cs kind ws))
    ∙ part_of_rows first count (length ws) (slot_rows cs kind ws) (few_rows cs kind ws)
