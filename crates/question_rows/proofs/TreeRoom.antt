-- How many rows of a tree there is room for.
use Rattle.std.proofs.Common.{◌≡◌, ◌∙◌, ◌+◌, ◌<◌, ℕ, zero, suc, List, [], ◌++◌, Option, None, Some, length, ap, inl, inr, refl, sym, arith}
use Rattle.std.proofs.lemmas.List.{append-nil, length-append}
use Rattle.heap_class.specs.declared.Refusal.{Refusal}
use Rattle.heap_class.specs.declared.Refusal.TheVariants.{NoMemory, TooLarge}
use Rattle.heap_class.specs.Classes.{Class}
use Rattle.hprof_text.specs.Image.{DumpedObject, Image}
use Rattle.question_rows.specs.Objects.{rows_joined}
use Rattle.question_rows.specs.Trees.{branch, branches, object_at_slot, tree_row, tree_rows}
use Rattle.question_rows.proofs.TreeRows.{branch_alone, branch_with, branches_on, branches_within, rows_below, slot_text, text_on, tree_is}
use Rattle.std.specs.Prelude.{◌⊎◌}

-- one slot more has as many rows more
branches_longer : (n : ℕ) (image : Image) (level : ℕ) (o : DumpedObject) (k : ℕ) → length (branches (rows_below n image level) image level o (k + 1)) ≡ length (branches (rows_below n image level) image level o k) + length (branch (rows_below n image level) image level o k)
branches_longer n image level o k =
    ap (λ (rows : List (List ℕ)). length rows) (branches_on (rows_below n image level) image level o k)
    ∙ length-append (branches (rows_below n image level) image level o k) (branch (rows_below n image level) image level o k)

-- there is no room for the row of a slot
pub no_room_for_row : (n : ℕ) (image : Image) (level : ℕ) (o : DumpedObject) (k room first : ℕ) → k < length o.words → room ≡ 0 → room + length (branches (rows_below n image level) image level o k) ≡ first → first < length (tree_rows n image level o)
no_room_for_row n image level o k room first l none is =
    let all = ap (λ (rows : List (List ℕ)). length rows) (tree_is n image level o) in
    let within = branches_within (rows_below n image level) image level o k (length o.words) l in
    let one : 0 < length (branch (rows_below n image level) image level o k) = omega arith in
    omega (arith, all, within, one, none, is)

-- there is no room for the rows of the object that a slot names
pub no_room_below : (n m : ℕ) (image : Image) (level : ℕ) (o p : DumpedObject) (k room left first : ℕ) → k < length o.words → n ≡ m + 1 → object_at_slot image o k ≡ Some p
    → room + length (branches (rows_below n image level) image level o k) ≡ first → left + 1 ≡ room → left < length (tree_rows m image (level + 1) p) → first < length (tree_rows n image level o)
no_room_below n m image level o p k room left first l down named is one few =
    let all = ap (λ (rows : List (List ℕ)). length rows) (tree_is n image level o) in
    let within = branches_within (rows_below n image level) image level o k (length o.words) l in
    let size = ap (λ (rows : List (List ℕ)). length rows) (branch_with n m image level o p k (tree_row image.classes level o k (object_at_slot image o k)) down refl named) in
    omega (arith, all, within, size, is, one, few)

-- the row of a slot was appended, and no object is listed behind it
pub room_alone : (n : ℕ) (image : Image) (level : ℕ) (o : DumpedObject) (k room left first : ℕ) → (n ≡ 0) ⊎ (object_at_slot image o k ≡ None) → room + length (branches (rows_below n image level) image level o k) ≡ first → left + 1 ≡ room
    → left + length (branches (rows_below n image level) image level o (k + 1)) ≡ first
room_alone n image level o k room left first alone is one =
    let size = ap (λ (rows : List (List ℕ)). length rows) (branch_alone n image level o k (tree_row image.classes level o k (object_at_slot image o k)) refl alone) in
    omega (arith, branches_longer n image level o k, size, is, one)

pub text_alone : (n : ℕ) (image : Image) (classes : List Class) (level : ℕ) (o : DumpedObject) (k : ℕ) (first text new : List ℕ) → classes ≡ image.classes → (n ≡ 0) ⊎ (object_at_slot image o k ≡ None)
    → text ≡ first ++ rows_joined (branches (rows_below n image level) image level o k) → new ≡ text ++ tree_row classes level o k (object_at_slot image o k)
    → new ≡ first ++ rows_joined (branches (rows_below n image level) image level o (k + 1))
text_alone n image classes level o k first text new same alone is more =
    let row = tree_row classes level o k (object_at_slot image o k) in
    let b = branch_alone n image level o k row (ap (λ (cs : List Class). tree_row cs level o k (object_at_slot image o k)) same) alone in
    text_on (rows_below n image level) image level o k first text new is
    (slot_text row [] text new new more (sym (append-nil new)) ∙ ap (λ (rows : List (List ℕ)). text ++ rows_joined rows) (sym b))

-- the row of a slot was appended, and those of the object that it names
pub room_with : (n m : ℕ) (image : Image) (level : ℕ) (o p : DumpedObject) (k room left rest first : ℕ) → n ≡ m + 1 → object_at_slot image o k ≡ Some p
    → room + length (branches (rows_below n image level) image level o k) ≡ first → left + 1 ≡ room → rest + length (tree_rows m image (level + 1) p) ≡ left
    → rest + length (branches (rows_below n image level) image level o (k + 1)) ≡ first
room_with n m image level o p k room left rest first down named is one further =
    let size = ap (λ (rows : List (List ℕ)). length rows) (branch_with n m image level o p k (tree_row image.classes level o k (object_at_slot image o k)) down refl named) in
    omega (arith, branches_longer n image level o k, size, is, one, further)

pub text_with : (n m : ℕ) (image : Image) (classes : List Class) (level : ℕ) (o p : DumpedObject) (k : ℕ) (first text between new : List ℕ) → classes ≡ image.classes → n ≡ m + 1 → object_at_slot image o k ≡ Some p
    → text ≡ first ++ rows_joined (branches (rows_below n image level) image level o k) → between ≡ text ++ tree_row classes level o k (object_at_slot image o k) → new ≡ between ++ rows_joined (tree_rows m image (level + 1) p)
    → new ≡ first ++ rows_joined (branches (rows_below n image level) image level o (k + 1))
text_with n m image classes level o p k first text between new same down named is more further =
    let row = tree_row classes level o k (object_at_slot image o k) in
    let b = branch_with n m image level o p k row down (ap (λ (cs : List Class). tree_row cs level o k (object_at_slot image o k)) same) named in
    text_on (rows_below n image level) image level o k first text new is
    (slot_text row (tree_rows m image (level + 1) p) text between new more further ∙ ap (λ (rows : List (List ℕ)). text ++ rows_joined rows) (sym b))

-- ---- what is known of one turn

-- there is no object to list: no level is left, or the slot names none
pub nothing_listed : (n : ℕ) (x y : Option DumpedObject) → (0 < n → x ≡ y) → x ≡ None → (n ≡ 0) ⊎ (y ≡ None)
nothing_listed zero x y h e = inl refl
nothing_listed (suc n) x y h e = inr (sym (h (omega arith)) ∙ e)

-- an object is listed only if a level is left
pub level_left : (n : ℕ) (x : Option DumpedObject) (p : DumpedObject) → (n ≡ 0 → x ≡ None) → x ≡ Some p → 0 < n
level_left zero x p h e = let clash : None ≡ Some p = sym (h refl) ∙ e in absurd (cc clash)
level_left (suc n) x p h e = omega arith

-- why a slot is refused is why all are
pub slot_refused : (n : ℕ) (image : Image) (level : ℕ) (o : DumpedObject) (k room first : ℕ) (e : Refusal) → k < length o.words → room + length (branches (rows_below n image level) image level o k) ≡ first → (e ≡ NoMemory) ⊎ ((e ≡ TooLarge) × (room ≡ 0))
    → (e ≡ NoMemory) ⊎ ((e ≡ TooLarge) × (first < length (tree_rows n image level o)))
slot_refused n image level o k room first e l is (inl h) = inl h
slot_refused n image level o k room first e l is (inr h) = inr (h.0, no_room_for_row n image level o k room first l h.1 is)

pub object_refused : (n m : ℕ) (image : Image) (level : ℕ) (o p : DumpedObject) (k room left first : ℕ) (e : Refusal) → k < length o.words → n ≡ m + 1 → object_at_slot image o k ≡ Some p
    → room + length (branches (rows_below n image level) image level o k) ≡ first → left + 1 ≡ room → (e ≡ NoMemory) ⊎ ((e ≡ TooLarge) × (left < length (tree_rows m image (level + 1) p)))
    → (e ≡ NoMemory) ⊎ ((e ≡ TooLarge) × (first < length (tree_rows n image level o)))
object_refused n m image level o p k room left first e l down named is one (inl h) = inl h
object_refused n m image level o p k room left first e l down named is one (inr h) = inr (h.0, no_room_below n m image level o p k room left first l down named is one h.1)
