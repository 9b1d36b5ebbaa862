-- The rows that changed: their lines, and their classes.
use Rattle.std.proofs.Common.{◌≡◌, ◌∙◌, ◌++◌, ◌+◌, ◌<◌, ◌≤◌, ℕ, Bool, true, false, List, [], ap, ap₂, arith, cond, drop, get_or, length, refl, subst, sym}
use Rattle.std.specs.Prelude.{max, nat_lt}
use Rattle.std.proofs.Math.Nat.{max-le}
use Rattle.std.proofs.lemmas.Bool.{ltb-false, ltb-true}
use Rattle.std.proofs.lemmas.List.{at_drop_more}
use Rattle.std.proofs.lemmas.List.FromFn.{length-map-range_with_len}
use Rattle.heap_class.specs.Classes.{Class}
use Rattle.heap_class.specs.declared.IdSize.{IdSize}
use Rattle.hprof_text.specs.Image.{Image}
use Rattle.heap_questions.specs.declared.growth.Change.{Change}
use Rattle.heap_questions.specs.declared.rows.Row.{Row}
use Rattle.heap_questions.specs.Growth.{change_at, changes_of}
use Rattle.heap_questions.specs.Histogram.{class_rows, histogram_of}
use Rattle.question_rows.specs.Growths.{changed_text, changed_texts, differs, more_classes}
use Rattle.question_rows.proofs.Totals.{row_count}

-- the lines from row `first + i` on, if whether it differs is known
lines_by_difference : (classes : List Class) (changes : List Change) (first i : ℕ) (d : Change) (b : Bool) → i < length changes → differs (get_or changes i d) ≡ b
    → changed_texts classes (first + i) (drop i changes) ≡ (cond b (changed_text classes (first + i) (get_or changes i d)) []) ++ changed_texts classes (first + (i + 1)) (drop (i + 1) changes)
lines_by_difference classes changes first i d b within e =
    let n : (first + i) + 1 ≡ first + (i + 1) = omega arith in
    at_drop_more (λ (cs : List Change). changed_texts classes (first + i) cs) changes i d within
    ∙ ap₂ (λ (q : Bool) (k : ℕ). (cond q (changed_text classes (first + i) (get_or changes i d)) []) ++ changed_texts classes k (drop (i + 1) changes)) e n

-- a row that differs has its line before the others
pub row_told : (classes : List Class) (changes : List Change) (first i : ℕ) (d : Change) (b : Bool) → i < length changes → b ≡ differs (get_or changes i d) → b ≡ true
    → changed_texts classes (first + i) (drop i changes) ≡ changed_text classes (first + i) (get_or changes i d) ++ changed_texts classes (first + (i + 1)) (drop (i + 1) changes)
row_told classes changes first i d b within e h = lines_by_difference classes changes first i d true within (sym e ∙ h)

-- a row that doesn't has none
pub row_passed : (classes : List Class) (changes : List Change) (first i : ℕ) (d : Change) (b : Bool) → i < length changes → b ≡ differs (get_or changes i d) → b ≡ false
    → changed_texts classes (first + i) (drop i changes) ≡ changed_texts classes (first + (i + 1)) (drop (i + 1) changes)
row_passed classes changes first i d b within e h = lines_by_difference classes changes first i d false within (sym e ∙ h)

-- no list of classes is longer than the longer of the two
more_than : (xs ys : List Class) → (length xs ≤ length (more_classes xs ys)) × (length ys ≤ length (more_classes xs ys))
more_than xs ys = go (nat_lt (length ys) (length xs)) refl
  where
    go : (b : Bool) → nat_lt (length ys) (length xs) ≡ b → (length xs ≤ length (cond b xs ys)) × (length ys ≤ length (cond b xs ys))
    go true e = (omega arith, omega (arith, ltb-true (length ys) (length xs) e))
    go false e = (omega (arith, ltb-false (length ys) (length xs) e), omega arith)

-- the changes have a row for each kind
pub kinds_named : (ids : IdSize) (older : Image) (before after : List Row) → before ≡ histogram_of ids older → class_rows ≤ length (changes_of before after)
kinds_named ids older before after e =
    let b : length before ≡ class_rows + length older.classes = ap length e ∙ row_count ids older.classes older.objects in
    let x : class_rows ≤ max (length before) (length after) = omega (arith, b) in
    subst (λ (k : ℕ). class_rows ≤ k) (sym (length-map-range_with_len (change_at before after) 0 (max (length before) (length after)))) x

-- the longer of two counts has no more rows than the longer list of classes
pub rows_named : (ids others : IdSize) (older newer : Image) (before after : List Row) → before ≡ histogram_of ids older → after ≡ histogram_of others newer
    → length (changes_of before after) ≤ class_rows + length (more_classes older.classes newer.classes)
rows_named ids others older newer before after e f =
    let more = more_than older.classes newer.classes in
    let n = class_rows + length (more_classes older.classes newer.classes) in
    let b : length before ≡ class_rows + length older.classes = ap length e ∙ row_count ids older.classes older.objects in
    let d : length after ≡ class_rows + length newer.classes = ap length f ∙ row_count others newer.classes newer.objects in
    let x : length before ≤ n = omega (arith, b, more.0) in
    let y : length after ≤ n = omega (arith, d, more.1) in
    subst (λ (k : ℕ). k ≤ n) (sym (length-map-range_with_len (change_at before after) 0 (max (length before) (length after)))) (max-le x y)
