-- The line of a class, piece by piece.
use Rattle.std.proofs.Common.{append_assoc, ◌≡◌, ◌∙◌, ◌++◌, ◌∷◌, ℕ, List, ap}
use Rattle.std.specs.Prelude.{codes}
use Rattle.heap_class.specs.Classes.{Class, fields_of, name_of}
use Rattle.session_text.specs.Replies.{and_number}
use Rattle.question_rows.specs.ClassLists.{and_fields, class_text, super_words}

-- of two pieces that were appended, one after the other, both are at the end
pub both_appended : (old first second text more : List ℕ) → text ≡ old ++ first → more ≡ text ++ second → more ≡ old ++ (first ++ second)
both_appended old first second text more e h = h ∙ ap (λ (t : List ℕ). t ++ second) e ∙ append_assoc old first second

-- the pieces of the line of class k, one after another
pub class_row : (classes : List Class) (k : ℕ) (old t1 t2 t3 t4 t5 text : List ℕ) → t1 ≡ old ++ (codes "row" ++ and_number k) → t2 ≡ t1 ++ codes " " → t3 ≡ t2 ++ name_of classes k
    → t4 ≡ t3 ++ super_words classes k → t5 ≡ t4 ++ and_fields (fields_of classes k) → text ≡ t5 ++ codes "\n" → text ≡ old ++ class_text classes k
unfolding class_text
class_row classes k old t1 t2 t3 t4 t5 text e1 e2 e3 e4 e5 e6 =
    let row = codes "row" ++ and_number k in
    let named = row ++ 32 ∷ name_of classes k in
    let super = named ++ super_words classes k in
    let h3 : t3 ≡ old ++ named = both_appended (old ++ row) (codes " ") (name_of classes k) t2 t3 (e2 ∙ ap (λ (t : List ℕ). t ++ codes " ") e1) e3 ∙ append_assoc old row (32 ∷ name_of classes k) in
    let h4 = both_appended old named (super_words classes k) t3 t4 h3 e4 in
    let h5 = both_appended old super (and_fields (fields_of classes k)) t4 t5 h4 e5 in
    both_appended old (super ++ and_fields (fields_of classes k)) (codes "\n") t5 text h5 e6
