-- The facts of a status, one after another.
use Rattle.std.proofs.Common.{◌≡◌, ◌∙◌, ℕ, suc, ◌+◌, List, [], ◌∷◌, ◌++◌, Option, length, ap, append_assoc, arith, sym}
use Rattle.std.specs.Prelude.{flat_map}
use Rattle.std.proofs.lemmas.List.{append-nil, flat_map_more}
use Rattle.std.proofs.lemmas.List.Concat.{flat_map-append}
use Rattle.heap_trail.specs.Machine.{Machine}
use Rattle.question_words.specs.Rows.{count_text}
use Rattle.question_rows.specs.Statuses.{chronicle_facts, collector_facts, fact_text, status_facts, status_text, trail_facts}

-- one fact more
fact_more : (old t text : List ℕ) (facts : List (List ℕ)) (x : List ℕ) → t ≡ old ++ flat_map fact_text facts → text ≡ t ++ fact_text x → text ≡ old ++ flat_map fact_text (facts ++ x ∷ [])
fact_more old t text facts x h e = e ∙ ap (λ (l : List ℕ). l ++ fact_text x) h ∙ flat_map_more fact_text old facts x

-- five facts
pub five_facts : (old a b c d e t1 t2 t3 t4 text : List ℕ) → t1 ≡ old ++ fact_text a → t2 ≡ t1 ++ fact_text b → t3 ≡ t2 ++ fact_text c → t4 ≡ t3 ++ fact_text d → text ≡ t4 ++ fact_text e → text ≡ old ++ flat_map fact_text (a ∷ b ∷ c ∷ d ∷ e ∷ [])
five_facts old a b c d e t1 t2 t3 t4 text e1 e2 e3 e4 e5 =
    let h1 = fact_more old old t1 [] a (sym (append-nil old)) e1 in
    let h2 = fact_more old t1 t2 (a ∷ []) b h1 e2 in
    let h3 = fact_more old t2 t3 (a ∷ b ∷ []) c h2 e3 in
    let h4 = fact_more old t3 t4 (a ∷ b ∷ c ∷ []) d h3 e4 in
    fact_more old t4 text (a ∷ b ∷ c ∷ d ∷ []) e h4 e5

seven_more : (n : ℕ) → 7 + n ≡ suc (suc (suc (suc (suc (suc (suc n))))))
seven_more n = omega arith

-- all facts, and their number
pub status_told : (m : Machine) (acts : Option ℕ) (t1 t2 text : List ℕ) → t1 ≡ flat_map fact_text (trail_facts m.trail) → t2 ≡ t1 ++ flat_map fact_text (collector_facts m.trail.current)
    → text ≡ t2 ++ (flat_map fact_text (chronicle_facts acts) ++ count_text (7 + length (chronicle_facts acts))) → text ≡ status_text m acts
status_told m acts t1 t2 text e1 e2 e3 =
    let a = trail_facts m.trail in
    let b = collector_facts m.trail.current in
    let c = chronicle_facts acts in
    let A = flat_map fact_text a in
    let B = flat_map fact_text b in
    let C = flat_map fact_text c in
    let D = count_text (7 + length c) in
    e3
    ∙ ap (λ (t : List ℕ). t ++ (C ++ D)) (e2 ∙ ap (λ (t : List ℕ). t ++ B) e1)
    ∙ append_assoc A B (C ++ D)
    ∙ ap (λ (t : List ℕ). A ++ t) (sym (append_assoc B C D))
    ∙ sym (append_assoc A (B ++ C) D)
    ∙ ap (λ (t : List ℕ). t ++ D) (sym (flat_map-append fact_text a (b ++ c) ∙ ap (λ (t : List ℕ). A ++ t) (flat_map-append fact_text b c)))
    ∙ ap (λ (n : ℕ). flat_map fact_text (status_facts m acts) ++ count_text n) (seven_more (length c))
