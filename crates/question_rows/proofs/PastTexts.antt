-- The answers about the steps up to a place.
use Rattle.std.proofs.Common.{◌≡◌, ℕ, ◌≤◌, List, Option, Some, None, sym, ap, ◌∙◌, subst, inl}
use Rattle.std.specs.Prelude.{IfOk, Ok, Err, Result}
use Rattle.heap_class.specs.declared.ObjRef.{ObjRef}
use Rattle.heap_class.specs.declared.Refusal.{Refusal}
use Rattle.heap_world.specs.State.{HeapState}
use Rattle.heap_trail.specs.Trail.{Trail, retained, rewound}
use Rattle.heap_trail.proofs.RewoundMachines.{rewound_none}
use Rattle.heap_questions.specs.PastTrails.{IsPast}
use Rattle.question_words.specs.Moments.{steps_ago, refused_text}
use Rattle.question_rows.specs.PastAnswers.{IsAnswerAgo, IsAnswerUpTo}
use Rattle.question_words.specs.Places.{IsAboutObject, IsTextOrNoMemory}

same_ok : (a b : ℕ) → ◌≡◌ {A = Result ℕ Refusal} (Ok a) (Ok b) → a ≡ b
same_ok a b e = cc

not_err : (a : ℕ) (e : Refusal) → ◌≡◌ {A = Result ℕ Refusal} (Ok a) (Err e) → ⊥
not_err a e h = cc

-- the answer about the trail that a rewind would leave is the one that is asked for
pub up_to : (answers : Trail → List ℕ → Type 0) (to : Option ℕ) (t u : Trail) (text : List ℕ) (r : Result ℕ Refusal) (ago : ℕ) → r ≡ steps_ago to t → r ≡ Ok ago → u ≡ rewound ago t → answers u text → IsAnswerUpTo answers to t text
unfolding steps_ago
up_to answers None t u text r ago e o past h =
    let z : 0 ≡ ago = same_ok 0 ago (sym e ∙ o) in
    let same : u ≡ t = past ∙ ap (λ n. rewound n t) (sym z) ∙ rewound_none t in
    subst (λ (v : Trail). answers v text) same h
up_to answers (Some place) t u text r ago e o past h =
    subst (λ (x : Result ℕ Refusal). IsAnswerAgo answers t x text) (sym o ∙ e) (subst (λ (v : Trail). answers v text) past h)

pub refused_up_to : (answers : Trail → List ℕ → Type 0) (to : Option ℕ) (t : Trail) (text : List ℕ) (r : Result ℕ Refusal) (e : Refusal) → r ≡ steps_ago to t → r ≡ Err e → text ≡ refused_text e → IsAnswerUpTo answers to t text
unfolding steps_ago
refused_up_to answers None t text r e s o h = absurd (not_err 0 e (sym s ∙ o))
refused_up_to answers (Some place) t text r e s o h = subst (λ (x : Result ℕ Refusal). IsAnswerAgo answers t x text) (sym o ∙ s) h

pub within_ago : (r : Result ℕ Refusal) (t : Trail) (ago : ℕ) → r ≡ Ok ago → IfOk r (λ n. n ≤ retained t) → ago ≤ retained t
within_ago r t ago e h = subst (λ (x : Result ℕ Refusal). IfOk x (λ n. n ≤ retained t)) e h

-- memory was refused, or the object's text is the answer
pub told_about : (answers : ObjRef → List ℕ → Type 0) (w : HeapState) (x : ℕ) (text : List ℕ) → IsAboutObject answers w x text → IsTextOrNoMemory (IsAboutObject answers w x) text
told_about answers w x text h = inl h

pub oldest_place : (t : Trail) → IsPast t → retained t ≤ t.place
oldest_place t p = p.1.placed
