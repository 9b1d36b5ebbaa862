use Rattle.std.proofs.Common.{◌≡◌, ◌∙◌, ◌-◌, ℕ, true, false, Option, Some, ap, arith, sym}
use Rattle.std.specs.Prelude.{Ok, Err, Result, if◌then◌else◌}
use Rattle.heap_class.specs.declared.Refusal.{Refusal}
use Rattle.heap_class.specs.declared.Refusal.TheVariants.{NotRetained}
use Rattle.heap_trail.specs.Pins.{is_retained}
use Rattle.heap_trail.specs.Trail.{Trail}
use Rattle.heap_trail.proofs.PinsAtPlaces.{retained_parts}
use Rattle.question_words.specs.Moments.{steps_ago}
use Rattle.question_words.proofs.at.steps_ago.Goals as goal

retained_so : (t : Trail) (place : ℕ) → is_retained place t ≡ true → ◌≡◌ {A = Result ℕ Refusal} (Ok (t.place - place)) (steps_ago (Some place) t)
unfolding steps_ago
retained_so t place kept = ap (λ b. if b then Ok (t.place - place) else Err NotRetained) (sym kept)

refused_so : (t : Trail) (place : ℕ) → is_retained place t ≡ false → ◌≡◌ {A = Result ℕ Refusal} (Err NotRetained) (steps_ago (Some place) t)
unfolding steps_ago
refused_so t place gone = ap (λ b. if b then Ok (t.place - place) else Err NotRetained) (sym gone)

pub overflow_sub-result : goal.overflow_sub-result
overflow_sub-result c =
    let t = c.args.machine.now.trail in
    let kept : is_retained c.in-Some.place t ≡ true = sym c.has_retained.ensures ∙ c.if-has_retained.true in
    omega (arith, (retained_parts t c.in-Some.place kept).0, c.place.ensures.value)

pub returns-then-has_retained-clause-steps : goal.returns-then-has_retained-clause-steps
returns-then-has_retained-clause-steps c =
    let t = c.args.machine.now.trail in
    let place = c.in-Some.place in
    let kept : is_retained place t ≡ true = sym c.has_retained.ensures ∙ c.if-has_retained.true in
    ap (λ (p : ℕ). Ok (p - place)) c.place.ensures.value ∙ retained_so t place kept ∙ ap (λ (o : Option ℕ). steps_ago o t) (sym c.in-Some.is)

pub returns-then-has_retained-clause-within : goal.returns-then-has_retained-clause-within
returns-then-has_retained-clause-within c =
    let t = c.args.machine.now.trail in
    let kept : is_retained c.in-Some.place t ≡ true = sym c.has_retained.ensures ∙ c.if-has_retained.true in
    omega (arith, (retained_parts t c.in-Some.place kept).1, c.place.ensures.value)

pub returns-else-has_retained-clause-steps : goal.returns-else-has_retained-clause-steps
returns-else-has_retained-clause-steps c =
    let t = c.args.machine.now.trail in
    let gone : is_retained c.in-Some.place t ≡ false = sym c.has_retained.ensures ∙ c.if-has_retained.false in
    refused_so t c.in-Some.place gone ∙ ap (λ (o : Option ℕ). steps_ago o t) (sym c.in-Some.is)
