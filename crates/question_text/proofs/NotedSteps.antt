-- The steps of a cycle, as they are noted.
use Rattle.std.proofs.Common.{◌≡◌, ◌∙◌, List, [], ◌∷◌, ◌++◌, refl, sym, ap}
use Rattle.std.proofs.lemmas.List.{append-nil}
use Rattle.heap_step.specs.declared.Answer.{Answer}
use Rattle.heap_step.specs.declared.Event.{Event}
use Rattle.heap_orders.specs.Collections.{TakenStep}
use Rattle.heap_orders.specs.Redos.{Redo, with_step, with_steps}

with_one_step_more : (steps : List TakenStep) (s : TakenStep) (r : Redo) → with_steps (steps ++ s ∷ []) r ≡ with_step s.0 (with_steps steps r)
with_one_step_more [] s r = refl
with_one_step_more (x ∷ steps) s r = with_one_step_more steps s (with_step x.0 r)

pub one_noted : (before : List TakenStep) (e : Event) (a : Answer) (first r s : Redo) → s ≡ with_step e r → r ≡ with_steps before first → s ≡ with_steps (before ++ (e, a) ∷ []) first
one_noted before e a first r s is h = is ∙ ap (with_step e) h ∙ sym (with_one_step_more before (e, a) first)

pub none_noted : (before : List TakenStep) (first r : Redo) → r ≡ with_steps before first → r ≡ with_steps (before ++ []) first
none_noted before first r h = h ∙ ap (λ (steps : List TakenStep). with_steps steps first) (sym (append-nil before))
