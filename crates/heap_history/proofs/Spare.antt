-- The place that a deed's fourth number shares with an answer's second one.
use Rattle.std.proofs.Common.{◌≡◌, ℕ, true, false, refl, sym, ap, ◌∙◌}
use Rattle.std.specs.Prelude.{if◌then◌else◌}
use Rattle.heap_history.specs.declared.pack.AnswerPack.{AnswerPack}
use Rattle.heap_history.specs.declared.pack.DeedPack.{DeedPack}
use Rattle.heap_history.specs.declared.pack.Pack.{Pack}
use Rattle.heap_history.specs.declared.pack.Told.{Told}
use Rattle.heap_history.specs.declared.pack.Told.TheVariants.{RefusedInFull}
use Rattle.heap_history.specs.History.{entry}
use Rattle.heap_history.specs.Packs.{action_by, action_with, fourth_beside, outcome_in, outcome_by, outcome_with, has_second, TellsEntry}

spare_second : (t : Told) (why n u v : ℕ) → has_second t ≡ false → outcome_in t why n u ≡ outcome_in t why n v
unfolding outcome_in
spare_second RefusedInFull why n u v h = absurd (cc)
spare_second t why n u v h = refl

-- the shared place has the deed's fourth number
pub tells_deed : (p : Pack) (seat : ℕ) (d : DeedPack) (a : AnswerPack) → has_second a.told ≡ false → TellsEntry p (entry seat (action_with d (fourth_beside a.told d.fourth)) (outcome_with a d.fourth)) → TellsEntry p (entry seat (action_by d) (outcome_by a))
tells_deed p seat d a h t = (t.0, t.1 ∙ (λ i. entry seat (action_with d (if h i then 0 else d.fourth)) (spare_second a.told a.reason a.first d.fourth a.second h i)))

-- the shared place has the answer's second number, and the deed's fourth one is 0
pub tells_answer : (p : Pack) (seat : ℕ) (d : DeedPack) (a : AnswerPack) → has_second a.told ≡ true → d.fourth ≡ 0 → TellsEntry p (entry seat (action_with d (fourth_beside a.told a.second)) (outcome_with a a.second)) → TellsEntry p (entry seat (action_by d) (outcome_by a))
tells_answer p seat d a h z t = (t.0, t.1 ∙ (λ i. entry seat (action_with d (if h i then 0 else a.second)) (outcome_by a)) ∙ ap (λ n. entry seat (action_with d n) (outcome_by a)) (sym z))
