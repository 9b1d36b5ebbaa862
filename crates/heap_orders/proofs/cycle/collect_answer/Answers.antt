use Rattle.std.proofs.Common.{ap, inl, inr}
use Rattle.heap_class.specs.declared.Refusal.{Refusal}
use Rattle.question_words.specs.Moments.{refused_text}
use Rattle.heap_orders.proofs.CycleSteps.{cycle_told}
use Rattle.heap_orders.proofs.cycle.collect_answer.Goals as goal

pub returns-in-Ok-cycle_line : goal.returns-in-Ok-cycle_line
returns-in-Ok-cycle_line c = cycle_told _ c.in-Ok.counts _ c.in-Ok.is (inl c.in-Ok-cycle_line.ensures.0)

pub returns-in-Err-cycle_line : goal.returns-in-Err-cycle_line
returns-in-Err-cycle_line c =
    cycle_told _ c.in-Ok.counts _ c.in-Ok.is (inr (ap (λ (e : Refusal). refused_text e) c.in-Err-cycle_line.ensures.1))
