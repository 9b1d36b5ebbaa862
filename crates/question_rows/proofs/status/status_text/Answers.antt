use Rattle.std.proofs.Common.{◌∙◌, ◌++◌, ℕ, List, ap}
use Rattle.std.specs.Prelude.{flat_map}
use Rattle.heap_world.specs.State.{HeapState}
use Rattle.question_rows.specs.Statuses.{collector_facts, fact_text, trail_facts}
use Rattle.question_rows.proofs.StatusRows.{status_told}
use Rattle.question_rows.proofs.status.status_text.Goals as goal

pub returns : goal.returns
returns c =
    let m = c.args.machine.now in
    let t1 = c.push_trail.new.text.items in
    let e1 = c.in_ok-push_trail.ensures ∙ ap (λ (t : List ℕ). t ++ flat_map fact_text (trail_facts m.trail)) c.new-text.ensures.items in
    let e2 = c.in_ok-push_collector.ensures ∙ ap (λ (w : HeapState). t1 ++ flat_map fact_text (collector_facts w)) c.world.ensures.value in
    (status_told m c.args.acts t1 c.push_collector.new.text.items c.push_acts.new.text.items e1 e2 c.in_ok-push_acts.ensures, tt)
