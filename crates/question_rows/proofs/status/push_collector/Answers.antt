use Rattle.std.proofs.Common.{◌≡◌, ◌∙◌, ◌-◌, ◌++◌, ℕ, List, ap, length}
use Rattle.std.specs.Prelude.{codes, flat_map}
use Rattle.std.proofs.lemmas.Result.{IfOk-weaker}
use Rattle.heap_mark.specs.declared.Phase.{Phase}
use Rattle.heap_mark.specs.MarkSteps.{pending_regions}
use Rattle.heap_world.specs.Pool.{RegionPool}
use Rattle.session_text.specs.Replies.{and_number}
use Rattle.question_rows.specs.Statuses.{collector_facts, fact_text, phase_word}
use Rattle.question_rows.proofs.StatusRows.{five_facts}
use Rattle.question_rows.proofs.status.push_collector.Goals as goal

pub returns : goal.returns
returns c =
    let w = c.args.world.now in
    let old = c.args.text.now.items in
    let t1 = c.push_phase.new.text.items in
    let t2 = c.push_fact.new.text.items in
    let t3 = c.push_fact-2.new.text.items in
    let t4 = c.push_fact-3.new.text.items in
    let text = c.push_fact-4.new.text.items in
    let number : (name before after : List ℕ) (n m : ℕ) → after ≡ before ++ fact_text (name ++ and_number n) → n ≡ m → after ≡ before ++ fact_text (name ++ and_number m) =
    λ name before after n m h e. h ∙ ap (λ (k : ℕ). before ++ fact_text (name ++ and_number k)) e in
    let regions = c.count.ensures.value ∙ ap (λ (s : RegionPool). length s.regions) c.regions.ensures in
    IfOk-weaker c.push_fact-4.result (λ done. text ≡ t4 ++ fact_text (codes "regions" ++ and_number c.count.result)) (λ done. text ≡ old ++ flat_map fact_text (collector_facts w))
    (λ done h. five_facts old (codes "phase " ++ phase_word w.phase) (codes "gray" ++ and_number (length w.gray)) (codes "undrained" ++ and_number (length w.log - w.drained))
    (codes "unswept" ++ and_number (length (pending_regions w.regions))) (codes "regions" ++ and_number (length w.regions)) t1 t2 t3 t4 text
    (c.in_ok-push_phase.ensures ∙ ap (λ (p : Phase). old ++ fact_text (codes "phase " ++ phase_word p)) c.phase.ensures.value)
    (number (codes "gray") t1 t2 _ _ c.in_ok-push_fact.ensures c.gray_count.ensures)
    (number (codes "undrained") t2 t3 _ _ c.in_ok-push_fact-2.ensures c.undrained_count.ensures)
    (number (codes "unswept") t3 t4 _ _ c.in_ok-push_fact-3.ensures c.unswept_count.ensures)
    (number (codes "regions") t4 text _ _ h regions))
    c.push_fact-4.ensures
