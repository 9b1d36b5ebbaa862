use Rattle.std.proofs.Common.{◌∙◌, ◌++◌, List, ℕ, ap, sym}
use Rattle.std.specs.Prelude.{flat_map}
use Rattle.std.specs.List.{range_with_len}
use Rattle.std.proofs.lemmas.List.{flat_map_more}
use Rattle.heap_questions.proofs.Passing.{one_more_number}
use Rattle.question_rows.specs.ClassLists.{class_text}
use Rattle.question_rows.proofs.class_list.push_classes.Goals as goal

pub loop-class-preserved : goal.loop-class-preserved
loop-class-preserved c =
    let cs = c.args.classes.now in
    let k = c.loop-class.class in
    let first = c.args.text.now.items in
    c.in_ok-push_class.ensures
    ∙ ap (λ (t : List ℕ). t ++ class_text cs k) c.loop-class.invariant
    ∙ flat_map_more (class_text cs) first (range_with_len 0 k) k
    ∙ ap (λ (ks : List ℕ). first ++ flat_map (class_text cs) ks) (sym (one_more_number k))
