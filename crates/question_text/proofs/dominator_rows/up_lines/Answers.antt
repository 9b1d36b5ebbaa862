use Rattle.std.proofs.Common.{◌∙◌, ◌++◌, List, ap, length, subst, sym, ℕ}
use Rattle.std.specs.Prelude.{flat_map}
use Rattle.hprof_text.specs.Image.{Image, IsDumpable}
use Rattle.question_text.specs.DominatorRows.{above_text}
use Rattle.question_words.specs.Rows.{count_text}
use Rattle.question_text.proofs.dominator_rows.up_lines.Goals as goal

pub push_up-requires-clause-limits : goal.push_up-requires-clause-limits
push_up-requires-clause-limits g c = subst IsDumpable (sym c.in_ok-index.ensures.index) c.classes-classes.ensures.limits

pub push_up-requires-clause-classes : goal.push_up-requires-clause-classes
push_up-requires-clause-classes g c = c.classes-classes.ensures.value ∙ ap (λ (i : Image). i.classes) (sym c.in_ok-index.ensures.index)

pub returns : goal.returns
returns g c =
    let up = c.args.up.now in
    let lines = c.in_ok-push_up.ensures
    ∙ ap (λ (t : List ℕ). t ++ flat_map (above_text c.in_ok-index.index) up) c.new-text.ensures.items
    ∙ ap (λ (i : Image). flat_map (above_text i) up) c.in_ok-index.ensures.index in
    (c.in_ok-push_count.ensures ∙ ap (λ (t : List ℕ). t ++ count_text (length up)) lines, tt)
