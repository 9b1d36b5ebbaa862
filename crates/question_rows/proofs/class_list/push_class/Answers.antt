use Rattle.std.proofs.Common.{◌≡◌, ◌∙◌, ◌++◌, List, ap, ℕ}
use Rattle.std.specs.Prelude.{codes}
use Rattle.std.proofs.lemmas.Result.{IfOk-weaker}
use Rattle.question_rows.specs.ClassLists.{class_text}
use Rattle.question_rows.proofs.ClassRows.{class_row}
use Rattle.question_rows.proofs.class_list.push_class.Goals as goal

pub returns : goal.returns
returns c =
    let classes = c.args.classes.now in
    let old = c.args.text.now.items in
    let fields = c.push_own_fields.new.text.items in
    let text = c.push_words-3.new.text.items in
    IfOk-weaker c.push_words-3.result (λ done. text ≡ fields ++ codes "\n") (λ done. text ≡ old ++ class_text classes c.args.class)
    (λ done h. class_row classes c.args.class old c.push_row.new.text.items c.push_words.new.text.items c.push_words-2.new.text.items c.push_super.new.text.items fields text
    c.in_ok-push_row.ensures
    c.in_ok-push_words.ensures
    (c.in_ok-push_words-2.ensures ∙ ap (λ (n : List ℕ). c.push_words.new.text.items ++ n) c.name.ensures.value)
    c.in_ok-push_super.ensures
    c.in_ok-push_own_fields.ensures
    h)
    c.push_words-3.ensures
