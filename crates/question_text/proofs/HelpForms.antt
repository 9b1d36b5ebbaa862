-- Each line has a form.
use Rattle.std.proofs.Common.{refl}
use Rattle.std.specs.List.{AllByRecursion}
use Rattle.std.specs.Prelude.{codes}
use Rattle.session_grammar.specs.Grammar.{Rule, access_rules, all_rules, class_rules, making_rules, marking_rules, session_rules}
use Rattle.question_text.specs.Help.{HasForm, act_forms, form_with, object_forms, past_forms, question_forms, session_forms, write_forms}
use Rattle.question_grammar.specs.Bookmarks.{Bookmarks}
use Rattle.question_grammar.specs.Questions.{QuestionRule, past_rules, question_rules}

pub each_session_line : AllByRecursion (λ (r : Rule). HasForm r.0) all_rules
unfolding class_rules making_rules access_rules marking_rules session_rules form_with write_forms act_forms question_forms object_forms past_forms session_forms
each_session_line = (refl, (refl, (refl, (refl, (refl, (refl, (refl, (refl, (refl, (refl, (refl, (refl, (refl, (refl, (refl, (refl, (refl, (refl, (refl, (refl, (refl, tt)))))))))))))))))))))

pub each_question : (b : Bookmarks) → AllByRecursion (λ (r : QuestionRule). HasForm r.0) (question_rules b)
unfolding question_rules past_rules form_with write_forms act_forms question_forms object_forms past_forms session_forms
each_question b = (refl, (refl, (refl, (refl, (refl, (refl, (refl, (refl, (refl, (refl, (refl, (refl, (refl, (refl, (refl, (refl, (refl, (refl, (refl, (refl, (refl, (refl, (refl, (refl, (refl, (refl, (refl, (refl, (refl, tt)))))))))))))))))))))))))))))

pub collect_line : HasForm (codes "collect")
unfolding form_with write_forms act_forms question_forms object_forms past_forms session_forms
collect_line = refl

pub forward_line : HasForm (codes "forward")
unfolding form_with write_forms act_forms question_forms object_forms past_forms session_forms
forward_line = refl

pub at_line : HasForm (codes "at")
unfolding form_with write_forms act_forms question_forms object_forms past_forms session_forms
at_line = refl

pub name_line : HasForm (codes "name")
unfolding form_with write_forms act_forms question_forms object_forms past_forms session_forms
name_line = refl
