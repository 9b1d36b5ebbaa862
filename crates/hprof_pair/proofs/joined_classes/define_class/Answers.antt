use Rattle.std.proofs.Common.{◌∙◌, refl, subst, sym}
use Rattle.std.proofs.lemmas.Result.{IfOk-weaker}
use Rattle.hprof_pair.specs.JoinedClasses.{and_defined, over, renamed}
use Rattle.hprof_pair.specs.JoinedSoFar.{IsDefinedAs}
use Rattle.hprof_pair.specs.declared.joined_classes.JoinedClasses.{JoinedClasses}
use Rattle.hprof_pair.proofs.JoinedLines.{class_at, class_defined, class_refused, defined_there, defined_within, name_of_class_at, next_is_given, renamed_is}
use Rattle.hprof_pair.proofs.joined_classes.define_class.Goals as goal

pub line_over-requires : goal.line_over-requires
line_over-requires c =
    let x = class_at c.args.second.now c.args.k c.requires.number in
    defined_within _ _ _ _ _ (rw c.in-Ok.is at (c.in_ok-number.ensures x.0 x.1))

pub returns-in-Ok : goal.returns-in-Ok
returns-in-Ok c = λ first s x are there.
    let defined = rw c.in-Ok.is at (c.in_ok-number.ensures x there) in
    let name =
    next_is_given c.args.limits c.args.joined.now.classes x.name _ _ c.in_ok-name.name _ _ c.len-number.ensures.value (c.name.ensures.value ∙ name_of_class_at c.args.second.now c.args.k x there)
    (c.name-2.ensures.value ∙ name_of_class_at c.args.second.now c.args.k x there) c.has_name-is_given.ensures c.in_ok-name.ensures in
    class_defined c.args.limits first c.args.joined.now _ s (over x c.args.sup) _ c.in-Ok.number c.in_ok-line-in-Ok.line are (renamed_is c.args.limits first c.args.joined.now s x c.args.sup c.in_ok-name.name are name) defined
    (c.in_ok-line-in-Ok.ensures _ (defined_there _ _ _ _ _ defined)) c.in_ok-push-in-Ok.ensures.items (rw c.as_bytes.ensures at c.in_ok-extend_from_slice-in-Ok.ensures.items) refl

pub returns : goal.returns
returns c = λ first s x are there.
    let defined = rw c.in-Err.is at (c.in_ok-number.ensures x there) in
    let name =
    next_is_given c.args.limits c.args.joined.now.classes x.name _ _ c.in_ok-name.name _ _ c.len-number.ensures.value (c.name.ensures.value ∙ name_of_class_at c.args.second.now c.args.k x there)
    (c.name-2.ensures.value ∙ name_of_class_at c.args.second.now c.args.k x there) c.has_name-is_given.ensures c.in_ok-name.ensures in
    let next : JoinedClasses = record { classes = c.define_named.new.classes; known = c.args.joined.now.known; text = c.args.joined.now.text; numbers = c.args.joined.now.numbers } in
    IfOk-weaker c.none_defined.result _ _
    (λ o h. subst (λ p. IsDefinedAs first c.args.joined.now.numbers.items p next (and_defined c.args.limits s (renamed c.args.limits s.classes (over x c.args.sup)))) (sym h.0)
    (class_refused c.args.limits first c.args.joined.now next s (over x c.args.sup) _ c.in-Err.refusal are (renamed_is c.args.limits first c.args.joined.now s x c.args.sup c.in_ok-name.name are name) defined h.1 refl refl refl))
    c.none_defined.ensures
