use Rattle.std.proofs.Common.{◌∙◌, ap, inl, subst, sym}
use Rattle.hprof_text.specs.Image.{Image, IsDumpable}
use Rattle.question_text.specs.ShownChains.{end_of}
use Rattle.question_text.proofs.shown_chain.end_of.Goals as goal

pub end_along-requires-clause-limits : goal.end_along-requires-clause-limits
end_along-requires-clause-limits g c = subst IsDumpable (sym c.in_ok-index.ensures.index) c.classes-classes.ensures.limits

pub end_along-requires-clause-classes : goal.end_along-requires-clause-classes
end_along-requires-clause-classes g c = c.classes-classes.ensures.value ∙ sym (ap (λ (i : Image). i.classes) c.in_ok-index.ensures.index)

pub returns : goal.returns
returns g c = inl (c.end_along.ensures ∙ ap (λ (i : Image). end_of i c.args.fields c.args.id) c.in_ok-index.ensures.index)
