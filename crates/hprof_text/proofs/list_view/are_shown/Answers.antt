use Rattle.std.proofs.Common.{refl, subst}
use Rattle.std.specs.Prelude.{List, All}
use Rattle.std.proofs.lemmas.List.Elements.{All-more}
use Rattle.std.proofs.lemmas.List.{take_all}
use Rattle.hprof_text.specs.declared.list_view.ListedObject.{ListedObject}
use Rattle.hprof_text.specs.HeapLists.{IsListable}
use Rattle.hprof_text.proofs.list_view.are_shown.Goals as goal

pub returns : goal.returns
returns c =
    let P : List ListedObject → Type 0 = λ l. All (IsListable c.args.classes.now) l in
    let h = subst P (take_all c.loop-object.object-index c.args.objects.now c.loop-object-test.false) c.loop-object.invariant in
    (λ _. h, λ _. refl)

pub loop-object-preserved : goal.loop-object-preserved
loop-object-preserved c =
    let x = c.object-item.result in
    let P : ListedObject → Type 0 = λ o. IsListable c.args.classes.now o in
    All-more (IsListable c.args.classes.now) c.args.objects.now c.loop-object.object-index x c.loop-object-test.true c.loop-object.invariant (subst P c.object-item.is (c.is_shown.ensures.0 c.if-not-is_shown.false))
