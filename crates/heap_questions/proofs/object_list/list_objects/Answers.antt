use Rattle.std.proofs.lemmas.Result.{IfOk-weaker}
use Rattle.heap_questions.specs.ObjectLists.{AreObjectsWanted, IsObjectList}
use Rattle.heap_questions.specs.declared.wanted.Wanted.TheVariants.{All}
use Rattle.heap_questions.proofs.ListedObjects.{all_listed}
use Rattle.heap_questions.proofs.object_list.list_objects.Goals as goal

pub returns-clause-all : goal.returns-clause-all
returns-clause-all g c =
    let image = g.V.View.image c.args.view.now in
    IfOk-weaker c.list_wanted.result (λ all. AreObjectsWanted All image all.items) (λ all. IsObjectList image all.items)
    (λ all. all_listed image all.items)
    c.list_wanted.ensures.all
