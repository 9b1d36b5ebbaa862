use Rattle.question_rows.proofs.NamedObjects.{all_listed_there}
use Rattle.question_rows.proofs.object_list.objects_text.Goals as goal

pub push_all-requires : goal.push_all-requires
push_all-requires g c =
    let image = g.V.View.image c.args.view.now in
    rw (c.as_slice.ensures.value, c.classes-classes.ensures.value) (all_listed_there c.args.wanted image c.in_ok-all.all.items c.classes-classes.ensures.limits c.in_ok-all.ensures.all)
