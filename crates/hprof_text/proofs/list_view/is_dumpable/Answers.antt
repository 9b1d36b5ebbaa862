use Rattle.hprof_text.proofs.Places.{listable_objects_are_dumpable, dumpable_list_is_listable}
use Rattle.hprof_text.proofs.list_view.is_dumpable.Goals as goal

pub returns : goal.returns
returns c =
    let cs = c.args.classes.now in
    let rs = c.args.registers.now in
    let os = c.args.objects.now in (
      λ t. (listable_objects_are_dumpable cs rs os c.len-count.ensures.table c.len-count.ensures.limit c.if-registers-gt128.false c.if-objects-gt65536.false (c.are_shown.ensures.0 t), c.if-objects-gt65536.false),
      λ d. c.are_shown.ensures.1 (dumpable_list_is_listable cs rs os d.0).2,
    )
