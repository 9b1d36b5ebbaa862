use Rattle.hprof_pair.proofs.JoinedLines.{field_id_is_in_table, field_id_is_one_or_more, one_field_more}
use Rattle.hprof_pair.proofs.joined_classes.fields_of.Goals as goal

pub overflow_sub-id : goal.overflow_sub-id
overflow_sub-id c = field_id_is_one_or_more c.args.classes.now c.args.k c.loop-i.i _ c.requires (rw c.field_count-i-end.ensures.value at c.loop-i-test.true) c.field_name_id-id.ensures

pub name_at-requires : goal.name_at-requires
name_at-requires c = field_id_is_in_table c.args.classes.now c.args.k c.loop-i.i _ c.requires (rw c.field_count-i-end.ensures.value at c.loop-i-test.true) c.field_name_id-id.ensures

pub loop-i-preserved : goal.loop-i-preserved
loop-i-preserved c =
    one_field_more c.args.classes.now c.args.k c.loop-i.i _ _ _ _ _ _ c.requires (rw c.field_count-i-end.ensures.value at c.loop-i-test.true) c.field_name_id-id.ensures c.name_at.ensures.value c.in_ok-name.ensures c.field_kind-kind.ensures
    c.loop-i.invariant c.in_ok-push.ensures.items
