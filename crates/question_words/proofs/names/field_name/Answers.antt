use Rattle.question_words.proofs.FieldNames.{id_stands, named_by_id}
use Rattle.question_words.proofs.names.field_name.Goals as goal

pub overflow_sub-id : goal.overflow_sub-id
overflow_sub-id c =
    (id_stands c.args.classes.now c.args.class c.args.field c.field_name_id-id.result c.requires c.field_name_id-id.ensures).0

pub name_at-requires : goal.name_at-requires
name_at-requires c =
    (id_stands c.args.classes.now c.args.class c.args.field c.field_name_id-id.result c.requires c.field_name_id-id.ensures).1

pub returns : goal.returns
returns c =
    named_by_id c.args.classes.now c.args.class c.args.field c.field_name_id-id.result c.name_at.result.now c.requires c.field_name_id-id.ensures c.name_at.ensures.value
