use Rattle.std.proofs.Common.{sym, ◌∙◌}
use Rattle.hprof_pair.proofs.JoinedLines.{array_event, instance_event}
use Rattle.hprof_pair.proofs.joined_classes.event_over.Goals as goal

pub returns-then-is_array : goal.returns-then-is_array
returns-then-is_array c = λ x there.
    array_event c.args.classes.now c.args.k x c.in_ok-name.name c.args.sup there (c.in_ok-name.ensures ∙ c.name.ensures.value) (sym c.if-is_array.ensures)

pub returns : goal.returns
returns c = λ x there.
    instance_event c.args.classes.now c.args.k x c.in_ok-name.name c.args.sup c.in_ok-fields.fields there (c.in_ok-name.ensures ∙ c.name.ensures.value) (sym c.if-is_array.ensures) c.in_ok-fields.ensures
