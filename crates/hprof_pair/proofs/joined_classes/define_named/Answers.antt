use Rattle.std.proofs.Common.{sym, subst}
use Rattle.heap_class.specs.Classes.{Class, IsDefined}
use Rattle.hprof_pair.proofs.JoinedLines.{array_by_name, instance_by_name}
use Rattle.hprof_pair.proofs.joined_classes.define_named.Goals as goal

pub returns-then-is_array : goal.returns-then-is_array
returns-then-is_array c = λ x there.
    let array = sym c.if-is_array.ensures in
    subst (λ (d : Class). IsDefined c.args.limits d c.args.classes.now c.define_array.new.self c.define_array.result) (array_by_name c.args.second.now c.args.k x c.args.name.now c.args.sup c.len-number.ensures.table there array (c.requires.bare array)) c.define_array.ensures

pub returns : goal.returns
returns c = λ x there.
    subst (λ (d : Class). IsDefined c.args.limits d c.args.classes.now c.define.new.self c.define.result) (instance_by_name c.args.second.now c.args.k x c.args.name.now c.args.sup c.in_ok-fields.fields there (sym c.if-is_array.ensures) c.in_ok-fields.ensures) c.define.ensures
