use Rattle.std.proofs.Common.{[], length, sym, arith}
use Rattle.std.proofs.lemmas.Bool.{le-leb, lt-leb, lt-ltb, le-ltb}
use Rattle.heap_class.specs.Limits.{slot_limit}
use Rattle.heap_class.specs.Classes.{Class, names_in, slots_under, slot_table_after}
use Rattle.heap_class.proofs.Readers.{as_many}
use Rattle.heap_class.proofs.Acceptance.{no_class, class_limited, bad_name, duplicate_name, field_limited, accepted, slot_count}
use Rattle.heap_class.proofs.class_table.Classes.refusal.Goals as goal

pub returns-then-not-has_super : goal.returns-then-not-has_super
returns-then-not-has_super c a = no_class c.args.limits c.args.self.now _ c.if-not-has_super.ensures

pub returns-then-len-limits : goal.returns-then-len-limits
returns-then-len-limits c a =
    class_limited c.args.limits c.args.self.now _ c.if-not-has_super.ensures (sym (le-leb c.args.limits.classes (length c.args.self.now) (omega (arith, as_many _ _ c.self.invariant.table _ c.self.view_is, c.len.ensures, c.if-len-limits.true))))

pub returns-then-not-are_valid_names : goal.returns-then-not-are_valid_names
unfolding names_in
returns-then-not-are_valid_names c a =
    let room = sym (lt-leb c.args.limits.classes (length c.args.self.now) (omega (arith, as_many _ _ c.self.invariant.table _ c.self.view_is, c.len.ensures, c.if-len-limits.false))) in
    bad_name c.args.limits c.args.self.now _ c.if-not-has_super.ensures room c.if-not-are_valid_names.ensures

pub returns-then-has_duplicate : goal.returns-then-has_duplicate
unfolding names_in
returns-then-has_duplicate c a =
    let room = sym (lt-leb c.args.limits.classes (length c.args.self.now) (omega (arith, as_many _ _ c.self.invariant.table _ c.self.view_is, c.len.ensures, c.if-len-limits.false))) in
    duplicate_name c.args.limits c.args.self.now _ c.if-not-has_super.ensures room c.if-not-are_valid_names.ensures c.if-has_duplicate.ensures

pub returns-then-fields-slots_above : goal.returns-then-fields-slots_above
unfolding names_in
returns-then-fields-slots_above c a =
    let room = sym (lt-leb c.args.limits.classes (length c.args.self.now) (omega (arith, as_many _ _ c.self.invariant.table _ c.self.view_is, c.len.ensures, c.if-len-limits.false))) in
    let class : Class = record { name = c.args.name.now; sup = c.args.sup; fields = c.args.fields.now; is_array = a } in
    let count = slot_count c.args.self.now class c.slots_above.result.now c.slots_above.ensures.value in
    field_limited c.args.limits c.args.self.now class c.if-not-has_super.ensures room c.if-not-are_valid_names.ensures c.if-has_duplicate.ensures
    (sym (lt-ltb slot_limit (length (slots_under (slot_table_after [] c.args.self.now) class)) (omega (arith, count, c.if-fields-slots_above.true, c.slots_above.ensures.limit))))

pub returns : goal.returns
unfolding names_in
returns c a =
    let room = sym (lt-leb c.args.limits.classes (length c.args.self.now) (omega (arith, as_many _ _ c.self.invariant.table _ c.self.view_is, c.len.ensures, c.if-len-limits.false))) in
    let class : Class = record { name = c.args.name.now; sup = c.args.sup; fields = c.args.fields.now; is_array = a } in
    let count = slot_count c.args.self.now class c.slots_above.result.now c.slots_above.ensures.value in
    accepted c.args.limits c.args.self.now class c.if-not-has_super.ensures room c.if-not-are_valid_names.ensures c.if-has_duplicate.ensures
    (sym (le-ltb slot_limit (length (slots_under (slot_table_after [] c.args.self.now) class)) (omega (arith, count, c.if-fields-slots_above.false, c.slots_above.ensures.limit))))
