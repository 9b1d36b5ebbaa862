use Rattle.std.proofs.Common.{◌≡◌, ◌∙◌, ◌+◌, ◌-◌, ◌<◌, ℕ, Option, arith, length, refl, subst, sym}
use Rattle.std.specs.Prelude.{IfSome}
use Rattle.question_rows.specs.Trees.{slot_name}
use Rattle.question_words.proofs.FieldsAbove.{bound_may_grow}
use Rattle.question_rows.proofs.SlotNames.{name_above, no_class_left, no_name, own_name}
use Rattle.question_rows.proofs.tree.slot_name.Goals as goal

pub returns-in_default : goal.returns-in_default
unfolding slot_name
returns-in_default c =
    let cs = c.args.classes.now in
    sym (sym c.loop-depth.invariant.name ∙ no_name cs (length cs - c.loop-depth.depth) c.loop-depth.left c.loop-depth.here c.in_default.is)

pub returns-then-left-own : goal.returns-then-left-own
unfolding slot_name
returns-then-left-own c =
    let cs = c.args.classes.now in
    let n = length cs - c.loop-depth.depth in
    let m = length cs - (c.loop-depth.depth + 1) in
    let next : n ≡ m + 1 = omega (arith, c.loop-depth-test.true, c.len-depth-end.ensures.value) in
    sym (own_name cs n m c.in-Some.above c.loop-depth.left c.loop-depth.here c.field_name.result.now next c.in-Some.is (omega (arith, c.if-left-own.true, c.field_count-own.ensures.value)) c.field_name.ensures) ∙ c.loop-depth.invariant.name

pub loop-depth-preserved : goal.loop-depth-preserved
loop-depth-preserved c =
    let cs = c.args.classes.now in
    let n = length cs - c.loop-depth.depth in
    let m = length cs - (c.loop-depth.depth + 1) in
    let a = c.in-Some.above in
    let next : n ≡ m + 1 = omega (arith, c.loop-depth-test.true, c.len-depth-end.ensures.value) in
    let there : a < length cs = subst (λ (o : Option ℕ). IfSome o (λ k. k < length cs)) c.in-Some.is c.loop-depth.invariant.there in
    let own = c.field_count-own.result in
    record {
      there = bound_may_grow c.sup-here.result a (length cs) c.sup-here.ensures.before there;
      name = name_above cs n m a c.loop-depth.left (c.loop-depth.left - own) own c.loop-depth.here c.sup-here.result next c.in-Some.is c.field_count-own.ensures.value (omega (arith, c.if-left-own.false)) refl c.sup-here.ensures.value ∙ c.loop-depth.invariant.name;
    }

pub returns : goal.returns
unfolding slot_name
returns c =
    let cs = c.args.classes.now in
    sym (sym c.loop-depth.invariant.name ∙ no_class_left cs (length cs - c.loop-depth.depth) c.loop-depth.left c.loop-depth.here (omega (arith, c.loop-depth-test.false, c.len-depth-end.ensures.value)))
