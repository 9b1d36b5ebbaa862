use Rattle.std.proofs.Common.{◌≡◌, ◌∙◌, ◌+◌, ◌-◌, ◌<◌, ℕ, Option, ap, arith, length, subst, sym}
use Rattle.std.specs.Prelude.{IfSome}
use Rattle.question_grammar.specs.NameWords.{slot_named}
use Rattle.question_words.proofs.FieldsAbove.{bound_may_grow}
use Rattle.question_grammar.proofs.NameWords.{slot_above, slot_here, up_end, up_none}
use Rattle.question_grammar.proofs.name_words.slot_up.Goals as goal

pub returns-in_default : goal.returns-in_default
unfolding slot_named
returns-in_default c =
    let cs = c.args.classes.now in
    sym (sym c.loop-depth.invariant.found ∙ up_none cs c.args.name.now c.loop-depth.first (length cs - c.loop-depth.depth) c.loop-depth.here c.in_default.is)

pub returns-in-Some-field_named : goal.returns-in-Some-field_named
unfolding slot_named
returns-in-Some-field_named c =
    let cs = c.args.classes.now in
    let n = length cs - c.loop-depth.depth in
    let m = length cs - (c.loop-depth.depth + 1) in
    let next : n ≡ m + 1 = omega (arith, c.loop-depth-test.true, c.len-depth-end.ensures.value) in
    sym
    (sym c.loop-depth.invariant.found
    ∙ slot_here cs c.args.name.now c.loop-depth.first n m c.in-Some.above c.in-Some-field_named.slot c.loop-depth.here c.field_named.result next c.in-Some.is c.field_named.ensures c.in-Some-field_named.is)

pub loop-depth-preserved : goal.loop-depth-preserved
loop-depth-preserved c =
    let cs = c.args.classes.now in
    let n = length cs - c.loop-depth.depth in
    let m = length cs - (c.loop-depth.depth + 1) in
    let a = c.in-Some.above in
    let next : n ≡ m + 1 = omega (arith, c.loop-depth-test.true, c.len-depth-end.ensures.value) in
    let there : a < length cs = subst (λ (o : Option ℕ). IfSome o (λ k. k < length cs)) c.in-Some.is c.loop-depth.invariant.there in
    record {
      there = bound_may_grow c.sup-here.result a (length cs) c.sup-here.ensures.before there;
      few = omega (arith, c.loop-depth.invariant.few, c.field_count-first.ensures.limit);
      found = slot_above cs c.args.name.now c.loop-depth.first (c.loop-depth.first + c.field_count-first.result) n m a c.loop-depth.here c.field_named.result c.sup-here.result next c.in-Some.is c.field_named.ensures c.in_default-field_named.is (ap (λ (i : ℕ). c.loop-depth.first + i) c.field_count-first.ensures.value) c.sup-here.ensures.value
          ∙ c.loop-depth.invariant.found;
    }

pub returns : goal.returns
unfolding slot_named
returns c =
    let cs = c.args.classes.now in
    sym (sym c.loop-depth.invariant.found ∙ up_end cs c.args.name.now c.loop-depth.first (length cs - c.loop-depth.depth) c.loop-depth.here (omega (arith, c.loop-depth-test.false, c.len-depth-end.ensures.value)))
