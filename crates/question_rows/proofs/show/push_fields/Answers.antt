use Rattle.std.proofs.Common.{◌≡◌, ◌∙◌, ◌+◌, ◌-◌, ◌<◌, ◌++◌, List, [], Option, ℕ, ap, append_assoc, arith, drop, length, subst, sym}
use Rattle.std.specs.Prelude.{IfSome}
use Rattle.std.proofs.lemmas.List.{append-nil, drop_all}
use Rattle.heap_class.specs.Classes.{fields_of, sup_of}
use Rattle.question_rows.specs.Objects.{field_rows, rows_joined}
use Rattle.question_words.specs.Names.{fields_up}
use Rattle.question_words.proofs.FieldsAbove.{fields_none, bound_may_grow}
use Rattle.question_rows.proofs.FieldRows.{part_of_class}
use Rattle.question_rows.proofs.show.push_fields.Goals as goal

pub returns-in_default : goal.returns-in_default
returns-in_default c =
    let cs = c.args.classes.now in
    let words = c.args.words.now in
    let n = length cs - c.loop-depth.depth in
    let f = c.loop-depth.first in
    let items = c.loop-depth.text.items in
    let k = c.args.from - f in
    let e = ap (λ (o : Option ℕ). field_rows f (fields_up cs n o) (drop f words)) c.in_default.is ∙ ap (λ fs. field_rows f fs (drop f words)) (fields_none cs n) in
    let none = ap (drop k) e ∙ drop_all k [] (omega arith) in
    sym (ap (λ (rows : List (List ℕ)). items ++ rows_joined rows) none ∙ append-nil items) ∙ c.loop-depth.invariant.lines

pub loop-depth-preserved : goal.loop-depth-preserved
loop-depth-preserved c =
    let cs = c.args.classes.now in
    let words = c.args.words.now in
    let n = length cs - c.loop-depth.depth in
    let m = length cs - (c.loop-depth.depth + 1) in
    let f = c.loop-depth.first in
    let a = c.in-Some.above in
    let own = c.own_count.result in
    let items = c.loop-depth.text.items in
    let there : a < length cs = subst (λ (o : Option ℕ). IfSome o (λ k. k < length cs)) c.in-Some.is c.loop-depth.invariant.there in
    let k = c.saturating_sub-skipped.result in
    let same : k ≡ c.args.from - f = omega (arith, c.saturating_sub-skipped.ensures) in
    let j = c.args.from - (f + own) in
    let mid = rows_joined (drop k (field_rows f (fields_of cs a) (drop f words))) in
    let rest = rows_joined (drop j (field_rows (f + own) (fields_up cs m (sup_of cs a)) (drop (f + own) words))) in
    let next : n ≡ m + 1 = omega (arith, c.loop-depth-test.true, c.len-depth-end.ensures.value) in
    record {
      there = bound_may_grow c.sup-here.result a (length cs) c.sup-here.ensures.before there;
      within = omega (arith, c.own_count.ensures, c.loop-depth.invariant.within);
      lines = ap (λ (o : Option ℕ). c.push_own.new.text.items ++ rows_joined (drop j (field_rows (f + own) (fields_up cs m o) (drop (f + own) words)))) c.sup-here.ensures.value
          ∙ ap (λ (t : List ℕ). t ++ rest) c.in_ok-push_own.ensures
          ∙ append_assoc items mid rest
          ∙ ap (λ (t : List ℕ). items ++ t) (sym (part_of_class cs n m a f own k j words next c.own_count.ensures (omega arith)))
          ∙ ap (λ (o : Option ℕ). items ++ rows_joined (drop k (field_rows f (fields_up cs n o) (drop f words)))) (sym c.in-Some.is)
          ∙ ap (λ i. items ++ rows_joined (drop i (field_rows f (fields_up cs n c.loop-depth.here) (drop f words)))) same
          ∙ c.loop-depth.invariant.lines;
    }
