use Rattle.std.proofs.Common.{◌∙◌, ◌<◌, ap, sym, arith}
use Rattle.std.specs.Str.{bytes_eq}
use Rattle.heap_class.specs.Kinds.{kind_word}
use Rattle.session_grammar.specs.Grammar.{all_kinds}
use Rattle.session_grammar.proofs.Numbers.{find_past_failing_item}
use Rattle.question_grammar.proofs.class_event.kind_of.Goals as goal

pub loop-kind-preserved : goal.loop-kind-preserved
loop-kind-preserved c =
    let lt : c.loop-kind.kind-index < 9 = omega arith in
    let fails = ap (λ l. bytes_eq l c.args.word.now) (sym (c.as_bytes.ensures.value ∙ c.word.ensures)) ∙ sym c.eq.ensures ∙ c.if-eq.false in
    c.loop-kind.invariant ∙ find_past_failing_item (λ k. bytes_eq (kind_word k) c.args.word.now) all_kinds c.loop-kind.kind-index _ lt fails
