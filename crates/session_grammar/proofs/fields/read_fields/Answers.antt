use Rattle.std.proofs.Common.{◌≡◌, ◌∙◌, ◌+◌, ◌-◌, ap, sym, arith, length, take, drop, Some}
use Rattle.session_grammar.proofs.FieldSpans.{rest_of_rest, spans_longer_by_one, spans_within_with_one_more, field_spans_one_further}
use Rattle.session_grammar.proofs.fields.read_fields.Goals as goal

pub loop-rest-preserved : goal.loop-rest-preserved
loop-rest-preserved c =
    let i = c.loop-rest.invariant in
    let text = c.args.words in
    let rest = c.front.new.self in
    let here = rest_of_rest text c.loop-rest.words rest i.0 c.front.ensures.rest in
    let t = c.in-Some.rest.now in
    let same : t ≡ rest = c.in-Some.ensures.front.0 in
    let size : length t ≡ length rest = ap length same in
    let long = c.in-Some-field_at.ensures.long in
    let within = c.in-Some-field_at.ensures.within in
    let whole : length c.rest-size.result.now ≡ length text = ap length c.rest-size.ensures in
    let start : drop (length c.rest-size.result.now - length t) text ≡ t = (λ k. drop (whole k - size k) text) ∙ sym here.1 ∙ sym same in
    let f = c.in-Some-field_at.field in (
      rest_of_rest text rest c.pass.new.self here c.pass.ensures.rest,
      omega (arith, spans_longer_by_one c.loop-rest.spans c.push.new.self _ c.push.ensures, i.1, c.pass.ensures.shorter, long, c.front.ensures.rest.0),
      spans_within_with_one_more text c.loop-rest.spans c.push.new.self _ c.push.ensures (omega (arith, long, within, size, here.0, whole)) i.2,
      i.3 ∙ field_spans_one_further text t c.pass.new.self _ c.loop-rest.spans c.push.new.self _ f.whole (ap (λ l. Some (record { name = take f.name l; kind = f.kind }, f.whole)) start ∙ c.in-Some-field_at.ensures.value) (c.pass.ensures.next ∙ ap (λ l. drop (f.whole + 1) l) (sym same)) c.push.ensures c.in-Some.ensures.front.1,
    )
