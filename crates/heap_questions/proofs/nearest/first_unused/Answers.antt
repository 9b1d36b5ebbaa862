use Rattle.std.proofs.Common.{◌≡◌, ◌∙◌, ◌<◌, ◌/◌, ◌%◌, Bool, length, sym, ap, arith}
use Rattle.std.specs.Prelude.{not, slice_get}
use Rattle.std.specs.List.{list_any, position_or_len}
use Rattle.std.proofs.lemmas.List.Folds.{find_at}
use Rattle.std.proofs.lemmas.List.Sums.{position_or_len_is}
use Rattle.std.proofs.lemmas.Option.{slice_get-get_or, slice_get_past}
use Rattle.heap_questions.specs.PathsApart.{route_of}
use Rattle.heap_questions.specs.Search.{slot_span}
use Rattle.heap_questions.specs.Starts.{starts_by}
use Rattle.heap_questions.specs.declared.nearest.Start.{Start}
use Rattle.heap_questions.proofs.nearest.first_unused.Goals as goal

pub returns-then-not-is_used : goal.returns-then-not-is_used
returns-then-not-is_used c =
    let starts = c.args.starts.now in
    let place = c.loop-place.place in
    let some : Start = record { number = 0; id = 0; distance = 0 } in
    let unused : Start → Bool = λ (b : Start). not (list_any (λ p. starts_by (b.number / slot_span) (b.number % slot_span) (route_of p)) c.args.paths.now) in
    let within : place < length starts = omega arith in
    let at : position_or_len unused starts ≡ place = position_or_len_is unused starts place some (omega (arith, within)) (λ k l. ap not (c.loop-place.invariant k l some)) (λ _. ap not (sym c.is_used.ensures ∙ c.if-not-is_used.true)) in
    sym (find_at unused starts ∙ ap (slice_get starts) at ∙ slice_get-get_or starts place some within)

pub returns : goal.returns
returns c =
    let starts = c.args.starts.now in
    let some : Start = record { number = 0; id = 0; distance = 0 } in
    let unused : Start → Bool = λ (b : Start). not (list_any (λ p. starts_by (b.number / slot_span) (b.number % slot_span) (route_of p)) c.args.paths.now) in
    let at : position_or_len unused starts ≡ length starts = position_or_len_is unused starts (length starts) some (omega arith) (λ k l. ap not (c.loop-place.invariant k (omega (arith, l)) some)) (λ l. absurd (omega (arith, l))) in
    sym (find_at unused starts ∙ slice_get_past starts (position_or_len unused starts) (omega (arith, at)))
