use Rattle.std.proofs.Common.{◌≡◌, ◌∙◌, take, sym, ap, subst}
use Rattle.std.specs.Prelude.{nat_lt}
use Rattle.std.specs.List.{insert, position_or_len}
use Rattle.heap_questions.specs.Distances.{AreInOrder}
use Rattle.heap_questions.specs.declared.nearest.Start.{Start}
use Rattle.heap_questions.proofs.NearestStarts.{put_at_place}
use Rattle.heap_questions.proofs.nearest.place.Goals as goal

pub first_farther-at-requires : goal.first_farther-at-requires
first_farther-at-requires c = subst AreInOrder (sym c.as_slice.ensures.value) c.requires

pub returns : goal.returns
returns c =
    let b = c.args.start in
    let starts = c.args.starts.now.items in
    let farther : Start → _ = λ (x : Start). nat_lt b.distance x.distance in
    let at : c.first_farther-at.result ≡ position_or_len farther starts = c.first_farther-at.ensures.place ∙ ap (position_or_len farther) c.as_slice.ensures.value in
    c.truncate.ensures.items ∙ ap (take c.args.most) (c.in_ok-insert.ensures.items ∙ ap (λ k. insert starts k b) at ∙ put_at_place b starts)
