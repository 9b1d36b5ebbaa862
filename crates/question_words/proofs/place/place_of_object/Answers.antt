use Rattle.std.proofs.Common.{◌≡◌, ◌∙◌, List, Some, None, ap, subst}
use Rattle.std.specs.Prelude.{IsSome, MatchOption}
use Rattle.heap_world.specs.Pool.{RegionPool}
use Rattle.heap_world.specs.Regions.{Region, object_at, object_of, ref_of}
use Rattle.heap_world.specs.State.{HeapState}
use Rattle.question_words.proofs.place.place_of_object.Goals as goal

pub returns : goal.returns
returns c =
    let e = ap (λ (s : RegionPool). s.regions) c.regions.ensures ∙ ap (λ (w : HeapState). w.regions) c.world.ensures.value in
    subst (λ (rs : List Region). MatchOption c.find.result (object_of rs c.args.id ≡ None) (λ at. (ref_of rs c.args.id ≡ Some at) × IsSome (object_at rs at))) e c.find.ensures
