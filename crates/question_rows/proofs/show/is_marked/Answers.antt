use Rattle.std.proofs.Common.{◌≡◌, ◌∙◌, List, ap, subst, sym}
use Rattle.std.specs.Prelude.{IfSome, IsSome}
use Rattle.heap_world.specs.Pool.{RegionPool}
use Rattle.heap_world.specs.Regions.{Region, object_at}
use Rattle.heap_world.specs.State.{HeapState}
use Rattle.question_rows.proofs.Slots.{mark_there, mark_none}
use Rattle.question_rows.proofs.show.is_marked.Goals as goal

pub bits-requires : goal.bits-requires
bits-requires c =
    let e = ap (λ (s : RegionPool). s.regions) c.regions.ensures ∙ ap (λ (w : HeapState). w.regions) c.world.ensures.value in
    subst (λ (rs : List Region). IsSome (object_at rs c.in-Some.at)) (sym e) c.in-Some.ensures.1

pub returns-in-Some : goal.returns-in-Some
returns-in-Some c =
    let e = ap (λ (s : RegionPool). s.regions) c.regions.ensures ∙ ap (λ (w : HeapState). w.regions) c.world.ensures.value in
    mark_there c.args.machine.now.trail.current c.args.id c.in-Some.at c.bits.result.1 c.bits.result.0 c.in-Some.ensures
    (subst (λ (rs : List Region). IfSome (object_at rs c.in-Some.at) (λ o. (c.bits.result.0 ≡ o.live) × (c.bits.result.1 ≡ o.mark))) e c.bits.ensures)

pub returns-in-None : goal.returns-in-None
returns-in-None c = mark_none c.args.machine.now.trail.current c.args.id c.in-None.ensures
