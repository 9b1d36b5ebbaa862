use Rattle.std.proofs.Common.{◌≡◌, ◌∙◌, List, Some, None, ap, subst, sym}
use Rattle.std.specs.Prelude.{IfSome, IsSome}
use Rattle.heap_region.specs.Pool.{RegionPool}
use Rattle.heap_world.specs.Regions.{Region, object_at, object_of, ref_of}
use Rattle.question_grammar.proofs.NameWords.{class_none, class_there}
use Rattle.question_grammar.proofs.name_words.class_of_id.Goals as goal

pub returns-in-Some : goal.returns-in-Some
returns-in-Some c =
    let e = ap (λ (s : RegionPool). s.regions) c.regions-regions.ensures in
    let there = subst (λ (rs : List Region). (ref_of rs c.args.id ≡ Some c.in-Some.at) × IsSome (object_at rs c.in-Some.at)) e c.in-Some.ensures in
    let kind = subst (λ (rs : List Region). IfSome (object_at rs c.in-Some.at) (λ o. c.kind.result ≡ o.kind)) e c.kind.ensures in
    c.class_of_kind.ensures ∙ sym (class_there c.args.world.now c.args.id c.in-Some.at c.kind.result there kind)

pub returns-in-None : goal.returns-in-None
returns-in-None c =
    let e = ap (λ (s : RegionPool). s.regions) c.regions-regions.ensures in
    sym (class_none c.args.world.now c.args.id (subst (λ (rs : List Region). object_of rs c.args.id ≡ None) e c.in-None.ensures))
