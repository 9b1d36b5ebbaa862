use Rattle.std.proofs.Common.{List, ◌≡◌, Some, get_or, length, ap, ◌∙◌, subst, arith}
use Rattle.std.specs.Prelude.{IfSome}
use Rattle.heap_region.specs.Regions.{Region, object_at}
use Rattle.heap_world.specs.State.{HeapState}
use Rattle.heap_questions.specs.declared.past.seen.SeenSlot.{SeenSlot}
use Rattle.heap_questions.proofs.SeenSlots.{known_now, none_now, seen_now}
use Rattle.heap_questions.proofs.Walk.{regions_now}
use Rattle.heap_questions.proofs.past.seen.slot_now.Goals as goal

pub returns-then-slot-count : goal.returns-then-slot-count
returns-then-slot-count c =
    let rs = regions_now _ _ _ c.regions-regions.ensures c.world-world.ensures.value in
    none_now c.args.machine.now.trail.current c.args.at c.args.slot c.len-count.result c.requires
    (subst (λ (r : List Region). IfSome (object_at r c.args.at) (λ o. c.len-count.result ≡ length o.words)) rs c.len-count.ensures.value) (omega (arith, c.if-slot-count.true))

pub is_reference_slot-refers-requires-clause-known : goal.is_reference_slot-refers-requires-clause-known
is_reference_slot-refers-requires-clause-known c =
    let rs = regions_now _ _ _ c.regions-regions.ensures c.world-world.ensures.value in
    let classes = c.all-classes.ensures ∙ c.classes.ensures ∙ ap (λ (v : HeapState). v.classes) c.world-world.ensures.value in
    known_now c.args.machine.now.trail.current c.args.at c.args.slot c.len-count.result c.kind.result _ c.world-world.ensures.legal c.requires
    (subst (λ (r : List Region). IfSome (object_at r c.args.at) (λ o. c.len-count.result ≡ length o.words)) rs c.len-count.ensures.value)
    (subst (λ (r : List Region). IfSome (object_at r c.args.at) (λ o. c.kind.result ≡ o.kind)) rs c.kind.ensures)
    (omega (arith, c.if-slot-count.false)) classes

pub returns : goal.returns
returns c =
    let rs = regions_now _ _ _ c.regions-regions.ensures c.world-world.ensures.value in
    let classes = c.all-classes.ensures ∙ c.classes.ensures ∙ ap (λ (v : HeapState). v.classes) c.world-world.ensures.value in
    (λ i. let x : SeenSlot = record { word = c.word.result; refers = c.is_reference_slot-refers.ensures i } in Some x)
    ∙ seen_now c.args.machine.now.trail.current c.args.at c.args.slot c.len-count.result c.word.result c.kind.result _ c.world-world.ensures.legal c.requires
    (subst (λ (r : List Region). IfSome (object_at r c.args.at) (λ o. c.len-count.result ≡ length o.words)) rs c.len-count.ensures.value)
    (subst (λ (r : List Region). IfSome (object_at r c.args.at) (λ o. c.kind.result ≡ o.kind)) rs c.kind.ensures)
    (subst (λ (r : List Region). IfSome (object_at r c.args.at) (λ o. c.word.result ≡ get_or o.words c.args.slot 0)) rs c.word.ensures)
    (omega (arith, c.if-slot-count.false)) classes
