use Rattle.std.proofs.Common.{◌≡◌, Some, take, ◌∙◌, arith}
use Rattle.std.specs.Prelude.{slice_index_or}
use Rattle.heap_questions.specs.declared.past.seen.SeenSlot.{SeenSlot}
use Rattle.heap_questions.proofs.SeenSlots.{none_shown, sees_here, slot_shown}
use Rattle.heap_questions.proofs.past.seen.slot_of.Goals as goal

pub words-words-requires : goal.words-words-requires
words-words-requires c = sees_here c.requires.0 c.args.world.now c.args.pin.now c.args.at c.requires.1 c.requires.2

pub returns-then-slot-count : goal.returns-then-slot-count
returns-then-slot-count c w shown there = none_shown w c.args.world.now c.args.pin.now c.args.at c.args.slot c.words-words.result.now shown there c.words-words.ensures c.if-slot-count.true

pub kind-requires : goal.kind-requires
kind-requires c = sees_here c.requires.0 c.args.world.now c.args.pin.now c.args.at c.requires.1 c.requires.2

pub is_reference_slot-refers-requires-clause-known : goal.is_reference_slot-refers-requires-clause-known
is_reference_slot-refers-requires-clause-known c =
    let classes : c.first-classes.result ≡ take c.args.pin.now.classes c.args.world.now.classes = c.first-classes.ensures ∙ (λ i. take (c.classes-2.ensures i) (c.classes.ensures i)) in
    (slot_shown c.requires.0 c.args.world.now c.args.pin.now c.args.at c.args.slot c.words-words.result.now c.kind.result c.first-classes.result c.requires.1 c.requires.2
    c.words-words.ensures c.kind.ensures classes (omega (arith, c.if-slot-count.false))).known

pub returns : goal.returns
returns c w shown there =
    let classes : c.first-classes.result ≡ take c.args.pin.now.classes c.args.world.now.classes = c.first-classes.ensures ∙ (λ i. take (c.classes-2.ensures i) (c.classes.ensures i)) in
    let s = slot_shown w c.args.world.now c.args.pin.now c.args.at c.args.slot c.words-words.result.now c.kind.result c.first-classes.result shown there
    c.words-words.ensures c.kind.ensures classes (omega (arith, c.if-slot-count.false)) in
    (λ i. let x : SeenSlot = record { word = slice_index_or c.words-words.result.now c.args.slot 0; refers = c.is_reference_slot-refers.ensures i } in Some x) ∙ s.seen
