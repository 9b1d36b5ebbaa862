use Rattle.std.proofs.Common.{◌≡◌, ◌≢◌, ◌<◌, ◌≤◌, ◌∙◌, ◌+◌, ℕ, List, eqb-true, get_or, length, sym, ap, arith}
use Rattle.std.proofs.lemmas.Bool.{eqb-false}
use Rattle.heap_questions.specs.Distances.{distance_by}
use Rattle.heap_questions.specs.Graph.{slot_names}
use Rattle.heap_questions.proofs.KnownDistances.{nearer_found, nearer_past, none_nearer}
use Rattle.heap_questions.proofs.ways.nearer_along.Goals as goal

pub loop-slot-init : goal.loop-slot-init
loop-slot-init c = λ t z l. absurd (omega (arith, l))

pub loop-slot-preserved : goal.loop-slot-preserved
loop-slot-preserved c =
    let differs : c.distance_along.result + 1 ≢ c.args.left = eqb-false (c.distance_along.result + 1) c.args.left (sym c.is_nearer.ensures ∙ c.if-is_nearer.false) in
    nearer_past (distance_by c.args.nodes.now c.args.table.now) (slot_names c.args.classes.now c.args.object.now) c.args.left c.loop-slot.slot c.distance_along.result c.distance_along.ensures differs c.loop-slot.invariant

pub returns-then-is_nearer : goal.returns-then-is_nearer
returns-then-is_nearer c =
    let s = c.loop-slot.slot in
    let words = c.words-words.result.now in
    let step : c.distance_along.result + 1 ≡ c.args.left = eqb-true (c.distance_along.result + 1) c.args.left (sym c.is_nearer.ensures ∙ c.if-is_nearer.true) in
    let within : s < length c.args.object.now.words = omega (arith, c.loop-slot-test.true, ap length c.words-words.ensures) in
    nearer_found (distance_by c.args.nodes.now c.args.table.now) c.args.classes.now c.args.object.now c.args.left s (get_or words s 0) c.distance_along.result within c.requires.near (ap (λ (l : List ℕ). get_or l s 0) c.words-words.ensures) c.distance_along.ensures step c.loop-slot.invariant

pub returns : goal.returns
returns c =
    let all : length c.args.object.now.words ≤ c.loop-slot.slot = omega (arith, c.loop-slot-test.false, c.loop-slot.auto.slot-end, ap length c.words-words.ensures) in
    none_nearer (distance_by c.args.nodes.now c.args.table.now) c.args.classes.now c.args.object.now c.args.left c.loop-slot.slot all c.loop-slot.invariant
