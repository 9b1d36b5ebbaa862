use Rattle.std.proofs.Common.{◌≡◌, ◌≤◌, ◌+◌, ◌*◌, [], length, ap, subst, arith}
use Rattle.heap_questions.specs.Distances.{AreNearest, distance_by}
use Rattle.heap_questions.specs.Search.{slot_span}
use Rattle.heap_questions.specs.Starts.{with_starts}
use Rattle.heap_questions.proofs.KnownDistances.{slots_few, starts_past}
use Rattle.heap_questions.proofs.StartSearch.{no_slot_start}
use Rattle.heap_questions.proofs.nearest.add_slots.Goals as goal

pub returns : goal.returns
returns g c =
    let image = g.V.View.image c.args.view.now in
    let r = c.args.register in
    let o = c.args.object.now in
    let s = c.loop-slot.slot in
    let by = c.requires.named in
    let all : length o.words ≤ s = omega (arith, c.loop-slot-test.false, c.loop-slot.auto.slot-end, ap length c.words-slot-end.ensures) in
    let few : s ≤ slot_span = omega (arith, slots_few image by.0 o c.classes-classes.ensures.limits by.2, c.loop-slot.auto.slot-end, ap length c.words-slot-end.ensures) in
    subst (λ k. AreNearest (distance_by c.args.nodes.now c.args.table.now) (with_starts image []).registers k c.args.most c.loop-slot.starts.items) (let e : r * slot_span + slot_span ≡ (r + 1) * slot_span = omega arith in e)
    (starts_past image (g.V.View.places c.args.view.now) c.args.nodes.now c.args.table.now r s slot_span c.args.most c.loop-slot.starts.items c.requires.nodes few (omega arith)
    (λ t y above below is. no_slot_start image [] r by.0 t y o by.1 by.2 (omega (arith, above, all)) is) c.loop-slot.invariant)
