use Rattle.std.proofs.Common.{◌<◌, ◌+◌, ◌*◌, [], get_or, refl, sym, ap, subst, arith}
use Rattle.std.proofs.lemmas.Result.{on_ok_weaker}
use Rattle.std.proofs.lemmas.Option.{slice_get_within}
use Rattle.heap_questions.specs.Distances.{AreNearest, distance_by, far}
use Rattle.heap_questions.specs.Search.{slot_span}
use Rattle.heap_questions.specs.Starts.{with_starts}
use Rattle.heap_questions.specs.declared.nearest.Start.{Start}
use Rattle.heap_questions.proofs.KnownDistances.{known_object, slot_small, start_far, start_here}
use Rattle.heap_questions.proofs.nearest.add_slot.Goals as goal

pub distance_along-distance-requires-clause-known : goal.distance_along-distance-requires-clause-known
distance_along-distance-requires-clause-known g c =
    let by = c.requires.named in
    known_object (g.V.View.image c.args.view.now) c.classes-classes.result by.0 c.args.object.now c.classes-classes.ensures.limits c.classes-classes.ensures.value by.2

pub returns-then-distance : goal.returns-then-distance
returns-then-distance g c =
    let image = g.V.View.image c.args.view.now in
    let by = c.requires.named in
    let small = slot_small image by.0 c.args.slot c.args.object.now c.classes-classes.ensures.limits by.2 c.requires.slot in
    start_far image (g.V.View.places c.args.view.now) c.args.nodes.now c.args.table.now c.classes-classes.result c.args.register c.args.slot c.args.most c.distance_along-distance.result c.args.object.now c.args.starts.now.items
    c.requires.nodes small by c.classes-classes.ensures.value c.distance_along-distance.ensures c.if-distance.true c.requires.nearest

pub start_number-number-requires-clause-register : goal.start_number-number-requires-clause-register
start_number-number-requires-clause-register g c =
    let by = c.requires.named in
    let within = slice_get_within (g.V.View.image c.args.view.now).registers c.args.register by.0 by.1 in
    let few = c.classes-classes.ensures.limits.few_registers in
    omega (arith, within, few)

pub start_number-number-requires-clause-slot : goal.start_number-number-requires-clause-slot
start_number-number-requires-clause-slot g c =
    let by = c.requires.named in
    slot_small (g.V.View.image c.args.view.now) by.0 c.args.slot c.args.object.now c.classes-classes.ensures.limits by.2 c.requires.slot

pub returns : goal.returns
returns g c =
    let image = g.V.View.image c.args.view.now in
    let d = distance_by c.args.nodes.now c.args.table.now in
    let by = c.requires.named in
    let o = c.args.object.now in
    let r = c.args.register in
    let s = c.args.slot in
    let distance = c.distance_along-distance.result in
    let old = c.args.starts.now.items in
    let small = slot_small image by.0 s o c.classes-classes.ensures.limits by.2 c.requires.slot in
    let less : distance < far = omega (arith, c.if-distance.false, c.distance_along-distance.type_inv) in
    let new : Start = record { number = c.start_number-number.result; id = get_or c.words.result.now s 0; distance = distance } in
    let starts = start_here image c.args.nodes.now c.args.table.now c.classes-classes.result r s c.args.most distance o old new small c.requires.slot by c.classes-classes.ensures.value c.distance_along-distance.ensures
    less c.start_number-number.ensures (ap (λ ws. get_or ws s 0) c.words.ensures) refl c.requires.nearest in
    on_ok_weaker c.place.result (λ e. subst (AreNearest d (with_starts image []).registers (r * slot_span + s + 1) c.args.most) (sym e) starts) c.place.ensures
