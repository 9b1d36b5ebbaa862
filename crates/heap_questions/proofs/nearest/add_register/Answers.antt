use Rattle.std.proofs.Common.{◌≡◌, ◌∙◌, ◌+◌, ◌*◌, [], sym, subst, arith}
use Rattle.heap_questions.specs.Distances.{AreNearest, distance_by}
use Rattle.heap_questions.specs.Search.{slot_span}
use Rattle.heap_questions.specs.Starts.{with_starts}
use Rattle.heap_questions.proofs.KnownDistances.{no_start_of_none, starts_past}
use Rattle.heap_questions.proofs.nearest.add_register.Goals as goal

pub add_slots-requires-clause-named : goal.add_slots-requires-clause-named
add_slots-requires-clause-named g c = (c.args.id, c.requires.names, sym c.shown_with.ensures ∙ c.in-Some.is)

pub returns-in-None : goal.returns-in-None
returns-in-None g c =
    let image = g.V.View.image c.args.view.now in
    let starts = c.args.starts.now.items in
    let d = distance_by c.args.nodes.now c.args.table.now in
    let r = c.args.register in
    let begin = subst (λ k. AreNearest d (with_starts image []).registers k c.args.most starts) (let e : r * slot_span ≡ r * slot_span + 0 = omega arith in e) c.requires.nearest in
    subst (λ k. AreNearest d (with_starts image []).registers k c.args.most starts) (let e : r * slot_span + slot_span ≡ (r + 1) * slot_span = omega arith in e)
    (starts_past image (g.V.View.places c.args.view.now) c.args.nodes.now c.args.table.now r 0 slot_span c.args.most starts c.requires.nodes (omega arith) (omega arith)
    (λ t y above below is. no_start_of_none image [] r c.args.id t y c.requires.names (sym c.shown_with.ensures ∙ c.in-None.is) is) begin)
