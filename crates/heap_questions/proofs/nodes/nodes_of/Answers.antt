use Rattle.std.proofs.Common.{length, sym, ap, ◌∙◌, arith}
use Rattle.std.specs.Prelude.{slice_get}
use Rattle.std.proofs.lemmas.List.{length_push}
use Rattle.hprof_text.proofs.ViewedObjects.{is_there, number_after_place_within, no_next_place_is_past_all}
use Rattle.heap_questions.proofs.NodePlaces.{all_nodes, ids_more, places_more}
use Rattle.heap_questions.proofs.nodes.nodes_of.Goals as goal

pub loop-here-preserved : goal.loop-here-preserved
loop-here-preserved g c =
    let v = c.args.view.now in
    let image = g.V.View.image v in
    let places = g.V.View.places v in
    let nodes = c.loop-here.nodes.items in
    let new = c.push.new.self.items in
    let i = length nodes in
    let at = c.in-Some.at in
    let e = sym c.loop-here.invariant.here ∙ c.in-Some.is in
    let n = ap length c.in_ok-push.ensures.items ∙ length_push nodes (record { at = at; id = c.id.result }) in
    let w = number_after_place_within places i at e in
    record {
      here = c.next-here.ensures i e ∙ ap (slice_get places) (sym n);
      ids = ids_more image nodes new at c.id.result (omega (arith, w, c.classes-classes.ensures.placed)) (c.id.ensures i e) c.loop-here.invariant.ids c.in_ok-push.ensures.items;
      places = places_more places nodes new at c.id.result e c.loop-here.invariant.places c.in_ok-push.ensures.items;
      passed = omega (arith, n, w);
    }

pub returns-clause-nodes : goal.returns-clause-nodes
returns-clause-nodes g c =
    let v = c.args.view.now in
    let n = no_next_place_is_past_all (g.V.View.places v) (length c.loop-here.nodes.items) (sym c.in_default.is ∙ c.loop-here.invariant.here) in
    all_nodes (g.V.View.image v) (g.V.View.places v) c.loop-here.nodes.items c.loop-here.invariant.ids c.loop-here.invariant.places n c.classes-classes.ensures.placed

pub id-requires : goal.id-requires
id-requires g c = is_there (g.V.View.places c.args.view.now) (length c.loop-here.nodes.items) c.in-Some.at (sym c.loop-here.invariant.here ∙ c.in-Some.is)
