use Rattle.std.proofs.Common.{sym, ap, ◌∙◌}
use Rattle.std.specs.Prelude.{Some}
use Rattle.hprof_text.proofs.Loops.{item_of_list_within}
use Rattle.hprof_text.proofs.ViewedObjects.{is_there}
use Rattle.heap_questions.proofs.NodePlaces.{node_place}
use Rattle.heap_questions.proofs.ahead.first_word.Goals as goal

pub words-requires : goal.words-requires
words-requires g c =
    let nodes = c.args.nodes.now in
    let node = c.args.node in
    let n = item_of_list_within nodes node c.requires.within in
    let placed = node_place (g.V.View.image c.args.view.now) (g.V.View.places c.args.view.now) nodes node n.0 c.requires.nodes n.1 in
    is_there (g.V.View.places c.args.view.now) node c.place.result (placed ∙ ap Some (sym (c.place.ensures n.0 n.1)))
