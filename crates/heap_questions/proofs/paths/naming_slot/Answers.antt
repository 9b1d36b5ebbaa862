use Rattle.std.proofs.Common.{sym, ap, ◌∙◌, subst, length}
use Rattle.std.specs.Prelude.{Some}
use Rattle.hprof_text.specs.Image.{IsKnown}
use Rattle.hprof_text.proofs.Loops.{item_of_list_within}
use Rattle.hprof_text.proofs.ViewedObjects.{object_viewed_at_place, is_there}
use Rattle.heap_questions.proofs.NodePlaces.{node_place}
use Rattle.heap_questions.proofs.WaysBack.{first_naming}
use Rattle.heap_questions.proofs.paths.naming_slot.Goals as goal

pub kind-kind-requires : goal.kind-kind-requires
kind-kind-requires g c =
    let v = c.args.view.now in
    let n = item_of_list_within c.args.nodes.now c.args.node c.requires.node in
    is_there (g.V.View.places v) c.args.node c.place-at.result (node_place (g.V.View.image v) (g.V.View.places v) c.args.nodes.now c.args.node n.0 c.requires.nodes n.1 ∙ ap Some (sym (c.place-at.ensures n.0 n.1)))

pub words-words-requires : goal.words-words-requires
words-words-requires g c =
    let v = c.args.view.now in
    let n = item_of_list_within c.args.nodes.now c.args.node c.requires.node in
    is_there (g.V.View.places v) c.args.node c.place-at.result (node_place (g.V.View.image v) (g.V.View.places v) c.args.nodes.now c.args.node n.0 c.requires.nodes n.1 ∙ ap Some (sym (c.place-at.ensures n.0 n.1)))

pub first_slot_to-requires : goal.first_slot_to-requires
first_slot_to-requires g c =
    let v = c.args.view.now in
    let places = g.V.View.places v in
    let n = item_of_list_within c.args.nodes.now c.args.node c.requires.node in
    let led = node_place (g.V.View.image v) places c.args.nodes.now c.args.node n.0 c.requires.nodes n.1 ∙ ap Some (sym (c.place-at.ensures n.0 n.1)) in
    let h = object_viewed_at_place (g.V.View.image v) places c.args.node c.place-at.result c.kind-kind.result c.words-words.result.now c.classes-classes.ensures.limits c.classes-classes.ensures.placed led (c.kind-kind.ensures c.args.node led) (c.words-words.ensures c.args.node led) in
    subst (λ cs. IsKnown cs c.kind-kind.result (length c.words-words.result.now)) (sym c.classes-classes.ensures.value) h.known

pub returns : goal.returns
returns g c =
    let v = c.args.view.now in
    first_naming (g.V.View.image v) (g.V.View.places v) c.args.nodes.now c.args.node c.args.named c.first_slot_to.result c.id-id.result c.place-at.result c.kind-kind.result c.words-words.result.now c.classes-classes.result
    c.requires.nodes c.requires.node c.requires.named c.place-at.ensures c.id-id.ensures c.classes-classes.ensures.value c.classes-classes.ensures.limits c.classes-classes.ensures.placed c.kind-kind.ensures c.words-words.ensures c.first_slot_to.ensures
