use Rattle.std.proofs.Common.{◌≡◌, ◌<◌, ◌+◌, ◌*◌, ℕ, List, length, map, get_or, refl, sym, ap, ap₂, ◌∙◌, subst, inl, inr, arith}
use Rattle.std.specs.List.{list_any}
use Rattle.std.proofs.lemmas.List.{get_or_default}
use Rattle.std.proofs.lemmas.Option.{slice_get_within}
use Rattle.hprof_text.specs.Image.{IsKnown}
use Rattle.hprof_text.proofs.ViewedObjects.{is_there}
use Rattle.heap_questions.specs.Graph.{slot_refers}
use Rattle.heap_questions.specs.PathsApart.{route_of}
use Rattle.heap_questions.specs.Search.{slot_span}
use Rattle.heap_questions.specs.Starts.{starts_by}
use Rattle.heap_questions.specs.declared.search.Reach.{Reach}
use Rattle.heap_questions.proofs.Looking.{named_is, slot_is}
use Rattle.heap_questions.proofs.NodePlaces.{node_within}
use Rattle.heap_questions.proofs.PathStarts.{any_route}
use Rattle.heap_questions.proofs.Starting.{IsStart}
use Rattle.heap_questions.proofs.StartSearch.{begun_as, begun_more, begun_past, is_free, is_not_free, no_reference_start, no_slot_start, node_led, node_read, used_start}
use Rattle.heap_questions.proofs.starts.find_slots.Goals.{then-is_free_start+in_ok-offer, else-is_free_start}
use Rattle.heap_questions.proofs.starts.find_slots.Goals as goal

pub place-at-requires : goal.place-at-requires
place-at-requires g c = node_within c.args.nodes.now c.requires.node.0 c.args.node c.requires.node.2

pub kind-kind-requires : goal.kind-kind-requires
kind-kind-requires g c =
    let v = c.args.view.now in
    let image = g.V.View.image v in
    let places = g.V.View.places v in
    let nodes = c.args.nodes.now in
    let node = c.requires.node in
    is_there places c.args.node c.place-at.result (node_led image places nodes node.0 c.args.node c.place-at.result c.requires.nodes node.2 c.place-at.ensures)

pub words-words-requires : goal.words-words-requires
words-words-requires g c =
    let v = c.args.view.now in
    let image = g.V.View.image v in
    let places = g.V.View.places v in
    let nodes = c.args.nodes.now in
    let node = c.requires.node in
    is_there places c.args.node c.place-at.result (node_led image places nodes node.0 c.args.node c.place-at.result c.requires.nodes node.2 c.place-at.ensures)

pub is_free_start-requires-clause-known : goal.is_free_start-requires-clause-known
is_free_start-requires-clause-known g c =
    let v = c.args.view.now in
    let image = g.V.View.image v in
    let places = g.V.View.places v in
    let nodes = c.args.nodes.now in
    let node = c.requires.node in
    let r = node_read image places nodes node.0 c.args.node c.place-at.result c.kind-kind.result c.words-words.result.now c.requires.nodes node.2 c.place-at.ensures
    c.classes-classes.ensures.limits c.classes-classes.ensures.placed c.kind-kind.ensures c.words-words.ensures in
    subst (λ cs. IsKnown cs c.kind-kind.result (length c.words-words.result.now)) (sym c.classes-classes.ensures.value) r.known

pub start_number-requires-clause-register : goal.start_number-requires-clause-register
start_number-requires-clause-register g c =
    let node = c.requires.node in
    let within = slice_get_within (g.V.View.image c.args.view.now).registers c.args.register node.0 node.1 in
    let few = c.classes-classes.ensures.limits.few_registers in
    omega (arith, within, few)

pub start_number-requires-clause-slot : goal.start_number-requires-clause-slot
start_number-requires-clause-slot g c =
    let v = c.args.view.now in
    let image = g.V.View.image v in
    let places = g.V.View.places v in
    let nodes = c.args.nodes.now in
    let node = c.requires.node in
    let r = node_read image places nodes node.0 c.args.node c.place-at.result c.kind-kind.result c.words-words.result.now c.requires.nodes node.2 c.place-at.ensures
    c.classes-classes.ensures.limits c.classes-classes.ensures.placed c.kind-kind.ensures c.words-words.ensures in
    let small = r.small in
    omega (arith, small)

pub offer-requires-clause-many : goal.offer-requires-clause-many
offer-requires-clause-many g c = c.loop-slot.invariant.rooting.search.as_many

pub loop-slot-preserved : goal.loop-slot-preserved
loop-slot-preserved g c =
    let v = c.args.view.now in
    let image = g.V.View.image v in
    let places = g.V.View.places v in
    let nodes = c.args.nodes.now in
    let node = c.requires.node in
    let r = node_read image places nodes node.0 c.args.node c.place-at.result c.kind-kind.result c.words-words.result.now c.requires.nodes node.2 c.place-at.ensures
    c.classes-classes.ensures.limits c.classes-classes.ensures.placed c.kind-kind.ensures c.words-words.ensures in
    let earlier = map route_of c.args.paths.now in
    let register = c.args.register in
    let s = c.loop-slot.slot in
    let words = c.words-words.result.now in
    let lt : s < length words = omega arith in
    let small = r.small in
    let within = slice_get_within image.registers register node.0 node.1 in
    let x = get_or words s 0 in
    let xe = get_or_default words s 0 x lt ∙ ap (λ (l : List ℕ). get_or l s x) r.same_words in
    let refers = ap₂ (λ cs k. slot_refers cs k s) c.classes-classes.ensures.value r.same_kind in
    let i = c.loop-slot.invariant in
    elim c.if-is_free_start.branch [
      | then-is_free_start+in_ok-offer w ↦
          let free = is_free (slot_refers c.classes-classes.result c.kind-kind.result s) (list_any (λ p. starts_by register s (route_of p)) c.args.paths.now) (sym c.is_free_start.ensures ∙ w.if-is_free_start.true) in
          begun_as image earlier nodes w.offer.new.reach.seen.items c.if-is_free_start.reach.seen.items w.offer.new.reach.queue.items c.if-is_free_start.reach.queue.items (register * slot_span + s + 1) (register * slot_span + (s + 1))
          (ap (λ (r : Reach). r.seen.items) w.reach-is) (ap (λ (r : Reach). r.queue.items) w.reach-is) (omega arith)
          (begun_more image places earlier nodes c.loop-slot.reach.seen.items c.loop-slot.reach.queue.items register s node.0 x w.start_number.result w.offer.new.reach.seen.items w.offer.new.reach.queue.items c.requires.nodes (omega (arith, lt, small)) (sym (any_route (starts_by register s) c.args.paths.now) ∙ free.1) node.1
          (named_is image node.0 s r.object r.there ∙ slot_is image.classes r.object s x (omega (arith, lt, r.many)) xe (sym refers ∙ free.0)) w.start_number.ensures within w.in_ok-offer.ensures.done i)
      | else-is_free_start w ↦
          begun_as image earlier nodes c.loop-slot.reach.seen.items c.if-is_free_start.reach.seen.items c.loop-slot.reach.queue.items c.if-is_free_start.reach.queue.items (register * slot_span + (s + 1)) (register * slot_span + (s + 1))
          (ap (λ (r : Reach). r.seen.items) w.reach-is) (ap (λ (r : Reach). r.queue.items) w.reach-is) refl
          (begun_past image earlier nodes c.loop-slot.reach.seen.items c.loop-slot.reach.queue.items register s (s + 1) (register * slot_span + s) (register * slot_span + (s + 1)) refl refl (omega arith) (omega (arith, lt, small))
          (λ t y above below is. let same : t ≡ s = omega (arith, above, below) in elim (is_not_free (slot_refers c.classes-classes.result c.kind-kind.result s) (list_any (λ p. starts_by register s (route_of p)) c.args.paths.now) (sym c.is_free_start.ensures ∙ w.if-is_free_start.false)) [
            | inl value ↦ no_reference_start image earlier register node.0 s y r.object node.1 r.there (sym refers ∙ value) (subst (λ t. IsStart image earlier register t y) same is)
            | inr used ↦ used_start image earlier register s y (sym (any_route (starts_by register s) c.args.paths.now) ∙ used) (subst (λ t. IsStart image earlier register t y) same is)
          ]) i)
    ]

pub returns-clause-search : goal.returns-clause-search
returns-clause-search g c =
    let v = c.args.view.now in
    let image = g.V.View.image v in
    let places = g.V.View.places v in
    let nodes = c.args.nodes.now in
    let node = c.requires.node in
    let r = node_read image places nodes node.0 c.args.node c.place-at.result c.kind-kind.result c.words-words.result.now c.requires.nodes node.2 c.place-at.ensures
    c.classes-classes.ensures.limits c.classes-classes.ensures.placed c.kind-kind.ensures c.words-words.ensures in
    let earlier = map route_of c.args.paths.now in
    let register = c.args.register in
    let s = c.loop-slot.slot in
    let small = r.small in
    let many = r.many in
    begun_past image earlier nodes c.loop-slot.reach.seen.items c.loop-slot.reach.queue.items register s slot_span (register * slot_span + s) ((register + 1) * slot_span) refl (omega arith) (omega (arith, small)) (omega arith)
    (λ t y above below is. no_slot_start image earlier register node.0 t y r.object node.1 r.there (omega (arith, above, many)) is) c.loop-slot.invariant
