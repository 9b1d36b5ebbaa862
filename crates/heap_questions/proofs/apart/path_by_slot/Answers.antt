use Rattle.std.proofs.Common.{◌∙◌, ℕ, ◌<◌, List, ◌∷◌, ◌/◌, ◌%◌, ap, length, map, refl, sym, subst}
use Rattle.std.specs.Prelude.{reverse, slice_get}
use Rattle.heap_questions.specs.Hops.{AreHops, slots_of}
use Rattle.heap_questions.specs.PathsApart.{IsNextPath, Route, route_of}
use Rattle.heap_questions.specs.Search.{HasSearchedFor, slot_span}
use Rattle.heap_questions.specs.Starts.{with_starts}
use Rattle.heap_questions.specs.declared.search.Entry.{Entry}
use Rattle.heap_questions.proofs.FoundPaths.{none_found, path_back}
use Rattle.heap_questions.proofs.PathStarts.{next_by_slot, none_by_slot, route_is}
use Rattle.heap_questions.proofs.Hops.{register_within, slots_reversed}
use Rattle.heap_questions.proofs.Starting.{path_of_start, start_leads, start_told}
use Rattle.heap_questions.proofs.apart.path_by_slot.Goals as goal

pub way_back-requires-clause-found : goal.way_back-requires-clause-found
way_back-requires-clause-found g c =
    let other = with_starts (g.V.View.image c.args.view.now) (map route_of c.args.paths.now) in
    let s = subst (λ (es : List Entry). HasSearchedFor other c.args.nodes.now es c.args.goal) (sym c.as_slice-queue.ensures.value) c.in_ok-reach.ensures.found in
    (other.registers, s.queue, s.found)

pub returns-clause-none : goal.returns-clause-none
returns-clause-none g c =
    let image = g.V.View.image c.args.view.now in
    let earlier = map route_of c.args.paths.now in
    let other = with_starts image earlier in
    let nodes = c.args.nodes.now in
    let s = subst (λ (es : List Entry). HasSearchedFor other nodes es c.args.goal) (sym c.as_slice-queue.ensures.value) c.in_ok-reach.ensures.found in
    none_by_slot image earlier c.args.id c.classes-classes.ensures.limits c.requires.used (none_found other nodes c.as_slice-queue.result.now c.args.goal c.args.id s c.requires.goal c.in-None.ensures)

pub returns-in-Some-clause-next : goal.returns-in-Some-clause-next
returns-in-Some-clause-next g c =
    let image = g.V.View.image c.args.view.now in
    let earlier = map route_of c.args.paths.now in
    let other = with_starts image earlier in
    let nodes = c.args.nodes.now in
    let s = subst (λ (es : List Entry). HasSearchedFor other nodes es c.args.goal) (sym c.as_slice-queue.ensures.value) c.in_ok-reach.ensures.found in
    let way = c.in_ok-way-in-Some.way in
    let path = c.in_ok-path-in-Some.path in
    let found = path_back other nodes c.as_slice-queue.result.now c.args.goal c.args.id c.in-Some.index way.register (slots_of way.hops.items) way.register (reverse (slots_of way.hops.items)) s c.requires.goal c.in-Some.ensures
    (c.in_ok-way-in-Some.ensures.chain other.registers s.queue s.found) refl refl in
    subst (λ (p : Route). IsNextPath image earlier c.args.id p) (sym (route_is path (way.register / slot_span) ((way.register % slot_span) ∷ reverse (slots_of way.hops.items)) c.in_ok-path-in-Some.ensures.register (ap slots_of c.in_ok-path-in-Some.ensures.hops ∙ ap (λ (l : List ℕ). (way.register % slot_span) ∷ l) (slots_reversed way.hops.items))))
    (next_by_slot image earlier c.args.id way.register (reverse (slots_of way.hops.items)) c.classes-classes.ensures.limits c.requires.used found)

pub path_from_start-requires : goal.path_from_start-requires
path_from_start-requires g c =
    let image = g.V.View.image c.args.view.now in
    let earlier = map route_of c.args.paths.now in
    let other = with_starts image earlier in
    let nodes = c.args.nodes.now in
    let s = subst (λ (es : List Entry). HasSearchedFor other nodes es c.args.goal) (sym c.as_slice-queue.ensures.value) c.in_ok-reach.ensures.found in
    let way = c.in_ok-way-in-Some.way in
    let slots = reverse (slots_of way.hops.items) in
    let found = path_back other nodes c.as_slice-queue.result.now c.args.goal c.args.id c.in-Some.index way.register (slots_of way.hops.items) way.register slots s c.requires.goal c.in-Some.ensures
    (c.in_ok-way-in-Some.ensures.chain other.registers s.queue s.found) refl refl in
    let path = (path_of_start image earlier way.register slots c.args.id found.0).path in
    subst (λ (registers : List ℕ). way.register / slot_span < length registers) (sym c.registers.ensures)
    (register_within image (way.register / slot_span) ((way.register % slot_span) ∷ slots) c.args.id path)

pub returns-in-Some-clause-ids : goal.returns-in-Some-clause-ids
returns-in-Some-clause-ids g c =
    let image = g.V.View.image c.args.view.now in
    let earlier = map route_of c.args.paths.now in
    let other = with_starts image earlier in
    let nodes = c.args.nodes.now in
    let s = subst (λ (es : List Entry). HasSearchedFor other nodes es c.args.goal) (sym c.as_slice-queue.ensures.value) c.in_ok-reach.ensures.found in
    let way = c.in_ok-way-in-Some.way in
    let slots = reverse (slots_of way.hops.items) in
    let found = path_back other nodes c.as_slice-queue.result.now c.args.goal c.args.id c.in-Some.index way.register (slots_of way.hops.items) way.register slots s c.requires.goal c.in-Some.ensures
    (c.in_ok-way-in-Some.ensures.chain other.registers s.queue s.found) refl refl in
    let path = c.in_ok-path-in-Some.path in
    let ids = c.in_ok-way-in-Some.ensures.ids other.registers s.queue s.found in
    let start = start_told image earlier way.register slots c.args.id way.start found.0 ids.0 in
    let names = ap (λ (registers : List ℕ). slice_get registers path.register) (sym c.registers.ensures) ∙ c.in_ok-path-in-Some.ensures.start in
    let leads = start_leads image earlier (way.register / slot_span) (way.register % slot_span) way.start path.start start (ap (slice_get image.registers) (sym c.in_ok-path-in-Some.ensures.register) ∙ names) in
    record {
      start = names;
      hops = subst (AreHops image path.start) (sym c.in_ok-path-in-Some.ensures.hops) (leads, ids.1);
    }
