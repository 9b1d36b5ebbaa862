use Rattle.std.proofs.Common.{◌≡◌, ◌<◌, ◌∙◌, ℕ, List, [], ◌∷◌, ◌++◌, ◌/◌, ◌%◌, ap, length, map, sym, subst, arith}
use Rattle.std.specs.Prelude.{None, Some, slice_get}
use Rattle.heap_questions.specs.Distances.{distance_by}
use Rattle.heap_questions.specs.Hops.{AreHops, slots_of}
use Rattle.heap_questions.specs.PathsApart.{IsNextPath, Route, route_of}
use Rattle.heap_questions.specs.Search.{slot_span}
use Rattle.heap_questions.specs.Starts.{first_hop, with_starts}
use Rattle.heap_questions.specs.declared.paths.Hop.{Hop}
use Rattle.heap_questions.proofs.Hops.{register_within}
use Rattle.heap_questions.proofs.KnownDistances.{next_of_paths}
use Rattle.heap_questions.proofs.PathStarts.{next_by_slot, none_by_slot, route_is}
use Rattle.heap_questions.proofs.ShortestWays.{nearest_path, none_near}
use Rattle.heap_questions.proofs.Starting.{path_of_start, start_leads, start_told}
use Rattle.heap_questions.proofs.apart.path_by_distance.Goals as goal

pub add_way-requires-clause-near : goal.add_way-requires-clause-near
add_way-requires-clause-near g c =
    let n = next_of_paths (g.V.View.image c.args.view.now) (g.V.View.places c.args.view.now) c.args.nodes.now c.args.table.now c.args.paths.now c.args.near.now (Some c.in-Some.start) c.requires.nodes c.requires.near (sym c.in-Some.is ∙ c.first_unused.ensures) in
    let told = n.2 in
    let near = n.3 in
    omega (arith, told, near)

pub path_at-requires : goal.path_at-requires
path_at-requires g c =
    let image = g.V.View.image c.args.view.now in
    let earlier = map route_of c.args.paths.now in
    let other = with_starts image earlier in
    let d = distance_by c.args.nodes.now c.args.table.now in
    let b = c.in-Some.start in
    let n = next_of_paths image (g.V.View.places c.args.view.now) c.args.nodes.now c.args.table.now c.args.paths.now c.args.near.now (Some b) c.requires.nodes c.requires.near (sym c.in-Some.is ∙ c.first_unused.ensures) in
    let w = c.in_ok-add_way-in-Some.ensures.way in
    let found = nearest_path image other.registers d c.args.id b w.0 c.requires.distances c.requires.there n w.2 in
    let path = (path_of_start image earlier b.number (slots_of w.0) c.args.id found.0).path in
    subst (λ (registers : List ℕ). b.number / slot_span < length registers) (sym c.registers.ensures)
    (register_within image (b.number / slot_span) ((b.number % slot_span) ∷ slots_of w.0) c.args.id path)

pub returns-in_ok-add_way-in-Some-clause-next : goal.returns-in_ok-add_way-in-Some-clause-next
returns-in_ok-add_way-in-Some-clause-next g c =
    let image = g.V.View.image c.args.view.now in
    let earlier = map route_of c.args.paths.now in
    let other = with_starts image earlier in
    let d = distance_by c.args.nodes.now c.args.table.now in
    let b = c.in-Some.start in
    let n = next_of_paths image (g.V.View.places c.args.view.now) c.args.nodes.now c.args.table.now c.args.paths.now c.args.near.now (Some b) c.requires.nodes c.requires.near (sym c.in-Some.is ∙ c.first_unused.ensures) in
    let w = c.in_ok-add_way-in-Some.ensures.way in
    let found = nearest_path image other.registers d c.args.id b w.0 c.requires.distances c.requires.there n w.2 in
    let path = c.path_at.result in
    let first = c.in_ok-push-in-Some.ensures.items ∙ (λ j. c.new-hops.ensures.items j ++ c.hop_of.ensures j ∷ []) in
    let hops : path.hops.items ≡ first_hop b.number b.id ∷ w.0 = c.path_at.ensures.hops ∙ w.1 ∙ ap (λ (hs : List Hop). hs ++ w.0) first in
    subst (λ (p : Route). IsNextPath image earlier c.args.id p) (sym (route_is path (b.number / slot_span) ((b.number % slot_span) ∷ slots_of w.0) c.path_at.ensures.register (ap slots_of hops)))
    (next_by_slot image earlier c.args.id b.number (slots_of w.0) c.classes-classes.ensures.limits c.requires.used found)

pub returns-in_ok-add_way-in-Some-clause-ids : goal.returns-in_ok-add_way-in-Some-clause-ids
returns-in_ok-add_way-in-Some-clause-ids g c =
    let image = g.V.View.image c.args.view.now in
    let earlier = map route_of c.args.paths.now in
    let other = with_starts image earlier in
    let d = distance_by c.args.nodes.now c.args.table.now in
    let b = c.in-Some.start in
    let n = next_of_paths image (g.V.View.places c.args.view.now) c.args.nodes.now c.args.table.now c.args.paths.now c.args.near.now (Some b) c.requires.nodes c.requires.near (sym c.in-Some.is ∙ c.first_unused.ensures) in
    let w = c.in_ok-add_way-in-Some.ensures.way in
    let found = nearest_path image other.registers d c.args.id b w.0 c.requires.distances c.requires.there n w.2 in
    let path = c.path_at.result in
    let first = c.in_ok-push-in-Some.ensures.items ∙ (λ j. c.new-hops.ensures.items j ++ c.hop_of.ensures j ∷ []) in
    let hops : path.hops.items ≡ first_hop b.number b.id ∷ w.0 = c.path_at.ensures.hops ∙ w.1 ∙ ap (λ (hs : List Hop). hs ++ w.0) first in
    let start = start_told image earlier b.number (slots_of w.0) c.args.id b.id found.0 n.1 in
    let names = ap (λ (registers : List ℕ). slice_get registers path.register) (sym c.registers.ensures) ∙ c.path_at.ensures.start in
    let leads = start_leads image earlier (b.number / slot_span) (b.number % slot_span) b.id path.start start (ap (slice_get image.registers) (sym c.path_at.ensures.register) ∙ names) in
    record {
      start = names;
      hops = subst (AreHops image path.start) (sym hops) (leads, w.2.ids);
    }

pub returns-in-None-clause-none : goal.returns-in-None-clause-none
returns-in-None-clause-none g c =
    let image = g.V.View.image c.args.view.now in
    let earlier = map route_of c.args.paths.now in
    let other = with_starts image earlier in
    let n = next_of_paths image (g.V.View.places c.args.view.now) c.args.nodes.now c.args.table.now c.args.paths.now c.args.near.now None c.requires.nodes c.requires.near (sym c.in-None.is ∙ c.first_unused.ensures) in
    none_by_slot image earlier c.args.id c.classes-classes.ensures.limits c.requires.used (none_near image other.registers (distance_by c.args.nodes.now c.args.table.now) c.args.id c.requires.distances n)
