use Rattle.std.proofs.Common.{ℕ, List, [], map, refl, sym, subst}
use Rattle.heap_questions.specs.Hops.{slots_of}
use Rattle.heap_questions.specs.PathsApart.{IsNextPath, route_of}
use Rattle.heap_questions.specs.Starts.{IsFirstFree}
use Rattle.heap_questions.specs.declared.paths.Hop.{Hop}
use Rattle.heap_questions.proofs.Hops.{ids_told}
use Rattle.heap_questions.proofs.NodePlaces.{object_found}
use Rattle.heap_questions.proofs.PathStarts.{next_by_register}
use Rattle.heap_questions.proofs.apart.next_path_to.Goals as goal

pub returns-in-Some-clause-next : goal.returns-in-Some-clause-next
returns-in-Some-clause-next g c =
    let v = c.args.view.now in
    let image = g.V.View.image v in
    let earlier = map route_of c.args.paths.now in
    let r = c.in-Some.register in
    let there = object_found image (g.V.View.places v) c.args.nodes.now c.args.id c.args.goal c.requires.nodes c.requires.goal in
    let free = subst (λ (registers : List ℕ). IsFirstFree registers earlier c.args.id r) c.registers.ensures c.in-Some.ensures.some in
    subst (λ (hops : List Hop). IsNextPath image earlier c.args.id (record { register = r; slots = slots_of hops })) (sym c.new-hops.ensures.items) (next_by_register image earlier c.args.id r there free)

pub returns-in-Some-clause-ids : goal.returns-in-Some-clause-ids
returns-in-Some-clause-ids g c =
    let v = c.args.view.now in
    let image = g.V.View.image v in
    let earlier = map route_of c.args.paths.now in
    let r = c.in-Some.register in
    let free = subst (λ (registers : List ℕ). IsFirstFree registers earlier c.args.id r) c.registers.ensures c.in-Some.ensures.some in
    ids_told image (record { register = r; start = c.args.id; hops = c.new-hops.result }) r c.args.id [] refl refl c.new-hops.ensures.items free.names tt

pub path_by_distance-requires-clause-there : goal.path_by_distance-requires-clause-there
path_by_distance-requires-clause-there g c = object_found (g.V.View.image c.args.view.now) (g.V.View.places c.args.view.now) c.args.nodes.now c.args.id c.args.goal c.requires.nodes c.requires.goal

pub path_by_distance-requires-clause-distances : goal.path_by_distance-requires-clause-distances
path_by_distance-requires-clause-distances g c = c.requires.exact c.if-exact.true
