use Rattle.std.proofs.Common.{map, arith}
use Rattle.heap_questions.specs.PathsApart.{route_of}
use Rattle.heap_questions.specs.Starts.{with_starts}
use Rattle.heap_questions.proofs.FoundPaths.{searched_for}
use Rattle.heap_questions.proofs.OtherRegisters.{same_nodes}
use Rattle.heap_questions.proofs.Starting.{starts_many}
use Rattle.heap_questions.proofs.apart.search_starts.Goals as goal

pub find_starts-requires-clause-search : goal.find_starts-requires-clause-search
find_starts-requires-clause-search g c = c.in_ok-reach.ensures.search (with_starts (g.V.View.image c.args.view.now) (map route_of c.args.paths.now))

pub search_on-requires-clause-search : goal.search_on-requires-clause-search
search_on-requires-clause-search g c = ((with_starts (g.V.View.image c.args.view.now) (map route_of c.args.paths.now)).registers, c.in_ok-find_starts.ensures.search)

pub returns-clause-found : goal.returns-clause-found
returns-clause-found g c =
    let v = c.args.view.now in
    let image = g.V.View.image v in
    let earlier = map route_of c.args.paths.now in
    let other = with_starts image earlier in
    let entries = c.search_on.new.reach.queue.items in
    let e = c.in_ok-search_on.ensures.ended other.registers c.in_ok-find_starts.ensures.search in
    let few = c.classes-classes.ensures.limits.few_registers in
    let many = starts_many image earlier in
    searched_for other (g.V.View.places v) c.args.nodes.now c.search_on.new.reach.seen.items entries e.head c.args.goal (same_nodes image other.registers (g.V.View.places v) c.args.nodes.now c.requires) (omega (arith, few, many)) e.search e.ended
