use Rattle.std.proofs.Common.{Option, ℕ, arith, subst}
use Rattle.heap_questions.specs.Search.{HasEnded}
use Rattle.heap_questions.proofs.FoundPaths.{all_seen, searched_for}
use Rattle.heap_questions.proofs.search.search.Goals as goal

pub search_on-requires-clause-search : goal.search_on-requires-clause-search
search_on-requires-clause-search g c = ((g.V.View.image c.args.view.now).registers, c.in_ok-reach.ensures.search)

pub returns-clause-all : goal.returns-clause-all
returns-clause-all g c none =
    let v = c.args.view.now in
    let image = g.V.View.image v in
    let seen = c.search_on.new.reach.seen.items in
    let entries = c.search_on.new.reach.queue.items in
    let e = c.in_ok-search_on.ensures.ended image.registers c.in_ok-reach.ensures.search in
    all_seen image (g.V.View.places v) c.args.nodes.now seen entries e.head c.requires e.search (subst (λ (o : Option ℕ). HasEnded seen entries e.head o) none e.ended)

pub returns-clause-found : goal.returns-clause-found
returns-clause-found g c j some =
    let v = c.args.view.now in
    let image = g.V.View.image v in
    let seen = c.search_on.new.reach.seen.items in
    let entries = c.search_on.new.reach.queue.items in
    let e = c.in_ok-search_on.ensures.ended image.registers c.in_ok-reach.ensures.search in
    let few = c.classes-classes.ensures.limits.few_registers in
    searched_for image (g.V.View.places v) c.args.nodes.now seen entries e.head j c.requires (omega (arith, few)) e.search (subst (λ (o : Option ℕ). HasEnded seen entries e.head o) some e.ended)
