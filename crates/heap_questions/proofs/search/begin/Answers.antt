use Rattle.heap_questions.proofs.search.begin.Goals as goal

pub find_roots-requires-clause-search : goal.find_roots-requires-clause-search
find_roots-requires-clause-search g c = c.in_ok-reach.ensures.search (g.V.View.image c.args.view.now)
