use Rattle.std.proofs.Common.{◌∙◌, List, ap, refl, sym, subst}
use Rattle.std.specs.Prelude.{reverse}
use Rattle.heap_questions.specs.Hops.{slots_of}
use Rattle.heap_questions.specs.Search.{HasSearchedFor}
use Rattle.heap_questions.specs.declared.search.Entry.{Entry}
use Rattle.heap_questions.proofs.FoundPaths.{none_found, path_back}
use Rattle.heap_questions.proofs.Hops.{ids_told, slots_reversed}
use Rattle.heap_questions.proofs.paths.path_to.Goals as goal

pub way_back-requires-clause-found : goal.way_back-requires-clause-found
way_back-requires-clause-found g c =
    let image = g.V.View.image c.args.view.now in
    let nodes = c.args.nodes.now in
    let s = subst (λ (es : List Entry). HasSearchedFor image nodes es c.args.goal) (sym c.as_slice-queue.ensures.value) (c.in_ok-reach.ensures.found c.args.goal refl) in
    (image.registers, s.queue, s.found)

pub returns-in-Some-clause-path : goal.returns-in-Some-clause-path
returns-in-Some-clause-path g c =
    let image = g.V.View.image c.args.view.now in
    let nodes = c.args.nodes.now in
    let entries = c.as_slice-queue.result.now in
    let s = subst (λ (es : List Entry). HasSearchedFor image nodes es c.args.goal) (sym c.as_slice-queue.ensures.value) (c.in_ok-reach.ensures.found c.args.goal refl) in
    let way = c.in_ok-way-in-Some.way in
    (path_back image nodes entries c.args.goal c.args.id c.in-Some.index way.register (slots_of way.hops.items) c.path_along.result.register (slots_of c.path_along.result.hops.items) s c.requires.goal c.in-Some.ensures
    (c.in_ok-way-in-Some.ensures.chain image.registers s.queue s.found) c.path_along.ensures.register (ap slots_of c.path_along.ensures.hops ∙ slots_reversed way.hops.items)).0

pub returns-in-Some-clause-shortest : goal.returns-in-Some-clause-shortest
returns-in-Some-clause-shortest g c =
    let image = g.V.View.image c.args.view.now in
    let nodes = c.args.nodes.now in
    let entries = c.as_slice-queue.result.now in
    let s = subst (λ (es : List Entry). HasSearchedFor image nodes es c.args.goal) (sym c.as_slice-queue.ensures.value) (c.in_ok-reach.ensures.found c.args.goal refl) in
    let way = c.in_ok-way-in-Some.way in
    (path_back image nodes entries c.args.goal c.args.id c.in-Some.index way.register (slots_of way.hops.items) c.path_along.result.register (slots_of c.path_along.result.hops.items) s c.requires.goal c.in-Some.ensures
    (c.in_ok-way-in-Some.ensures.chain image.registers s.queue s.found) c.path_along.ensures.register (ap slots_of c.path_along.ensures.hops ∙ slots_reversed way.hops.items)).1

pub returns-in-Some-clause-first : goal.returns-in-Some-clause-first
returns-in-Some-clause-first g c =
    let image = g.V.View.image c.args.view.now in
    let nodes = c.args.nodes.now in
    let entries = c.as_slice-queue.result.now in
    let s = subst (λ (es : List Entry). HasSearchedFor image nodes es c.args.goal) (sym c.as_slice-queue.ensures.value) (c.in_ok-reach.ensures.found c.args.goal refl) in
    let way = c.in_ok-way-in-Some.way in
    (path_back image nodes entries c.args.goal c.args.id c.in-Some.index way.register (slots_of way.hops.items) c.path_along.result.register (slots_of c.path_along.result.hops.items) s c.requires.goal c.in-Some.ensures
    (c.in_ok-way-in-Some.ensures.chain image.registers s.queue s.found) c.path_along.ensures.register (ap slots_of c.path_along.ensures.hops ∙ slots_reversed way.hops.items)).2

pub returns-in-Some-clause-ids : goal.returns-in-Some-clause-ids
returns-in-Some-clause-ids g c =
    let image = g.V.View.image c.args.view.now in
    let s = subst (λ (es : List Entry). HasSearchedFor image c.args.nodes.now es c.args.goal) (sym c.as_slice-queue.ensures.value) (c.in_ok-reach.ensures.found c.args.goal refl) in
    let way = c.in_ok-way-in-Some.way in
    let ids = c.in_ok-way-in-Some.ensures.ids image.registers s.queue s.found in
    ids_told image c.path_along.result way.register way.start (reverse way.hops.items) c.path_along.ensures.register c.path_along.ensures.start c.path_along.ensures.hops ids.0 ids.1

pub returns-clause-none : goal.returns-clause-none
returns-clause-none g c =
    let image = g.V.View.image c.args.view.now in
    let nodes = c.args.nodes.now in
    let entries = c.as_slice-queue.result.now in
    let s = subst (λ (es : List Entry). HasSearchedFor image nodes es c.args.goal) (sym c.as_slice-queue.ensures.value) (c.in_ok-reach.ensures.found c.args.goal refl) in
    none_found image nodes entries c.args.goal c.args.id s c.requires.goal c.in-None.ensures
