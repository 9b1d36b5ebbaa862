use Rattle.std.proofs.Common.{◌<◌, ◌+◌, ◌*◌, [], length, map, get_or, refl, sym, ap, ◌∙◌, arith}
use Rattle.std.specs.Prelude.{slice_get}
use Rattle.std.proofs.lemmas.Option.{none-some, slice_get-get_or}
use Rattle.heap_questions.specs.PathsApart.{route_of}
use Rattle.heap_questions.specs.Search.{Register, Slot, slot_span}
use Rattle.heap_questions.specs.Starts.{with_starts}
use Rattle.heap_questions.specs.declared.search.Reach.{Reach}
use Rattle.heap_questions.proofs.Looking.{rooting_begins}
use Rattle.heap_questions.proofs.SearchOrder.{ordered_next, ordered_none, registers_first}
use Rattle.heap_questions.proofs.Searching.{near_first}
use Rattle.heap_questions.proofs.Starting.{starts_many}
use Rattle.heap_questions.proofs.StartSearch.{begun_as, begun_past, no_object_start}
use Rattle.heap_questions.proofs.starts.find_starts.Goals.{in-Some+in_ok-find_slots-in-Some, in-None}
use Rattle.heap_questions.proofs.starts.find_starts.Goals as goal

pub loop-r-init : goal.loop-r-init
loop-r-init g c =
    let image = with_starts (g.V.View.image c.args.view.now) (map route_of c.args.paths.now) in
    record {
      queue = [];
      kept = c.requires.none;
      rooting = rooting_begins image c.args.nodes.now c.args.reach.now.seen.items [] c.requires.search (λ k f h. absurd (none-some f h)) (ordered_none image (Register 0));
    }

pub find_slots-requires-clause-node : goal.find_slots-requires-clause-node
find_slots-requires-clause-node g c =
    let registers = c.registers-registers.result.now in
    let r = c.loop-r.r in
    let h : r < length registers = omega arith in
    let names = ap (λ l. slice_get l r) (sym c.registers-registers.ensures) ∙ slice_get-get_or registers r 0 h in
    (get_or registers r 0, names, sym c.find.ensures ∙ c.in-Some.is)

pub loop-r-preserved : goal.loop-r-preserved
loop-r-preserved g c =
    let image = g.V.View.image c.args.view.now in
    let places = g.V.View.places c.args.view.now in
    let nodes = c.args.nodes.now in
    let earlier = map route_of c.args.paths.now in
    let registers = c.registers-registers.result.now in
    let r = c.loop-r.r in
    let h : r < length registers = omega arith in
    let x = get_or registers r 0 in
    let names = ap (λ l. slice_get l r) (sym c.registers-registers.ensures) ∙ slice_get-get_or registers r 0 h in
    elim c.match-find.branch [
      | in-Some+in_ok-find_slots-in-Some w ↦
          begun_as image earlier nodes w.find_slots.new.reach.seen.items c.match-find.reach.seen.items w.find_slots.new.reach.queue.items c.match-find.reach.queue.items ((r + 1) * slot_span) ((r + 1) * slot_span)
          (ap (λ (r : Reach). r.seen.items) w.reach-is) (ap (λ (r : Reach). r.queue.items) w.reach-is) refl w.in_ok-find_slots-in-Some.ensures.search
      | in-None w ↦
          begun_as image earlier nodes c.loop-r.reach.seen.items c.match-find.reach.seen.items c.loop-r.reach.queue.items c.match-find.reach.queue.items ((r + 1) * slot_span) ((r + 1) * slot_span)
          (ap (λ (r : Reach). r.seen.items) w.reach-is) (ap (λ (r : Reach). r.queue.items) w.reach-is) refl
          (begun_past image earlier nodes c.loop-r.reach.seen.items c.loop-r.reach.queue.items r 0 slot_span (r * slot_span) ((r + 1) * slot_span) (omega arith) (omega arith) (omega arith) (omega arith)
          (λ t y above below is. no_object_start image places nodes earlier r x t y c.requires.nodes names (sym c.find.ensures ∙ w.in-None.is) is) c.loop-r.invariant)
    ]

pub returns-clause-search : goal.returns-clause-search
returns-clause-search g c =
    let image = g.V.View.image c.args.view.now in
    let earlier = map route_of c.args.paths.now in
    let i = c.loop-r.invariant in
    let many = starts_many image earlier in
    record {
      queue = i.queue;
      kept = i.kept;
      search = i.rooting.search;
      near = near_first i.queue i.rooting.within;
      roots = λ s y l. i.rooting.roots s y (omega (arith, l, many, ap length c.registers-registers.ensures, c.loop-r.auto.r-end));
      ordered = ordered_next (with_starts image earlier) i.queue (Register (c.loop-r.r * slot_span)) (Slot 0 0) (registers_first (c.loop-r.r * slot_span)) i.rooting.ordered;
      within = omega arith;
    }
