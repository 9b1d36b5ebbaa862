use Rattle.std.proofs.Common.{ℕ, List, ◌≡◌, ◌<◌, ◌+◌, length, get_or, sym, ap, ap₂, ◌∙◌, subst, arith}
use Rattle.std.specs.Prelude.{Some}
use Rattle.std.proofs.lemmas.List.{get_or_default}
use Rattle.std.proofs.lemmas.Option.{same_Some, slice_get_within}
use Rattle.hprof_text.specs.Image.{IsKnown}
use Rattle.hprof_text.proofs.ViewedObjects.{is_there}
use Rattle.heap_questions.specs.Graph.{slot_refers}
use Rattle.heap_questions.specs.Search.{Slot, entry_of, with_registers}
use Rattle.heap_questions.specs.declared.search.Entry.{Entry}
use Rattle.heap_questions.specs.declared.search.Reach.{Reach}
use Rattle.heap_questions.proofs.Looking.{added_entry_keeps_offer, entry_here, entry_read, entry_stands, entry_there, found_of, looking_begins, looked_at, looked_past, looked_through, looks_as, named_is, slot_is, slot_is_none}
use Rattle.heap_questions.proofs.NodePlaces.{node_within}
use Rattle.heap_questions.proofs.OtherRegisters.{same_nodes, same_object_with}
use Rattle.heap_questions.proofs.SearchOrder.{next_head, ordered_next}
use Rattle.heap_questions.proofs.Searching.{near_next}
use Rattle.heap_questions.proofs.search.expand.Goals.{then-is_reference_slot+in_ok-offer, else-is_reference_slot}
use Rattle.heap_questions.proofs.search.expand.Goals as goal

pub place-at-requires : goal.place-at-requires
place-at-requires g c =
    let s = c.requires.search.1 in
    let e = c.entry_at-found.result in
    let f = found_of c.args.reach.now.queue.items s.queue c.args.head e s.kept (entry_here _ _ c.args.head e c.as_slice.ensures.value c.entry_at-found.ensures) in
    let there = s.search.placed c.args.head f.0 f.1 in
    node_within c.args.nodes.now f.0.id e.node (there ∙ ap (λ (e : Entry). Some e.node) f.2)

pub kind-kind-requires : goal.kind-kind-requires
kind-kind-requires g c =
    let s = c.requires.search.1 in
    let e = c.entry_at-found.result in
    let f = found_of c.args.reach.now.queue.items s.queue c.args.head e s.kept (entry_here _ _ c.args.head e c.as_slice.ensures.value c.entry_at-found.ensures) in
    let there = s.search.placed c.args.head f.0 f.1 in
    is_there (g.V.View.places c.args.view.now) f.0.node c.place-at.result (entry_stands (g.V.View.image c.args.view.now) _ c.args.nodes.now f.0 e c.place-at.result c.requires.nodes there f.2 c.place-at.ensures).placed

pub words-words-requires : goal.words-words-requires
words-words-requires g c =
    let s = c.requires.search.1 in
    let e = c.entry_at-found.result in
    let f = found_of c.args.reach.now.queue.items s.queue c.args.head e s.kept (entry_here _ _ c.args.head e c.as_slice.ensures.value c.entry_at-found.ensures) in
    let there = s.search.placed c.args.head f.0 f.1 in
    is_there (g.V.View.places c.args.view.now) f.0.node c.place-at.result (entry_stands (g.V.View.image c.args.view.now) _ c.args.nodes.now f.0 e c.place-at.result c.requires.nodes there f.2 c.place-at.ensures).placed

pub loop-slot-init : goal.loop-slot-init
loop-slot-init g c registers s =
    let e = c.entry_at-found.result in
    let f = found_of c.args.reach.now.queue.items s.queue c.args.head e s.kept (entry_here _ _ c.args.head e c.as_slice.ensures.value c.entry_at-found.ensures) in
    let there = s.search.placed c.args.head f.0 f.1 in
    record {
      queue = s.queue;
      f = f.0;
      kept = s.kept;
      is = entry_there c.args.reach.now.queue.items s.queue c.args.head f.0 s.kept f.1;
      looking = looking_begins (with_registers (g.V.View.image c.args.view.now) registers) c.args.nodes.now s.queue c.args.head f.0 c.args.reach.now.seen.items s.search s.near s.roots s.ordered f.1;
    }

pub is_reference_slot-requires-clause-known : goal.is_reference_slot-requires-clause-known
is_reference_slot-requires-clause-known g c =
    let s = c.requires.search.1 in
    let e = c.entry_at-found.result in
    let f = found_of c.args.reach.now.queue.items s.queue c.args.head e s.kept (entry_here _ _ c.args.head e c.as_slice.ensures.value c.entry_at-found.ensures) in
    let there = s.search.placed c.args.head f.0 f.1 in
    let r = entry_read (g.V.View.image c.args.view.now) (g.V.View.places c.args.view.now) c.args.nodes.now f.0 e c.place-at.result c.kind-kind.result c.words-words.result.now c.requires.nodes there f.2 c.place-at.ensures
    c.classes-classes.ensures.limits c.classes-classes.ensures.placed c.kind-kind.ensures c.words-words.ensures in
    subst (λ cs. IsKnown cs c.kind-kind.result (length c.words-words.result.now)) (sym c.classes-classes.ensures.value) r.known

pub offer-requires-clause-many : goal.offer-requires-clause-many
offer-requires-clause-many g c = (c.loop-slot.invariant c.requires.search.0 c.requires.search.1).looking.search.as_many

pub loop-slot-preserved : goal.loop-slot-preserved
loop-slot-preserved g c registers begun =
    let image = g.V.View.image c.args.view.now in
    let places = g.V.View.places c.args.view.now in
    let nodes = c.args.nodes.now in
    let head = c.args.head in
    let e = c.entry_at-found.result in
    let other = with_registers image registers in
    let i = c.loop-slot.invariant registers begun in
    let f = i.f in
    let there = i.looking.search.placed head f i.looking.here in
    let same = same_Some (entry_of f) e (sym i.is ∙ entry_here _ _ head e c.as_slice.ensures.value c.entry_at-found.ensures) in
    let r = entry_read image places nodes f e c.place-at.result c.kind-kind.result c.words-words.result.now c.requires.nodes there same c.place-at.ensures
    c.classes-classes.ensures.limits c.classes-classes.ensures.placed c.kind-kind.ensures c.words-words.ensures in
    let words = c.words-words.result.now in
    let s = c.loop-slot.slot in
    let lt : s < length words = omega arith in
    let x = get_or words s 0 in
    let xe = get_or_default words s 0 x lt ∙ ap (λ (l : List ℕ). get_or l s x) r.same_words in
    let re : c.is_reference_slot.result ≡ slot_refers image.classes r.object.kind s = c.is_reference_slot.ensures ∙ ap₂ (λ cs k. slot_refers cs k s) c.classes-classes.ensures.value r.same_kind in
    elim c.if-is_reference_slot.branch [
      | then-is_reference_slot+in_ok-offer w ↦
          let o = added_entry_keeps_offer nodes x (f.depth + 1) (Slot s head) c.loop-slot.reach.seen.items c.loop-slot.reach.queue.items i.queue w.offer.new.reach.seen.items w.offer.new.reach.queue.items i.kept w.in_ok-offer.ensures.done in
          looks_as other nodes head c.args.reach.now.queue.items w.offer.new.reach.seen.items c.if-is_reference_slot.reach.seen.items w.offer.new.reach.queue.items c.if-is_reference_slot.reach.queue.items (s + 1)
          (ap (λ (r : Reach). r.seen.items) w.reach-is) (ap (λ (r : Reach). r.queue.items) w.reach-is)
          (record {
            queue = o.0;
            f = f;
            kept = o.1;
            is = i.is;
            looking = looked_at other places nodes head f c.loop-slot.reach.seen.items i.queue s x w.offer.new.reach.seen.items o.0 (same_nodes image registers places nodes c.requires.nodes) i.looking
                (named_is other f.id s r.object (same_object_with image registers f.id ∙ r.there) ∙ slot_is image.classes r.object s x (omega (arith, lt, r.many)) xe (sym re ∙ w.if-is_reference_slot.true)) o.2;
          })
      | else-is_reference_slot w ↦
          looks_as other nodes head c.args.reach.now.queue.items c.loop-slot.reach.seen.items c.if-is_reference_slot.reach.seen.items c.loop-slot.reach.queue.items c.if-is_reference_slot.reach.queue.items (s + 1)
          (ap (λ (r : Reach). r.seen.items) w.reach-is) (ap (λ (r : Reach). r.queue.items) w.reach-is)
          (record {
            queue = i.queue;
            f = f;
            kept = i.kept;
            is = i.is;
            looking = looked_past other nodes head f c.loop-slot.reach.seen.items i.queue s i.looking
                (named_is other f.id s r.object (same_object_with image registers f.id ∙ r.there) ∙ slot_is_none image.classes r.object s (sym re ∙ w.if-is_reference_slot.false));
          })
    ]

pub returns-clause-search : goal.returns-clause-search
returns-clause-search g c registers begun =
    let image = g.V.View.image c.args.view.now in
    let nodes = c.args.nodes.now in
    let head = c.args.head in
    let e = c.entry_at-found.result in
    let other = with_registers image registers in
    let i = c.loop-slot.invariant registers begun in
    let f = i.f in
    let there = i.looking.search.placed head f i.looking.here in
    let same = same_Some (entry_of f) e (sym i.is ∙ entry_here _ _ head e c.as_slice.ensures.value c.entry_at-found.ensures) in
    let r = entry_read image (g.V.View.places c.args.view.now) nodes f e c.place-at.result c.kind-kind.result c.words-words.result.now c.requires.nodes there same c.place-at.ensures
    c.classes-classes.ensures.limits c.classes-classes.ensures.placed c.kind-kind.ensures c.words-words.ensures in
    let s = c.loop-slot.slot in
    record {
      queue = i.queue;
      kept = i.kept;
      search = looked_through other nodes head f c.loop-slot.reach.seen.items i.queue s r.object i.looking (same_object_with image registers f.id ∙ r.there) (omega (arith, r.many));
      near = near_next i.queue head f i.looking.search.rising i.looking.here i.looking.within;
      roots = i.looking.all_roots;
      ordered = ordered_next other i.queue (Slot s head) (Slot 0 (head + 1)) (next_head head s) i.looking.ordered;
      within = omega (arith, slice_get_within i.queue head f i.looking.here);
    }
