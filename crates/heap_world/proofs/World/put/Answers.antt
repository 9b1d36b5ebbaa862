use Rattle.std.proofs.Common.{sym, ap, ◌∙◌}
use Rattle.heap_world.specs.State.{HeapState, register, word_of}
use Rattle.heap_world.proofs.WriteEvents.{put_held_by, put_written_by, accepted_put_has_slot, place_of_id_by_ref}
use Rattle.heap_world.proofs.World.put.Goals as goal

pub word-old-requires-clause-there : goal.word-old-requires-clause-there
word-old-requires-clause-there c = (accepted_put_has_slot _ _ _ _ _ _ _ _ c.self.invariant c.self.view_is c.in_ok-at.ensures.accepted c.in_ok-at.ensures.placed).there

pub word-old-requires-clause-within : goal.word-old-requires-clause-within
word-old-requires-clause-within c = (accepted_put_has_slot _ _ _ _ _ _ _ _ c.self.invariant c.self.view_is c.in_ok-at.ensures.accepted c.in_ok-at.ensures.placed).within

pub set_word-requires-clause-there : goal.set_word-requires-clause-there
set_word-requires-clause-there c = (accepted_put_has_slot _ _ _ _ _ _ _ _ c.self.invariant c.self.view_is c.in_ok-at.ensures.accepted c.in_ok-at.ensures.placed).there

pub set_word-requires-clause-within : goal.set_word-requires-clause-within
set_word-requires-clause-within c = (accepted_put_has_slot _ _ _ _ _ _ _ _ c.self.invariant c.self.view_is c.in_ok-at.ensures.accepted c.in_ok-at.ensures.placed).within

pub invariant_of-self : goal.invariant_of-self
invariant_of-self c = put_held_by _ _ c.args.m c.args.target c.args.slot c.args.value _ _ _ c.self.invariant c.self.view_is c.in_ok-at.ensures.accepted c.in_ok-at.ensures.placed c.set_word.ensures

pub returns-clause-written : goal.returns-clause-written
returns-clause-written c = put_written_by _ _ c.args.m c.args.target c.args.slot c.args.value _ _ c.self.view_is c.in_ok-at.ensures.placed c.set_word.ensures

pub returns-clause-slot : goal.returns-clause-slot
returns-clause-slot c =
    let by = accepted_put_has_slot _ _ _ _ _ _ _ _ c.self.invariant c.self.view_is c.in_ok-at.ensures.accepted c.in_ok-at.ensures.placed in
    record {
      placed = sym (place_of_id_by_ref c.args.self.now _ _ c.in_ok-at.ensures.placed);
      held = by.word _ c.word-old.ensures ∙ ap (λ (v : HeapState). word_of v (register c.args.self.now c.args.m c.args.target) c.args.slot) c.self.view_is;
      within = by.few;
    }
