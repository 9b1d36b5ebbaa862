use Rattle.std.proofs.Common.{ap, ◌∙◌}
use Rattle.std.proofs.lemmas.Result.{err_from_is_err_and}
use Rattle.heap_mark.specs.MarkSteps.{is_marking}
use Rattle.heap_world.proofs.CreationEvents.{parts_of_new_object_sound, parts_of_new_object_make_state, room_by, refusal_of_room_by_allocator}
use Rattle.heap_world.proofs.World.make.Goals as goal

pub returns-in_err-placed-clause-refused : goal.returns-in_err-placed-clause-refused
returns-in_err-placed-clause-refused c =
    let p = err_from_is_err_and c.from_residual.result c.from_residual.ensures.1 in
    rw (p.1, p.2) (refusal_of_room_by_allocator _ _ _ _ c.args.kind _ c.self.invariant c.self.view_is c.requires.of_kind c.in_err-placed.ensures.answered)

pub invariant_of-self-2 : goal.invariant_of-self-2
invariant_of-self-2 c = parts_of_new_object_sound _ _ _ _ _ _ _ _ _ _ _ _ _ c.self.invariant c.self.view_is c.requires.of_kind (c.is_marking-mark.ensures ∙ ap is_marking c.phase.ensures) c.in_ok-placed.ensures.placed c.in_ok-placed.ensures.allocated c.in_ok-placed.ensures.named c.write_register.ensures

pub returns-clause-room : goal.returns-clause-room
returns-clause-room c = room_by _ _ c.args.len c.in_ok-placed.placed.at c.in_ok-placed.placed.fresh c.self.view_is c.in_ok-placed.ensures.placed

pub returns-clause-made : goal.returns-clause-made
returns-clause-made c = parts_of_new_object_make_state _ _ _ _ _ _ _ _ _ _ _ _ c.self.view_is (c.is_marking-mark.ensures ∙ ap is_marking c.phase.ensures) c.in_ok-placed.ensures.placed c.in_ok-placed.ensures.allocated c.in_ok-placed.ensures.named c.write_register.ensures
