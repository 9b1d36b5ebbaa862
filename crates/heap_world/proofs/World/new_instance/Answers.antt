use Rattle.std.proofs.lemmas.Result.{err_from_is_err_and}
use Rattle.heap_world.proofs.CreationEvents.{new_answered, refused_object_is_not_made, answer_of_new_object}
use Rattle.heap_world.proofs.World.new_instance.Goals as goal

pub make-requires : goal.make-requires
make-requires c = let there = c.in_ok-len.ensures in record { there = there.register; of_kind = (there.class, there.value); allowed = tt }

pub returns-in_err-len : goal.returns-in_err-len
returns-in_err-len c = let p = err_from_is_err_and c.from_residual.result c.from_residual.ensures.1 in rw (p.1, p.2) (refused_object_is_not_made _ _ _ _ _ _ _ c.in_err-len.ensures.refused)

pub returns : goal.returns
returns c = let h = c.make.ensures in let there = c.in_ok-len.ensures in
    rw (← there.value) (answer_of_new_object _ _ _ _ _ _ _ c.make.result (new_answered _ _ _ _ _ c.make.result there.register there.class there.value h.room h.refused) h.made h.placed h.held there.register h.unchanged)
