use Rattle.std.proofs.lemmas.Result.{err_from_is_err_and}
use Rattle.heap_world.proofs.CreationEvents.{array_answered, refused_object_is_not_made, answer_of_new_object}
use Rattle.heap_world.proofs.World.new_array.Goals as goal

pub returns-in_err-allow_array : goal.returns-in_err-allow_array
returns-in_err-allow_array c = let p = err_from_is_err_and c.from_residual.result c.from_residual.ensures.1 in rw (p.1, p.2) (refused_object_is_not_made _ _ _ _ _ _ _ c.in_err-allow_array.ensures.refused)

pub returns : goal.returns
returns c = let h = c.make.ensures in let may = c.in_ok-allow_array.ensures.allowed in
    answer_of_new_object _ _ _ _ _ _ _ c.make.result (array_answered _ _ _ _ _ c.make.result may.there may.of_kind may.allowed h.room h.refused) h.made h.placed h.held may.there h.unchanged
