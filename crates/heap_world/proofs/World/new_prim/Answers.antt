use Rattle.std.proofs.lemmas.Result.{err_from_is_err_and}
use Rattle.heap_world.proofs.CreationEvents.{prim_answered, refused_object_is_not_made, answer_of_new_object}
use Rattle.heap_world.proofs.World.new_prim.Goals as goal

pub returns-in_err-allow_prim : goal.returns-in_err-allow_prim
returns-in_err-allow_prim c = let p = err_from_is_err_and c.from_residual.result c.from_residual.ensures.1 in rw (p.1, p.2) (refused_object_is_not_made _ _ _ _ _ _ _ c.in_err-allow_prim.ensures.refused)

pub returns : goal.returns
returns c = let h = c.make.ensures in let may = c.in_ok-allow_prim.ensures.allowed in
    answer_of_new_object _ _ _ _ _ _ _ c.make.result (prim_answered _ _ _ _ _ c.make.result may.there may.of_kind may.allowed h.room h.refused) h.made h.placed h.held may.there h.unchanged
