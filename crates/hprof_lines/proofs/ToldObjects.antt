-- The objects of a dump.
use Rattle.std.proofs.Common.{◌≡◌, ℕ, Bool, List, length, sym, ap, ◌∙◌}
use Rattle.heap_class.specs.declared.IdSize.{IdSize}
use Rattle.hprof_session.specs.Walks.{ItemTold}
use Rattle.hprof_plan.specs.declared.planning.Plan.{Plan}
use Rattle.hprof_lines.specs.Objects.{ObjectsTold}
use Rattle.hprof_lines.specs.Passes.{made_from}
use Rattle.hprof_lines.specs.Sessions.{static_ids, told_objects}

abbrev told_by : Plan → IdSize → List ℕ → List Bool → List ℕ → ObjectsTold
told_by p ids objects made statics = record { plan = p; ids = ids; objects = objects; made = made; statics = statics }

pub objects_are : (p : Plan) (ids : IdSize) (objects : List ℕ) (items : List ItemTold) (statics : List ℕ) (made : List Bool) (before : ℕ)
    → statics ≡ static_ids p.statics.items → before ≡ length statics → made ≡ made_from p objects before 0 items
    → told_objects p ids objects items ≡ record { plan = p; ids = ids; objects = objects; made = made; statics = statics }
objects_are p ids objects items statics made before are count which =
    sym
    (ap (λ (bs : List Bool). told_by p ids objects bs statics) (which ∙ ap (λ (n : ℕ). made_from p objects n 0 items) count)
    ∙ ap (λ (xs : List ℕ). told_by p ids objects (made_from p objects (length xs) 0 items) xs) are)
