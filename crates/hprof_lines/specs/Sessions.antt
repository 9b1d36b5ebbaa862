-- The events of the session of a dump.
use Rattle.std.specs.Prelude.{ℕ, nat_eq, List, [], ◌∷◌, ◌++◌, length, map}
use Rattle.heap_class.specs.declared.IdSize.{IdSize}
use Rattle.heap_step.specs.declared.Event.{Event}
use Rattle.indexmap.specs.IndexSet.{insert_all}
use Rattle.hprof_session.specs.Places.{lines_of}
use Rattle.hprof_session.specs.Walks.{ItemTold}
use Rattle.hprof_lines.specs.declared.passes.Pass.{Pass}
use Rattle.hprof_lines.specs.declared.passes.Pass.TheVariants.{Making, Linking}
use Rattle.hprof_plan.specs.declared.planning.Plan.{Plan}
use Rattle.hprof_plan.specs.declared.items.RootFound.{RootFound}
use Rattle.hprof_plan.specs.declared.planning.Statics.{Statics}
use Rattle.hprof_lines.specs.Objects.{ObjectsTold}
use Rattle.hprof_lines.specs.Passes.{made_from, pass_events}
use Rattle.hprof_lines.specs.Roots.{roots_events}
use Rattle.hprof_lines.specs.StaticObjects.{statics_events}

-- the events of a pass, over the objects of static fields and over the items of a dump
abbrev pub both_events : Pass → ObjectsTold → List ItemTold → List Event
both_events pass o items = statics_events pass o 0 o.plan.statics.items ++ pass_events pass o 0 items

-- the tags of roots: JNI global 01, JNI local 02, Java frame 03, native stack 04, sticky class 05, thread block 06, monitor
-- used 07, thread object 08, unknown FF
abbrev pub root_tags : List ℕ
root_tags = 0x01 ∷ 0x02 ∷ 0x03 ∷ 0x04 ∷ 0x05 ∷ 0x06 ∷ 0x07 ∷ 0x08 ∷ 0xff ∷ []

-- the events after the classes: all objects are made and their values are written, then their slots are made to name objects,
-- and then the roots are kept
abbrev pub all_events : ObjectsTold → List ItemTold → List RootFound → List Event
all_events o items roots =
    both_events Making o items ++ (both_events Linking o items ++ roots_events o roots root_tags)

-- the ids of the classes that have an object for their static fields
abbrev pub static_ids : List Statics → List ℕ
static_ids statics = insert_all nat_eq [] (map (λ (s : Statics). s.id) statics)

-- the objects of a dump, by the plan of its classes, its items and the ids of its objects
abbrev pub told_objects : Plan → IdSize → List ℕ → List ItemTold → ObjectsTold
told_objects p ids objects items =
    let statics = static_ids p.statics.items in
    record {
      plan = p;
      ids = ids;
      objects = objects;
      made = made_from p objects (length statics) 0 items;
      statics = statics;
    }

-- the session of a dump: the lines of its classes, and those of the events after them
abbrev pub session_text : Plan → IdSize → List ℕ → List ItemTold → List RootFound → List ℕ
session_text p ids objects items roots = p.lines ++ lines_of (all_events (told_objects p ids objects items) items roots)
