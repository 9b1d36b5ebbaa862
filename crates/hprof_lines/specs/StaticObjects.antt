-- The objects of static fields.
use Rattle.std.specs.Prelude.{ℕ, ◌+◌, List, [], ◌∷◌, ◌++◌, length, Some}
use Rattle.heap_step.specs.declared.Event.{Event}
use Rattle.heap_step.specs.declared.Event.TheVariants.{New}
use Rattle.hprof_session.specs.Places.{place_events}
use Rattle.hprof_lines.specs.declared.passes.Pass.{Pass}
use Rattle.hprof_lines.specs.declared.passes.Pass.TheVariants.{Making, Linking}
use Rattle.hprof_plan.specs.declared.planning.Statics.{Statics}
use Rattle.hprof_lines.specs.Objects.{ObjectsTold, links_of, made_events}
use Rattle.hprof_lines.specs.Values.{statics_from}

-- the events of the object of static fields with this number in a pass. Its class comes after those of the dump
unfoldable pub static_events : Pass → ObjectsTold → ℕ → Statics → List Event
static_events Making o n s =
    place_events o.plan.roots n
    ++ made_events n (statics_from 0 s.fields.items) (Some (New 0 5 (length o.plan.kinds.entries + n)))
static_events Linking o n s = links_of o n (statics_from 0 s.fields.items)

-- the events of those from number n on
unfoldable pub statics_events : Pass → ObjectsTold → ℕ → List Statics → List Event
statics_events pass o n [] = []
statics_events pass o n (s ∷ statics) = static_events pass o n s ++ statics_events pass o (n + 1) statics
