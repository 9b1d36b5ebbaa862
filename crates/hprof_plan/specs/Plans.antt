-- The classes of a session.
use Rattle.std.specs.Prelude.{◌≡◌, ℕ, ◌+◌, ◌-◌, ◌≤◌, List, [], length, map, take}
use Rattle.std.specs.Map.{keys_of, values_of}
use Rattle.std.specs.Global.{Vec}
use Rattle.heap_class.specs.declared.ClassLimits.{ClassLimits}
use Rattle.heap_class.specs.declared.Kind.{Kind}
use Rattle.heap_class.specs.Classes.{Class}
use Rattle.heap_class.specs.Limits.{AreClassLimits}
use Rattle.hprof_reader.specs.Fields.{StaticTold, static_told}
use Rattle.hprof_plan.specs.Accepted.{AreAccepted, class_lines}
use Rattle.hprof_plan.specs.Defined.{AreDefined}
use Rattle.hprof_plan.specs.Numbers.{numbered}
use Rattle.hprof_plan.specs.SessionClasses.{and_arrays, and_statics, dump_classes, kinds_in, root_names, with_objects}
use Rattle.hprof_plan.specs.Tables.{classes_told}
use Rattle.hprof_plan.specs.declared.dump.Found.{Found}
use Rattle.hprof_plan.specs.declared.dump_classes.Planned.{Planned}
use Rattle.hprof_plan.specs.declared.planning.Plan.{Plan}
use Rattle.hprof_plan.specs.declared.planning.Statics.{Statics}

-- the limits leave room for `room` classes and 10 more, and for the names that stand instead of others
pub record AreTakenLimits (limits : ClassLimits) (room : ℕ) : Type 0 where
  pub limits_are : AreClassLimits limits
  pub long : 22 ≤ limits.name_bytes
  pub enough : room + 10 ≤ limits.classes

-- ---- what is planned, wherever it lies in memory

-- the kinds of fields of classes, by their ids
abbrev pub kinds_told : List (ℕ × Vec Kind) → List (ℕ × List Kind)
kinds_told entries = map (λ (e : ℕ × Vec Kind). (e.0, e.1.items)) entries

-- static fields of classes, by their ids
abbrev pub statics_told : List Statics → List (ℕ × List StaticTold)
statics_told statics = map (λ (s : Statics). (s.id, map static_told s.fields.items)) statics

-- ---- a plan

-- the classes of the dump that have a number so far are those with these ids, and there are no more than there is room for
pub record IsPlanned (limits : ClassLimits) (room : ℕ) (f : Found) (p : Planned) : Type 0 where
  pub defined : AreDefined limits p.defined
  pub classes : p.defined.classes ≡ values_of (dump_classes limits f (keys_of p.kinds.entries))
  pub kinds : kinds_told p.kinds.entries ≡ map (λ id. (id, kinds_in f id)) (keys_of p.kinds.entries)
  pub counted : length p.kinds.entries ≡ length p.defined.classes
  pub few : length p.defined.classes ≤ room

-- the ids of the classes of the dump that have a number, if the limits leave room for 10 classes more
abbrev pub planned_ids : ClassLimits → Found → List ℕ
planned_ids limits f = numbered (limits.classes - 10) (classes_told f.classes.entries)

-- the static fields of the classes that have an object for them, as far as there is room
abbrev pub planned_statics : ClassLimits → Found → List (ℕ × List StaticTold)
planned_statics limits f =
    take (limits.classes - 10 - length (planned_ids limits f)) (with_objects f (keys_of (classes_told f.classes.entries)))

-- the classes of the session: those of the dump, those of static fields, and those of roots
abbrev pub planned_classes : ClassLimits → Found → List Class
planned_classes limits f =
    let of_dump = values_of (dump_classes limits f (planned_ids limits f)) in
    and_arrays limits (and_statics limits f of_dump (planned_statics limits f)) root_names

-- the plan of the session of a dump: its classes, of which a heap with these limits refuses none, their lines, and the kinds of
-- fields and the static fields that they stand for. The 10 classes of roots come last. Arrays have at most `most` elements
pub record IsPlan (limits : ClassLimits) (most : ℕ) (f : Found) (p : Plan) : Type 0 where
  pub classes : p.classes ≡ planned_classes limits f
  pub kinds : kinds_told p.kinds.entries ≡ map (λ id. (id, kinds_in f id)) (planned_ids limits f)
  pub statics : statics_told p.statics.items ≡ planned_statics limits f
  pub lines : p.lines ≡ class_lines p.classes
  pub accepted : AreAccepted limits [] p.classes
  pub placed : length p.kinds.entries + length p.statics.items ≡ p.roots
  pub counted : length p.classes ≡ p.roots + 10
  pub elements : p.elements ≡ most
