-- What is known of dumps, from its parts.
use Rattle.std.proofs.Common.{◌≡◌, ℕ, Bool, List, length, ap, subst, ◌∙◌, ◌≤◌, map, arith}
use Rattle.heap_class.specs.Limits.{class_limit, widest_classes}
use Rattle.heap_class.specs.declared.IdSize.{IdSize}
use Rattle.hprof_reader.specs.SubRecords.{Sub, sub_record}
use Rattle.hprof_session.specs.Walks.{Left, ItemTold}
use Rattle.hprof_plan.specs.Finds.{Finds}
use Rattle.hprof_plan.specs.Plans.{IsPlan}
use Rattle.hprof_plan.specs.declared.items.RootFound.{RootFound}
use Rattle.hprof_plan.specs.declared.planning.Plan.{Plan}
use Rattle.hprof_lines.specs.Passes.{made_from}
use Rattle.hprof_lines.specs.Sessions.{root_tags, static_ids, told_objects}
use Rattle.hprof_pair.specs.Dumps.{DumpTold, subs_from}
use Rattle.hprof_pair.specs.KnownPairs.{IsKnown}
use Rattle.hprof_pair.specs.Ways.{AreWays, root_ways}
use Rattle.hprof_pair.specs.declared.known.KnownDump.{KnownDump}
use Rattle.hprof_pair.specs.declared.ways.Way.{Way}

-- the objects of a dump, from their parts
abbrev dump_of : Plan → IdSize → List ℕ → List Bool → List ℕ → List Sub → DumpTold
dump_of p ids objects made statics subs =
    record { all = record { plan = p; ids = ids; objects = objects; made = made; statics = statics }; subs = subs }

pub dump_is_told : (p : Plan) (ids : IdSize) (objects : List ℕ) (items : List ItemTold) (made : List Bool) (statics : List ℕ) (subs : List Sub)
    → statics ≡ static_ids p.statics.items → made ≡ made_from p objects (length statics) 0 items → subs ≡ subs_from objects 0 items
    → dump_of p ids objects made statics subs ≡ record { all = told_objects p ids objects items; subs = subs_from objects 0 items }
dump_is_told p ids objects items made statics subs es em eb =
    ap (λ (bs : List Bool). dump_of p ids objects bs statics subs) em
    ∙ ap (λ (ns : List ℕ). dump_of p ids objects (made_from p objects (length ns) 0 items) ns subs) es
    ∙ ap (λ (ss : List Sub). dump_of p ids objects (made_from p objects (length (static_ids p.statics.items)) 0 items) (static_ids p.statics.items) ss) eb

-- so this is known of a dump
pub is_known : (elements : ℕ) (w : Left) (k : KnownDump) (finds : Finds w k.found) → IsPlan widest_classes elements k.found k.plan → length k.plan.classes ≤ class_limit → k.objects.statics.keys ≡ static_ids k.plan.statics.items
    → k.objects.made.items ≡ made_from k.plan k.found.objects.keys (length k.objects.statics.keys) 0 finds.list → map sub_record k.objects.subs.items ≡ subs_from k.found.objects.keys 0 finds.list → IsKnown elements w k
is_known elements w k finds planned few statics made subs = record {
  finds = finds;
  planned = planned;
  few = omega (arith, planned.counted, few);
  kinds = omega (arith, planned.placed, planned.counted);
  dump = dump_is_told k.plan w.ids k.found.objects.keys finds.list k.objects.made.items k.objects.statics.keys (map sub_record k.objects.subs.items) statics made subs;
}

-- ways from a dump that is told so
pub ways_of_told : (d e : DumpTold) (roots same : List RootFound) (ways : List Way) → d ≡ e → roots ≡ same → AreWays d (root_ways d.all roots 0 root_tags) ways → AreWays e (root_ways e.all same 0 root_tags) ways
ways_of_told d e roots same ways told is are =
    subst (λ (rs : List RootFound). AreWays e (root_ways e.all rs 0 root_tags) ways) is (subst (λ (x : DumpTold). AreWays x (root_ways x.all roots 0 root_tags) ways) told are)
