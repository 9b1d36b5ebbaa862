-- What is known of two dumps, in memory.
use Rattle.std.specs.Prelude.{◌≡◌, ℕ, ◌≤◌, ◌<◌, ◌^◌, length, map, take}
use Rattle.heap_class.specs.declared.IdSize.{IdSize}
use Rattle.heap_class.specs.Limits.{widest_classes}
use Rattle.indexmap.specs.IndexMap.{index_map_len}
use Rattle.hprof_reader.specs.SubRecords.{sub_record}
use Rattle.hprof_session.specs.Walks.{Left}
use Rattle.hprof_plan.specs.Finds.{Finds}
use Rattle.hprof_plan.specs.Plans.{IsPlan}
use Rattle.hprof_lines.specs.Sessions.{root_tags, told_objects}
use Rattle.hprof_pair.specs.declared.known.KnownDump.{KnownDump}
use Rattle.hprof_pair.specs.declared.known.KnownPair.{KnownPair}
use Rattle.hprof_pair.specs.Dumps.{DumpTold, subs_from}
use Rattle.hprof_pair.specs.JoinedClasses.{classes_joined}
use Rattle.hprof_pair.specs.JoinedSoFar.{AreJoined}
use Rattle.hprof_pair.specs.Pairs.{PairTold}
use Rattle.hprof_pair.specs.Ways.{AreWays, numbers_of, root_ways}

-- the objects of a dump, whose identifiers have this size
abbrev pub dump_in_memory : KnownDump → IdSize → DumpTold
dump_in_memory k ids = record {
  all = record {
    plan = k.plan;
    ids = ids;
    objects = k.found.objects.keys;
    made = k.objects.made.items;
    statics = k.objects.statics.keys;
  };
  subs = map sub_record k.objects.subs.items;
}

-- two dumps, whose identifiers have these sizes
abbrev pub pair_in_memory : KnownPair → IdSize → IdSize → PairTold
pair_in_memory k before after = record {
  first = dump_in_memory k.first.now before;
  second = dump_in_memory k.second.now after;
  classes = k.both.now.joined.numbers.items;
  found = k.both.now.ways.found.keys;
}

-- this is found in what a walk over a dump comes to, this is the plan of its classes, and these are its objects
pub record IsKnown (elements : ℕ) (w : Left) (k : KnownDump) : Type 0 where
  pub finds : Finds w k.found
  pub planned : IsPlan widest_classes elements k.found k.plan
  pub few : k.plan.roots < 2 ^ 62
  pub kinds : index_map_len k.plan.kinds ≤ length k.plan.classes
  pub dump : dump_in_memory k w.ids
      ≡ record {
        all = told_objects k.plan w.ids k.found.objects.keys finds.list;
        subs = subs_from k.found.objects.keys 0 finds.list;
      }

-- so it is with two dumps, these ways lead to the objects of the first, and these are the classes of both
pub record IsKnownPair (elements : ℕ) (v w : Left) (k : KnownPair) : Type 0 where
  pub first : IsKnown elements v k.first.now
  pub second : IsKnown elements w k.second.now
  pub ways : AreWays (dump_in_memory k.first.now v.ids)
      (root_ways (dump_in_memory k.first.now v.ids).all k.first.now.found.roots.items 0 root_tags) k.both.now.ways.ways.items
  pub found : k.both.now.ways.found.keys ≡ numbers_of k.both.now.ways.ways.items
  pub joined : AreJoined k.first.now.plan.classes k.both.now.joined
      (classes_joined widest_classes k.first.now.plan.classes (take k.second.now.plan.roots k.second.now.plan.classes))
