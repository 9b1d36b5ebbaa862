-- The session of two dumps of one program.
use Rattle.std.specs.Prelude.{◌≡◌, ℕ, List, ◌++◌, codes, drop, length, take, Option}
use Rattle.heap_class.specs.Limits.{widest_classes}
use Rattle.hprof_session.specs.Places.{lines_of}
use Rattle.hprof_session.specs.Walks.{ItemTold, Left}
use Rattle.hprof_plan.specs.Accepted.{class_lines}
use Rattle.hprof_plan.specs.Finds.{Finds}
use Rattle.hprof_plan.specs.Plans.{IsPlan}
use Rattle.hprof_plan.specs.declared.dump.Found.{Found}
use Rattle.hprof_plan.specs.declared.planning.Plan.{Plan}
use Rattle.hprof_lines.specs.Passes.{IsWhole}
use Rattle.hprof_lines.specs.Sessions.{root_tags, session_text, told_objects}
use Rattle.hprof_pair.specs.Dumps.{DumpTold, subs_from}
use Rattle.hprof_pair.specs.Events.{second_events}
use Rattle.hprof_pair.specs.JoinedClasses.{classes_joined}
use Rattle.hprof_pair.specs.Pairs.{PairTold}
use Rattle.hprof_pair.specs.Ways.{AreWays, numbers_of, root_ways}
use Rattle.hprof_pair.specs.declared.ways.Way.{Way}

-- what the walk over a dump comes to, what is found there, and the plan of its classes, for arrays of at most this many elements
pub record Known (elements : ℕ) (w : Left) : Type 0 where
  pub items : List ItemTold
  pub whole : IsWhole w items
  pub found : Found
  pub finds : Finds w found
  pub plan : Plan
  pub planned : IsPlan widest_classes elements found plan

-- its objects
abbrev pub dump_in : {elements : ℕ} {w : Left} → Known elements w → DumpTold
dump_in {elements} {w} k = record {
  all = told_objects k.plan w.ids k.found.objects.keys k.items;
  subs = subs_from k.found.objects.keys 0 k.items;
}

-- a cycle removes what no register reaches, and a pin keeps the state: the first of a session is pin 1
abbrev pub kept_line : List ℕ
kept_line = codes "collect\nopen -\n"

abbrev pub collect_line : List ℕ
collect_line = codes "collect\n"

-- both, by the numbers of the second one's classes in the heap and by ways to the objects of the first
abbrev pub pair_in : {elements : ℕ} {v w : Left} → Known elements v → Known elements w → List (Option ℕ) → List Way → PairTold
pair_in a b numbers ways = record { first = dump_in a; second = dump_in b; classes = numbers; found = numbers_of ways }

-- the text of the session of two dumps, by ways to the objects of the first
abbrev pub pair_text : {elements : ℕ} {v w : Left} → Known elements v → Known elements w → List Way → List ℕ
pair_text {elements} {v} {w} a b ways =
    let classes = classes_joined widest_classes a.plan.classes (take b.plan.roots b.plan.classes) in
    session_text a.plan v.ids a.found.objects.keys a.items a.found.roots.items
    ++ (kept_line
    ++ (class_lines (drop (length a.plan.classes) classes.classes)
    ++ (lines_of (second_events (pair_in a b classes.numbers ways) ways b.found.roots.items root_tags) ++ collect_line)))

-- this text is the session of what two walks come to, with some ways to the objects of the first that its roots reach
pub record IsPairSession (elements : ℕ) (v w : Left) (text : List ℕ) : Type 0 where
  pub first : Known elements v
  pub second : Known elements w
  pub ways : List Way
  pub are_ways : AreWays (dump_in first) (root_ways (dump_in first).all first.found.roots.items 0 root_tags) ways
  pub is : text ≡ pair_text first second ways
