-- What is known of two dumps makes their session.
use Rattle.std.proofs.Common.{◌≡◌, ℕ, List, ◌++◌, Option, ap, subst, ◌∙◌}
use Rattle.std.specs.Prelude.{take}
use Rattle.heap_class.specs.Limits.{widest_classes}
use Rattle.heap_class.specs.declared.IdSize.{IdSize}
use Rattle.hprof_session.specs.Places.{lines_of}
use Rattle.hprof_session.specs.Walks.{Left, ItemTold}
use Rattle.hprof_lines.specs.Sessions.{root_tags, session_text}
use Rattle.hprof_convert.proofs.Endings.{found_whole}
use Rattle.hprof_pair.specs.Dumps.{DumpTold}
use Rattle.hprof_pair.specs.Events.{second_events}
use Rattle.hprof_pair.specs.JoinedClasses.{classes_joined}
use Rattle.hprof_pair.specs.KnownPairs.{IsKnown, IsKnownPair, dump_in_memory, pair_in_memory}
use Rattle.hprof_pair.specs.Pairs.{PairTold}
use Rattle.hprof_pair.specs.Sessions.{IsPairSession, Known, collect_line, dump_in, kept_line, pair_in}
use Rattle.hprof_pair.specs.Ways.{AreWays, root_ways}
use Rattle.hprof_pair.specs.declared.known.KnownDump.{KnownDump}
use Rattle.hprof_pair.specs.declared.known.KnownPair.{KnownPair}

-- a dump of which this is known
known_of : (elements : ℕ) (w : Left) (k : KnownDump) → IsKnown elements w k → Known elements w
known_of elements w k is = record {
  items = is.finds.list;
  whole = found_whole w k.found is.finds;
  found = k.found;
  finds = is.finds;
  plan = k.plan;
  planned = is.planned;
}

-- the text of the session, from its parts
abbrev text_of : KnownPair → IdSize → List ItemTold → PairTold → List ℕ → List ℕ
text_of k ids items p lines =
    session_text k.first.now.plan ids k.first.now.found.objects.keys items k.first.now.found.roots.items
    ++ (kept_line ++ (lines ++ (lines_of (second_events p k.both.now.ways.ways.items k.second.now.found.roots.items root_tags) ++ collect_line)))

abbrev pair_of : DumpTold → DumpTold → List (Option ℕ) → List ℕ → PairTold
pair_of a b numbers found = record { first = a; second = b; classes = numbers; found = found }

-- the session of two dumps of which this is known
pub known_makes_a_session : (elements : ℕ) (v w : Left) (k : KnownPair) (is : IsKnownPair elements v w k) (p : PairTold) → p ≡ pair_in_memory k v.ids w.ids
    → IsPairSession elements v w (text_of k v.ids is.first.finds.list p k.both.now.joined.text.items)
unfolding known_of
known_makes_a_session elements v w k is p told = record {
  first = a;
  second = b;
  ways = k.both.now.ways.ways.items;
  are_ways = subst (λ (d : DumpTold). AreWays d (root_ways d.all k.first.now.found.roots.items 0 root_tags) k.both.now.ways.ways.items) is.first.dump is.ways;
  is =
      ap (λ (q : PairTold). text q k.both.now.joined.text.items) (told ∙ same)
      ∙ ap (text (pair_in a b numbers k.both.now.ways.ways.items)) is.joined.text;
}
  where
    a : Known elements v
    a = known_of elements v k.first.now is.first

    b : Known elements w
    b = known_of elements w k.second.now is.second

    numbers : List (Option ℕ)
    numbers = (classes_joined widest_classes k.first.now.plan.classes (take k.second.now.plan.roots k.second.now.plan.classes)).numbers

    text : PairTold → List ℕ → List ℕ
    text q lines = text_of k v.ids is.first.finds.list q lines

    same : pair_in_memory k v.ids w.ids ≡ pair_in a b numbers k.both.now.ways.ways.items
    same =
        ap (λ (d : DumpTold). pair_of d (dump_in_memory k.second.now w.ids) k.both.now.joined.numbers.items k.both.now.ways.found.keys) is.first.dump
        ∙ ap (λ (d : DumpTold). pair_of (dump_in a) d k.both.now.joined.numbers.items k.both.now.ways.found.keys) is.second.dump
        ∙ ap (λ (ns : List (Option ℕ)). pair_of (dump_in a) (dump_in b) ns k.both.now.ways.found.keys) is.joined.numbers
        ∙ ap (pair_of (dump_in a) (dump_in b) numbers) is.found
