use Rattle.std.proofs.Common.{refl, arith}
use Rattle.hprof_lines.specs.Objects.{objects_told}
use Rattle.hprof_pair.proofs.Opened.{one_kind, no_kinds}
use Rattle.hprof_pair.proofs.ways.root_ways.Goals as goal

pub loop-tag-init : goal.loop-tag-init
loop-tag-init c = record { room = omega arith; left = rw c.new-ways.ensures.items refl }

pub loop-tag-preserved : goal.loop-tag-preserved
loop-tag-preserved c = record {
  room = c.in_ok-first.ensures.first.1;
  left =
      one_kind (objects_told c.args.all.now) c.args.roots.now c.loop-tag.first _ c.loop-tag.tag-index c.args.tags.now _ _ _ c.loop-tag-test.true c.loop-tag.invariant.left c.in_ok-first.ensures.ways c.in_ok-first.ensures.first.0;
}

pub returns : goal.returns
returns c = no_kinds (objects_told c.args.all.now) c.args.roots.now c.loop-tag.first c.loop-tag.tag-index c.args.tags.now _ _ c.loop-tag-test.false c.loop-tag.invariant.left
