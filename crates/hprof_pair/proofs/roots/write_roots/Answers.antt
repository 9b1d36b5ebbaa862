use Rattle.std.proofs.Common.{◌+◌, sym, ◌∙◌, arith}
use Rattle.std.proofs.lemmas.List.{append-nil}
use Rattle.hprof_lines.proofs.Puttings.{putting_step, putting_step_failed}
use Rattle.hprof_pair.specs.Pairs.{pair_told}
use Rattle.hprof_pair.proofs.Opened.{next_kind_of_second, second_roots_begin, second_roots_end}
use Rattle.hprof_pair.proofs.roots.write_roots.Goals as goal

pub loop-j-init : goal.loop-j-init
loop-j-init g c = record {
  room = omega arith;
  putting =
      second_roots_begin _ (pair_told c.args.pair.now) c.args.roots.now _ c.args.tags.now _ (omega arith)
      (rw c.new-lines.ensures at c.in_ok-push.ensures.done ∙ sym (append-nil _));
}

pub loop-j-preserved : goal.loop-j-preserved
loop-j-preserved g c = record {
  room = c.in_ok-first.ensures.first.1;
  putting =
      putting_step _ _ _ _ _ _ _ _ _ _ (next_kind_of_second (pair_told c.args.pair.now) c.args.roots.now _ _ c.loop-j.first _ c.loop-j.j c.args.tags.now c.loop-j-test.true (omega arith) c.in_ok-first.ensures.first.0)
      c.loop-j.invariant.putting c.in_ok-first.ensures.lines c.if-not-put_some.ensures;
}

pub returns-then-not-put_some : goal.returns-then-not-put_some
returns-then-not-put_some g c =
    putting_step_failed _ _ _ _ _ _ _ _ _ (next_kind_of_second (pair_told c.args.pair.now) c.args.roots.now (c.args.pair.now.first.all.plan.now.roots + 1 + c.loop-j.j) (c.args.pair.now.first.all.plan.now.roots + 1 + c.loop-j.j + 1) c.loop-j.first _ c.loop-j.j c.args.tags.now c.loop-j-test.true (omega arith) c.in_ok-first.ensures.first.0)
    c.loop-j.invariant.putting c.in_ok-first.ensures.lines c.if-not-put_some.ensures

pub returns : goal.returns
returns g c =
    second_roots_end _ _ _ (pair_told c.args.pair.now) c.args.roots.now _ c.loop-j.first c.loop-j.j c.args.tags.now _ _ _ c.loop-j-test.false c.loop-j.invariant.putting c.in_ok-push_clears.ensures c.put_lines.ensures.put
