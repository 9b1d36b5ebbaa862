use Rattle.std.proofs.Common.{subst, sym, ◌≡◌, ◌∙◌}
use Rattle.hprof_lines.specs.LeftOut.{left_out_of_dump}
use Rattle.hprof_lines.specs.Objects.{ObjectsTold}
use Rattle.hprof_lines.proofs.Counting.{all_left_out}
use Rattle.hprof_lines.proofs.ToldObjects.{objects_are}
use Rattle.hprof_lines.proofs.left_out.count_left_out.Goals as goal

pub returns : goal.returns
returns c = λ items whole.
    let told =
    objects_are c.args.plan.now c.args.walk.ids c.args.objects.now.keys items c.in_ok-statics.statics.keys c.as_slice-kept.result.now c.len-before.result
    (rw c.as_slice-planned.ensures.value at c.in_ok-statics.ensures) c.len-before.ensures.len (c.as_slice-kept.ensures.value ∙ c.in_ok-made.ensures items whole) in
    subst
    (λ (o : ObjectsTold). record { arrays = c.in_ok-left.left.arrays; objects = c.in_ok-left.left.objects; references = c.in_ok-left.left.references; roots = c.lost_roots.result; fields = c.lost_fields.result } ≡ left_out_of_dump o items c.args.roots.now)
    (sym told)
    (all_left_out _ items c.args.roots.now c.in_ok-left.left _ _ (c.in_ok-left.ensures items whole) c.lost_roots.ensures c.lost_fields.ensures)
