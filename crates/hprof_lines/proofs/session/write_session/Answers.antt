use Rattle.std.proofs.Common.{subst, sym, ◌∙◌}
use Rattle.std.proofs.lemmas.Result.{err_from_is_err_and}
use Rattle.hprof_session.specs.Places.{lines_of}
use Rattle.hprof_lines.specs.Objects.{ObjectsTold}
use Rattle.hprof_lines.specs.Outputs.{Writes}
use Rattle.hprof_lines.specs.Sessions.{all_events}
use Rattle.hprof_lines.proofs.Puttings.{cut_more, none_out, writes_then}
use Rattle.hprof_lines.proofs.ToldObjects.{objects_are}
use Rattle.hprof_lines.proofs.session.write_session.Goals as goal

pub returns-in_err-made : goal.returns-in_err-made
returns-in_err-made g c = λ items whole.
    let e = err_from_is_err_and c.from_residual-in_err-made.result c.from_residual-in_err-made.ensures.1 in
    rw e.1 (none_out _ _)

pub returns-then-not-put_text : goal.returns-then-not-put_text
returns-then-not-put_text g c = λ items whole.
    cut_more _ _ _ _ _ (rw c.as_slice-text.ensures at c.if-not-put_text.ensures)

pub returns : goal.returns
returns g c = λ items whole.
    let told =
    objects_are c.args.plan.now c.args.walk.ids c.args.objects.now.keys items c.in_ok-statics.statics.keys c.as_slice-kept.result.now c.len-before.result
    (rw c.as_slice-planned.ensures.value at c.in_ok-statics.ensures) c.len-before.ensures.len (c.as_slice-kept.ensures.value ∙ c.in_ok-made.ensures items whole) in
    writes_then _ _ _ _ _ _ (rw c.as_slice-text.ensures at c.if-not-put_text.ensures)
    (subst (λ (o : ObjectsTold). Writes (g.O.Outlet.seen c.put_text.new.outlet) (g.O.Outlet.seen c.write_all.new.outlet) (lines_of (all_events o items c.args.roots.now)) c.write_all.result) (sym told) (c.write_all.ensures items whole))
