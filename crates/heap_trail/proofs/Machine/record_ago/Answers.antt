use Rattle.std.proofs.Common.{◌<◌, sym, ap, subst, ◌∙◌, arith}
use Rattle.std.specs.Prelude.{slice_get}
use Rattle.std.specs.Option.{option_copied}
use Rattle.heap_trail.specs.Machine.{Machine}
use Rattle.heap_trail.specs.Trail.{retained}
use Rattle.heap_trail.proofs.RecordedPast.{length-past_of}
use Rattle.heap_trail.proofs.PastWalks.{record_there}
use Rattle.heap_trail.proofs.Machine.record_ago.Goals as goal

pub unreachable-requires : goal.unreachable-requires
unreachable-requires c =
    let i = c.self.inside in
    let n = subst (λ (m : Machine). c.args.n < retained m.trail) (sym c.self.view_is) c.requires in
    record_there i.records.items c.args.n (omega (arith, n, length-past_of i.world i.records.items)) (sym c.nth_front.ensures ∙ ap option_copied c.in-None.is)

pub returns : goal.returns
returns c =
    let i = c.self.inside in
    ap (λ (m : Machine). slice_get m.trail.records c.args.n) (sym c.self.view_is) ∙ sym c.nth_front.ensures ∙ ap option_copied c.in-Some.is
