use Rattle.hprof_convert.proofs.Endings.{found_whole}
use Rattle.hprof_pair.specs.declared.known.KnownDump.{KnownDump}
use Rattle.hprof_pair.proofs.KnownDumps.{is_known}
use Rattle.hprof_pair.proofs.known.know.Goals as goal

pub returns : goal.returns
returns c =
    let finds = c.in_ok-found.ensures in
    let whole = found_whole _ c.in_ok-found.found finds in
    let known : KnownDump = record { found = c.in_ok-found.found; plan = c.in_ok-plan.plan; objects = c.in_ok-objects.objects } in
    is_known _ _ known finds c.in_ok-plan.ensures c.len-number.ensures.limit c.in_ok-objects.ensures.statics (c.in_ok-objects.ensures.made finds.list whole) (c.in_ok-objects.ensures.subs finds.list whole)
