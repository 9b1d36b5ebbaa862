use Rattle.std.proofs.Common.{subst}
use Rattle.machine_dump.specs.PinDumps.{IsPlaceDumped}
use Rattle.heap_save.specs.LateOutlets.{outlet_in}
use Rattle.heap_save.proofs.DumpLandings.{late_opening_lands_dump, landing_with_handed_outlet}
use Rattle.heap_save.proofs.save.dump_late.Goals as goal

pub returns : goal.returns
returns g c =
    let s = c.stream_place-pumped in
    let t = s.result.1 in
    let e = c.into_parts-target.ensures in
    let d = subst (λ v. IsPlaceDumped c.args.dump.time c.args.machine.now s.new.machine (record { out = v.put; failures = v.failures }) (record { out = t.put; failures = t.failures }) s.result.0) c.new-late.ensures s.ensures in
    landing_with_handed_outlet g.B.Origin.was (g.P.Outlets.makes) g.P.Out.Outlet.seen c.args.dump.time c.args.machine.now s.new.machine t.target c.into_parts-target.result.0 (outlet_in t.opening) c.into_parts-target.result.1 s.result.0 e.target e.outlet
    (late_opening_lands_dump g.B.Origin.was (g.P.Outlets.makes) g.P.Out.Outlet.seen c.args.dump.time c.args.machine.now s.new.machine t.target t.opening t.put t.failures s.result.0 e.late d)
