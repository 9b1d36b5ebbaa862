use Rattle.std.proofs.Common.{rules, arith, ◌≡◌, ◌≢◌, ◌<◌, ◌∙◌, List, length, get_or, set, ap}
use Rattle.std.proofs.lemmas.List.{set-get_or}
use Rattle.heap_lock.specs.Verdict.TheVariants.{Holds}
use Rattle.heap_runtime.specs.Actors.{ActorState}
use Rattle.heap_runtime.proofs.ActorAudits.{verdict_otherwise_is_dropped, actors_hold_one_further, audit_stops_at_verdict}
use Rattle.heap_runtime.proofs.totals.audit_all.Goals as goal

pub returns-then-ne-clause-refused : goal.returns-then-ne-clause-refused
returns-then-ne-clause-refused g c =
    let xs = c.args.actors.now in
    let i = c.loop-i.i in
    let r = c.index-actors-i.result in
    let a = get_or c.loop-i.actors i r in
    let same = c.loop-i.invariant.same in
    let below : i < length xs = omega (arith, c.loop-i-test.true, ap length same) in
    let at : a ≡ get_or xs i a = ap (λ (l : List ActorState). get_or l i r) same ∙ ap (get_or xs i) c.index-actors-i.is in
    let differs : c.audit-verdict.result ≢ Holds = search rules in
    (verdict_otherwise_is_dropped c.audit-verdict.result differs c.audit-verdict.ensures.stands, audit_stops_at_verdict g.L.Heap.config g.L.Heap.rolls c.args.witness.now c.loop-i.witness c.audit-verdict.new.witness xs i a c.audit-verdict.result (record { below = below; at = at; hold = c.loop-i.invariant.hold; audited = c.audit-verdict.ensures.audited }))

pub loop-i-preserved : goal.loop-i-preserved
loop-i-preserved g c =
    let xs = c.args.actors.now in
    let i = c.loop-i.i in
    let r = c.index-actors-i.result in
    let a = get_or c.loop-i.actors i r in
    let same = c.loop-i.invariant.same in
    let below : i < length xs = omega (arith, c.loop-i-test.true, ap length same) in
    let at : a ≡ get_or xs i a = ap (λ (l : List ActorState). get_or l i r) same ∙ ap (get_or xs i) c.index-actors-i.is in
    let holds : c.audit-verdict.result ≡ Holds = search rules in
    record {
      same = ap (set c.loop-i.actors i) c.audit-verdict.ensures.same ∙ set-get_or c.loop-i.actors i r ∙ same;
      hold = actors_hold_one_further g.L.Heap.config g.L.Heap.rolls c.args.witness.now c.loop-i.witness c.audit-verdict.new.witness xs i a c.audit-verdict.result holds (record { below = below; at = at; hold = c.loop-i.invariant.hold; audited = c.audit-verdict.ensures.audited });
    }
