use Rattle.std.proofs.Common.{◌≡◌, ap, arith, rules}
use Rattle.heap_world.specs.State.{HeapState, opening_state}
use Rattle.heap_world.specs.declared.Limits.{Limits}
use Rattle.heap_trail.specs.Machine.{opening_machine}
use Rattle.heap_trail.specs.Records.{machine_of}
use Rattle.heap_trail.specs.OpenPins.{pins_of}
use Rattle.heap_trail.proofs.Machine.new.Goals as goal

pub returns-clause-opened : goal.returns-clause-opened
unfolding opening_machine pins_of
returns-clause-opened c =
    let w : c.in_ok-world.world ≡ opening_state c.args.config.limits c.args.config.regions c.args.config.mutators = c.in_ok-world.ensures.opened in
    let r = c.in_ok-records.ensures.records in
    let k : c.keep-keep.result ≡ c.args.config.keep = c.keep-keep.ensures.value in
    let d : c.ids-ids.result ≡ c.args.config.ids = c.ids-ids.ensures in
    λ i. machine_of (d i) (w i) (r i) 0 (k i) 1 (c.in_ok-records.ensures.pins.0 i)

pub invariant_of-result : goal.invariant_of-result
unfolding opening_state
invariant_of-result c =
    let w : c.in_ok-world.world ≡ opening_state c.args.config.limits c.args.config.regions c.args.config.mutators = c.in_ok-world.ensures.opened in
    (search rules, search rules, omega (arith, ap (λ (v : HeapState). v.limits.pins) w, ap (λ (l : Limits). l.pins) c.limits.ensures.value, c.in_ok-records.ensures.pins.1))
