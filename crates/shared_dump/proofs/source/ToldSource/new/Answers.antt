use Rattle.std.proofs.Common.{List, [], ◌∷◌, ◌++◌, None, sym, ap, ◌∙◌, subst}
use Rattle.dump_pump.specs.Sources.{parts_in}
use Rattle.heap_lock.specs.Dumpers.{DumperState}
use Rattle.shared_dump.specs.Supplies.{ToldSupply, IsSupplied, first_dumper, supply_of}
use Rattle.shared_dump.proofs.SupplySteps.{fresh_source_supplied_nothing}
use Rattle.shared_dump.proofs.source.ToldSource.new.Goals as goal

pub returns : goal.returns
returns g c =
    let first = ap first_dumper (c.and-start.ensures ∙ ap (λ (l : List (DumperState × Unit {0})). l ++ (c.args.dumper, tt) ∷ []) c.new.ensures) in
    let n = c.new-2.ensures.names in
    λ i. supply_of (n.0 i) (n.1 i) (first i) (n.2 i) (parts_in (c.new-3.ensures i)) (n.3 i) None

pub invariant_of-result : goal.invariant_of-result
invariant_of-result g c = subst (λ (t : ToldSupply). IsSupplied g.L.Heap.config t) (sym (returns g c)) (fresh_source_supplied_nothing g.L.Heap.config c.args.pin c.args.time c.args.dumper)
