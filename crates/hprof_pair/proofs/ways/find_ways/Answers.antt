use Rattle.std.proofs.Common.{arith}
use Rattle.hprof_pair.specs.Dumps.{dump_told}
use Rattle.hprof_pair.proofs.FoundWays.{search_begins, search_goes_on}
use Rattle.hprof_pair.proofs.ways.find_ways.Goals as goal

pub loop-k-init : goal.loop-k-init
loop-k-init c = record {
  found = c.in_ok-add_ways.ensures.found;
  search = rw (c.in_ok-add_ways.ensures.ways, c.none_found-ways.ensures.ways, c.as_slice.ensures.value, c.in_ok-first.ensures) (search_begins _ _);
}

pub loop-k-preserved : goal.loop-k-preserved
loop-k-preserved c = record {
  found = c.in_ok-add_ways-2.ensures.found;
  search =
      rw (c.in_ok-add_ways-2.ensures.ways, c.as_slice-in-loop-k-2.ensures.value, c.in_ok-put_ways_out.ensures, c.as_slice-in-loop-k.ensures.value, c.in_ok-read_values.ensures)
      (search_goes_on (dump_told c.args.dump.now) _ c.loop-k.ways.ways.items c.loop-k.k c.index.result.now (omega (arith, c.if-k-len.false, c.len.ensures)) c.index.ensures c.loop-k.invariant.search);
}
