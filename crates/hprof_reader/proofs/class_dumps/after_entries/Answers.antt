use Rattle.std.proofs.lemmas.Result.{err_from_is_err_and}
use Rattle.hprof_reader.specs.Entries.{after_entries}
use Rattle.hprof_reader.proofs.EntryLoops.{entry_loop_goes_on_after_entry, entry_loop_ends_at_fault, entry_loop_done_at_count}
use Rattle.hprof_reader.proofs.class_dumps.after_entries.Goals as goal

pub returns-in_err-_entry : goal.returns-in_err-_entry
returns-in_err-_entry c =
    let p = err_from_is_err_and c.from_residual.result c.from_residual.ensures.1 in
    rw (p.1, p.2) (entry_loop_ends_at_fault c.args.ids c.args.key c.args.count c.loop.counter c.loop.rest.now c.in_err-_entry.field-0.0 (after_entries c.args.ids c.args.key c.args.count c.args.bytes.now) c.loop-test.true c.in_err-_entry.ensures c.loop.invariant)

pub loop-preserved : goal.loop-preserved
loop-preserved c =
    entry_loop_goes_on_after_entry c.args.ids c.args.key c.args.count c.loop.counter c.loop.rest.now _ (after_entries c.args.ids c.args.key c.args.count c.args.bytes.now) c.loop-test.true c.in_ok-_entry.ensures c.loop.invariant

pub returns : goal.returns
returns c = entry_loop_done_at_count c.args.ids c.args.key c.args.count c.loop.counter c.loop.rest.now (after_entries c.args.ids c.args.key c.args.count c.args.bytes.now) c.loop-test.false c.loop.invariant
