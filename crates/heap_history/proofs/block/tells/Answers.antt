use Rattle.std.proofs.Common.{◌≡◌, subst}
use Rattle.std.specs.Prelude.{◌↔◌, IsTrue}
use Rattle.heap_history.specs.declared.entry.Entry.{Entry}
use Rattle.heap_history.specs.History.{entry}
use Rattle.heap_history.specs.Packs.{entry_by}
use Rattle.heap_history.proofs.Places.{empty_pack_tells_none, number_pack_tells_entry, long_entry_told_at_place, pack_entry_told_if_some}
use Rattle.heap_history.proofs.block.tells.Goals as goal

pub returns-in-Numbers-clause-kept : goal.returns-in-Numbers-clause-kept
returns-in-Numbers-clause-kept c =
    let e = entry c.args.seat c.args.action.now c.args.answer in
    pack_entry_told_if_some _ (entry_by c.args.pack.now) e c.is_of.result (number_pack_tells_entry c.args.longs.now c.args.pack.now c.in-Numbers.is)
    (subst (λ (x : Entry). IsTrue c.is_of.result ↔ (x ≡ e)) c.unpack.ensures c.is_of.ensures)

pub returns-in-Long-clause-kept : goal.returns-in-Long-clause-kept
returns-in-Long-clause-kept c =
    let longs = c.args.longs.now in
    let pack = c.args.pack.now in
    long_entry_told_at_place longs pack _ (entry c.args.seat c.args.action.now c.args.answer) c.is_long_pack_of.result c.in-Long.is (c.requires c.in-Long.is) c.is_long_pack_of.ensures

pub returns-in-Nothing-clause-unkept : goal.returns-in-Nothing-clause-unkept
returns-in-Nothing-clause-unkept c = empty_pack_tells_none c.args.longs.now c.args.pack.now c.in-Nothing.is
