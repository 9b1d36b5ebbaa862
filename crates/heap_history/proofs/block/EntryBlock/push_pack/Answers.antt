use Rattle.std.proofs.Common.{sym, ap, ◌∙◌}
use Rattle.std.specs.Prelude.{Some}
use Rattle.heap_history.proofs.KeptEntries.{told_pack_entry_is_whole}
use Rattle.heap_history.proofs.Places.{number_pack_tells_entry, entry_of_one_pack_more, number_pack_added_is_placed}
use Rattle.heap_history.proofs.block.EntryBlock.push_pack.Goals as goal

pub invariant_of-self : goal.invariant_of-self
invariant_of-self c = rw c.push_reserved.ensures.items (number_pack_added_is_placed _ _ c.args.pack c.self.invariant c.requires.tells.0)

pub returns : goal.returns
returns c =
    let t = c.requires.tells in
    rw (c.push_reserved.ensures.items, ← c.self.view_is) (entry_of_one_pack_more _ _ c.args.pack _ (number_pack_tells_entry _ c.args.pack t.0 ∙ ap Some t.1 ∙ sym (told_pack_entry_is_whole c.args.pack c.args.entry.now t)))
