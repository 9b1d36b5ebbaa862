use Rattle.std.proofs.Common.{[], ◌∷◌, ◌++◌, sym, ap, ◌∙◌}
use Rattle.std.specs.Prelude.{Option, Some}
use Rattle.heap_history.specs.declared.entry.Entry.{Entry}
use Rattle.heap_history.proofs.KeptEntries.{entry_not_kept_is_none, kept_entry_is_whole}
use Rattle.heap_history.proofs.block.EntryBlock.push_rare.Goals as goal

pub returns-in-Some : goal.returns-in-Some
returns-in-Some c =
    let told = c.in-Some.ensures in
    c.push_long.ensures ∙ ap (λ (o : Option Entry). c.args.self.now.entries ++ o ∷ []) (ap Some told.1 ∙ sym (kept_entry_is_whole c.args.entry.now told.0))

pub returns-in-None : goal.returns-in-None
returns-in-None c = c.push_nothing.ensures ∙ ap (λ (o : Option Entry). c.args.self.now.entries ++ o ∷ []) (sym (entry_not_kept_is_none c.args.entry.now c.in-None.ensures))
