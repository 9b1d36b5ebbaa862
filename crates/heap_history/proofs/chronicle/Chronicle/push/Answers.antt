use Rattle.std.proofs.Common.{◌<◌, List, [], ◌∷◌, ◌++◌, length, sym, ap, ◌∙◌, subst}
use Rattle.std.specs.Prelude.{Option}
use Rattle.heap_history.specs.declared.entry.Entry.{Entry}
use Rattle.heap_history.specs.Chronicles.{ChronicleState, IsChronicle, entries_of}
use Rattle.heap_history.specs.Limits.{entry_limit}
use Rattle.heap_history.proofs.Rolls.{noted_entries_of_one_more, chronicle_with_entry_in_newer}
use Rattle.heap_history.proofs.chronicle.Chronicle.push.Goals as goal

pub invariant_of-self : goal.invariant_of-self
invariant_of-self c =
    let s = c.self.inside in
    let w = c.make_way-self-inside in
    let es = entries_of s.noted.items in
    let more = subst (λ (x : ChronicleState). length x.entries < entry_limit x.rolls) (sym c.self.view_is) c.requires.more in
    let noted = ap entries_of c.and-self-inside.ensures ∙ noted_entries_of_one_more s.noted.items c.args.entry in
    let done = chronicle_with_entry_in_newer w.new.older w.new.newer w.result s.rolls es c.args.entry (w.ensures.kept s.rolls es c.self.invariant more) more in
    subst (λ (l : List Entry). IsChronicle w.new.older.entries c.push.new.self.entries w.result s.rolls l) (sym noted)
    (subst (λ (l : List (Option Entry)). IsChronicle w.new.older.entries l w.result s.rolls (es ++ c.args.entry ∷ [])) (sym c.push.ensures) done)

pub returns-clause-entries : goal.returns-clause-entries
returns-clause-entries c =
    ap entries_of c.and-self-inside.ensures ∙ noted_entries_of_one_more c.self.inside.noted.items c.args.entry ∙ ap (λ (x : ChronicleState). x.entries ++ c.args.entry ∷ []) c.self.view_is
