use Rattle.std.proofs.Common.{map, sym, ap, subst, ◌∙◌}
use Rattle.std.specs.Map.{keys_of}
use Rattle.indexmap.specs.IndexMap.{keys}
use Rattle.heap_class.specs.Entries.{class_of_entry, IsNumberedTable}
use Rattle.heap_class.proofs.ClassNumbers.{numbered_less, keys_left}
use Rattle.heap_class.proofs.Tables.{popped_view}
use Rattle.heap_class.proofs.class_table.Classes.undefine_last.Goals as goal

pub invariant_of-self : goal.invariant_of-self
invariant_of-self c =
    subst (λ ns. IsNumberedTable ns c.pop.new.self.items) (sym c.truncate.ensures.entries)
    (numbered_less _ _ _ (subst (IsNumberedTable c.self.inside.names.entries) c.in-Some.ensures.items c.self.invariant))

pub returns-in-Some : goal.returns-in-Some
returns-in-Some c =
    let whole = subst (IsNumberedTable c.self.inside.names.entries) c.in-Some.ensures.items c.self.invariant in
    popped_view _ _ _ whole.table _ _ (ap keys_of c.truncate.ensures.entries ∙ keys_left _ _ _ whole)
    (ap (map (class_of_entry (keys c.self.inside.names))) (sym c.in-Some.ensures.items) ∙ c.self.view_is)
