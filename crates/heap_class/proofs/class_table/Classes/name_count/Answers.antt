use Rattle.std.proofs.Common.{ap, sym, ◌∙◌, length, arith, ℕ, List, Option}
use Rattle.std.proofs.lemmas.List.{length-map}
use Rattle.heap_class.proofs.Tables.{table_names, few_names}
use Rattle.heap_class.specs.Classes.{name_table}
use Rattle.heap_class.proofs.class_table.Classes.name_count.Goals as goal

pub returns-clause-value : goal.returns-clause-value
returns-clause-value c =
    c.len.ensures.len
    ∙ sym (length-map c.self.inside.names.entries (λ (n : List ℕ × Option ℕ). n.0))
    ∙ ap length (sym (table_names _ _ c.self.invariant.table))
    ∙ ap (λ v. length (name_table v)) c.self.view_is

pub returns-clause-limit : goal.returns-clause-limit
returns-clause-limit c =
    omega (
      arith,
      few_names _ _ c.self.invariant.table,
      c.self.invariant.table.few,
      c.len.ensures.len,
      length-map c.self.inside.names.entries (λ (n : List ℕ × Option ℕ). n.0),
    )
