use Rattle.std.proofs.Common.{◌≡◌, ◌<◌, length, get_or, take, drop, sym, ap, ◌∙◌, arith}
use Rattle.std.proofs.lemmas.Bool.{ltb-true}
use Rattle.std.proofs.lemmas.List.{take-append-drop}
use Rattle.heap_class.specs.Classes.{name_table}
use Rattle.heap_class.proofs.Tables.{table_names, few_names}
use Rattle.heap_class.proofs.Front.{fewer_names}
use Rattle.heap_class.proofs.NameCounts.{names_counted}
use Rattle.heap_class.proofs.class_table.Classes.name_count_of_first.Goals as goal

pub returns-in-Some-clause-value : goal.returns-in-Some-clause-value
returns-in-Some-clause-value c =
    let same = c.as_slice.ensures.value in
    let h = c.in-Some.ensures.lookup in
    let at : c.in-Some.entry.now ≡ get_or c.self.inside.entries.items c.args.count c.in-Some.entry.now
    = h.1 ∙ ap (λ l. get_or l c.args.count c.in-Some.entry.now) same in
    let within : c.args.count < length c.self.inside.entries.items = omega (arith, ap length same, ltb-true _ _ (sym h.0)) in
    names_counted _ _ c.self.invariant.table _ c.self.view_is c.args.count c.in-Some.entry.now within at

pub returns-in-Some-clause-limit : goal.returns-in-Some-clause-limit
returns-in-Some-clause-limit c =
    omega (
      arith,
      returns-in-Some-clause-value c,
      fewer_names c.args.self.now (take c.args.count c.args.self.now) (drop c.args.count c.args.self.now) (take-append-drop c.args.count c.args.self.now),
      ap length (table_names _ _ c.self.invariant.table),
      ap (λ v. length (name_table v)) c.self.view_is,
      few_names _ _ c.self.invariant.table,
      c.self.invariant.table.few,
    )
