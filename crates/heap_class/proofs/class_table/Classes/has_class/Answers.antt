use Rattle.std.proofs.Common.{sym, ap, ◌∙◌}
use Rattle.std.specs.List.{list_any}
use Rattle.std.specs.Str.{bytes_eq}
use Rattle.heap_class.specs.Classes.{Class}
use Rattle.heap_class.proofs.ClassNumbers.{name_of_none, name_of_some}
use Rattle.heap_class.proofs.class_table.Classes.has_class.Goals as goal

pub returns-in-Some : goal.returns-in-Some
returns-in-Some c =
    c.is_some.ensures
    ∙ sym (name_of_some c.self.inside.names.entries c.self.inside.entries.items c.self.invariant c.args.name.now c.in-Some.class.now (sym c.in-Some.ensures.value))
    ∙ ap (list_any (λ (d : Class). bytes_eq d.name c.args.name.now)) c.self.view_is

pub returns-in-None : goal.returns-in-None
returns-in-None c =
    sym (name_of_none c.self.inside.names.entries c.self.inside.entries.items c.self.invariant c.args.name.now (sym c.in-None.ensures.value))
    ∙ ap (list_any (λ (d : Class). bytes_eq d.name c.args.name.now)) c.self.view_is
