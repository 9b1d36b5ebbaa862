use Rattle.std.proofs.Common.{sym, ap, ◌∙◌}
use Rattle.std.specs.List.{sum_by}
use Rattle.heap_class.specs.Kinds.{width_of}
use Rattle.heap_class.proofs.Readers.{size_at, sized_at}
use Rattle.heap_class.proofs.class_table.Classes.instance_size.Goals as goal

pub returns-in-Four : goal.returns-in-Four
returns-in-Four c =
    (sized_at _ _ c.self.invariant.table _ c.self.view_is c.args.class c.index.result.now c.requires c.index.ensures).of_four
    ∙ ap (λ ids. sum_by (width_of ids) c.index.result.now.slots.items) (sym c.in-Four.is)
    ∙ sym (size_at _ _ c.self.invariant.table _ c.self.view_is c.args.class c.index.result.now c.requires c.index.ensures c.args.ids)

pub returns-in-Eight : goal.returns-in-Eight
returns-in-Eight c =
    (sized_at _ _ c.self.invariant.table _ c.self.view_is c.args.class c.index.result.now c.requires c.index.ensures).of_eight
    ∙ ap (λ ids. sum_by (width_of ids) c.index.result.now.slots.items) (sym c.in-Eight.is)
    ∙ sym (size_at _ _ c.self.invariant.table _ c.self.view_is c.args.class c.index.result.now c.requires c.index.ensures c.args.ids)
