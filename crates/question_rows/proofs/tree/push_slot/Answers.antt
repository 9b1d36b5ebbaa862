use Rattle.std.proofs.Common.{List, Option, subst, sym}
use Rattle.std.specs.Prelude.{IfSome}
use Rattle.heap_class.specs.Classes.{Class}
use Rattle.hprof_text.specs.Image.{DumpedObject}
use Rattle.question_words.specs.Names.{IsClassThere}
use Rattle.question_rows.specs.Trees.{object_at_slot}
use Rattle.question_rows.proofs.TreeObjects.{named_class_there}
use Rattle.question_rows.proofs.tree.push_slot.Goals as goal

pub push_tree_row-requires-clause-there : goal.push_tree_row-requires-clause-there
push_tree_row-requires-clause-there g c =
    let image = c.args.index.now in
    let o = c.args.object.now in
    subst (λ (named : Option DumpedObject). IfSome named (λ p. IsClassThere c.args.classes.now p.kind)) (sym c.object_at_slot-named.ensures)
    (subst (λ (cs : List Class). IfSome (object_at_slot image o c.args.slot) (λ p. IsClassThere cs p.kind)) (sym c.requires.classes) (named_class_there image o c.args.slot c.requires.limits))
