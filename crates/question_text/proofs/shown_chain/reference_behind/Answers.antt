use Rattle.std.proofs.Common.{◌∙◌, List, Option, ap, length, subst, sym}
use Rattle.std.specs.Prelude.{Err}
use Rattle.std.specs.Option.{option_map_or}
use Rattle.heap_class.specs.Classes.{Class}
use Rattle.hprof_text.specs.Image.{DumpedObject, IsKnown}
use Rattle.question_words.specs.declared.rows.Unanswered.TheVariants.{NoObject}
use Rattle.question_rows.proofs.TreeObjects.{object_known}
use Rattle.question_text.specs.ShownChains.{reference_by}
use Rattle.question_text.proofs.shown_chain.reference_behind.Goals as goal

pub reference_by-requires : goal.reference_by-requires
reference_by-requires g c =
    let o = c.in-Some.object in
    subst (λ (cs : List Class). IsKnown cs o.kind (length o.words)) (sym c.requires.classes)
    (object_known c.args.index.now c.args.id o c.requires.limits (sym c.object_with.ensures ∙ c.in-Some.is))

pub returns-in-Some : goal.returns-in-Some
returns-in-Some g c =
    let image = c.args.index.now in
    let word = c.args.word.now in
    c.reference_by.ensures
    ∙ ap (λ (cs : List Class). reference_by cs c.in-Some.object word) c.requires.classes
    ∙ ap (λ (o : Option DumpedObject). option_map_or (λ (o : DumpedObject). reference_by image.classes o word) o (Err NoObject)) (sym c.in-Some.is ∙ c.object_with.ensures)

pub returns-in-None : goal.returns-in-None
returns-in-None g c =
    let image = c.args.index.now in
    let word = c.args.word.now in
    ap (λ (o : Option DumpedObject). option_map_or (λ (o : DumpedObject). reference_by image.classes o word) o (Err NoObject)) (sym c.in-None.is ∙ c.object_with.ensures)
