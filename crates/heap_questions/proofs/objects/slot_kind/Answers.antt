use Rattle.std.proofs.Common.{◌<◌, length, sym, ap, subst, ◌∙◌, arith}
use Rattle.std.specs.Prelude.{slice_get}
use Rattle.std.proofs.lemmas.Option.{slice_get-get_or}
use Rattle.heap_class.specs.declared.Kind.{Kind}
use Rattle.heap_class.specs.declared.ObjKind.{ObjKind}
use Rattle.heap_class.specs.Classes.{slot_kinds_of}
use Rattle.hprof_text.specs.Image.{IsKnown}
use Rattle.heap_questions.proofs.NamedObjects.{element_kind}
use Rattle.heap_questions.proofs.objects.slot_kind.Goals as goal

pub returns-in-Instance : goal.returns-in-Instance
unfolding slot_kinds_of
returns-in-Instance c =
    let classes = c.args.classes.now in
    let kinds = c.slots.result.now in
    let known = subst (λ (k : ObjKind). IsKnown classes k c.args.words) c.in-Instance.is c.requires.known in
    let l : c.args.slot < length kinds = omega (arith, c.requires.within, known.1, ap length c.slots.ensures.value) in
    ap (λ (k : ObjKind). slice_get (slot_kinds_of classes k c.args.words) c.args.slot) c.in-Instance.is
    ∙ ap (λ ks. slice_get ks c.args.slot) (sym c.slots.ensures.value)
    ∙ slice_get-get_or kinds c.args.slot Kind.Object l

pub returns-in-Array : goal.returns-in-Array
unfolding slot_kinds_of
returns-in-Array c =
    ap (λ (k : ObjKind). slice_get (slot_kinds_of c.args.classes.now k c.args.words) c.args.slot) c.in-Array.is
    ∙ element_kind c.args.words c.args.slot Kind.Object c.requires.within

pub returns-in-Prim : goal.returns-in-Prim
unfolding slot_kinds_of
returns-in-Prim c =
    ap (λ (k : ObjKind). slice_get (slot_kinds_of c.args.classes.now k c.args.words) c.args.slot) c.in-Prim.is
    ∙ element_kind c.args.words c.args.slot c.in-Prim.kind c.requires.within
