use Rattle.std.proofs.Common.{◌++◌, List, [], ◌∷◌, map, ap, ap₂, sym, ◌∙◌, arith}
use Rattle.std.specs.Prelude.{slice_index, Option}
use Rattle.std.proofs.lemmas.List.{map_more, take_all}
use Rattle.heap_class.specs.declared.ObjKind.{ObjKind}
use Rattle.heap_questions.specs.Registers.{object_named}
use Rattle.heap_questions.specs.declared.registers.NamedObject.{NamedObject}
use Rattle.heap_questions.proofs.registers.named_by_registers.Goals as goal

pub loop-r-preserved : goal.loop-r-preserved
loop-r-preserved g c =
    let registers = c.registers-registers.result.now in
    let i = c.loop-r.r in
    c.in_ok-push.ensures.items
    ∙ ap₂ (λ (all : List NamedObject) (kind : Option ObjKind). all ++ record { id = slice_index registers i; kind = kind } ∷ []) c.loop-r.invariant c.kind_with-kind.ensures
    ∙ sym (map_more (object_named (g.V.View.image c.args.view.now)) registers i 0 (omega arith))

pub returns-clause-named : goal.returns-clause-named
returns-clause-named g c =
    let f = object_named (g.V.View.image c.args.view.now) in
    c.loop-r.invariant ∙ ap (map f) (take_all c.loop-r.r c.registers-registers.result.now (omega arith) ∙ c.registers-registers.ensures)
