use Rattle.std.proofs.Common.{◌≡◌, ◌∙◌, ◌++◌, List, [], Option, ap, ap₂, subst, sym, ℕ}
use Rattle.std.specs.Option.{option_map_or}
use Rattle.std.proofs.lemmas.List.{append-nil}
use Rattle.heap_class.specs.Classes.{Class}
use Rattle.heap_class.specs.declared.ObjKind.{ObjKind}
use Rattle.hprof_text.specs.Image.{DumpedObject}
use Rattle.question_words.specs.Appends.{Appends}
use Rattle.question_text.specs.DominatorRows.{above_text, holder_text}
use Rattle.question_words.specs.Names.{IsClassThere}
use Rattle.question_rows.proofs.NamedObjects.{class_there}
use Rattle.question_text.proofs.dominator_rows.push_above.Goals as goal

pub push_holder-requires : goal.push_holder-requires
push_holder-requires g c =
    let image = c.args.index.now in
    let e = sym c.object_with.ensures ∙ c.in-Some.is in
    subst (λ (cs : List Class). IsClassThere cs c.kind.result) (sym c.requires.classes)
    (subst (IsClassThere image.classes) (sym c.kind.ensures) (class_there image c.args.id c.in-Some.object c.requires.limits e))

pub returns-in-Some : goal.returns-in-Some
returns-in-Some g c =
    let image = c.args.index.now in
    let x = c.args.id in
    let e = sym c.object_with.ensures ∙ c.in-Some.is in
    let same : holder_text c.args.classes.now x c.kind.result ≡ above_text image x =
    ap₂ (λ (cs : List Class) (k : ObjKind). holder_text cs x k) c.requires.classes c.kind.ensures
    ∙ ap (λ (o : Option DumpedObject). option_map_or (λ o. holder_text image.classes x o.kind) o []) (sym e) in
    subst (λ (t : List ℕ). Appends t c.args.text.now.items c.push_holder.new.text.items c.push_holder.result) same c.push_holder.ensures

pub returns-in-None : goal.returns-in-None
returns-in-None g c =
    let image = c.args.index.now in
    let old = c.args.text.now.items in
    let e = sym c.object_with.ensures ∙ c.in-None.is in
    let none : above_text image c.args.id ≡ [] = ap (λ (o : Option DumpedObject). option_map_or (λ o. holder_text image.classes c.args.id o.kind) o []) e in
    sym (ap (λ (t : List ℕ). old ++ t) none ∙ append-nil old)
