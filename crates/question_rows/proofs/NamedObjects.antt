-- The classes of what registers name, and of listed objects, are there.
use Rattle.std.proofs.Common.{◌≡◌, ℕ, Bool, true, false, cond, List, [], ◌∷◌, Option, Some, length, map, subst, sym}
use Rattle.std.specs.Prelude.{All, find, option_map, ◌==◌}
use Rattle.std.specs.List.{AllByRecursion}
use Rattle.std.proofs.lemmas.List.Elements.{All-filter, All-from_recursion, recursion_from_All}
use Rattle.heap_class.specs.declared.ObjKind.{ObjKind}
use Rattle.heap_class.specs.declared.ObjKind.TheVariants.{Instance, Array, Prim}
use Rattle.heap_class.specs.Classes.{Class}
use Rattle.hprof_text.specs.Image.{DumpedObject, Image, IsDumpable, IsKnown}
use Rattle.heap_questions.specs.Graph.{object_with}
use Rattle.heap_questions.specs.ObjectLists.{AreObjectsWanted, listed_object, objects_wanted}
use Rattle.heap_questions.specs.Registers.{object_named}
use Rattle.heap_questions.specs.Wanted.{is_wanted}
use Rattle.heap_questions.specs.declared.wanted.Wanted.{Wanted}
use Rattle.heap_questions.specs.declared.object_list.ListedObject.{ListedObject}
use Rattle.question_words.specs.Names.{IsClassThere}
use Rattle.question_rows.specs.ObjectLists.{IsListedThere}
use Rattle.question_rows.specs.Registers.{IsKindKnown, NamesKnown}

pub known_kind_has_class : (classes : List Class) (kind : ObjKind) (n : ℕ) → IsKnown classes kind n → IsClassThere classes kind
known_kind_has_class classes (Instance k) n known = known.0
known_kind_has_class classes (Array k) n known = known
known_kind_has_class classes (Prim kind) n known = tt

abbrev IsThere : List Class → DumpedObject → Type 0
IsThere classes o = IsKnown classes o.kind (length o.words)

found_there : (classes : List Class) (test : DumpedObject → Bool) (objects : List DumpedObject) → AllByRecursion (IsThere classes) objects
    → IsKindKnown classes (option_map (λ (o : DumpedObject). o.kind) (find test objects))
found_there classes test [] all = tt
found_there classes test (o ∷ os) all = go (found_there classes test os all.1) (test o)
  where
    go : IsKindKnown classes (option_map (λ (o : DumpedObject). o.kind) (find test os)) → (b : Bool)
        → IsKindKnown classes (option_map (λ (o : DumpedObject). o.kind) (cond b (Some o) (find test os)))
    go later true = known_kind_has_class classes o.kind (length o.words) all.0
    go later false = later

named_there : (image : Image) (x : ℕ) → IsDumpable image → NamesKnown image.classes (object_named image x)
unfolding object_with
named_there image x d = found_there image.classes (λ o. o.id == x) image.objects (recursion_from_All (IsThere image.classes) image.objects d.known)

each_there : (image : Image) (xs : List ℕ) → IsDumpable image → AllByRecursion (NamesKnown image.classes) (map (object_named image) xs)
each_there image [] d = tt
each_there image (x ∷ xs) d = (named_there image x d, each_there image xs d)

pub all_there : (image : Image) → IsDumpable image → All (NamesKnown image.classes) (map (object_named image) image.registers)
all_there image d = All-from_recursion (NamesKnown image.classes) (map (object_named image) image.registers) (each_there image image.registers d)

pub class_there : (image : Image) (x : ℕ) (o : DumpedObject) → IsDumpable image → object_with image x ≡ Some o → IsClassThere image.classes o.kind
unfolding object_with
class_there image x o d e =
    subst (λ (p : Option DumpedObject). IsKindKnown image.classes (option_map (λ (o : DumpedObject). o.kind) p)) e
    (found_there image.classes (λ o. o.id == x) image.objects (recursion_from_All (IsThere image.classes) image.objects d.known))

listed_there : (classes : List Class) (test : DumpedObject → Bool) (objects : List DumpedObject) → AllByRecursion (IsThere classes) objects → AllByRecursion (IsListedThere classes) (map (listed_object test) objects)
listed_there classes test [] all = tt
listed_there classes test (o ∷ os) all = (known_kind_has_class classes o.kind (length o.words) all.0, listed_there classes test os all.1)

-- the classes of the objects of a list are there
pub all_listed_there : (wanted : Wanted) (image : Image) (all : List ListedObject) → IsDumpable image → AreObjectsWanted wanted image all → All (IsListedThere image.classes) all
all_listed_there wanted image all d is =
    let these = objects_wanted wanted image in
    All-from_recursion (IsListedThere image.classes) all
    (subst (λ (l : List ListedObject). AllByRecursion (IsListedThere image.classes) l) (sym is.2) (listed_there image.classes is.0 these (recursion_from_All (IsThere image.classes) these (All-filter (λ o. is_wanted wanted o.kind o.words) (IsThere image.classes) image.objects d.known))))
