-- The objects of a view as a list has them.
use Rattle.std.proofs.Common.{◌≡◌, ◌∙◌, ℕ, ◌+◌, Bool, true, false, cond, List, [], ◌∷◌, ◌++◌, length, map, take, ap, refl, sym}
use Rattle.std.specs.Prelude.{filter, slice_get, Some, option_map}
use Rattle.std.proofs.lemmas.List.{map-append}
use Rattle.std.proofs.lemmas.List.Elements.{filter_more}
use Rattle.std.proofs.lemmas.Option.{get_or_from_slice_get, same_Some, slice_get-map, slice_get_within}
use Rattle.heap_class.specs.declared.ObjKind.{ObjKind}
use Rattle.heap_class.specs.declared.ObjRef.{ObjRef}
use Rattle.hprof_text.specs.Image.{DumpedObject, Image}
use Rattle.heap_questions.specs.ObjectLists.{AreObjectsWanted, IsObjectList, listed_object}
use Rattle.heap_questions.specs.Wanted.{is_wanted}
use Rattle.heap_questions.specs.declared.wanted.Wanted.{Wanted}
use Rattle.heap_questions.specs.declared.wanted.Wanted.TheVariants.{All}
use Rattle.heap_questions.specs.Search.{AreNodes}
use Rattle.heap_questions.specs.declared.nodes.Node.{Node}
use Rattle.heap_questions.specs.declared.object_list.ListedObject.{ListedObject}

-- node j has the id of object j
pub node_id : (image : Image) (places : List ObjRef) (nodes : List Node) (j : ℕ) (n : Node) (o : DumpedObject) → AreNodes image places nodes → slice_get nodes j ≡ Some n → slice_get image.objects j ≡ Some o → n.id ≡ o.id
node_id image places nodes j n o h g e =
    same_Some n.id o.id
    (sym (ap (option_map (λ (n : Node). n.id)) g) ∙ sym (slice_get-map (λ (n : Node). n.id) nodes j) ∙ ap (λ l. slice_get l j) h.ids
    ∙ slice_get-map (λ (o : DumpedObject). o.id) image.objects j ∙ ap (option_map (λ (o : DumpedObject). o.id)) e)

-- an object as the list has it, by what a view tells of it
pub listed_is : (test : DumpedObject → Bool) (o : DumpedObject) (x : ℕ) (kind : ObjKind) (words : List ℕ) (b : Bool) → x ≡ o.id → kind ≡ o.kind → words ≡ o.words → b ≡ test o
    → ◌≡◌ {A = ListedObject} (record { id = x; kind = kind; slots = length words; unreached = b }) (listed_object test o)
listed_is test o x kind words b a k w u = λ i. record { id = a i; kind = k i; slots = length (w i); unreached = u i }

-- the objects that are wanted
abbrev wanted_of : Wanted → List DumpedObject → List DumpedObject
wanted_of wanted objects = filter (λ o. is_wanted wanted o.kind o.words) objects

-- one object more
pub listed_more : (test : DumpedObject → Bool) (wanted : Wanted) (objects : List DumpedObject) (i : ℕ) (o : DumpedObject) (y : ListedObject) (b : Bool) (old new : List ListedObject) → slice_get objects i ≡ Some o → y ≡ listed_object test o → b ≡ is_wanted wanted o.kind o.words
    → old ≡ map (listed_object test) (wanted_of wanted (take i objects)) → new ≡ old ++ cond b (y ∷ []) [] → new ≡ map (listed_object test) (wanted_of wanted (take (i + 1) objects))
listed_more test wanted objects i o y b old new h e w before push =
    let f : DumpedObject → ListedObject = listed_object test in
    let p : DumpedObject → Bool = λ o. is_wanted wanted o.kind o.words in
    let more : wanted_of wanted (take (i + 1) objects) ≡ wanted_of wanted (take i objects) ++ cond (p o) (o ∷ []) [] =
    filter_more p objects i o (slice_get_within objects i o h) ∙ ap (λ (x : DumpedObject). wanted_of wanted (take i objects) ++ cond (p x) (x ∷ []) []) (get_or_from_slice_get objects i o o h) in
    push
    ∙ ap (λ (l : List ListedObject). l ++ cond b (y ∷ []) []) before
    ∙ (λ j. map f (wanted_of wanted (take i objects)) ++ cond (w j) (e j ∷ []) [])
    ∙ ap (λ (l : List ListedObject). map f (wanted_of wanted (take i objects)) ++ l) (of_one (p o))
    ∙ sym (map-append f (wanted_of wanted (take i objects)) (cond (p o) (o ∷ []) []))
    ∙ ap (map f) (sym more)
  where
    of_one : (b : Bool) → ◌≡◌ {A = List ListedObject} (cond b (listed_object test o ∷ []) []) (map (listed_object test) (cond b (o ∷ []) []))
    of_one true = refl
    of_one false = refl

-- all objects are wanted
kept_all : (objects : List DumpedObject) → wanted_of All objects ≡ objects
kept_all [] = refl
kept_all (o ∷ objects) = ap (λ (l : List DumpedObject). o ∷ l) (kept_all objects)

-- a list of all objects that are wanted, if all are
pub all_listed : (image : Image) (all : List ListedObject) → AreObjectsWanted All image all → IsObjectList image all
all_listed image all h = (h.0, h.1, h.2 ∙ ap (map (listed_object h.0)) (kept_all image.objects))
