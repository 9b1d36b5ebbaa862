-- An image with other registers has the same objects.
use Rattle.std.proofs.Common.{◌≡◌, ℕ, List, [], ◌∷◌, refl, sym, ◌∙◌}
use Rattle.heap_class.specs.declared.ObjRef.{ObjRef}
use Rattle.hprof_text.specs.Image.{Image}
use Rattle.heap_questions.specs.Graph.{named, object_with}
use Rattle.heap_questions.specs.Hops.{AreHops}
use Rattle.heap_questions.specs.Search.{AreNodes, IsFirstNaming, with_registers}
use Rattle.heap_questions.specs.declared.nodes.Node.{Node}
use Rattle.heap_questions.specs.declared.paths.Hop.{Hop}

pub own_registers : (image : Image) → with_registers image image.registers ≡ image
own_registers image = refl

pub same_nodes : (image : Image) (registers : List ℕ) (places : List ObjRef) (nodes : List Node) → AreNodes image places nodes → AreNodes (with_registers image registers) places nodes
same_nodes image registers places nodes n = record { ids = n.ids; placed = n.placed }

pub same_object_with : (image : Image) (registers : List ℕ) (x : ℕ) → object_with (with_registers image registers) x ≡ object_with image x
unfolding object_with
same_object_with image registers x = refl

pub same_named : (image : Image) (registers : List ℕ) (x s : ℕ) → named (with_registers image registers) x s ≡ named image x s
unfolding named object_with
same_named image registers x s = refl

pub same_first_naming : (image : Image) (registers : List ℕ) (nodes : List Node) (j k s : ℕ) → IsFirstNaming image nodes j k s → IsFirstNaming (with_registers image registers) nodes j k s
same_first_naming image registers nodes j k s f x y t ex ey names =
    let h = f x y t ex ey (sym (same_named image registers x t) ∙ names) in
    (same_named image registers x s ∙ h.0, h.1)

pub own_hops : (image : Image) (registers : List ℕ) (y : ℕ) (hops : List Hop) → AreHops (with_registers image registers) y hops → AreHops image y hops
own_hops image registers y [] h = tt
own_hops image registers y (p ∷ ps) h = (sym (same_named image registers y p.slot) ∙ h.0, own_hops image registers p.to ps h.1)
