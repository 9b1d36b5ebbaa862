-- What the nodes of an older image and a search in a newer tell of the objects that are kept.
use Rattle.std.proofs.Common.{◌≡◌, ℕ, Bool, true, List, map, Option, Some, None, refl, sym, ap, ◌∙◌}
use Rattle.std.specs.Prelude.{is_none, not, ◌↔◌}
use Rattle.heap_class.specs.declared.IdSize.{IdSize}
use Rattle.heap_class.specs.declared.ObjRef.{ObjRef}
use Rattle.hprof_text.specs.Image.{DumpedObject, Image}
use Rattle.heap_questions.specs.Garbage.{is_reached}
use Rattle.heap_questions.specs.Graph.{HasId}
use Rattle.heap_questions.specs.Histogram.{rows_of, without_marked}
use Rattle.heap_questions.specs.Kept.{AreKept, IsKeptSince, is_kept}
use Rattle.heap_questions.specs.Search.{AreNodes, AreSeen, Found, IsSearched, node_with}
use Rattle.heap_questions.specs.declared.nodes.Node.{Node}
use Rattle.heap_questions.specs.declared.rows.Row.{Row}
use Rattle.heap_questions.proofs.Counting.{unmarked_is_filter}
use Rattle.heap_questions.proofs.NodePlaces.{node_of_object, object_found}
use Rattle.heap_questions.proofs.Reaching.{of_ids}
use Rattle.heap_questions.proofs.Retained.{and_true, both_of_and, not_twice, reachable_is}

-- no node of an image has an id exactly if no object has it
no_node : (image : Image) (places : List ObjRef) (nodes : List Node) (x : ℕ) → AreNodes image places nodes → (is_none (node_with nodes x) ≡ true) ↔ (¬ HasId image x)
no_node image places nodes x n = (λ e h. there e (node_of_object image places nodes x n h), λ h. go (node_with nodes x) refl h)
  where
    there : is_none (node_with nodes x) ≡ true → (j : ℕ) × (node_with nodes x ≡ Some j) → ⊥
    there e j = let some = j.1 in cc

    go : (o : Option ℕ) → node_with nodes x ≡ o → (¬ HasId image x) → is_none o ≡ true
    go None e h = refl
    go (Some j) e h = absurd (h (object_found image places nodes x j n e))

search_tells_kept : (older newer : Image) (places : List ObjRef) (before nodes : List Node) (seen : List Bool) (queue : List Found) (x : ℕ) → AreNodes older places before → IsSearched newer queue → AreSeen nodes seen queue
    → (is_kept before nodes seen x ≡ true) ↔ IsKeptSince older newer x
search_tells_kept older newer places before nodes seen queue x n s a =
    let r = reachable_is newer nodes seen queue x s a in
    let h = no_node older places before x n in
    let f = is_none (node_with before x) in
    let g = is_reached nodes seen x in (
      λ t.
          let p = both_of_and f g t in
          (h.0 p.0, r.0 p.1),
      λ k. and_true f g (h.1 k.0) (r.1 k.1),
    )

-- the rows of the objects that aren't marked are those of what is kept
pub are_kept : (ids : IdSize) (older newer : Image) (older_places places : List ObjRef) (before nodes : List Node) (seen : List Bool) (queue : List Found) (marks : List Bool) (rows : List Row) → AreNodes older older_places before → AreNodes newer places nodes
    → IsSearched newer queue → AreSeen nodes seen queue → marks ≡ map (λ n. not (is_kept before nodes seen n.id)) nodes → rows ≡ rows_of ids newer.classes (without_marked marks newer.objects) → AreKept ids older newer rows
are_kept ids older newer older_places places before nodes seen queue marks rows b n s a m e =
    let f : ℕ → Bool = λ x. not (is_kept before nodes seen x) in
    let t : DumpedObject → Bool = λ o. not (f o.id) in
    let same : marks ≡ map f (map (λ o. o.id) newer.objects) = m ∙ of_ids f nodes ∙ ap (map f) n.ids in (
      t,
      λ o c.
          let w = search_tells_kept older newer older_places before nodes seen queue o.id b s a in
          (λ h. w.0 (sym (not_twice (is_kept before nodes seen o.id)) ∙ h), λ h. not_twice (is_kept before nodes seen o.id) ∙ w.1 h),
      e ∙ ap (λ bs. rows_of ids newer.classes (without_marked bs newer.objects)) same ∙ ap (rows_of ids newer.classes) (unmarked_is_filter f newer.objects),
    )
