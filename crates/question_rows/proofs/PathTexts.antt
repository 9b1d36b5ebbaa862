-- The lines of a path with its ids are those of its slots.
use Rattle.std.proofs.Common.{◌≡◌, ◌∙◌, ◌++◌, ◌∷◌, ℕ, List, [], Option, Some, None, ap, inl, inr, length, refl, sym}
use Rattle.std.specs.Prelude.{IsSome}
use Rattle.std.specs.Option.{option_map_or}
use Rattle.std.proofs.lemmas.List.{length-map}
use Rattle.hprof_text.specs.Image.{DumpedObject, Image}
use Rattle.heap_questions.specs.Graph.{IsFirstPath, IsPathTo, IsShortest, IsUnreached, object_with}
use Rattle.heap_questions.specs.Hops.{AreHops, TellsIds, slots_of}
use Rattle.heap_questions.specs.declared.paths.Hop.{Hop}
use Rattle.heap_questions.specs.declared.paths.Path.{Path}
use Rattle.question_words.specs.Moments.{unanswered_text}
use Rattle.question_words.specs.Rows.{count_text}
use Rattle.question_rows.specs.Paths.{IsFoundText, IsPathText, IsPathTextOf, hop_texts, path_text, root_text, route_text, step_text, step_texts, why_none}

-- the lines of steps
pub hops_are_steps : (image : Image) (y : ℕ) (hops : List Hop) → AreHops image y hops → hop_texts y hops ≡ step_texts image y (slots_of hops)
hops_are_steps image y [] h = refl
hops_are_steps image y (p ∷ ps) h =
    ap (λ (t : List ℕ). step_text y p.slot p.to ++ t) (hops_are_steps image p.to ps h.1)
    ∙ sym (ap (λ (o : Option ℕ). option_map_or (λ z. step_text y p.slot z ++ step_texts image z (slots_of ps)) o []) h.0)

path_is_route : (image : Image) (p : Path) → TellsIds image p → path_text p ≡ route_text image p.register p.start (slots_of p.hops.items)
path_is_route image p t =
    ap (λ (steps : List ℕ). (root_text p.register p.start ++ steps) ++ count_text (length p.hops.items)) (hops_are_steps image p.start p.hops.items t.hops)
    ∙ ap (λ (n : ℕ). (root_text p.register p.start ++ step_texts image p.start (slots_of p.hops.items)) ++ count_text n) (sym (length-map p.hops.items (λ (h : Hop). h.slot)))

of_object : (image : Image) (x : ℕ) (text : List ℕ) (o : Option DumpedObject) → IsSome o → IsFoundText x image text → IsPathTextOf o x image text
of_object image x text None there found = absurd (cc there)
of_object image x text (Some o) there found = found

-- the answer, if there is a path
pub path_told : (image : Image) (x : ℕ) (p : Path) (text : List ℕ) → IsPathTo image p.register (slots_of p.hops.items) x → IsShortest image (slots_of p.hops.items) x → IsFirstPath image p.register (slots_of p.hops.items) x → TellsIds image p → text ≡ path_text p
    → IsPathText x image text
path_told image x p text to shortest first ids is =
    of_object image x text (object_with image x) to.there (inl (p.register, slots_of p.hops.items, to, shortest, first, (p.start, ids.start, is ∙ path_is_route image p ids)))

none_of : (image : Image) (x : ℕ) (o : Option DumpedObject) → IsUnreached image x → IsPathTextOf o x image (unanswered_text (why_none o))
none_of image x None u = refl
none_of image x (Some o) u = inr (u, refl)

-- the answer, if there is none
pub no_path_told : (image : Image) (x : ℕ) → IsUnreached image x → IsPathText x image (unanswered_text (why_none (object_with image x)))
no_path_told image x u = none_of image x (object_with image x) u
