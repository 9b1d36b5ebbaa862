-- Lines that write files are no others.
use Rattle.std.proofs.Common.{◌≡◌, ℕ, Bool, true, false, cond, List, [], ◌∷◌, Some, None, refl, sym, subst}
use Rattle.std.specs.Prelude.{codes, option_map}
use Rattle.std.specs.Str.{bytes_eq}
use Rattle.std.proofs.lemmas.Slice.Eq.{bytes_eq-Decides}
use Rattle.heap_world.specs.State.{HeapState}
use Rattle.session_grammar.specs.Grammar.{access_rules, by_rule, class_rules, making_rules, marking_rules, session_rules, words_of_line}
use Rattle.question_grammar.specs.Bookmarks.{Bookmarks}
use Rattle.question_grammar.specs.EventNames.{event_by_name, object_event_by_name}
use Rattle.question_grammar.specs.FileLines.{at_and_path, file_by, file_of, file_of_words}
use Rattle.question_grammar.specs.NamedLines.{named_question_of_words, named_rules}
use Rattle.question_grammar.specs.NoteLines.{name_set_by, place_opened_by, place_set_by, word_behind}
use Rattle.question_grammar.specs.Orders.{order_of_two, order_of_words}
use Rattle.question_grammar.specs.Questions.{past_rules, question_of_words, question_rules}
use Rattle.question_grammar.specs.declared.file_line.FileContent.{FileContent}
use Rattle.question_grammar.specs.declared.file_line.FileContent.TheVariants.{DumpOf, PictureOf}
use Rattle.question_words.specs.declared.at.At.{At}
use Rattle.question_text.specs.Sessions.{IsAlone, IsUnnoted}
use Rattle.question_text.proofs.NotedLines.{AreAlone, alone_line}

-- ---- the words of such a line

-- what is said of each form of the lines with this keyword is said of all
said_of_keyword : (bm : Bookmarks) (key : List ℕ) (says : List (List ℕ) → Type 0) → ((v : List ℕ) → says (key ∷ v ∷ [])) → ((v u : List ℕ) → says (key ∷ v ∷ u ∷ []))
    → (of : At × List ℕ → FileContent × List ℕ) (ws : List (List ℕ)) (f : FileContent × List ℕ) → option_map of (at_and_path bm ws) ≡ Some f → says (key ∷ ws)
said_of_keyword bm key says one two of [] f e = absurd (cc e)
said_of_keyword bm key says one two of (v ∷ []) f e = one v
said_of_keyword bm key says one two of (v ∷ u ∷ []) f e = two v u
said_of_keyword bm key says one two of (v ∷ u ∷ t ∷ ws) f e = absurd (cc e)

-- what is said of each form of these lines is said of all
said_of_file : (bm : Bookmarks) (says : List (List ℕ) → Type 0) → ((v : List ℕ) → says (codes "write" ∷ v ∷ [])) → ((v u : List ℕ) → says (codes "write" ∷ v ∷ u ∷ []))
    → ((v : List ℕ) → says (codes "draw" ∷ v ∷ [])) → ((v u : List ℕ) → says (codes "draw" ∷ v ∷ u ∷ []))
    → (ws : List (List ℕ)) (f : FileContent × List ℕ) → file_of_words bm ws ≡ Some f → says ws
unfolding file_by
said_of_file bm says one two draw draw_at [] f e = absurd (cc e)
said_of_file bm says one two draw draw_at (w ∷ ws) f e = go (bytes_eq w (codes "write")) (bytes_eq w (codes "draw")) refl refl e
  where
    go : (b d : Bool) → bytes_eq w (codes "write") ≡ b → bytes_eq w (codes "draw") ≡ d
        → cond b (option_map (λ (a : At × List ℕ). (DumpOf a.0, a.1)) (at_and_path bm ws)) (cond d (option_map (λ (a : At × List ℕ). (PictureOf a.0, a.1)) (at_and_path bm ws)) None) ≡ Some f → says (w ∷ ws)
    go true d h k e = subst (λ (x : List ℕ). says (x ∷ ws)) (sym ((bytes_eq-Decides w (codes "write")).0 h)) (said_of_keyword bm (codes "write") says one two (λ (a : At × List ℕ). (DumpOf a.0, a.1)) ws f e)
    go false true h k e = subst (λ (x : List ℕ). says (x ∷ ws)) (sym ((bytes_eq-Decides w (codes "draw")).0 k)) (said_of_keyword bm (codes "draw") says draw draw_at (λ (a : At × List ℕ). (PictureOf a.0, a.1)) ws f e)
    go false false h k e = absurd (cc e)

-- ---- no other line

write_alone : (bm : Bookmarks) (state : HeapState) (v : List ℕ) → AreAlone bm state (codes "write" ∷ v ∷ [])
unfolding by_rule class_rules making_rules access_rules marking_rules session_rules order_of_words order_of_two event_by_name object_event_by_name question_of_words question_rules past_rules named_question_of_words named_rules
write_alone bm state v = record { command = refl; order = refl; event = refl; question = refl; named = refl; chain = refl; help = refl }

write_at_alone : (bm : Bookmarks) (state : HeapState) (v u : List ℕ) → AreAlone bm state (codes "write" ∷ v ∷ u ∷ [])
unfolding by_rule class_rules making_rules access_rules marking_rules session_rules order_of_words order_of_two event_by_name object_event_by_name question_of_words question_rules past_rules named_question_of_words named_rules
write_at_alone bm state v u = record { command = refl; order = refl; event = refl; question = refl; named = refl; chain = refl; help = refl }

draw_alone : (bm : Bookmarks) (state : HeapState) (v : List ℕ) → AreAlone bm state (codes "draw" ∷ v ∷ [])
unfolding by_rule class_rules making_rules access_rules marking_rules session_rules order_of_words order_of_two event_by_name object_event_by_name question_of_words question_rules past_rules named_question_of_words named_rules
draw_alone bm state v = record { command = refl; order = refl; event = refl; question = refl; named = refl; chain = refl; help = refl }

draw_at_alone : (bm : Bookmarks) (state : HeapState) (v u : List ℕ) → AreAlone bm state (codes "draw" ∷ v ∷ u ∷ [])
unfolding by_rule class_rules making_rules access_rules marking_rules session_rules order_of_words order_of_two event_by_name object_event_by_name question_of_words question_rules past_rules named_question_of_words named_rules
draw_at_alone bm state v u = record { command = refl; order = refl; event = refl; question = refl; named = refl; chain = refl; help = refl }

pub file_alone : (bm : Bookmarks) (state : HeapState) (l path : List ℕ) (content : FileContent) → file_of bm l ≡ Some (content, path) → IsAlone bm state l
file_alone bm state l path content e =
    alone_line bm state l (words_of_line l) refl (said_of_file bm (AreAlone bm state) (write_alone bm state) (write_at_alone bm state) (draw_alone bm state) (draw_at_alone bm state) (words_of_line l) (content, path) e)

-- ---- nothing is noted

record AreUnnoted (bm : Bookmarks) (ws : List (List ℕ)) : Type 0 where
  opened : place_opened_by bm ws ≡ None
  place : place_set_by bm ws ≡ None
  name : name_set_by ws ≡ None

write_unnoted : (bm : Bookmarks) (v : List ℕ) → AreUnnoted bm (codes "write" ∷ v ∷ [])
unfolding word_behind
write_unnoted bm v = record { opened = refl; place = refl; name = refl }

write_at_unnoted : (bm : Bookmarks) (v u : List ℕ) → AreUnnoted bm (codes "write" ∷ v ∷ u ∷ [])
unfolding word_behind
write_at_unnoted bm v u = record { opened = refl; place = refl; name = refl }

draw_unnoted : (bm : Bookmarks) (v : List ℕ) → AreUnnoted bm (codes "draw" ∷ v ∷ [])
unfolding word_behind
draw_unnoted bm v = record { opened = refl; place = refl; name = refl }

draw_at_unnoted : (bm : Bookmarks) (v u : List ℕ) → AreUnnoted bm (codes "draw" ∷ v ∷ u ∷ [])
unfolding word_behind
draw_at_unnoted bm v u = record { opened = refl; place = refl; name = refl }

pub file_unnoted : (bm : Bookmarks) (l path : List ℕ) (content : FileContent) → file_of bm l ≡ Some (content, path) → IsUnnoted bm l
file_unnoted bm l path content e =
    let a : AreUnnoted bm (words_of_line l) = said_of_file bm (AreUnnoted bm) (write_unnoted bm) (write_at_unnoted bm) (draw_unnoted bm) (draw_at_unnoted bm) (words_of_line l) (content, path) e in
    record { opened = a.opened; place = a.place; name = a.name }
