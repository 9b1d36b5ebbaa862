-- A comment is no line of the grammar of sessions, no question and no line that asks for help.
use Rattle.std.proofs.Common.{◌≡◌, ◌∙◌, ap, ap₂, ℕ, Bool, true, false, cond, List, [], ◌∷◌, None, refl, sym, subst}
use Rattle.std.specs.Prelude.{Option, codes, option_map, slice_index, take}
use Rattle.std.specs.Option.{option_or}
use Rattle.std.specs.Str.{bytes_eq}
use Rattle.std.proofs.lemmas.Slice.Eq.{bytes_eq-Decides}
use Rattle.heap_step.specs.declared.Event.{Event}
use Rattle.heap_world.specs.State.{HeapState}
use Rattle.session_grammar.specs.declared.command.Command.TheVariants.{Bad}
use Rattle.session_grammar.specs.Grammar.{access_rules, all_rules, by_rule, class_rules, command_of_text, command_of_words, making_rules, marking_rules, session_rules, words_of_line}
use Rattle.question_text.specs.declared.asking.Asking.{Asking}
use Rattle.question_grammar.specs.declared.chain.Chain.{Chain}
use Rattle.question_grammar.specs.declared.order.Order.{Order}
use Rattle.question_grammar.specs.declared.order.Order.TheVariants.{Act}
use Rattle.question_grammar.specs.declared.question.Question.{Question}
use Rattle.question_text.specs.Answers.{IsAnswerAlong, IsAnswerOf}
use Rattle.question_grammar.specs.Bookmarks.{Bookmarks}
use Rattle.question_grammar.specs.Chains.{chain_of, chain_of_words}
use Rattle.question_grammar.specs.EventNames.{event_by_name, event_of_words, object_event_by_name}
use Rattle.question_grammar.specs.NoteLines.{name_set_by, place_opened_by, place_set_by, word_behind}
use Rattle.question_grammar.specs.Orders.{order_in, order_of_two, order_of_words}
use Rattle.question_text.specs.Comments.{is_comment, is_comment_words, unasked_text}
use Rattle.question_text.specs.Help.{help_or_bad}
use Rattle.question_grammar.specs.NamedLines.{named_question_of_words, named_rules, question_in}
use Rattle.question_grammar.specs.Questions.{past_rules, question_of_words, question_rules}
use Rattle.question_text.specs.Sessions.{AskingAnswers, IsUnnoted}
use Rattle.question_text.proofs.NewWords.{bad_words}
use Rattle.question_text.proofs.NotedLines.{answered_alone}

-- the first byte of the first word
first_byte : (b : ℕ) (v : List ℕ) → bytes_eq (take 1 (b ∷ v)) (codes "#") ≡ true → b ≡ 35
first_byte b v e = ap (λ (l : List ℕ). slice_index l 0) ((bytes_eq-Decides (take 1 (b ∷ v)) (codes "#")).0 e)

no_rule : (v : List ℕ) (ws : List (List ℕ)) → by_rule all_rules (35 ∷ v) ws ≡ None
unfolding by_rule class_rules making_rules access_rules marking_rules session_rules
no_rule v ws = refl

no_question : (bm : Bookmarks) (v : List ℕ) (ws : List (List ℕ)) → question_of_words bm ((35 ∷ v) ∷ ws) ≡ None
unfolding question_of_words question_rules past_rules
no_question bm v ws = refl

names_nothing : (bm : Bookmarks) (state : HeapState) (v : List ℕ) (ws : List (List ℕ)) → named_question_of_words bm state ((35 ∷ v) ∷ ws) ≡ None
unfolding named_question_of_words named_rules
names_nothing bm state v ws = refl

-- ---- the grammar of sessions

comment_words_are_bad : (ws : List (List ℕ)) → is_comment_words ws ≡ true → command_of_words ws ≡ Bad
comment_words_are_bad [] e = absurd (cc e)
comment_words_are_bad ([] ∷ ws) e = absurd (cc e)
comment_words_are_bad ((b ∷ v) ∷ ws) e =
    subst (λ (x : ℕ). command_of_words ((x ∷ v) ∷ ws) ≡ Bad) (sym (first_byte b v e)) (let none = no_rule v ws in rw none refl)

pub comments_no_command : (l : List ℕ) → is_comment l ≡ true → command_of_text l ≡ Bad
comments_no_command l e = bad_words l (comment_words_are_bad (words_of_line l) e)

-- ---- questions, orders and bookmarks

-- what has no first word with the sign says nothing
of_comment : {A : Type 0} (says : List (List ℕ) → Option A) → ((v : List ℕ) (ws : List (List ℕ)) → says ((35 ∷ v) ∷ ws) ≡ None) → (ws : List (List ℕ)) → is_comment_words ws ≡ true → says ws ≡ None
of_comment says none [] e = absurd (cc e)
of_comment says none ([] ∷ ws) e = absurd (cc e)
of_comment says none ((b ∷ v) ∷ ws) e = subst (λ (x : ℕ). says ((x ∷ v) ∷ ws) ≡ None) (sym (first_byte b v e)) (none v ws)

asks_none_in : (bm : Bookmarks) (state : HeapState) (l : List ℕ) → is_comment l ≡ true → question_in bm state l ≡ None
asks_none_in bm state l e =
    ap₂ (λ (p q : Option Question). option_or p q) (of_comment (question_of_words bm) (no_question bm) (words_of_line l) e) (of_comment (named_question_of_words bm state) (names_nothing bm state) (words_of_line l) e)

comment_is_no_order : (bm : Bookmarks) (v : List ℕ) (ws : List (List ℕ)) → order_of_words bm ((35 ∷ v) ∷ ws) ≡ None
unfolding order_of_words order_of_two
comment_is_no_order bm v [] = refl
comment_is_no_order bm v (w ∷ ws) = refl

comment_is_no_event : (state : HeapState) (v : List ℕ) (ws : List (List ℕ)) → event_of_words state ((35 ∷ v) ∷ ws) ≡ None
unfolding event_by_name object_event_by_name
comment_is_no_event state v ws = refl

orders_none : (bm : Bookmarks) (state : HeapState) (l : List ℕ) → is_comment l ≡ true → order_in bm state l ≡ None
orders_none bm state l e =
    ap₂ (λ (o : Option Order) (event : Option Event). option_or o (option_map Act event))
    (of_comment (order_of_words bm) (comment_is_no_order bm) (words_of_line l) e) (of_comment (event_of_words state) (comment_is_no_event state) (words_of_line l) e)

comment_is_no_chain : (bm : Bookmarks) (v : List ℕ) (ws : List (List ℕ)) → chain_of_words bm ((35 ∷ v) ∷ ws) ≡ None
comment_is_no_chain bm v ws = refl

chains_none : (bm : Bookmarks) (l : List ℕ) → is_comment l ≡ true → chain_of bm l ≡ None
chains_none bm l e = of_comment (chain_of_words bm) (comment_is_no_chain bm) (words_of_line l) e

opens_none : (bm : Bookmarks) (v : List ℕ) (ws : List (List ℕ)) → place_opened_by bm ((35 ∷ v) ∷ ws) ≡ None
opens_none bm v ws = refl

places_none : (bm : Bookmarks) (v : List ℕ) (ws : List (List ℕ)) → place_set_by bm ((35 ∷ v) ∷ ws) ≡ None
unfolding word_behind
places_none bm v [] = refl
places_none bm v (w ∷ []) = refl
places_none bm v (w ∷ u ∷ ws) = refl

names_none : (v : List ℕ) (ws : List (List ℕ)) → name_set_by ((35 ∷ v) ∷ ws) ≡ None
unfolding word_behind
names_none v [] = refl
names_none v (w ∷ []) = refl
names_none v (w ∷ u ∷ ws) = refl

sets_none : (bm : Bookmarks) (l : List ℕ) → is_comment l ≡ true → IsUnnoted bm l
sets_none bm l e = record {
  opened = of_comment (place_opened_by bm) (opens_none bm) (words_of_line l) e;
  place = of_comment (place_set_by bm) (places_none bm) (words_of_line l) e;
  name = of_comment name_set_by names_none (words_of_line l) e;
}

-- ---- no answer, and no change

no_text : (l : List ℕ) → is_comment l ≡ true → unasked_text l ≡ []
no_text l e = go (is_comment l) e
  where
    go : (b : Bool) → b ≡ true → cond b [] (help_or_bad l) ≡ []
    go true h = refl
    go false h = absurd (cc h)

pub comment_silent : (l text : List ℕ) (c d : Asking) → is_comment l ≡ true → AskingAnswers l c text d → (text ≡ []) × (d ≡ c)
comment_silent l text c d e a =
    let state = c.local.machine.trail.current in
    let alone = answered_alone l text c d (orders_none c.bookmarks state l e) (sets_none c.bookmarks l e) a in
    let along = subst (λ (q : Option Question). IsAnswerOf q (chain_of c.bookmarks l) l c.local.machine None text) (asks_none_in c.bookmarks state l e) alone.0 in
    (subst (λ (chain : Option Chain). IsAnswerAlong chain l c.local.machine text) (chains_none c.bookmarks l e) along ∙ no_text l e, alone.1)
