-- Lines that a session notes, and `open` and `open @WORD`, are no others; and no other line changes anything.
use Rattle.std.proofs.Common.{◌≡◌, ◌∙◌, ap, ap₂, ℕ, Bool, true, false, cond, List, [], ◌∷◌, Some, None, refl, sym, subst}
use Rattle.std.specs.Prelude.{◌&&◌, Option, codes, drop, is_some, not, option_and_then, option_map, slice_index, take, unwrap_or}
use Rattle.std.specs.Option.{option_or}
use Rattle.std.specs.Str.{bytes_eq}
use Rattle.std.proofs.lemmas.Slice.Eq.{bytes_eq-Decides}
use Rattle.heap_trail.specs.Machine.{Machine}
use Rattle.heap_trail.specs.declared.Action.TheVariants.{OpenPin}
use Rattle.heap_step.specs.declared.Event.{Event}
use Rattle.heap_world.specs.State.{HeapState}
use Rattle.session_grammar.specs.declared.command.Command.TheVariants.{Ask, Bad}
use Rattle.session_grammar.specs.Grammar.{access_rules, at_end, by_rule, class_rules, command_of_words, making_rules, marking_rules, number_of_word, place_or_dash, session_rules, words_of_line}
use Rattle.question_grammar.specs.Bookmarks.{Bookmarks, place_named}
use Rattle.question_grammar.specs.Chains.{chain_of_words}
use Rattle.question_grammar.specs.EventNames.{event_by_name, event_of_words, object_event_by_name}
use Rattle.question_grammar.specs.NamedLines.{named_question_of_words, named_rules}
use Rattle.question_grammar.specs.NoteLines.{name_of_word, name_set, place_behind_open, place_by_name, place_opened, place_opened_by, place_set, word_behind}
use Rattle.question_grammar.specs.Orders.{order_in, order_of_two, order_of_words}
use Rattle.question_grammar.specs.Questions.{past_rules, place_of_word, question_of, question_of_words, question_rules}
use Rattle.question_grammar.specs.declared.order.Order.{Order}
use Rattle.question_grammar.specs.declared.order.Order.TheVariants.{Act}
use Rattle.question_grammar.specs.declared.question.Question.{Question}
use Rattle.question_text.specs.declared.asking.Asking.{Asking}
use Rattle.question_text.specs.Answers.{IsAnswerOfLine}
use Rattle.question_text.specs.Help.{help_of, help_of_words}
use Rattle.question_text.specs.Notes.{NotesBy}
use Rattle.question_text.specs.Sessions.{AnswersLine, AskingAnswers, IsAlone, IsUnnoted, OpensOrAnswers}
use Rattle.question_text.proofs.NewEvents.{line_asks_nothing}
use Rattle.question_text.proofs.NewWords.{bad_words, same_by_numbers}

-- ---- the word behind a keyword

behind_of_two : (key w v u : List ℕ) → cond (bytes_eq w key) (Some v) None ≡ Some u → w ∷ v ∷ [] ≡ key ∷ u ∷ []
behind_of_two key w v u e = go (bytes_eq w key) refl e
  where
    go : (b : Bool) → bytes_eq w key ≡ b → cond b (Some v) None ≡ Some u → w ∷ v ∷ [] ≡ key ∷ u ∷ []
    go true h e = let same : v ≡ u = cc in ap₂ (λ (x y : List ℕ). x ∷ y ∷ []) ((bytes_eq-Decides w key).0 h) same
    go false h e = absurd (cc e)

behind_is : (key : List ℕ) (ws : List (List ℕ)) (v : List ℕ) → word_behind key ws ≡ Some v → ws ≡ key ∷ v ∷ []
unfolding word_behind
behind_is key [] v e = absurd (cc e)
behind_is key (w ∷ []) v e = absurd (cc e)
behind_is key (w ∷ u ∷ []) v e = behind_of_two key w u v e
behind_is key (w ∷ u ∷ t ∷ ws) v e = absurd (cc e)

-- what is said of the word behind a keyword
said_behind : {A : Type 0} (key : List ℕ) (ws : List (List ℕ)) (says : List ℕ → Option A) (a : A) (behind : Option (List ℕ)) → word_behind key ws ≡ behind → option_and_then says behind ≡ Some a
    → (v : List ℕ) × (ws ≡ key ∷ v ∷ []) × (says v ≡ Some a)
said_behind key ws says a None is e = absurd (cc e)
said_behind key ws says a (Some v) is e = (v, behind_is key ws v is, e)

-- ---- words that are no others

pub record AreAlone (bm : Bookmarks) (state : HeapState) (ws : List (List ℕ)) : Type 0 where
  pub command : command_of_words ws ≡ Bad
  pub order : order_of_words bm ws ≡ None
  pub event : event_of_words state ws ≡ None
  pub question : question_of_words bm ws ≡ None
  pub named : named_question_of_words bm state ws ≡ None
  pub chain : chain_of_words bm ws ≡ None
  pub help : help_of_words ws ≡ None

pub alone_line : (bm : Bookmarks) (state : HeapState) (l : List ℕ) (ws : List (List ℕ)) → words_of_line l ≡ ws → AreAlone bm state ws → IsAlone bm state l
alone_line bm state l ws is a =
    let b : AreAlone bm state (words_of_line l) = subst (AreAlone bm state) (sym is) a in record {
      command = bad_words l b.command;
      order = ap₂ (λ (o : Option Order) (event : Option Event). option_or o (option_map Act event)) b.order b.event;
      question = ap₂ (λ (p q : Option Question). option_or p q) b.question b.named;
      chain = b.chain;
      help = b.help;
    }

at_words : (bm : Bookmarks) (state : HeapState) (v : List ℕ) → AreAlone bm state (codes "at" ∷ v ∷ [])
unfolding by_rule class_rules making_rules access_rules marking_rules session_rules order_of_words order_of_two event_by_name object_event_by_name question_of_words question_rules past_rules named_question_of_words named_rules
at_words bm state v = record { command = refl; order = refl; event = refl; question = refl; named = refl; chain = refl; help = refl }

name_words : (bm : Bookmarks) (state : HeapState) (v : List ℕ) → AreAlone bm state (codes "name" ∷ v ∷ [])
unfolding by_rule class_rules making_rules access_rules marking_rules session_rules order_of_words order_of_two event_by_name object_event_by_name question_of_words question_rules past_rules named_question_of_words named_rules
name_words bm state v = record { command = refl; order = refl; event = refl; question = refl; named = refl; chain = refl; help = refl }

pub place_alone : (bm : Bookmarks) (state : HeapState) (l : List ℕ) (to : Option ℕ) → place_set bm l ≡ Some to → IsAlone bm state l
place_alone bm state l to e =
    let said = said_behind (codes "at") (words_of_line l) (λ w. place_of_word bm w) to (word_behind (codes "at") (words_of_line l)) refl e in
    alone_line bm state l (codes "at" ∷ said.0 ∷ []) said.1 (at_words bm state said.0)

pub name_alone : (bm : Bookmarks) (state : HeapState) (l w : List ℕ) → name_set l ≡ Some w → IsAlone bm state l
name_alone bm state l w e =
    let said = said_behind (codes "name") (words_of_line l) (λ w. name_of_word w) w (word_behind (codes "name") (words_of_line l)) refl e in
    alone_line bm state l (codes "name" ∷ said.0 ∷ []) said.1 (name_words bm state said.0)

-- ---- `open` and `open @WORD`

first_sign : (c : ℕ) (v : List ℕ) → bytes_eq (take 1 (c ∷ v)) (codes "@") ≡ true → c ≡ 64
first_sign c v e = ap (λ (l : List ℕ). slice_index l 0) ((bytes_eq-Decides (take 1 (c ∷ v)) (codes "@")).0 e)

-- a word with the sign is no place, unless a number follows
sign_is_no_place : (v : List ℕ) → number_of_word v ≡ None → place_or_dash (64 ∷ v) ≡ None
unfolding place_or_dash
sign_is_no_place v e = ap (λ (o : Option ℕ). option_map Some o) e

name_is_no_place_by : (bm : Bookmarks) (v : List ℕ) (place : ℕ) (sign : Bool) (number : Option ℕ) → bytes_eq (take 1 v) (codes "@") ≡ sign → number_of_word (drop 1 v) ≡ number
    → cond (sign && not (is_some number)) (place_named bm.names (drop 1 v)) None ≡ Some place → (bytes_eq (take 1 v) (codes "@") ≡ true) × (number_of_word (drop 1 v) ≡ None)
name_is_no_place_by bm v place true None is none e = (is, none)
name_is_no_place_by bm v place true (Some n) is none e = absurd (cc e)
name_is_no_place_by bm v place false number is none e = absurd (cc e)

name_begins_with_sign : (bm : Bookmarks) (v : List ℕ) (place : ℕ) → place_by_name bm v ≡ Some place → (bytes_eq (take 1 v) (codes "@") ≡ true) × (number_of_word (drop 1 v) ≡ None)
unfolding place_by_name
name_begins_with_sign bm v place e = name_is_no_place_by bm v place (bytes_eq (take 1 v) (codes "@")) (number_of_word (drop 1 v)) refl refl e

no_place : (v : List ℕ) → bytes_eq (take 1 v) (codes "@") ≡ true → number_of_word (drop 1 v) ≡ None → place_or_dash v ≡ None
no_place [] is none = absurd (cc is)
no_place (c ∷ v) is none = subst (λ (x : ℕ). place_or_dash (x ∷ v) ≡ None) (sym (first_sign c v is)) (sign_is_no_place v none)

no_open : (v : List ℕ) → place_or_dash v ≡ None → command_of_words (codes "open" ∷ v ∷ []) ≡ Bad
unfolding by_rule class_rules making_rules access_rules marking_rules session_rules
no_open v e =
    ap (λ (o : Option (Option ℕ)). unwrap_or (option_map (λ at. Ask (OpenPin at)) (option_and_then (λ (a : Option ℕ × List (List ℕ)). at_end a.0 a.1) (option_map (λ at. (at, [])) o))) Bad) e

-- `open` alone or with one word is none of the others, if it is none of the grammar
open_words : (bm : Bookmarks) (state : HeapState) (ws : List (List ℕ)) → command_of_words (codes "open" ∷ ws) ≡ Bad → order_of_words bm (codes "open" ∷ ws) ≡ None → AreAlone bm state (codes "open" ∷ ws)
unfolding event_by_name object_event_by_name question_of_words question_rules past_rules named_question_of_words named_rules
open_words bm state ws e none = record { command = e; order = none; event = refl; question = refl; named = refl; chain = refl; help = refl }

open_orders_nothing : (bm : Bookmarks) (ws : List (List ℕ)) → order_of_words bm (codes "open" ∷ ws) ≡ None
unfolding order_of_words order_of_two
open_orders_nothing bm [] = refl
open_orders_nothing bm (v ∷ ws) = refl

no_open_alone : command_of_words (codes "open" ∷ []) ≡ Bad
unfolding by_rule class_rules making_rules access_rules marking_rules session_rules
no_open_alone = refl

open_name_alone : (bm : Bookmarks) (v : List ℕ) (place : Option ℕ) (named : Option ℕ) → place_by_name bm v ≡ named → option_map Some named ≡ Some place → command_of_words (codes "open" ∷ v ∷ []) ≡ Bad
open_name_alone bm v place None is e = absurd (cc e)
open_name_alone bm v place (Some p) is e =
    let begins = name_begins_with_sign bm v p is in no_open v (no_place v begins.0 begins.1)

open_behind : (bm : Bookmarks) (state : HeapState) (ws : List (List ℕ)) (place : Option ℕ) → place_behind_open bm ws ≡ Some place → AreAlone bm state (codes "open" ∷ ws)
open_behind bm state [] place e = open_words bm state [] no_open_alone (open_orders_nothing bm [])
open_behind bm state (v ∷ []) place e = open_words bm state (v ∷ []) (open_name_alone bm v place (place_by_name bm v) refl e) (open_orders_nothing bm (v ∷ []))
open_behind bm state (v ∷ u ∷ ws) place e = absurd (cc e)

open_by_words : (bm : Bookmarks) (state : HeapState) (ws : List (List ℕ)) (place : Option ℕ) → place_opened_by bm ws ≡ Some place → AreAlone bm state ws
open_by_words bm state [] place e = absurd (cc e)
open_by_words bm state (w ∷ ws) place e = go (bytes_eq w (codes "open")) refl e
  where
    go : (b : Bool) → bytes_eq w (codes "open") ≡ b → cond b (place_behind_open bm ws) None ≡ Some place → AreAlone bm state (w ∷ ws)
    go true h e = subst (λ (x : List ℕ). AreAlone bm state (x ∷ ws)) (sym ((bytes_eq-Decides w (codes "open")).0 h)) (open_behind bm state ws place e)
    go false h e = absurd (cc e)

pub open_alone : (bm : Bookmarks) (state : HeapState) (l : List ℕ) (place : Option ℕ) → place_opened bm l ≡ Some place → IsAlone bm state l
open_alone bm state l place e = alone_line bm state l (words_of_line l) refl (open_by_words bm state (words_of_line l) place e)

-- ---- what none of these lines is

none_of : {A : Type 0} (o : Option A) → ((a : A) → o ≡ Some a → ⊥) → o ≡ None
none_of None h = refl
none_of (Some a) h = absurd (h a refl)

-- a line that is an order opens no pin by a name
pub order_opens_none : (bm : Bookmarks) (state : HeapState) (l : List ℕ) (o : Order) → order_in bm state l ≡ Some o → place_opened bm l ≡ None
order_opens_none bm state l o e =
    none_of (place_opened bm l) (λ place t. let clash : None ≡ Some o = sym (open_alone bm state l place t).order ∙ e in absurd (cc clash))

-- a line that isn't alone opens no pin by a name, and sets nothing
sets_nothing : (bm : Bookmarks) (state : HeapState) (l : List ℕ) → (IsAlone bm state l → ⊥) → IsUnnoted bm l
sets_nothing bm state l h = record {
  opened = none_of (place_opened bm l) (λ place t. h (open_alone bm state l place t));
  place = none_of (place_set bm l) (λ to t. h (place_alone bm state l to t));
  name = none_of (name_set l) (λ w t. h (name_alone bm state l w t));
}

-- ---- nothing changes

notes_nothing : (to : Option (Option ℕ)) (name : Option (List ℕ)) (l : List ℕ) (m : Machine) (acts : Option ℕ) (b : Bookmarks) (text : List ℕ) (b' : Bookmarks) → to ≡ None → name ≡ None → NotesBy to name l m acts b text b'
    → IsAnswerOfLine l m acts b text × (b' ≡ b)
notes_nothing (Some to) name l m acts b text b' none e h = absurd (cc none)
notes_nothing None (Some w) l m acts b text b' none e h = absurd (cc e)
notes_nothing None None l m acts b text b' none e h = h

-- the answer is that of a question, and nothing changes
abbrev pub IsAnsweredAlone : List ℕ → List ℕ → Asking → Asking → Type 0
IsAnsweredAlone l text c d = IsAnswerOfLine l c.local.machine None c.bookmarks text × (d ≡ c)

same_asking : (order : Option Order) (l text : List ℕ) (c d : Asking) → order ≡ None → IsUnnoted c.bookmarks l → AnswersLine order l c text d → IsAnsweredAlone l text c d
same_asking (Some o) l text c d none sets a = absurd (cc none)
same_asking None l text c d none sets a =
    let n = notes_nothing (place_set c.bookmarks l) (name_set l) l c.local.machine None c.bookmarks text d.bookmarks sets.place sets.name a.0 in
    (n.0, a.1 ∙ ap (λ (b : Bookmarks). record c { bookmarks = b }) n.1)

same_opening : (opened : Option (Option ℕ)) (l text : List ℕ) (c d : Asking) → opened ≡ None → order_in c.bookmarks c.local.machine.trail.current l ≡ None → IsUnnoted c.bookmarks l → OpensOrAnswers opened l c text d → IsAnsweredAlone l text c d
same_opening (Some place) l text c d opened none sets a = absurd (cc opened)
same_opening None l text c d opened none sets a = same_asking (order_in c.bookmarks c.local.machine.trail.current l) l text c d none sets a

pub answered_alone : (l text : List ℕ) (c d : Asking) → order_in c.bookmarks c.local.machine.trail.current l ≡ None → IsUnnoted c.bookmarks l → AskingAnswers l c text d → IsAnsweredAlone l text c d
answered_alone l text c d none sets a = same_opening (place_opened c.bookmarks l) l text c d sets.opened none sets a.0

-- no order is asked, if the line asks something else
no_order : (bm : Bookmarks) (state : HeapState) (l : List ℕ) → ((question_of bm l ≡ None) × (help_of l ≡ None) → ⊥) → order_in bm state l ≡ None
no_order bm state l h = none_of (order_in bm state l) (λ o t. h (line_asks_nothing bm state l o t))

pub question_changes_nothing : (l text : List ℕ) (q : Question) (c d : Asking) → question_of c.bookmarks l ≡ Some q → AskingAnswers l c text d → d ≡ c
question_changes_nothing l text q c d e a =
    let state = c.local.machine.trail.current in
    let sets = sets_nothing c.bookmarks state l (λ alone. let clash : None ≡ Some q = sym alone.question ∙ same_by_numbers c.bookmarks state l q e in absurd (cc clash)) in
    let none = no_order c.bookmarks state l (λ asks. let clash : None ≡ Some q = sym asks.0 ∙ e in absurd (cc clash)) in
    (answered_alone l text c d none sets a).1

pub help_changes_nothing : (l text answer : List ℕ) (c d : Asking) → help_of l ≡ Some answer → AskingAnswers l c text d → d ≡ c
help_changes_nothing l text answer c d e a =
    let state = c.local.machine.trail.current in
    let sets = sets_nothing c.bookmarks state l (λ alone. let clash : None ≡ Some answer = sym alone.help ∙ e in absurd (cc clash)) in
    let none = no_order c.bookmarks state l (λ asks. let clash : None ≡ Some answer = sym asks.1 ∙ e in absurd (cc clash)) in
    (answered_alone l text c d none sets a).1

-- ---- bookmarks alone change

alone_change : (order : Option Order) (l text : List ℕ) (c d : Asking) → order ≡ None → AnswersLine order l c text d → d ≡ record c { bookmarks = d.bookmarks }
alone_change (Some o) l text c d none a = absurd (cc none)
alone_change None l text c d none a = a.1

alone_change_by : (opened : Option (Option ℕ)) (l text : List ℕ) (c d : Asking) → opened ≡ None → order_in c.bookmarks c.local.machine.trail.current l ≡ None → OpensOrAnswers opened l c text d → d ≡ record c { bookmarks = d.bookmarks }
alone_change_by (Some place) l text c d opened none a = absurd (cc opened)
alone_change_by None l text c d opened none a = alone_change (order_in c.bookmarks c.local.machine.trail.current l) l text c d none a

pub others_change_nothing : (l text : List ℕ) (c d : Asking) → place_opened c.bookmarks l ≡ None → order_in c.bookmarks c.local.machine.trail.current l ≡ None → AskingAnswers l c text d → d ≡ record c { bookmarks = d.bookmarks }
others_change_nothing l text c d opened none a = alone_change_by (place_opened c.bookmarks l) l text c d opened none a.0
