-- No line that asks a question is one of the grammar of sessions.
use Rattle.std.proofs.Common.{◌≡◌, ap, ℕ, Bool, true, false, cond, List, [], ◌∷◌, Some, None, refl, sym, subst}
use Rattle.std.specs.Prelude.{Option, codes, drop, find, ◌&&◌, length, nat_le, nat_lt, option_and_then, option_map, slice_index, take}
use Rattle.std.specs.List.{AllByRecursion}
use Rattle.std.specs.Option.{option_or}
use Rattle.std.specs.Str.{bytes_eq}
use Rattle.std.proofs.lemmas.Slice.Eq.{bytes_eq-Decides}
use Rattle.heap_world.specs.State.{HeapState}
use Rattle.heap_trail.specs.declared.Action.TheVariants.{Rewind}
use Rattle.session_grammar.specs.declared.command.Command.TheVariants.{Ask, Bad}
use Rattle.session_grammar.specs.Grammar.{access_rules, all_rules, at_end, by_rule, class_rules, command_of_text, command_of_words, is_plain, making_rules, marking_rules, number_of_word, session_rules, words_of_line}
use Rattle.question_grammar.specs.declared.question.Question.{Question}
use Rattle.question_grammar.specs.declared.order.Order.{Order}
use Rattle.question_grammar.specs.declared.order.Order.TheVariants.{Collect, RewindTo}
use Rattle.question_words.specs.declared.at.At.{At}
use Rattle.question_words.specs.declared.at.At.TheVariants.{Current, Pin, Place}
use Rattle.question_grammar.specs.Bookmarks.{Bookmarks}
use Rattle.question_grammar.specs.Orders.{order_of_two, order_of_words, way_back, way_on}
use Rattle.question_text.specs.Help.{help_about, help_of, help_of_words}
use Rattle.question_grammar.specs.NamedLines.{named_question_of_words, named_rules, question_in}
use Rattle.question_grammar.specs.Questions.{QuestionRule, at_of_word, past_rules, place_behind, place_of, question_by, question_of, question_of_words, question_rules}

-- a line whose words are no command is none
pub bad_words : (l : List ℕ) → command_of_words (words_of_line l) ≡ Bad → command_of_text l ≡ Bad
bad_words l e = go (is_plain l)
  where
    go : (b : Bool) → cond b (command_of_words (words_of_line l)) Bad ≡ Bad
    go true = e
    go false = refl

-- a keyword that no rule of sessions has
abbrev pub IsNew : List ℕ → Type 0
IsNew key = (ws : List (List ℕ)) → by_rule all_rules key ws ≡ None

all_new : (bm : Bookmarks) → AllByRecursion (λ (r : QuestionRule). IsNew r.0) (question_rules bm)
unfolding question_rules past_rules by_rule class_rules making_rules access_rules marking_rules session_rules
all_new bm = (λ ws. refl, (λ ws. refl, (λ ws. refl, (λ ws. refl, (λ ws. refl, (λ ws. refl, (λ ws. refl, (λ ws. refl, (λ ws. refl, (λ ws. refl, (λ ws. refl, (λ ws. refl, (λ ws. refl, (λ ws. refl, (λ ws. refl, (λ ws. refl, (λ ws. refl, (λ ws. refl, (λ ws. refl, (λ ws. refl, (λ ws. refl, (λ ws. refl, (λ ws. refl, (λ ws. refl, (λ ws. refl, (λ ws. refl, (λ ws. refl, (λ ws. refl, (λ ws. refl, tt)))))))))))))))))))))))))))))

found_new : (w : List ℕ) (ws : List (List ℕ)) (rules : List QuestionRule) (q : Question) → AllByRecursion (λ (r : QuestionRule). IsNew r.0) rules
    → question_by rules w ws ≡ Some q → IsNew w
found_new w ws [] q all e = cc
found_new w ws (r ∷ rs) q all e = go (found_new w ws rs q all.1) (bytes_eq w r.0) refl e
  where
    go : (question_by rs w ws ≡ Some q → IsNew w) → (b : Bool) → bytes_eq w r.0 ≡ b
        → option_and_then (λ (rule : QuestionRule). rule.1 ws) (cond b (Some r) (find (λ (rule : QuestionRule). bytes_eq w rule.0) rs)) ≡ Some q → IsNew w
    go later true h e = subst IsNew (sym ((bytes_eq-Decides w r.0).0 h)) all.0
    go later false h e = later e

by_words : (bm : Bookmarks) (ws : List (List ℕ)) (q : Question) → question_of_words bm ws ≡ Some q → command_of_words ws ≡ Bad
unfolding question_of_words
by_words bm [] q e = cc
by_words bm (w ∷ ws) q e = let none = found_new w ws (question_rules bm) q (all_new bm) e ws in rw none refl

-- ---- questions with names

named_new : (bm : Bookmarks) (state : HeapState) → AllByRecursion (λ (r : QuestionRule). IsNew r.0) (named_rules bm state)
unfolding named_rules by_rule class_rules making_rules access_rules marking_rules session_rules
named_new bm state = (λ ws. refl, (λ ws. refl, (λ ws. refl, (λ ws. refl, (λ ws. refl, (λ ws. refl, tt))))))

by_named_words : (bm : Bookmarks) (state : HeapState) (ws : List (List ℕ)) (q : Question) → named_question_of_words bm state ws ≡ Some q → command_of_words ws ≡ Bad
unfolding named_question_of_words
by_named_words bm state [] q e = cc
by_named_words bm state (w ∷ ws) q e = let none = found_new w ws (named_rules bm state) q (named_new bm state) e ws in rw none refl

by_either : (bm : Bookmarks) (state : HeapState) (ws : List (List ℕ)) (q : Question) (numbers : Option Question) → question_of_words bm ws ≡ numbers → option_or numbers (named_question_of_words bm state ws) ≡ Some q → command_of_words ws ≡ Bad
by_either bm state ws q None h e = by_named_words bm state ws q e
by_either bm state ws q (Some p) h e = by_words bm ws p h

pub same_by_numbers : (bm : Bookmarks) (state : HeapState) (l : List ℕ) (q : Question) → question_of bm l ≡ Some q → question_in bm state l ≡ Some q
same_by_numbers bm state l q e =
    ap (λ (o : Option Question). option_or o (named_question_of_words bm state (words_of_line l))) e

pub names_no_command : (bm : Bookmarks) (state : HeapState) (l : List ℕ) (q : Question) → question_in bm state l ≡ Some q → command_of_text l ≡ Bad
names_no_command bm state l q e = bad_words l (by_either bm state (words_of_line l) q (question_of_words bm (words_of_line l)) refl e)

-- ---- help

help_new : IsNew (codes "help")
unfolding by_rule class_rules making_rules access_rules marking_rules session_rules
help_new ws = refl

by_help : (ws : List (List ℕ)) (text : List ℕ) → help_of_words ws ≡ Some text → command_of_words ws ≡ Bad
by_help [] text e = cc
by_help (w ∷ ws) text e = go (bytes_eq w (codes "help")) refl e
  where
    go : (b : Bool) → bytes_eq w (codes "help") ≡ b → cond b (help_about ws) None ≡ Some text → command_of_words (w ∷ ws) ≡ Bad
    go true h e = let none = subst IsNew (sym ((bytes_eq-Decides w (codes "help")).0 h)) help_new ws in rw none refl
    go false h e = cc

pub helps_no_command : (l text : List ℕ) → help_of l ≡ Some text → command_of_text l ≡ Bad
helps_no_command l text e = bad_words l (by_help (words_of_line l) text e)

-- ---- questions

pub asks_no_command : (bm : Bookmarks) (l : List ℕ) (q : Question) → question_of bm l ≡ Some q → command_of_text l ≡ Bad
asks_no_command bm l q e = bad_words l (by_words bm (words_of_line l) q e)

-- ---- orders

collect_new : IsNew (codes "collect")
unfolding by_rule class_rules making_rules access_rules marking_rules session_rules
collect_new ws = refl

collects_alone : (w : List ℕ) → bytes_eq w (codes "collect") ≡ true → command_of_words (w ∷ []) ≡ Bad
collects_alone w e = let none = subst IsNew (sym ((bytes_eq-Decides w (codes "collect")).0 e)) collect_new [] in rw none refl

none_either_way : (b : Bool) → ◌≡◌ {A = Option ℕ} (cond b None None) None
none_either_way true = refl
none_either_way false = refl

no_number_after_at_sign : (v : List ℕ) → number_of_word (64 ∷ v) ≡ None
unfolding number_of_word
no_number_after_at_sign v = none_either_way (nat_lt 0 (length (64 ∷ v)) && nat_le (length (64 ∷ v)) 20)

begins_with_at_sign : (w : List ℕ) → bytes_eq (take 1 w) (codes "@") ≡ true → number_of_word w ≡ None
begins_with_at_sign [] e = absurd (cc e)
begins_with_at_sign (b ∷ v) e =
    let is : b ≡ 64 = ap (λ (l : List ℕ). slice_index l 0) ((bytes_eq-Decides (take 1 (b ∷ v)) (codes "@")).0 e) in
    subst (λ (x : ℕ). number_of_word (x ∷ v) ≡ None) (sym is) (no_number_after_at_sign v)

-- the rewind that this state is the way back to
abbrev back_to : Option At → Option Order
back_to at = option_and_then (λ to. option_map (λ place. RewindTo place) to) (option_and_then place_of at)

pin_is_no_way_back : (number : Option ℕ) (o : Order) → back_to (option_map (λ pin. Pin pin) number) ≡ Some o → number ≡ None
pin_is_no_way_back None o e = refl
pin_is_no_way_back (Some n) o e = absurd (cc e)

way_back_by : (w : List ℕ) (behind : Option ℕ) (dash at : Bool) (o : Order) → bytes_eq (take 1 w) (codes "@") ≡ at
    → back_to (cond dash (Some Current) (cond at (option_map (λ place. Place place) behind) (option_map (λ pin. Pin pin) (number_of_word w)))) ≡ Some o → number_of_word w ≡ None
way_back_by w behind true at o is e = absurd (cc e)
way_back_by w behind false true o is e = begins_with_at_sign w is
way_back_by w behind false false o is e = pin_is_no_way_back (number_of_word w) o e

way_back_is_no_number : (bm : Bookmarks) (w : List ℕ) (o : Order) → way_back bm w ≡ Some o → number_of_word w ≡ None
unfolding at_of_word
way_back_is_no_number bm w o e = way_back_by w (place_behind bm (drop 1 w)) (bytes_eq w (codes "-")) (bytes_eq (take 1 w) (codes "@")) o refl e

no_rewind_without_number : (v : List ℕ) (ws : List (List ℕ)) → number_of_word v ≡ None → by_rule all_rules (codes "rewind") (v ∷ ws) ≡ None
unfolding by_rule class_rules making_rules access_rules marking_rules session_rules
no_rewind_without_number v ws e =
    ap (λ (o : Option ℕ). option_map (λ n. Ask (Rewind n)) (option_and_then (λ (a : ℕ × List (List ℕ)). at_end a.0 a.1) (option_map (λ n. (n, ws)) o))) e

forward_new : IsNew (codes "forward")
unfolding by_rule class_rules making_rules access_rules marking_rules session_rules
forward_new ws = refl

two_no_command : (bm : Bookmarks) (w v : List ℕ) (ws : List (List ℕ)) (o : Order) → order_of_two bm w v ≡ Some o → command_of_words (w ∷ v ∷ ws) ≡ Bad
unfolding order_of_two
two_no_command bm w v ws o e = go (bytes_eq w (codes "rewind")) (bytes_eq w (codes "forward")) refl refl e
  where
    go : (back on : Bool) → bytes_eq w (codes "rewind") ≡ back → bytes_eq w (codes "forward") ≡ on
        → cond back (way_back bm v) (cond on (way_on bm v) None) ≡ Some o → command_of_words (w ∷ v ∷ ws) ≡ Bad
    go true on h k e =
        let none = subst (λ (x : List ℕ). by_rule all_rules x (v ∷ ws) ≡ None) (sym ((bytes_eq-Decides w (codes "rewind")).0 h)) (no_rewind_without_number v ws (way_back_is_no_number bm v o e)) in
        rw none refl
    go false true h k e = let none = subst IsNew (sym ((bytes_eq-Decides w (codes "forward")).0 k)) forward_new (v ∷ ws) in rw none refl
    go false false h k e = absurd (cc e)

order_beside : (bm : Bookmarks) (w v : List ℕ) (ws : List (List ℕ)) (o : Order) (two : Option Order) → order_of_two bm w v ≡ two → option_and_then (λ (p : Order). at_end p ws) two ≡ Some o → command_of_words (w ∷ v ∷ ws) ≡ Bad
order_beside bm w v ws o None is e = absurd (cc e)
order_beside bm w v ws o (Some p) is e = two_no_command bm w v ws p is

pub by_order : (bm : Bookmarks) (ws : List (List ℕ)) (o : Order) → order_of_words bm ws ≡ Some o → command_of_words ws ≡ Bad
unfolding order_of_words
by_order bm [] o e = absurd (cc e)
by_order bm (w ∷ []) o e = go (bytes_eq w (codes "collect")) refl e
  where
    go : (b : Bool) → bytes_eq w (codes "collect") ≡ b → cond b (Some Collect) None ≡ Some o → command_of_words (w ∷ []) ≡ Bad
    go true h e = collects_alone w h
    go false h e = absurd (cc e)
by_order bm (w ∷ v ∷ ws) o e = order_beside bm w v ws o (order_of_two bm w v) refl e

-- ---- what is done asks nothing

-- a keyword that no question and no line that asks for help has
pub record AsksNothing (bm : Bookmarks) (key : List ℕ) (ws : List (List ℕ)) : Type 0 where
  pub question : question_of_words bm (key ∷ ws) ≡ None
  pub help : help_of_words (key ∷ ws) ≡ None

collect_asks_nothing : (bm : Bookmarks) → AsksNothing bm (codes "collect") []
unfolding question_of_words question_rules past_rules
collect_asks_nothing bm = record { question = refl; help = refl }

rewind_asks_nothing : (bm : Bookmarks) (ws : List (List ℕ)) → AsksNothing bm (codes "rewind") ws
unfolding question_of_words question_rules past_rules
rewind_asks_nothing bm ws = record { question = refl; help = refl }

-- the same of a word that is such a keyword
pub word_asks_nothing : (bm : Bookmarks) (w key : List ℕ) (ws : List (List ℕ)) → bytes_eq w key ≡ true → AsksNothing bm key ws → AsksNothing bm w ws
word_asks_nothing bm w key ws word none = subst (λ (x : List ℕ). AsksNothing bm x ws) (sym ((bytes_eq-Decides w key).0 word)) none

forward_asks_nothing : (bm : Bookmarks) (ws : List (List ℕ)) → AsksNothing bm (codes "forward") ws
unfolding question_of_words question_rules past_rules
forward_asks_nothing bm ws = record { question = refl; help = refl }

two_asks_nothing : (bm : Bookmarks) (w v : List ℕ) (ws : List (List ℕ)) (o : Order) → order_of_two bm w v ≡ Some o → AsksNothing bm w (v ∷ ws)
unfolding order_of_two
two_asks_nothing bm w v ws o e = go (bytes_eq w (codes "rewind")) (bytes_eq w (codes "forward")) refl refl e
  where
    go : (back on : Bool) → bytes_eq w (codes "rewind") ≡ back → bytes_eq w (codes "forward") ≡ on
        → cond back (way_back bm v) (cond on (way_on bm v) None) ≡ Some o → AsksNothing bm w (v ∷ ws)
    go true on h k e = word_asks_nothing bm w (codes "rewind") (v ∷ ws) h (rewind_asks_nothing bm (v ∷ ws))
    go false true h k e = word_asks_nothing bm w (codes "forward") (v ∷ ws) k (forward_asks_nothing bm (v ∷ ws))
    go false false h k e = absurd (cc e)

order_beside_asks_nothing : (bm : Bookmarks) (w v : List ℕ) (ws : List (List ℕ)) (o : Order) (two : Option Order) → order_of_two bm w v ≡ two → option_and_then (λ (p : Order). at_end p ws) two ≡ Some o → AsksNothing bm w (v ∷ ws)
order_beside_asks_nothing bm w v ws o None is e = absurd (cc e)
order_beside_asks_nothing bm w v ws o (Some p) is e = two_asks_nothing bm w v ws p is

pub order_asks_nothing : (bm : Bookmarks) (ws : List (List ℕ)) (o : Order) → order_of_words bm ws ≡ Some o → (question_of_words bm ws ≡ None) × (help_of_words ws ≡ None)
unfolding order_of_words
order_asks_nothing bm [] o e = absurd (cc e)
order_asks_nothing bm (w ∷ []) o e = go (bytes_eq w (codes "collect")) refl e
  where
    go : (b : Bool) → bytes_eq w (codes "collect") ≡ b → cond b (Some Collect) None ≡ Some o → (question_of_words bm (w ∷ []) ≡ None) × (help_of_words (w ∷ []) ≡ None)
    go true h e = let a = word_asks_nothing bm w (codes "collect") [] h (collect_asks_nothing bm) in (a.question, a.help)
    go false h e = absurd (cc e)
order_asks_nothing bm (w ∷ v ∷ ws) o e =
    let a = order_beside_asks_nothing bm w v ws o (order_of_two bm w v) refl e in (a.question, a.help)
