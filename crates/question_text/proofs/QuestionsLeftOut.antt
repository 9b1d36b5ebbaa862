-- A session with questions, and the lines of it that are no questions.
use Rattle.std.proofs.Common.{◌≡◌, ◌∙◌, ℕ, Bool, true, false, cond, Option, Some, None, List, [], ◌∷◌, ◌++◌, zero, suc, inl, inr, refl, sym, ap, subst, true≢false}
use Rattle.std.specs.Prelude.{◌||◌, Result, Ok, Err}
use Rattle.std.proofs.lemmas.List.{append-nil}
use Rattle.heap_class.specs.declared.Refusal.{Refusal}
use Rattle.heap_trail.specs.declared.Action.{Action}
use Rattle.heap_trail.specs.declared.Action.TheVariants.{OpenPin, Step, Rewind}
use Rattle.heap_trail.specs.declared.Reply.TheVariants.{Answered}
use Rattle.heap_trail.specs.Machine.{Machine}
use Rattle.heap_trail.proofs.ActionLists.{driven_more, driven_none}
use Rattle.session_grammar.specs.declared.command.Command.{Command}
use Rattle.session_grammar.specs.declared.command.Command.TheVariants.{Bad}
use Rattle.session_grammar.specs.Grammar.{command_of, without_cr}
use Rattle.session_text.specs.declared.ReadEnd.TheVariants.{Over}
use Rattle.session_text.specs.declared.commands.Local.{Local}
use Rattle.session_text.specs.declared.limits.SessionLimits.{SessionLimits}
use Rattle.session_text.specs.Answers.{AnswerRelation, AnswersCommand, AnswersTo, all_bad}
use Rattle.session_text.specs.Session.{FitLines, session_of, talked}
use Rattle.session_text.specs.Talks.{AnswersAll, IsLine, stream}
use Rattle.session_text.proofs.OtherCommands.{IsKnown, answer_keeps, answer_stands}
use Rattle.session_text.proofs.SessionCommands.{acts, parts, talk}
use Rattle.session_text.proofs.SessionLines.{nothing_left_is_eof, answered_lines_pass}
use Rattle.question_text.specs.declared.asking.Asking.{Asking}
use Rattle.heap_orders.specs.declared.cycle.CycleCounts.{CycleCounts}
use Rattle.heap_orders.specs.Collections.{AreNext, NoneDenies, RunsCycle, TakenStep, ends_cycle}
use Rattle.question_grammar.specs.declared.order.Order.{Order}
use Rattle.question_grammar.specs.declared.order.Order.TheVariants.{Act, Collect, Forward, ForwardTo, RewindTo}
use Rattle.question_words.specs.Moments.{steps_ago}
use Rattle.heap_orders.specs.Deeds.{ActsOnce, GoesOnBy, RewindsBy, steps_on}
use Rattle.question_text.specs.Sessions.{Does, AnswersEach, AnswersLine, AskingActs, AskingAnswers, IsDriven, IsSessionOf, AnswersAlone, NoneOrders, OpensOrAnswers, is_known, known_of, lines_of, texts_of}
use Rattle.question_grammar.specs.NoteLines.{place_opened}
use Rattle.question_grammar.specs.Orders.{order_in}
use Rattle.heap_orders.specs.Redos.{GoesForward, GoesOn, Redo, TakesAgain, retaken}

-- ---- the text of each line

pub each_of : {S : Type 0} (limits : SessionLimits) (says : AnswerRelation S) (ls : List (List ℕ)) (c : S) (text : List ℕ) (d : S) → AnswersAll limits says ls c text d
    → (answered : List (List ℕ × List ℕ)) × (lines_of answered ≡ ls) × (texts_of answered ≡ text) × AnswersEach limits says answered c d
each_of limits says [] c text d t = ([], refl, sym t.0, t.1)
each_of limits says (l ∷ ls) c text d t =
    let e = each_of limits says ls t.1 t.2 d t.5 in
    ((l, t.0) ∷ e.0, ap (λ (x : List (List ℕ)). l ∷ x) e.1, ap (λ (x : List ℕ). t.0 ++ x) e.2 ∙ sym t.6, (t.1, t.3, t.4, e.3))

-- ---- known commands

pub known_is : (k : Command) → is_known k ≡ true → IsKnown k
known_is Bad h = absurd (true≢false (sym h))
known_is _ h = tt

pub unknown_is : (k : Command) → is_known k ≡ false → k ≡ Bad
unknown_is Bad h = refl
unknown_is _ h = absurd (true≢false h)

-- ---- without questions

-- a question leaves the machine and its pins
question_leaves : (order : Option Order) (l text : List ℕ) (c d : Asking) → order ≡ None → AnswersLine order l c text d → d.local ≡ c.local
question_leaves (Some o) l text c d e h = absurd (cc e)
question_leaves None l text c d e h = ap (λ (x : Asking). x.local) h.1

-- so does a line that opens no pin and is no order
line_leaves : (opened : Option (Option ℕ)) (l text : List ℕ) (c d : Asking) → opened ≡ None → order_in c.bookmarks c.local.machine.trail.current l ≡ None → OpensOrAnswers opened l c text d → d.local ≡ c.local
line_leaves (Some place) l text c d e none h = absurd (cc e)
line_leaves None l text c d e none h = question_leaves (order_in c.bookmarks c.local.machine.trail.current l) l text c d none h

abbrev pub Says : ℕ → AnswerRelation Asking
Says time = AnswersCommand AskingActs AskingAnswers time

abbrev pub Alone : ℕ → AnswerRelation Local
Alone time = AnswersCommand acts all_bad time

one_known : (limits : SessionLimits) (time : ℕ) (a : List ℕ × List ℕ) (c between : Asking) (d : Local) (known : List (List ℕ × List ℕ)) → IsLine limits a.0 → (place_opened c.bookmarks (without_cr a.0) ≡ None) × (order_in c.bookmarks c.local.machine.trail.current (without_cr a.0) ≡ None) → Says time a.0 c a.1 between
    → AnswersAll limits (Alone time) (lines_of known) between.local (texts_of known) d → (b : Bool) → is_known (command_of a.0) ≡ b
    → AnswersAll limits (Alone time) (lines_of (cond b (a ∷ known) known)) c.local (texts_of (cond b (a ∷ known) known)) d
one_known limits time a c between d known line none says rest true h = (
  a.1,
  between.local,
  texts_of known,
  line,
  answer_stands (λ (x : Asking). x.local) AskingActs acts (AskingAnswers (without_cr a.0)) (all_bad (without_cr a.0)) (λ x action r y e. (e.0, e.1)) time (command_of a.0) c a.1 between (known_is (command_of a.0) h) says,
  rest,
  refl,
)
one_known limits time a c between d known line none says rest false h =
    let unknown : AskingAnswers (without_cr a.0) c a.1 between = subst (λ (k : Command). AnswersTo AskingActs (AskingAnswers (without_cr a.0)) time k c a.1 between) (unknown_is (command_of a.0) h) says in
    let same = line_leaves (place_opened c.bookmarks (without_cr a.0)) (without_cr a.0) a.1 c between none.0 none.1 unknown.0 in
    subst (λ (x : Local). AnswersAll limits (Alone time) (lines_of known) x (texts_of known) d) same rest

known_answers : (limits : SessionLimits) (time : ℕ) (answered : List (List ℕ × List ℕ)) (c d : Asking) → NoneOrders (lines_of answered) → AnswersEach limits (Says time) answered c d
    → AnswersAll limits (Alone time) (lines_of (known_of answered)) c.local (texts_of (known_of answered)) d.local
known_answers limits time [] c d none t = (refl, ap (λ (x : Asking). x.local) t)
known_answers limits time (a ∷ answered) c d none t =
    one_known limits time a c t.0 d.local (known_of answered) t.1 (none.0 c.bookmarks c.local.machine.trail.current) t.2 (known_answers limits time answered t.0 d none.1 t.3) (is_known (command_of a.0)) refl

session_alone : (limits : SessionLimits) (time : ℕ) (answered : List (List ℕ × List ℕ)) (c d : Local) → AnswersAll limits (Alone time) (lines_of answered) c (texts_of answered) d → IsSessionOf limits time c.machine answered d.machine
unfolding session_of
session_alone limits time answered c d t =
    let ls = lines_of answered in
    let g = answered_lines_pass limits time ls c (texts_of answered) d t in
    let all = append-nil (stream ls) in (
      g.found ++ [],
      subst (λ (bytes : List ℕ). FitLines time (parts bytes) (talk c.machine (g.found ++ []) [])) all (g.fit [] [] [] tt),
      ap (λ (bytes : List ℕ). talked limits time Over (parts bytes) (talk c.machine (g.found ++ []) [])) (sym all) ∙ g.so Over [] [] [] ∙ nothing_left_is_eof limits time (talk d.machine [] (texts_of answered)),
    )

pub left_out : (limits : SessionLimits) (time : ℕ) (lines : List (List ℕ)) (text : List ℕ) (c d : Asking) → NoneOrders lines → AnswersAll limits (Says time) lines c text d → AnswersAlone limits time c.local.machine lines text d.local.machine
left_out limits time lines text c d none t =
    let e = each_of limits (Says time) lines c text d t in
    let few = subst NoneOrders (sym e.1) none in
    (e.0, e.1, e.2, session_alone limits time (known_of e.0) c.local d.local (known_answers limits time e.0 c d few e.3))

-- ---- a list of actions

driven_on : (m : Machine) (b c : Bool) (x n : Machine) (steps : List TakenStep) → AreNext b x steps c n → IsDriven m x → IsDriven m n
driven_on m b c x n [] h d = subst (IsDriven m) (sym h.1) d
driven_on m b c x n (s ∷ steps) h d =
    driven_on m (ends_cycle s.0 || b) c h.1.0 n steps h.1.2 (d.0 ++ Step s.0 ∷ [], d.1 ++ Answered s.1 ∷ [], driven_more m d.0 d.1 x h.1.0 (Step s.0) (Answered s.1) d.2 h.1.1)

cycle_driven : (m x n : Machine) (steps : List TakenStep) (cycle : Result CycleCounts Refusal) → RunsCycle NoneDenies x steps cycle n → IsDriven m x → IsDriven m n
cycle_driven m x n steps (Ok c) h d = driven_on m false true x n steps h.0.0 d
cycle_driven m x n steps (Err e) h d = driven_on m false h.0 x n steps h.1 d

act_driven : (m x n : Machine) (r r' : Redo) (a : Action) (text : List ℕ) → ActsOnce a x r text n r' → IsDriven m x → IsDriven m n
act_driven m x n r r' a text h d = (d.0 ++ a ∷ [], d.1 ++ h.0 ∷ [], driven_more m d.0 d.1 x n a h.0 d.2 h.1)

rewind_driven : (m x n : Machine) (r r' : Redo) (back : Result ℕ Refusal) (text : List ℕ) → RewindsBy back x r text n r' → IsDriven m x → IsDriven m n
rewind_driven m x n r r' (Ok count) text h d = act_driven m x n r r' (Rewind count) text h d
rewind_driven m x n r r' (Err e) text h d = subst (IsDriven m) (sym h.1) d

steps_driven : (count : ℕ) (m x n : Machine) (r r' : Redo) → TakesAgain count x r n r' → IsDriven m x → IsDriven m n
steps_driven zero m x n r r' h d = subst (IsDriven m) (sym h.0) d
steps_driven (suc count) m x n r r' h d =
    steps_driven count m h.2 n (retaken r) r' h.5 (d.0 ++ Step h.0 ∷ [], d.1 ++ Answered h.1 ∷ [], driven_more m d.0 d.1 x h.2 (Step h.0) (Answered h.1) d.2 h.4)

on_driven : (count : ℕ) (m x n : Machine) (r r' : Redo) (text : List ℕ) → GoesOn count x r text n r' → IsDriven m x → IsDriven m n
on_driven count m x n r r' text (inl h) d = steps_driven count m x n r r' h.0 d
on_driven count m x n r r' text (inr h) d = steps_driven h.1.0 m x n r r' h.1.2 d

forward_driven : (count : ℕ) (m x n : Machine) (r r' : Redo) (text : List ℕ) → GoesForward count x r text n r' → IsDriven m x → IsDriven m n
forward_driven count m x n r r' text (inl h) d = on_driven count m x n r r' text h.1 d
forward_driven count m x n r r' text (inr h) d = subst (IsDriven m) (sym h.2) d

forward_to_driven : (on : Result ℕ Refusal) (m x n : Machine) (r r' : Redo) (text : List ℕ) → GoesOnBy on x r text n r' → IsDriven m x → IsDriven m n
forward_to_driven (Ok count) m x n r r' text h d = on_driven count m x n r r' text h d
forward_to_driven (Err e) m x n r r' text h d = subst (IsDriven m) (sym h.1) d

order_driven : (m : Machine) (order : Order) (x n : Machine) (r r' : Redo) (text : List ℕ) → Does order x r text n r' → IsDriven m x → IsDriven m n
order_driven m Collect x n r r' text h d = cycle_driven m x n h.0 h.1 h.2 d
order_driven m (RewindTo place) x n r r' text h d = rewind_driven m x n r r' (steps_ago (Some place) x.trail) text h d
order_driven m (Forward count) x n r r' text h d = forward_driven count m x n r r' text h d
order_driven m (ForwardTo place) x n r r' text h d = forward_to_driven (steps_on place x.trail r) m x n r r' text h d
order_driven m (Act e) x n r r' text (inl h) d = act_driven m x n r r' (Step e) text h d
order_driven m (Act e) x n r r' text (inr h) d = subst (IsDriven m) (sym h.1.1) d

unknown_driven : (m : Machine) (order : Option Order) (l text : List ℕ) (c d : Asking) → AnswersLine order l c text d → IsDriven m c.local.machine → IsDriven m d.local.machine
unknown_driven m (Some order) l text c d h p = order_driven m order c.local.machine d.local.machine c.redo d.redo text h.0 p
unknown_driven m None l text c d h p = subst (λ (x : Asking). IsDriven m x.local.machine) (sym h.1) p

opened_driven : (m : Machine) (opened : Option (Option ℕ)) (l text : List ℕ) (c d : Asking) → OpensOrAnswers opened l c text d → IsDriven m c.local.machine → IsDriven m d.local.machine
opened_driven m (Some place) l text c d h p =
    (p.0 ++ OpenPin place ∷ [], p.1 ++ h.0 ∷ [], driven_more m p.0 p.1 c.local.machine d.local.machine (OpenPin place) h.0 p.2 h.1.0)
opened_driven m None l text c d h p = unknown_driven m (order_in c.bookmarks c.local.machine.trail.current l) l text c d h p

line_driven : (m : Machine) (time : ℕ) (l : List ℕ) (c : Asking) (text : List ℕ) (d : Asking) (b : Bool) → is_known (command_of l) ≡ b → Says time l c text d → IsDriven m c.local.machine → IsDriven m d.local.machine
line_driven m time l c text d true h says p =
    answer_keeps AskingActs (AskingAnswers (without_cr l)) (λ (x : Asking). IsDriven m x.local.machine) (λ x a r y e q. (q.0 ++ a ∷ [], q.1 ++ r ∷ [], driven_more m q.0 q.1 x.local.machine y.local.machine a r q.2 e.0)) time (command_of l) c text d (known_is (command_of l) h) says p
line_driven m time l c text d false h says p =
    let unknown : AskingAnswers (without_cr l) c text d = subst (λ (k : Command). AnswersTo AskingActs (AskingAnswers (without_cr l)) time k c text d) (unknown_is (command_of l) h) says in
    opened_driven m (place_opened c.bookmarks (without_cr l)) (without_cr l) text c d unknown.0 p

lines_driven : (limits : SessionLimits) (m : Machine) (time : ℕ) (lines : List (List ℕ)) (c : Asking) (text : List ℕ) (d : Asking) → AnswersAll limits (Says time) lines c text d → IsDriven m c.local.machine → IsDriven m d.local.machine
lines_driven limits m time [] c text d t p = subst (λ (x : Asking). IsDriven m x.local.machine) (sym t.1) p
lines_driven limits m time (l ∷ ls) c text d t p = lines_driven limits m time ls t.1 t.2 d t.5 (line_driven m time l c t.0 t.1 (is_known (command_of l)) refl t.4 p)

pub all_driven : (limits : SessionLimits) (time : ℕ) (lines : List (List ℕ)) (text : List ℕ) (c d : Asking) → AnswersAll limits (Says time) lines c text d → IsDriven c.local.machine d.local.machine
all_driven limits time lines text c d t = lines_driven limits c.local.machine time lines c text d t ([], [], driven_none c.local.machine)
