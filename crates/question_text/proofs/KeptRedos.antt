-- What a session keeps of its undone steps.
use Rattle.std.proofs.Common.{◌≡◌, ◌∙◌, ℕ, ◌+◌, ◌-◌, ◌≤◌, Bool, true, false, cond, List, [], ◌∷◌, length, Option, Some, None, refl, sym, ap, subst, inl, inr, arith}
use Rattle.std.specs.Prelude.{◌⊎◌, ◌||◌, Result, Ok, Err, nat_le}
use Rattle.std.proofs.lemmas.Bool.{leb-false}
use Rattle.heap_class.specs.declared.Refusal.{Refusal}
use Rattle.heap_class.specs.declared.Refusal.TheVariants.{NoMemory}
use Rattle.heap_trail.specs.declared.Action.{Action}
use Rattle.heap_trail.specs.declared.Action.TheVariants.{OpenPin, Step, Rewind}
use Rattle.heap_trail.specs.declared.Reply.{Reply}
use Rattle.heap_trail.specs.declared.Reply.TheVariants.{Answered, Place}
use Rattle.heap_trail.specs.Laws.{IsTrail}
use Rattle.heap_trail.specs.Limits.{last_place}
use Rattle.heap_trail.specs.Machine.{Machine}
use Rattle.heap_trail.specs.Trail.{Trail, rewound}
use Rattle.session_grammar.specs.Grammar.{command_of, without_cr}
use Rattle.session_grammar.specs.declared.command.Command.{Command}
use Rattle.session_text.specs.declared.limits.SessionLimits.{SessionLimits}
use Rattle.session_text.specs.Answers.{AnswersCommand, AnswersTo}
use Rattle.session_text.specs.Local.{LocalActs}
use Rattle.session_text.specs.Replies.{reply_text}
use Rattle.session_text.specs.Talks.{AnswersAll}
use Rattle.session_text.proofs.OtherCommands.{answer_keeps}
use Rattle.question_text.specs.declared.asking.Asking.{Asking}
use Rattle.heap_orders.specs.declared.cycle.CycleCounts.{CycleCounts}
use Rattle.question_grammar.specs.declared.order.Order.{Order}
use Rattle.question_grammar.specs.declared.order.Order.TheVariants.{Act, Collect, Forward, ForwardTo, RewindTo}
use Rattle.heap_orders.specs.Collections.{AreNext, NoneDenies, RunsCycle, TakenStep, ends_cycle}
use Rattle.question_words.specs.Moments.{steps_ago, refused_text}
use Rattle.heap_orders.specs.Deeds.{ActsOnce, GoesOnBy, RewindsBy, steps_on}
use Rattle.question_text.specs.Sessions.{Does, AnswersLine, AskingActs, AskingAnswers, OpensOrAnswers, is_known}
use Rattle.question_grammar.specs.NoteLines.{place_opened}
use Rattle.question_grammar.specs.Orders.{order_in}
use Rattle.question_text.proofs.NotedLines.{order_opens_none}
use Rattle.heap_orders.specs.Redos.{GoesForward, GoesOn, IsBackAt, IsRedoOf, LeadsTo, Redo, StopsBefore, TakesAgain, no_redo, noted, with_step, with_steps, with_undone}
use Rattle.question_text.proofs.QuestionsLeftOut.{known_is, unknown_is}
use Rattle.heap_orders.proofs.RetakenSteps.{action_keeps, again_up, leads_here, rewind_leads, stopped_for_memory, local_rewind_is_undone}

-- ---- orders

steps_keep : (b c : Bool) (m n : Machine) (r : Redo) (steps : List TakenStep) → AreNext b m steps c n → IsRedoOf m r → IsRedoOf n (with_steps steps r)
steps_keep b c m n r [] h l = subst (λ (x : Machine). IsRedoOf x r) (sym h.1) l
steps_keep b c m n r (s ∷ steps) h l =
    steps_keep (ends_cycle s.0 || b) c h.1.0 n (with_step s.0 r) steps h.1.2 (action_keeps m h.1.0 r (Step s.0) (Answered s.1) h.1.1 l)

cycle_keeps : (m n : Machine) (r : Redo) (steps : List TakenStep) (cycle : Result CycleCounts Refusal) → RunsCycle NoneDenies m steps cycle n → IsRedoOf m r → IsRedoOf n (with_steps steps r)
cycle_keeps m n r steps (Ok c) h l = steps_keep false true m n r steps h.0.0 l
cycle_keeps m n r steps (Err e) h l = steps_keep false h.0 m n r steps h.1 l

-- nothing was done
nothing_keeps : (m n : Machine) (r s : Redo) → n ≡ m → s ≡ r → IsRedoOf m r → IsRedoOf n s
nothing_keeps m n r s is same l = subst (λ (x : Redo). IsRedoOf n x) (sym same) (subst (λ (x : Machine). IsRedoOf x r) (sym is) l)

acts_keep : (m n : Machine) (r s : Redo) (a : Action) (text : List ℕ) → ActsOnce a m r text n s → IsRedoOf m r → IsRedoOf n s
acts_keep m n r s a text h l = subst (λ (x : Redo). IsRedoOf n x) (sym h.3) (action_keeps m n r a h.0 h.1 l)

rewinds_keep : (m n : Machine) (r s : Redo) (back : Result ℕ Refusal) (text : List ℕ) → RewindsBy back m r text n s → IsRedoOf m r → IsRedoOf n s
rewinds_keep m n r s (Ok count) text h l = acts_keep m n r s (Rewind count) text h l
rewinds_keep m n r s (Err e) text h l = nothing_keeps m n r s h.1 h.2 l

again_keeps : (count : ℕ) (m n : Machine) (r s : Redo) → TakesAgain count m r n s → IsRedoOf m r → IsRedoOf n s
again_keeps count m n r s h l = (l.0, (again_up count m r n s l.0 l.1 h).0)

on_keeps : (count : ℕ) (m n : Machine) (r s : Redo) (text : List ℕ) → GoesOn count m r text n s → IsRedoOf m r → IsRedoOf n s
on_keeps count m n r s text (inl h) l = again_keeps count m n r s h.0 l
on_keeps count m n r s text (inr h) l = again_keeps h.1.0 m n r s h.1.2 l

forward_keeps : (count : ℕ) (m n : Machine) (r s : Redo) (text : List ℕ) → GoesForward count m r text n s → IsRedoOf m r → IsRedoOf n s
forward_keeps count m n r s text (inl h) l = on_keeps count m n r s text h.1 l
forward_keeps count m n r s text (inr h) l = nothing_keeps m n r s h.2 h.3 l

forward_to_keeps : (on : Result ℕ Refusal) (m n : Machine) (r s : Redo) (text : List ℕ) → GoesOnBy on m r text n s → IsRedoOf m r → IsRedoOf n s
forward_to_keeps (Ok count) m n r s text h l = on_keeps count m n r s text h l
forward_to_keeps (Err e) m n r s text h l = nothing_keeps m n r s h.1 h.2 l

order_keeps : (order : Order) (m n : Machine) (r s : Redo) (text : List ℕ) → Does order m r text n s → IsRedoOf m r → IsRedoOf n s
order_keeps Collect m n r s text h l = subst (λ (x : Redo). IsRedoOf n x) (sym h.4) (cycle_keeps m n r h.0 h.1 h.2 l)
order_keeps (RewindTo place) m n r s text h l = rewinds_keep m n r s (steps_ago (Some place) m.trail) text h l
order_keeps (Forward count) m n r s text h l = forward_keeps count m n r s text h l
order_keeps (ForwardTo place) m n r s text h l = forward_to_keeps (steps_on place m.trail r) m n r s text h l
order_keeps (Act e) m n r s text (inl h) l = acts_keep m n r s (Step e) text h l
order_keeps (Act e) m n r s text (inr h) l = nothing_keeps m n r s h.1.1 h.1.2 l

-- ---- lines

-- the undone steps of these commands lead on
abbrev pub Keeps : Asking → Type 0
Keeps c = IsRedoOf c.local.machine c.redo

pub act_keeps : (c : Asking) (a : Action) (r : Reply) (d : Asking) → AskingActs c a r d → Keeps c → Keeps d
act_keeps c a r d h l =
    subst (λ (x : Redo). IsRedoOf d.local.machine x) (sym h.2) (action_keeps c.local.machine d.local.machine c.redo a r h.0 l)

unknown_keeps : (order : Option Order) (l text : List ℕ) (c d : Asking) → AnswersLine order l c text d → Keeps c → Keeps d
unknown_keeps (Some order) l text c d h k = order_keeps order c.local.machine d.local.machine c.redo d.redo text h.0 k
unknown_keeps None l text c d h k = subst Keeps (sym h.1) k

opened_keeps : (opened : Option (Option ℕ)) (l text : List ℕ) (c d : Asking) → OpensOrAnswers opened l c text d → Keeps c → Keeps d
opened_keeps (Some place) l text c d h k = act_keeps c (OpenPin place) h.0 d h.1 k
opened_keeps None l text c d h k = unknown_keeps (order_in c.bookmarks c.local.machine.trail.current l) l text c d h k

pub answer_keeps_redo : (l text : List ℕ) (c d : Asking) → AskingAnswers l c text d → Keeps c → Keeps d
answer_keeps_redo l text c d h k = opened_keeps (place_opened c.bookmarks l) l text c d h.0 k

line_keeps_redo : (time : ℕ) (l : List ℕ) (c : Asking) (text : List ℕ) (d : Asking) (b : Bool) → is_known (command_of l) ≡ b → AnswersCommand AskingActs AskingAnswers time l c text d → Keeps c → Keeps d
line_keeps_redo time l c text d true h says k =
    answer_keeps AskingActs (AskingAnswers (without_cr l)) Keeps (λ x a r y e q. act_keeps x a r y e q) time (command_of l) c text d (known_is (command_of l) h) says k
line_keeps_redo time l c text d false h says k =
    let unknown : AskingAnswers (without_cr l) c text d = subst (λ (x : Command). AnswersTo AskingActs (AskingAnswers (without_cr l)) time x c text d) (unknown_is (command_of l) h) says in
    answer_keeps_redo (without_cr l) text c d unknown k

pub session_keeps_redo : (limits : SessionLimits) (time : ℕ) (lines : List (List ℕ)) (text : List ℕ) (c d : Asking) → AnswersAll limits (AnswersCommand AskingActs AskingAnswers time) lines c text d → Keeps c → Keeps d
session_keeps_redo limits time [] text c d t k = subst Keeps (sym t.1) k
session_keeps_redo limits time (l ∷ ls) text c d t k =
    session_keeps_redo limits time ls t.2 t.1 d t.5 (line_keeps_redo time l c t.0 t.1 (is_known (command_of l)) refl t.4 k)

-- nothing is undone when a session begins
pub begins_with_no_redo : (m : Machine) (limit : ℕ) → IsTrail m.keep m.trail → m.trail.place ≤ last_place → limit ≤ m.keep → IsRedoOf m (no_redo limit)
begins_with_no_redo m limit legal placed kept = leads_here m [] limit legal placed tt kept

-- ---- a rewind, and then forward

noted_all : (n : ℕ) (r : Redo) → r.ahead + n ≤ length r.events → with_undone n r ≡ record r { ahead = r.ahead + n }
noted_all n r few = go (nat_le (r.ahead + n) (length r.events)) refl
  where
    go : (b : Bool) → nat_le (r.ahead + n) (length r.events) ≡ b → cond b (record r { ahead = r.ahead + n }) (no_redo r.limit) ≡ record r { ahead = r.ahead + n }
    go true h = refl
    go false h = absurd (let over = leb-false (r.ahead + n) (length r.events) h in omega (arith, over, few))

-- all that lead on from where a rewind went to
back_by : (n : ℕ) (last : Trail) (m k : Machine) (r s u : Redo) (text : List ℕ) → LeadsTo m r last → u ≡ record r { ahead = r.ahead + n } → LeadsTo k s last → s ≡ record u { ahead = u.ahead - n } → text ≡ reply_text (Place k.trail.place)
    → IsBackAt m r text k s
back_by n last m k r s u text l is j same told =
    let ahead : r.ahead + n - n ≡ r.ahead = omega arith in
    let redo : s ≡ r = same ∙ ap (λ (x : Redo). record x { ahead = x.ahead - n }) is ∙ ap (λ (x : ℕ). record r { ahead = x }) ahead in
    let trail : k.trail ≡ m.trail = j.undone ∙ ap (λ (x : Redo). rewound x.ahead last) redo ∙ sym l.undone in
    (trail, redo, told ∙ ap (λ (t : Trail). reply_text (Place t.place)) trail)

goes_back : (n : ℕ) (last : Trail) (m x k : Machine) (r u s : Redo) (text : List ℕ) → LeadsTo m r last → u ≡ record r { ahead = r.ahead + n } → LeadsTo x u last → GoesOn n x u text k s
    → IsBackAt m r text k s ⊎ (text ≡ refused_text NoMemory)
goes_back n last m x k r u s text l is j (inl h) =
    let up = again_up n x u k s last j h.0 in inl (back_by n last m k r s u text l is up.0 up.1 h.1)
goes_back n last m x k r u s text l is j (inr h) =
    let up = again_up h.1.0 x u k s last j h.1.2 in
    inr (h.2 ∙ ap refused_text (stopped_for_memory k s h.0 (last, up.0) h.1.3))

forward_back : (n : ℕ) (last : Trail) (m x k : Machine) (r u s : Redo) (text : List ℕ) → LeadsTo m r last → u ≡ record r { ahead = r.ahead + n } → LeadsTo x u last → GoesForward n x u text k s
    → IsBackAt m r text k s ⊎ (text ≡ refused_text NoMemory)
forward_back n last m x k r u s text l is j (inl h) = goes_back n last m x k r u s text l is j h.1
forward_back n last m x k r u s text l is j (inr h) =
    let ahead : u.ahead ≡ r.ahead + n = ap (λ (y : Redo). y.ahead) is in
    let fewer = h.0 in
    absurd (omega (arith, ahead, fewer))

forward_takes_back : (n place : ℕ) (m x k : Machine) (r u s : Redo) (text : List ℕ) → IsRedoOf m r → r.ahead + n ≤ length r.events → LocalActs m (Rewind n) (Place place) x → u ≡ noted (Rewind n) (Place place) r → GoesForward n x u text k s
    → IsBackAt m r text k s ⊎ (text ≡ refused_text NoMemory)
forward_takes_back n place m x k r u s text l few acts is h =
    let all = is ∙ noted_all n r few in
    let j = rewind_leads m x r n l.0 few (local_rewind_is_undone m x n place acts) l.1 in
    forward_back n l.0 m x k r u s text l.1 all (subst (λ (y : Redo). LeadsTo x y l.0) (sym all) j) h

pub line_takes_back : (n place : ℕ) (l text : List ℕ) (c d e : Asking) → Keeps c → c.redo.ahead + n ≤ length c.redo.events → AskingActs c (Rewind n) (Place place) d → order_in d.bookmarks d.local.machine.trail.current l ≡ Some (Forward n) → AskingAnswers l d text e
    → IsBackAt c.local.machine c.redo text e.local.machine e.redo ⊎ (text ≡ refused_text NoMemory)
line_takes_back n place l text c d e k few acts is says =
    let state = d.local.machine.trail.current in
    let line : AnswersLine (order_in d.bookmarks state l) l d text e = subst (λ (o : Option (Option ℕ)). OpensOrAnswers o l d text e) (order_opens_none d.bookmarks state l (Forward n) is) says.0 in
    let answers : AnswersLine (Some (Forward n)) l d text e = subst (λ (o : Option Order). AnswersLine o l d text e) is line in
    forward_takes_back n place c.local.machine d.local.machine e.local.machine c.redo d.redo e.redo text k few acts.0 acts.2 answers.0

-- a step that is taken again is refused for lack of memory alone
pub stops_for_memory : (n : ℕ) (m k : Machine) (r s : Redo) (e : Refusal) → IsRedoOf m r → StopsBefore n m r e k s → e ≡ NoMemory
stops_for_memory n m k r s e l h = stopped_for_memory k s e (again_keeps h.0 m k r s h.2 l) h.3
