-- Lines of events that name a class or a field are none of the grammar of sessions, and ask nothing.
use Rattle.std.proofs.Common.{◌≡◌, ◌∙◌, ap, ℕ, Bool, true, false, cond, List, [], ◌∷◌, Some, None, inr, refl, sym, subst}
use Rattle.std.specs.Prelude.{Option, codes, if◌then◌else◌, is_some, option_and_then, option_map}
use Rattle.std.specs.Option.{option_or}
use Rattle.std.specs.Str.{bytes_eq}
use Rattle.std.proofs.lemmas.Slice.Eq.{bytes_eq-Decides}
use Rattle.heap_class.specs.Classes.{Class}
use Rattle.heap_class.specs.declared.Field.{Field}
use Rattle.heap_class.specs.declared.Refusal.TheVariants.{NoMemory}
use Rattle.heap_step.specs.declared.Event.{Event}
use Rattle.heap_step.specs.declared.Event.TheVariants.{New, NewArray, Load, Store, Put}
use Rattle.heap_trail.specs.declared.Action.TheVariants.{Step}
use Rattle.heap_world.specs.State.{HeapState}
use Rattle.session_grammar.specs.declared.command.Command.TheVariants.{Ask, Bad}
use Rattle.session_grammar.specs.Grammar.{access_rules, all_rules, at_end, by_rule, class_line, class_rules, command_of_text, command_of_words, fields_of_words, four_numbers, is_plain, making_rules, marking_rules, next_number, number_of_word, number_or_dash, session_rules, three_numbers, words_of_line}
use Rattle.session_grammar.specs.Reads.{plain_fields}
use Rattle.question_grammar.specs.Bookmarks.{Bookmarks}
use Rattle.question_grammar.specs.EventNames.{array_by_name, class_by_name, event_by_name, event_of_words, load_by_name, new_by_name, next_class, next_slot, next_super, object_event_by_name, slot_in_register, unless_number, write_by_name}
use Rattle.question_grammar.specs.NameWords.{class_named}
use Rattle.question_grammar.specs.Orders.{MayTakeMemory, order_in, order_of_words}
use Rattle.question_grammar.specs.Questions.{past_rules, question_of, question_of_words, question_rules}
use Rattle.question_grammar.specs.declared.order.Order.{Order}
use Rattle.question_grammar.specs.declared.order.Order.TheVariants.{Act, Collect, Forward, ForwardTo, RewindTo}
use Rattle.question_words.specs.Moments.{refused_text}
use Rattle.question_text.specs.declared.asking.Asking.{Asking}
use Rattle.question_text.specs.Help.{help_of, help_of_words}
use Rattle.question_text.specs.Sessions.{AnswersLine}
use Rattle.question_text.proofs.NewWords.{AsksNothing, bad_words, by_order, order_asks_nothing, word_asks_nothing}

-- ---- names are no numbers

-- what was read of words, and the words that are left
abbrev Read : Type 0
Read = ℕ × List (List ℕ)

no_number : (w : List ℕ) (named : Option ℕ) (k : ℕ) → unless_number w named ≡ Some k → number_of_word w ≡ None
no_number w named k e = go (number_of_word w) e
  where
    go : (number : Option ℕ) → (if is_some number then None else named) ≡ Some k → number ≡ None
    go None e = refl
    go (Some n) e = absurd (cc e)

read_no_number : (w : List ℕ) (ws : List (List ℕ)) (named : Option ℕ) (r : Read) (o : Option ℕ) → unless_number w named ≡ o → option_map (λ (k : ℕ). (k, ws)) o ≡ Some r → next_number (w ∷ ws) ≡ None
read_no_number w ws named r None h e = absurd (cc e)
read_no_number w ws named r (Some k) h e = ap (λ (o : Option ℕ). option_map (λ (n : ℕ). (n, ws)) o) (no_number w named k h)

class_is_no_number : (classes : List Class) (ws : List (List ℕ)) (r : Read) → next_class classes ws ≡ Some r → next_number ws ≡ None
class_is_no_number classes [] r e = absurd (cc e)
class_is_no_number classes (w ∷ ws) r e = read_no_number w ws (class_named classes w) r (unless_number w (class_named classes w)) refl e

slot_is_no_number : (state : HeapState) (m q : ℕ) (ws : List (List ℕ)) (r : Read) → next_slot state m q ws ≡ Some r → next_number ws ≡ None
slot_is_no_number state m q [] r e = absurd (cc e)
slot_is_no_number state m q (w ∷ ws) r e = read_no_number w ws (slot_in_register state m q w) r (unless_number w (slot_in_register state m q w)) refl e

-- a super by its name is no number, and no `-`
super_by : (dash : Bool) (classes : List Class) (w : List ℕ) (ws : List (List ℕ)) (r : Read) → bytes_eq w (codes "-") ≡ dash → cond dash None (next_class classes (w ∷ ws)) ≡ Some r → number_or_dash w ≡ None
super_by true classes w ws r h e = absurd (cc e)
super_by false classes w ws r h e = go (number_of_word w) refl
  where
    go : (number : Option ℕ) → number_of_word w ≡ number → number_or_dash w ≡ None
    go None none = rw h (rw none refl)
    go (Some n) is = let read : next_number (w ∷ ws) ≡ None = class_is_no_number classes (w ∷ ws) r e in let clash : Some (n, ws) ≡ None = sym (ap (λ (o : Option ℕ). option_map (λ (x : ℕ). (x, ws)) o) is) ∙ read in absurd (cc clash)

-- ---- what follows

-- what goes on from the same words reads nothing, if what goes on from there doesn't
nothing_behind : {A B C : Type 0} (o : Option C) (f : C → Option A) (g : C → Option B) (x : A) → ((c : C) → f c ≡ Some x → g c ≡ None) → option_and_then f o ≡ Some x → option_and_then g o ≡ None
nothing_behind None f g x h e = refl
nothing_behind (Some c) f g x h e = h c e

-- what would go on from a number reads nothing, if there is a name instead
name_instead_of_number : {A B C D : Type 0} (o : Option C) (p : Option D) (f : C → Option A) (g : D → Option B) (x : A) → ((c : C) → o ≡ Some c → p ≡ None) → option_and_then f o ≡ Some x → option_and_then g p ≡ None
name_instead_of_number None p f g x h e = absurd (cc e)
name_instead_of_number (Some c) p f g x h e = ap (λ q. option_and_then g q) (h c refl)

mapped_from : {A B : Type 0} (f : A → B) (o : Option A) (y : B) → option_map f o ≡ Some y → (x : A) × (o ≡ Some x)
mapped_from f None y e = absurd (cc e)
mapped_from f (Some x) y e = (x, refl)

-- ---- words of one event are no numbers alone

new_by_name_alone : (classes : List Class) (ws : List (List ℕ)) (e : Event) → new_by_name classes ws ≡ Some e → three_numbers ws ≡ None
new_by_name_alone classes ws e is =
    nothing_behind (next_number ws) (λ (m : Read). option_and_then (λ (r : Read). option_and_then (λ (k : Read). at_end (New m.0 r.0 k.0) k.1) (next_class classes r.1)) (next_number m.1))
    (λ (a : Read). option_and_then (λ (b : Read). option_and_then (λ (c : Read). at_end (a.0, b.0, c.0) c.1) (next_number b.1)) (next_number a.1)) e
    (λ m is.
    nothing_behind (next_number m.1) (λ (r : Read). option_and_then (λ (k : Read). at_end (New m.0 r.0 k.0) k.1) (next_class classes r.1))
    (λ (b : Read). option_and_then (λ (c : Read). at_end (m.0, b.0, c.0) c.1) (next_number b.1)) e
    (λ r is.
    name_instead_of_number (next_class classes r.1) (next_number r.1) (λ (k : Read). at_end (New m.0 r.0 k.0) k.1) (λ (c : Read). at_end (m.0, r.0, c.0) c.1) e
    (class_is_no_number classes r.1) is) is) is

array_by_name_alone : (classes : List Class) (ws : List (List ℕ)) (e : Event) → array_by_name classes ws ≡ Some e → four_numbers ws ≡ None
array_by_name_alone classes ws e is =
    nothing_behind (next_number ws)
    (λ (m : Read). option_and_then (λ (r : Read). option_and_then (λ (k : Read). option_and_then (λ (n : Read). at_end (NewArray m.0 r.0 k.0 n.0) n.1) (next_number k.1)) (next_class classes r.1)) (next_number m.1))
    (λ (a : Read). option_and_then (λ (b : Read). option_and_then (λ (c : Read). option_and_then (λ (d : Read). at_end (a.0, b.0, c.0, d.0) d.1) (next_number c.1)) (next_number b.1)) (next_number a.1)) e
    (λ m is.
    nothing_behind (next_number m.1) (λ (r : Read). option_and_then (λ (k : Read). option_and_then (λ (n : Read). at_end (NewArray m.0 r.0 k.0 n.0) n.1) (next_number k.1)) (next_class classes r.1))
    (λ (b : Read). option_and_then (λ (c : Read). option_and_then (λ (d : Read). at_end (m.0, b.0, c.0, d.0) d.1) (next_number c.1)) (next_number b.1)) e
    (λ r is.
    name_instead_of_number (next_class classes r.1) (next_number r.1) (λ (k : Read). option_and_then (λ (n : Read). at_end (NewArray m.0 r.0 k.0 n.0) n.1) (next_number k.1))
    (λ (c : Read). option_and_then (λ (d : Read). at_end (m.0, r.0, c.0, d.0) d.1) (next_number c.1)) e (class_is_no_number classes r.1) is) is) is

load_by_name_alone : (state : HeapState) (ws : List (List ℕ)) (e : Event) → load_by_name state ws ≡ Some e → four_numbers ws ≡ None
load_by_name_alone state ws e is =
    nothing_behind (next_number ws)
    (λ (m : Read). option_and_then (λ (to : Read). option_and_then (λ (r : Read). option_and_then (λ (s : Read). at_end (Load m.0 to.0 r.0 s.0) s.1) (next_slot state m.0 r.0 r.1)) (next_number to.1)) (next_number m.1))
    (λ (a : Read). option_and_then (λ (b : Read). option_and_then (λ (c : Read). option_and_then (λ (d : Read). at_end (a.0, b.0, c.0, d.0) d.1) (next_number c.1)) (next_number b.1)) (next_number a.1)) e
    (λ m is.
    nothing_behind (next_number m.1) (λ (to : Read). option_and_then (λ (r : Read). option_and_then (λ (s : Read). at_end (Load m.0 to.0 r.0 s.0) s.1) (next_slot state m.0 r.0 r.1)) (next_number to.1))
    (λ (b : Read). option_and_then (λ (c : Read). option_and_then (λ (d : Read). at_end (m.0, b.0, c.0, d.0) d.1) (next_number c.1)) (next_number b.1)) e
    (λ to is.
    nothing_behind (next_number to.1) (λ (r : Read). option_and_then (λ (s : Read). at_end (Load m.0 to.0 r.0 s.0) s.1) (next_slot state m.0 r.0 r.1))
    (λ (c : Read). option_and_then (λ (d : Read). at_end (m.0, to.0, c.0, d.0) d.1) (next_number c.1)) e
    (λ r is.
    name_instead_of_number (next_slot state m.0 r.0 r.1) (next_number r.1) (λ (s : Read). at_end (Load m.0 to.0 r.0 s.0) s.1) (λ (d : Read). at_end (m.0, to.0, r.0, d.0) d.1) e
    (slot_is_no_number state m.0 r.0 r.1) is) is) is) is

write_by_name_alone : (state : HeapState) (ws : List (List ℕ)) (x : ℕ × ℕ × ℕ × ℕ) → write_by_name state ws ≡ Some x → four_numbers ws ≡ None
write_by_name_alone state ws x is =
    nothing_behind (next_number ws)
    (λ (m : Read). option_and_then (λ (r : Read). option_and_then (λ (s : Read). option_and_then (λ (n : Read). at_end (m.0, r.0, s.0, n.0) n.1) (next_number s.1)) (next_slot state m.0 r.0 r.1)) (next_number m.1))
    (λ (a : Read). option_and_then (λ (b : Read). option_and_then (λ (c : Read). option_and_then (λ (d : Read). at_end (a.0, b.0, c.0, d.0) d.1) (next_number c.1)) (next_number b.1)) (next_number a.1)) x
    (λ m is.
    nothing_behind (next_number m.1) (λ (r : Read). option_and_then (λ (s : Read). option_and_then (λ (n : Read). at_end (m.0, r.0, s.0, n.0) n.1) (next_number s.1)) (next_slot state m.0 r.0 r.1))
    (λ (b : Read). option_and_then (λ (c : Read). option_and_then (λ (d : Read). at_end (m.0, b.0, c.0, d.0) d.1) (next_number c.1)) (next_number b.1)) x
    (λ r is.
    name_instead_of_number (next_slot state m.0 r.0 r.1) (next_number r.1) (λ (s : Read). option_and_then (λ (n : Read). at_end (m.0, r.0, s.0, n.0) n.1) (next_number s.1))
    (λ (c : Read). option_and_then (λ (d : Read). at_end (m.0, r.0, c.0, d.0) d.1) (next_number c.1)) x (slot_is_no_number state m.0 r.0 r.1) is) is) is

class_line_of : (sup : Option (Option ℕ)) (name : List ℕ) (fields : List (List ℕ)) → sup ≡ None → option_and_then (λ (s : Option ℕ). option_map (λ (fs : List Field). Ask (Step (Event.Class name s fs))) (fields_of_words fields)) sup ≡ None
class_line_of None name fields e = refl
class_line_of (Some s) name fields e = absurd (cc e)

-- the words behind the name of a class whose super is named
named_super : (classes : List Class) (name : List ℕ) (ws : List (List ℕ)) (e : Event) (sup : Option Read) → next_super classes ws ≡ sup → option_and_then (λ (s : Read). option_map (λ (fs : List Field). Event.Class name (Some s.0) fs) (plain_fields s.1)) sup ≡ Some e → class_line (name ∷ ws) ≡ None
named_super classes name ws e None is h = absurd (cc h)
named_super classes name [] e (Some s) is h = refl
named_super classes name (w ∷ ws) e (Some s) is h = class_line_of (number_or_dash w) name ws (super_by (bytes_eq w (codes "-")) classes w ws s refl is)

class_by_name_alone : (classes : List Class) (ws : List (List ℕ)) (e : Event) → class_by_name classes ws ≡ Some e → class_line ws ≡ None
class_by_name_alone classes [] e is = refl
class_by_name_alone classes (name ∷ ws) e is = go (is_plain name) is
  where
    go : (plain : Bool) → option_and_then (λ (n : List ℕ × List (List ℕ)). option_and_then (λ (s : Read). option_map (λ (fs : List Field). Event.Class n.0 (Some s.0) fs) (plain_fields s.1)) (next_super classes n.1)) (cond plain (Some (name, ws)) None) ≡ Some e → class_line (name ∷ ws) ≡ None
    go true is = named_super classes name ws e (next_super classes ws) refl is
    go false is = absurd (cc is)

-- ---- so they are no lines of the grammar

no_class_line : (ws : List (List ℕ)) → class_line ws ≡ None → by_rule all_rules (codes "class") ws ≡ None
unfolding by_rule class_rules making_rules access_rules marking_rules session_rules
no_class_line ws e = e

no_new : (ws : List (List ℕ)) → three_numbers ws ≡ None → by_rule all_rules (codes "new") ws ≡ None
unfolding by_rule class_rules making_rules access_rules marking_rules session_rules
no_new ws e = ap (λ (o : Option (ℕ × ℕ × ℕ)). option_map (λ (n : ℕ × ℕ × ℕ). Ask (Step (New n.0 n.1 n.2))) o) e

no_array : (ws : List (List ℕ)) → four_numbers ws ≡ None → by_rule all_rules (codes "newarray") ws ≡ None
unfolding by_rule class_rules making_rules access_rules marking_rules session_rules
no_array ws e = ap (λ (o : Option (ℕ × ℕ × ℕ × ℕ)). option_map (λ (n : ℕ × ℕ × ℕ × ℕ). Ask (Step (NewArray n.0 n.1 n.2 n.3))) o) e

no_load : (ws : List (List ℕ)) → four_numbers ws ≡ None → by_rule all_rules (codes "load") ws ≡ None
unfolding by_rule class_rules making_rules access_rules marking_rules session_rules
no_load ws e = ap (λ (o : Option (ℕ × ℕ × ℕ × ℕ)). option_map (λ (n : ℕ × ℕ × ℕ × ℕ). Ask (Step (Load n.0 n.1 n.2 n.3))) o) e

no_store : (ws : List (List ℕ)) → four_numbers ws ≡ None → by_rule all_rules (codes "store") ws ≡ None
unfolding by_rule class_rules making_rules access_rules marking_rules session_rules
no_store ws e = ap (λ (o : Option (ℕ × ℕ × ℕ × ℕ)). option_map (λ (n : ℕ × ℕ × ℕ × ℕ). Ask (Step (Store n.0 n.1 n.2 n.3))) o) e

no_put : (ws : List (List ℕ)) → four_numbers ws ≡ None → by_rule all_rules (codes "put") ws ≡ None
unfolding by_rule class_rules making_rules access_rules marking_rules session_rules
no_put ws e = ap (λ (o : Option (ℕ × ℕ × ℕ × ℕ)). option_map (λ (n : ℕ × ℕ × ℕ × ℕ). Ask (Step (Put n.0 n.1 n.2 n.3))) o) e

class_asks_nothing : (bm : Bookmarks) (ws : List (List ℕ)) → AsksNothing bm (codes "class") ws
unfolding question_of_words question_rules past_rules
class_asks_nothing bm ws = record { question = refl; help = refl }

new_asks_nothing : (bm : Bookmarks) (ws : List (List ℕ)) → AsksNothing bm (codes "new") ws
unfolding question_of_words question_rules past_rules
new_asks_nothing bm ws = record { question = refl; help = refl }

array_asks_nothing : (bm : Bookmarks) (ws : List (List ℕ)) → AsksNothing bm (codes "newarray") ws
unfolding question_of_words question_rules past_rules
array_asks_nothing bm ws = record { question = refl; help = refl }

load_asks_nothing : (bm : Bookmarks) (ws : List (List ℕ)) → AsksNothing bm (codes "load") ws
unfolding question_of_words question_rules past_rules
load_asks_nothing bm ws = record { question = refl; help = refl }

store_asks_nothing : (bm : Bookmarks) (ws : List (List ℕ)) → AsksNothing bm (codes "store") ws
unfolding question_of_words question_rules past_rules
store_asks_nothing bm ws = record { question = refl; help = refl }

put_asks_nothing : (bm : Bookmarks) (ws : List (List ℕ)) → AsksNothing bm (codes "put") ws
unfolding question_of_words question_rules past_rules
put_asks_nothing bm ws = record { question = refl; help = refl }

-- words that are no line of the grammar, and ask nothing
record IsEventAlone (w : List ℕ) (ws : List (List ℕ)) : Type 0 where
  command : command_of_words (w ∷ ws) ≡ Bad
  asks : (bm : Bookmarks) → AsksNothing bm w ws

alone_by : (w key : List ℕ) (ws : List (List ℕ)) → bytes_eq w key ≡ true → by_rule all_rules key ws ≡ None → ((bm : Bookmarks) → AsksNothing bm key ws) → IsEventAlone w ws
alone_by w key ws word none asks = record {
  command = let rule = subst (λ (x : List ℕ). by_rule all_rules x ws ≡ None) (sym ((bytes_eq-Decides w key).0 word)) none in rw rule refl;
  asks = λ bm. word_asks_nothing bm w key ws word (asks bm);
}

object_event_alone : (state : HeapState) (w : List ℕ) (ws : List (List ℕ)) (e : Event) → object_event_by_name state w ws ≡ Some e → IsEventAlone w ws
unfolding object_event_by_name
object_event_alone state w ws e is = go (bytes_eq w (codes "new")) (bytes_eq w (codes "newarray")) (bytes_eq w (codes "load")) (bytes_eq w (codes "store")) (bytes_eq w (codes "put")) refl refl refl refl refl is
  where
    go : (makes lists reads stores puts : Bool) → bytes_eq w (codes "new") ≡ makes → bytes_eq w (codes "newarray") ≡ lists → bytes_eq w (codes "load") ≡ reads → bytes_eq w (codes "store") ≡ stores → bytes_eq w (codes "put") ≡ puts
        → cond makes (new_by_name state.classes ws)
        (cond lists (array_by_name state.classes ws)
        (cond reads (load_by_name state ws)
        (cond stores (option_map (λ (n : ℕ × ℕ × ℕ × ℕ). Store n.0 n.1 n.2 n.3) (write_by_name state ws)) (cond puts (option_map (λ (n : ℕ × ℕ × ℕ × ℕ). Put n.0 n.1 n.2 n.3) (write_by_name state ws)) None)))) ≡ Some e
        → IsEventAlone w ws
    go true lists reads stores puts h i j k l is = alone_by w (codes "new") ws h (no_new ws (new_by_name_alone state.classes ws e is)) (λ bm. new_asks_nothing bm ws)
    go false true reads stores puts h i j k l is = alone_by w (codes "newarray") ws i (no_array ws (array_by_name_alone state.classes ws e is)) (λ bm. array_asks_nothing bm ws)
    go false false true stores puts h i j k l is = alone_by w (codes "load") ws j (no_load ws (load_by_name_alone state ws e is)) (λ bm. load_asks_nothing bm ws)
    go false false false true puts h i j k l is =
        let x = mapped_from (λ (n : ℕ × ℕ × ℕ × ℕ). Store n.0 n.1 n.2 n.3) (write_by_name state ws) e is in
        alone_by w (codes "store") ws k (no_store ws (write_by_name_alone state ws x.0 x.1)) (λ bm. store_asks_nothing bm ws)
    go false false false false true h i j k l is =
        let x = mapped_from (λ (n : ℕ × ℕ × ℕ × ℕ). Put n.0 n.1 n.2 n.3) (write_by_name state ws) e is in
        alone_by w (codes "put") ws l (no_put ws (write_by_name_alone state ws x.0 x.1)) (λ bm. put_asks_nothing bm ws)
    go false false false false false h i j k l is = absurd (cc is)

event_alone : (state : HeapState) (w : List ℕ) (ws : List (List ℕ)) (e : Event) → event_by_name state w ws ≡ Some e → IsEventAlone w ws
unfolding event_by_name
event_alone state w ws e is = go (bytes_eq w (codes "class")) refl is
  where
    go : (defines : Bool) → bytes_eq w (codes "class") ≡ defines → cond defines (class_by_name state.classes ws) (object_event_by_name state w ws) ≡ Some e → IsEventAlone w ws
    go true h is = alone_by w (codes "class") ws h (no_class_line ws (class_by_name_alone state.classes ws e is)) (λ bm. class_asks_nothing bm ws)
    go false h is = object_event_alone state w ws e is

-- ---- orders of both sorts

event_no_command : (state : HeapState) (ws : List (List ℕ)) (e : Event) → event_of_words state ws ≡ Some e → command_of_words ws ≡ Bad
event_no_command state [] e is = absurd (cc is)
event_no_command state (w ∷ ws) e is = (event_alone state w ws e is).command

event_asks_nothing : (bm : Bookmarks) (state : HeapState) (ws : List (List ℕ)) (e : Event) → event_of_words state ws ≡ Some e → (question_of_words bm ws ≡ None) × (help_of_words ws ≡ None)
event_asks_nothing bm state [] e is = absurd (cc is)
event_asks_nothing bm state (w ∷ ws) e is = let a = (event_alone state w ws e is).asks bm in (a.question, a.help)

either_no_command : (bm : Bookmarks) (state : HeapState) (ws : List (List ℕ)) (o : Order) (order : Option Order) → order_of_words bm ws ≡ order → option_or order (option_map Act (event_of_words state ws)) ≡ Some o → command_of_words ws ≡ Bad
either_no_command bm state ws o None h e = let x = mapped_from Act (event_of_words state ws) o e in event_no_command state ws x.0 x.1
either_no_command bm state ws o (Some p) h e = by_order bm ws p h

pub orders_no_command : (bm : Bookmarks) (state : HeapState) (l : List ℕ) (o : Order) → order_in bm state l ≡ Some o → command_of_text l ≡ Bad
orders_no_command bm state l o e = bad_words l (either_no_command bm state (words_of_line l) o (order_of_words bm (words_of_line l)) refl e)

either_asks_nothing : (bm : Bookmarks) (state : HeapState) (ws : List (List ℕ)) (o : Order) (order : Option Order) → order_of_words bm ws ≡ order → option_or order (option_map Act (event_of_words state ws)) ≡ Some o
    → (question_of_words bm ws ≡ None) × (help_of_words ws ≡ None)
either_asks_nothing bm state ws o None h e = let x = mapped_from Act (event_of_words state ws) o e in event_asks_nothing bm state ws x.0 x.1
either_asks_nothing bm state ws o (Some p) h e = order_asks_nothing bm ws p h

pub line_asks_nothing : (bm : Bookmarks) (state : HeapState) (l : List ℕ) (o : Order) → order_in bm state l ≡ Some o → (question_of bm l ≡ None) × (help_of l ≡ None)
line_asks_nothing bm state l o e = either_asks_nothing bm state (words_of_line l) o (order_of_words bm (words_of_line l)) refl e

-- ---- no memory

-- nothing is done for a line of which reading takes memory, if there is none
pub unread_for_no_memory : (o : Option Order) (l : List ℕ) (c : Asking) → MayTakeMemory o → AnswersLine o l c (refused_text NoMemory) c
unread_for_no_memory None l c h = absurd h
unread_for_no_memory (Some Collect) l c h = absurd h
unread_for_no_memory (Some (RewindTo place)) l c h = absurd h
unread_for_no_memory (Some (Forward n)) l c h = absurd h
unread_for_no_memory (Some (ForwardTo place)) l c h = absurd h
unread_for_no_memory (Some (Act e)) l c h = (inr (h, (refl, refl, refl)), refl, refl)
