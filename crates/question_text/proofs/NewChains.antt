-- No line that shows an object along fields is one of the grammar of sessions.
use Rattle.std.proofs.Common.{◌≡◌, ℕ, Bool, true, false, cond, List, [], ◌∷◌, Some, None, refl, sym, subst}
use Rattle.std.specs.Prelude.{codes}
use Rattle.std.specs.Str.{bytes_eq}
use Rattle.std.proofs.lemmas.Slice.Eq.{bytes_eq-Decides}
use Rattle.session_grammar.specs.declared.command.Command.TheVariants.{Bad}
use Rattle.session_grammar.specs.Grammar.{access_rules, by_rule, class_rules, command_of_text, command_of_words, making_rules, marking_rules, session_rules, words_of_line}
use Rattle.question_grammar.specs.Bookmarks.{Bookmarks}
use Rattle.question_grammar.specs.Chains.{chain_behind, chain_of, chain_of_words}
use Rattle.question_grammar.specs.declared.chain.Chain.{Chain}
use Rattle.question_text.proofs.NewWords.{IsNew, bad_words}

show_new : IsNew (codes "show")
unfolding by_rule class_rules making_rules access_rules marking_rules session_rules
show_new ws = refl

by_chain : (bm : Bookmarks) (ws : List (List ℕ)) (c : Chain) → chain_of_words bm ws ≡ Some c → command_of_words ws ≡ Bad
by_chain bm [] c e = absurd (cc e)
by_chain bm (w ∷ ws) c e = go (bytes_eq w (codes "show")) refl e
  where
    go : (b : Bool) → bytes_eq w (codes "show") ≡ b → cond b (chain_behind bm ws) None ≡ Some c → command_of_words (w ∷ ws) ≡ Bad
    go true h e = let none = subst IsNew (sym ((bytes_eq-Decides w (codes "show")).0 h)) show_new ws in rw none refl
    go false h e = absurd (cc e)

pub chains_no_command : (bm : Bookmarks) (l : List ℕ) (c : Chain) → chain_of bm l ≡ Some c → command_of_text l ≡ Bad
chains_no_command bm l c e = bad_words l (by_chain bm (words_of_line l) c e)
