-- Fields, word by word.
use Rattle.std.proofs.Common.{◌≡◌, ◌∙◌, ap, refl, sym, ℕ, List, [], ◌∷◌, ◌++◌, Option, Some, None, append_assoc}
use Rattle.std.specs.Prelude.{is_some, option_and_then, option_map}
use Rattle.heap_class.specs.declared.Field.{Field}
use Rattle.session_grammar.specs.Reads.{plain_field, plain_fields}

-- the fields are there with one word more, if they are without it
there_behind : (f : Field) (o : Option (List Field)) → is_some (option_map (λ (fs : List Field). f ∷ fs) o) ≡ is_some o
there_behind f None = refl
there_behind f (Some fs) = refl

pub there_with_one_more : (ws vs : List (List ℕ)) (w : List ℕ) (f : Field) → ws ≡ w ∷ vs → plain_field w ≡ Some f → is_some (plain_fields ws) ≡ is_some (plain_fields vs)
there_with_one_more ws vs w f words e =
    ap (λ (l : List (List ℕ)). is_some (plain_fields l)) words
    ∙ ap (λ (o : Option Field). is_some (option_and_then (λ (g : Field). option_map (λ (fs : List Field). g ∷ fs) (plain_fields vs)) o)) e
    ∙ there_behind f (plain_fields vs)

-- no word is a field less
pub none_with_a_bad_word : (ws vs : List (List ℕ)) (w : List ℕ) → ws ≡ w ∷ vs → plain_field w ≡ None → plain_fields ws ≡ None
none_with_a_bad_word ws vs w words e =
    ap plain_fields words ∙ ap (λ (o : Option Field). option_and_then (λ (g : Field). option_map (λ (fs : List Field). g ∷ fs) (plain_fields vs)) o) e

-- those that were copied, and one more, before the others
before_the_others : (old : List Field) (f : Field) (o : Option (List Field)) → option_map (λ (fs : List Field). old ++ fs) (option_map (λ (fs : List Field). f ∷ fs) o) ≡ option_map (λ (fs : List Field). (old ++ f ∷ []) ++ fs) o
before_the_others old f None = refl
before_the_others old f (Some fs) = ap Some (sym (append_assoc old (f ∷ []) fs))

pub copied_one_more : (ws vs : List (List ℕ)) (w : List ℕ) (f : Field) (old new : List Field) → ws ≡ w ∷ vs → plain_field w ≡ Some f → new ≡ old ++ f ∷ [] → option_map (λ (fs : List Field). old ++ fs) (plain_fields ws) ≡ option_map (λ (fs : List Field). new ++ fs) (plain_fields vs)
copied_one_more ws vs w f old new words e more =
    ap (λ (l : List (List ℕ)). option_map (λ (fs : List Field). old ++ fs) (plain_fields l)) words
    ∙ ap (λ (o : Option Field). option_map (λ (fs : List Field). old ++ fs) (option_and_then (λ (g : Field). option_map (λ (fs : List Field). g ∷ fs) (plain_fields vs)) o)) e
    ∙ before_the_others old f (plain_fields vs)
    ∙ ap (λ (l : List Field). option_map (λ (fs : List Field). l ++ fs) (plain_fields vs)) (sym more)
