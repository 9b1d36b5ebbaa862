-- Fields, span by span.
use Rattle.std.proofs.Common.{◌≡◌, ◌∙◌, ap, refl, sym, subst, ℕ, ◌+◌, ◌-◌, ◌≤◌, List, [], ◌∷◌, ◌++◌, drop, length, map, Option, Some, None, append_assoc, length-append, arith}
use Rattle.std.specs.Prelude.{option_map, option_and_then, zero, suc}
use Rattle.std.proofs.lemmas.List.{drop-drop, map-append}
use Rattle.std.proofs.lemmas.List.Elements.{All-append}
use Rattle.heap_class.specs.declared.Field.{Field}
use Rattle.session_grammar.specs.declared.spans.FieldSpan.{FieldSpan}
use Rattle.session_grammar.specs.Grammar.{words_of_line}
use Rattle.session_grammar.specs.Reads.{word_size, first_word, with_size, plain_field, plain_fields, field_of_span, AreSpansWithin, IsRestOf}
use Rattle.session_grammar.proofs.Firsts.{some_with_size_is_read}

pub rest_of_rest : (text rest less : List ℕ) → IsRestOf text rest → IsRestOf rest less → IsRestOf text less
rest_of_rest text rest less h k =
    let m = length text - length rest in
    let n = length rest - length less in
    let all : m + n ≡ length text - length less = omega (arith, h.0, k.0) in (
      omega (arith, h.0, k.0),
      k.1 ∙ ap (λ l. drop n l) h.1 ∙ drop-drop n m text ∙ ap (λ j. drop j text) all,
    )

pub spans_longer_by_one : (old new : List FieldSpan) (span : FieldSpan) → new ≡ old ++ span ∷ [] → length new ≡ length old + 1
spans_longer_by_one old new span e = ap length e ∙ length-append old (span ∷ [])

single_span_within_text : (text : List ℕ) (span : FieldSpan) → span.start + span.size ≤ length text → AreSpansWithin text (span ∷ [])
single_span_within_text text span h zero d lt = h
single_span_within_text text span h (suc k) d lt = absurd (omega (arith, lt))

pub spans_within_with_one_more : (text : List ℕ) (old new : List FieldSpan) (span : FieldSpan) → new ≡ old ++ span ∷ [] → span.start + span.size ≤ length text → AreSpansWithin text old → AreSpansWithin text new
spans_within_with_one_more text old new span e h all = subst (AreSpansWithin text) (sym e) (All-append (λ m. m.start + m.size ≤ length text) old (span ∷ []) all (single_span_within_text text span h))

fields_with_one_span_more : (text : List ℕ) (old : List FieldSpan) (span : FieldSpan) (o : Option (List Field))
    → option_map (λ fs. map (field_of_span text) old ++ fs) (option_map (λ fs. field_of_span text span ∷ fs) o) ≡ option_map (λ fs. map (field_of_span text) (old ++ span ∷ []) ++ fs) o
fields_with_one_span_more text old span None = refl
fields_with_one_span_more text old span (Some fs) =
    let f = field_of_span text in
    ap Some (sym (append_assoc (map f old) (f span ∷ []) fs) ∙ ap (λ l. l ++ fs) (sym (map-append f old (span ∷ []))))

-- a field more was read
pub field_spans_one_further : (text t left : List ℕ) (ws : List (List ℕ)) (old new : List FieldSpan) (span : FieldSpan) (whole : ℕ) → Some (field_of_span text span, whole) ≡ with_size t (plain_field (first_word t)) → left ≡ drop (whole + 1) t → new ≡ old ++ span ∷ [] → ws ≡ first_word t ∷ words_of_line (drop (word_size t + 1) t)
    → option_map (λ fs. map (field_of_span text) old ++ fs) (plain_fields ws) ≡ option_map (λ fs. map (field_of_span text) new ++ fs) (plain_fields (words_of_line left))
field_spans_one_further text t left ws old new span whole e rest more words =
    let p = some_with_size_is_read t (plain_field (first_word t)) (field_of_span text span) whole e in
    let behind : words_of_line (drop (word_size t + 1) t) ≡ words_of_line left = ap (λ n. words_of_line (drop (n + 1) t)) (sym p.1) ∙ ap words_of_line (sym rest) in
    let first : plain_fields ws ≡ option_map (λ fs. field_of_span text span ∷ fs) (plain_fields (words_of_line left)) =
    ap plain_fields words
    ∙ ap (λ o. option_and_then (λ f. option_map (λ fs. f ∷ fs) (plain_fields (words_of_line (drop (word_size t + 1) t)))) o) p.0
    ∙ ap (λ l. option_map (λ fs. field_of_span text span ∷ fs) (plain_fields l)) behind in
    ap (λ o. option_map (λ fs. map (field_of_span text) old ++ fs) o) first
    ∙ fields_with_one_span_more text old span (plain_fields (words_of_line left))
    ∙ ap (λ spans. option_map (λ fs. map (field_of_span text) spans ++ fs) (plain_fields (words_of_line left))) (sym more)
