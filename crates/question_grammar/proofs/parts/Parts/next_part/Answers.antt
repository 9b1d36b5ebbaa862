use Rattle.std.proofs.Common.{◌≡◌, ◌∙◌, ◌+◌, ◌-◌, ◌∷◌, [], List, Option, ℕ, ap, arith, drop, length, length-drop, sym, take, Bor}
use Rattle.std.specs.Option.{option_map_or}
use Rattle.std.proofs.lemmas.List.{take_all}
use Rattle.question_grammar.specs.Parts.{parts_of_word}
use Rattle.question_grammar.proofs.WordParts.{first_part, only_part}
use Rattle.question_grammar.proofs.parts.Parts.next_part.Goals as goal

pub returns-in-Some : goal.returns-in-Some
returns-in-Some c =
    let w = c.in_ok-rest.rest.now in
    let n = c.in-Some.dot in
    let all : take (length w - (n + 1)) (drop (n + 1) w) ≡ drop (n + 1) w = take_all (length w - (n + 1)) (drop (n + 1) w) (omega (arith, length-drop (n + 1) w)) in
    sym c.self.view_is
    ∙ ap (λ (rest : Option (Bor (List ℕ))). option_map_or (λ (v : Bor (List ℕ)). parts_of_word v.now) rest []) c.in_ok-rest.was
    ∙ first_part w n c.in-Some.ensures.place
    ∙ ap (λ (rest : List ℕ). take n w ∷ parts_of_word rest) (sym all)

pub returns-in-None : goal.returns-in-None
returns-in-None c =
    let w = c.in_ok-rest.rest.now in
    sym c.self.view_is
    ∙ ap (λ (rest : Option (Bor (List ℕ))). option_map_or (λ (v : Bor (List ℕ)). parts_of_word v.now) rest []) c.in_ok-rest.was
    ∙ only_part w c.in-None.ensures.place
