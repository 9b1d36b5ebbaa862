use Rattle.std.proofs.Common.{◌≡◌, ◌∙◌, ◌++◌, List, None, ap, arith, get_or, length, sym, take, ℕ}
use Rattle.std.specs.Prelude.{flat_map}
use Rattle.std.proofs.Math.Seq.{take-length}
use Rattle.std.proofs.lemmas.List.{flat_map_more, take_more}
use Rattle.heap_class.specs.declared.ObjKind.TheVariants.{Instance}
use Rattle.heap_questions.specs.declared.past.lives.Life.{Life}
use Rattle.heap_questions.specs.declared.past.losses.Loss.TheVariants.{Reached}
use Rattle.question_rows.specs.Lives.{life_line}
use Rattle.question_rows.proofs.life.push_lives.Goals as goal

pub loop-life-preserved : goal.loop-life-preserved
loop-life-preserved c =
    let line : Life → List ℕ = life_line c.args.classes.now in
    let old = c.args.text.now.items in
    let lives = c.args.lives.now in
    let i = c.loop-life.life-index in
    let none : Life = record { kind = Instance 0; born = None; lost = Reached; swept = None } in
    let one : Life = get_or lives i none in
    c.in_ok-push_life.ensures
    ∙ ap (λ (t : List ℕ). t ++ line one) c.loop-life.invariant
    ∙ flat_map_more line old (take i lives) one
    ∙ ap (λ (cs : List Life). old ++ flat_map line cs) (sym (take_more lives i none c.loop-life-test.true))

pub returns : goal.returns
returns c =
    let line : Life → List ℕ = life_line c.args.classes.now in
    let old = c.args.text.now.items in
    let lives = c.args.lives.now in
    let end : c.loop-life.life-index ≡ length lives = omega (arith, c.loop-life.auto.life-index-end, c.loop-life-test.false) in
    c.loop-life.invariant
    ∙ ap (λ (i : ℕ). old ++ flat_map line (take i lives)) end
    ∙ ap (λ (cs : List Life). old ++ flat_map line cs) (take-length lives)
