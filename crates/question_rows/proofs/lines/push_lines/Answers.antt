use Rattle.std.proofs.Common.{◌≡◌, ◌++◌, [], ◌∷◌, ℕ, ap, length, sym, ◌∙◌, take, arith}
use Rattle.std.specs.Prelude.{flat_map}
use Rattle.std.proofs.Math.Seq.{take-length}
use Rattle.std.proofs.lemmas.List.{flat_map_more, take_more}
use Rattle.question_rows.proofs.lines.push_lines.Goals as goal

pub loop-one-preserved : goal.loop-one-preserved
loop-one-preserved g c =
    let line = g.T.Lined.line in
    let old = c.args.text.now.items in
    let first = take c.loop-one.one-index c.args.all.now in
    let one = c.one-item.result in
    c.in_ok-push_line.ensures
    ∙ ap (λ l. l ++ line one) c.loop-one.invariant
    ∙ flat_map_more line old first one
    ∙ ap (λ xs. old ++ flat_map line xs) (ap (λ x. first ++ x ∷ []) c.one-item.is ∙ sym (take_more c.args.all.now c.loop-one.one-index one (omega arith)))

pub returns : goal.returns
returns g c =
    let line = g.T.Lined.line in
    let old = c.args.text.now.items in
    let all = c.args.all.now in
    let end : c.loop-one.one-index ≡ length all = omega (arith, c.loop-one.auto.one-index-end, c.loop-one-test.false) in
    c.loop-one.invariant ∙ ap (λ (i : ℕ). old ++ flat_map line (take i all)) end ∙ ap (λ xs. old ++ flat_map line xs) (take-length all)
