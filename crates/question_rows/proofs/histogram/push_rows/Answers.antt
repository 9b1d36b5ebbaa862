use Rattle.std.proofs.Common.{◌≡◌, ◌∙◌, ◌++◌, List, ap, arith, get_or, length, sym, take, ℕ}
use Rattle.std.specs.Prelude.{flat_map}
use Rattle.std.proofs.Math.Seq.{take-length}
use Rattle.std.proofs.lemmas.List.{flat_map_more, take_more}
use Rattle.question_rows.specs.Histograms.{row_text}
use Rattle.question_rows.proofs.histogram.push_rows.Goals as goal

pub loop-index-preserved : goal.loop-index-preserved
loop-index-preserved c =
    let line : ℕ → List ℕ = row_text c.args.classes.now c.args.rows.now in
    let old = c.args.text.now.items in
    let ranked = c.args.ranked.now in
    let i = c.loop-index.index-index in
    c.in_ok-push_row.ensures
    ∙ ap (λ (t : List ℕ). t ++ line (get_or ranked i 0)) c.loop-index.invariant
    ∙ flat_map_more line old (take i ranked) (get_or ranked i 0)
    ∙ ap (λ (gs : List ℕ). old ++ flat_map line gs) (sym (take_more ranked i 0 c.loop-index-test.true))

pub returns : goal.returns
returns c =
    let line : ℕ → List ℕ = row_text c.args.classes.now c.args.rows.now in
    let old = c.args.text.now.items in
    let ranked = c.args.ranked.now in
    let end : c.loop-index.index-index ≡ length ranked = omega (arith, c.loop-index.auto.index-index-end, c.loop-index-test.false) in
    c.loop-index.invariant
    ∙ ap (λ (i : ℕ). old ++ flat_map line (take i ranked)) end
    ∙ ap (λ (gs : List ℕ). old ++ flat_map line gs) (take-length ranked)
