use Rattle.std.proofs.Common.{◌≡◌, ◌∙◌, ◌++◌, ℕ, List, Option, ap, false, length, sym}
use Rattle.std.specs.Prelude.{codes, option_map, unwrap_or}
use Rattle.std.proofs.lemmas.Result.{IfOk-weaker}
use Rattle.heap_world.specs.Live.{cells_of}
use Rattle.heap_world.specs.Pool.{RegionPool}
use Rattle.heap_world.specs.Regions.{UsedRegion, used_at}
use Rattle.heap_world.specs.State.{pool_of}
use Rattle.session_text.specs.Replies.{and_number}
use Rattle.question_rows.specs.CellLists.{cell_letters, region_text, sweep_words}
use Rattle.question_rows.proofs.UsedRegions.{region_line, region_row}
use Rattle.question_rows.proofs.cell_list.push_region.Goals as goal

pub returns : goal.returns
returns c =
    let w = c.args.cells.now in
    let r = c.args.region in
    let old = c.args.text.now.items in
    let waits = c.unwrap_or-waits.result in
    let letters = cell_letters w r (length (cells_of (used_at w.regions r))) in
    let text = c.push_words.new.text.items in
    let told : waits ≡ unwrap_or (option_map (λ (u : UsedRegion). u.pending) (used_at w.regions r)) false =
    c.unwrap_or-waits.ensures
    ∙ ap (λ (x : Option _). unwrap_or x false) (c.pending.ensures ∙ ap (λ (s : RegionPool). option_map (λ (u : UsedRegion). u.pending) (used_at s.regions r)) (c.regions.ensures ∙ ap pool_of c.world.ensures)) in
    let row = region_row w r c.args.size waits c.requires told in
    IfOk-weaker c.push_words.result (λ done. text ≡ c.push_letters.new.text.items ++ codes "\n") (λ done. text ≡ old ++ region_text w r)
    (λ done h. region_line old (codes "row" ++ and_number r) (and_number c.args.size) (sweep_words waits) letters c.push_row.new.text.items c.push_number.new.text.items c.push_sweep.new.text.items c.push_letters.new.text.items text
    c.in_ok-push_row.ensures c.in_ok-push_number.ensures c.in_ok-push_sweep.ensures c.in_ok-push_letters.ensures h ∙ ap (λ (t : List ℕ). old ++ t) (sym row))
    c.push_words.ensures
