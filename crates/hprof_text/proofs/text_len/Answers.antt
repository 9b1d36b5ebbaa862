use Rattle.std.proofs.Common.{◌+◌, sym, ap₂, ◌∙◌}
use Rattle.hprof_text.specs.Sizes.{opening_size, text_size}
use Rattle.hprof_text.proofs.Lengths.{text_length}
use Rattle.hprof_text.proofs.text_len.Goals as goal

pub returns : goal.returns
unfolding text_size
returns g c = λ time.
    let opening = c.opening_size.ensures.value ∙ ap₂ opening_size c.id_size.ensures c.classes.ensures.value in
    ap₂ (λ a b. a + b + 9) opening c.segments_size.ensures.value ∙ sym (text_length (g.V.View.ids c.args.view.now) (g.V.View.image c.args.view.now) time)
