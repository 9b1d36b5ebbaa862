use Rattle.std.proofs.Common.{sym, ap, ◌∙◌}
use Rattle.std.proofs.lemmas.Option.{same_Some}
use Rattle.hprof_text.specs.Segments.{dump_text}
use Rattle.hprof_image.specs.Images.{DumpTold, dump_told, shown}
use Rattle.hprof_image.proofs.DumpsOfShown.{dump_of_shown_image_is_same}
use Rattle.hprof_image.proofs.laws.equal_dumps_show_alike.Goals as goal

pub returns : goal.returns
returns c = λ ids other a b s t first second. (
  λ same. same_Some (shown ids s a) (shown other t b) (sym (c.dumps_tell_images.ensures ids a s first) ∙ ap dump_told same ∙ c.dumps_tell_images.ensures other b t second),
  λ alike. sym (dump_of_shown_image_is_same ids a s) ∙ ap (λ (d : DumpTold). dump_text d.header.ids d.image d.header.time) alike ∙ dump_of_shown_image_is_same other b t,
)
