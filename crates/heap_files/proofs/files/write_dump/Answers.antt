use Rattle.std.proofs.Common.{sym, ◌∙◌, subst}
use Rattle.heap_files.specs.Files.{IsDumpAnswer, written_text}
use Rattle.heap_files.proofs.files.write_dump.Goals as goal

pub returns : goal.returns
returns g c =
    subst (λ image. IsDumpAnswer g.F.Folder.acts c.args.path.now c.args.machine.now.ids c.args.time image c.args.folder.now (written_text c.write_view.result) c.write_view.new.folder)
    (sym c.in_ok-view.ensures.view.1 ∙ c.in_ok-moment.ensures.image.1)
    (rw c.in_ok-view.ensures.view.0 at c.write_view.ensures)
