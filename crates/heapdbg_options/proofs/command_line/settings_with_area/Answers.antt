use Rattle.std.proofs.Common.{◌≡◌, None}
use Rattle.clap.specs.Words.{found_of, rows_of}
use Rattle.heapdbg_options.specs.CommandLine.{area_in}
use Rattle.heapdbg_options.proofs.Mistakes.{area_mistake_is_in_rows}
use Rattle.heapdbg_options.proofs.command_line.settings_with_area.Goals as goal

pub returns-in-None : goal.returns-in-None
returns-in-None c =
    let rows = rows_of (found_of c.args.options.now) in
    let s = c.args.settings in
    let read = c.in-None.ensures in
    let default = c.area_default-usual.ensures in
    let most = c.most_area.ensures in
    let none : area_in s.task s.wide s.regions rows ≡ None = cc in
    let unfit = area_mistake_is_in_rows s rows c.requires.wide c.requires.regions none in
    (tt, (unfit.0, rw c.area_rule.ensures unfit.1))
