use Rattle.std.proofs.Common.{◌≡◌, ◌∙◌, Some, None, refl, sym}
use Rattle.clap.specs.Words.{first_of, found_of, rows_of}
use Rattle.clap.proofs.WalkLemmas.{first_value-rows}
use Rattle.heapdbg_options.proofs.command_line.option_size.Goals as goal

pub returns-in-Some : goal.returns-in-Some
returns-in-Some c =
    let found = found_of c.args.options.now in
    let given : first_of c.args.name.now (rows_of found) ≡ Some c.in-Some.text.now =
    sym (first_value-rows found c.args.name.now) ∙ sym c.in-Some.ensures in
    rw given c.size.ensures

pub returns-in-None : goal.returns-in-None
returns-in-None c =
    let found = found_of c.args.options.now in
    let missing : first_of c.args.name.now (rows_of found) ≡ None =
    sym (first_value-rows found c.args.name.now) ∙ sym c.in-None.ensures in
    rw missing refl
