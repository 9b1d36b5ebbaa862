use Rattle.std.proofs.Common.{Some, sym, ap, ◌∙◌}
use Rattle.heap_pins.proofs.region_copy.copy_before.Goals as goal

pub returns-in-Some-clause-made : goal.returns-in-Some-clause-made
returns-in-Some-clause-made c = c.requires.shared c.args.region c.in-Some.copy c.requires.touched c.in-Some.is ∙ ap Some (sym c.in_ok-share.ensures)

pub returns-in-Some-clause-shared : goal.returns-in-Some-clause-shared
returns-in-Some-clause-shared c r f touched same = c.requires.shared r f touched (c.in-Some.is ∙ same)
