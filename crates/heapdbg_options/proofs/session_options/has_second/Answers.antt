use Rattle.std.proofs.Common.{◌∙◌, codes}
use Rattle.clap.specs.Words.{found_of}
use Rattle.heapdbg_options.proofs.GivenOptions.{option_given_as_its_row}
use Rattle.heapdbg_options.proofs.session_options.has_second.Goals as goal

pub returns : goal.returns
returns c = c.is_some.ensures ∙ option_given_as_its_row (found_of c.args.options.now) (codes "then") c.get_str.result c.get_str.ensures
