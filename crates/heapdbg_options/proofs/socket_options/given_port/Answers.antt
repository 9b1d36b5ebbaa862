use Rattle.std.proofs.Common.{codes, refl}
use Rattle.clap.specs.Words.{found_of}
use Rattle.heapdbg_options.proofs.GivenOptions.{text_of_row}
use Rattle.heapdbg_options.proofs.socket_options.given_port.Goals as goal

pub returns-in-Some : goal.returns-in-Some
returns-in-Some c = rw (text_of_row (found_of c.args.options.now) (codes "port") _ c.in-Some.ensures) c.port_of.ensures

pub returns-in-None : goal.returns-in-None
returns-in-None c = rw (text_of_row (found_of c.args.options.now) (codes "port") _ c.in-None.ensures) refl
