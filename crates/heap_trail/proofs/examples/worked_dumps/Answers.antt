use Rattle.heap_trail.proofs.ComputedDumps as example
use Rattle.heap_trail.proofs.examples.worked_dumps.Goals as goal

pub returns-clause-pin_gives_its_dump : goal.returns-clause-pin_gives_its_dump
returns-clause-pin_gives_its_dump c = example.pin_gives_its_dump

pub returns-clause-dump_is_of_301 : goal.returns-clause-dump_is_of_301
returns-clause-dump_is_of_301 c = example.dump_is_of_301

pub returns-clause-rewind_loses_pin : goal.returns-clause-rewind_loses_pin
returns-clause-rewind_loses_pin c = example.rewind_loses_pin

pub returns-clause-four_pins_open : goal.returns-clause-four_pins_open
returns-clause-four_pins_open c = example.four_pins_open

pub returns-clause-starved_pin : goal.returns-clause-starved_pin
returns-clause-starved_pin c = example.starved_pin

pub returns-clause-references_loaded : goal.returns-clause-references_loaded
returns-clause-references_loaded c = example.references_loaded
