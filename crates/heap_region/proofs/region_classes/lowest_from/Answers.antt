use Rattle.std.proofs.Common.{arith}
use Rattle.heap_region.proofs.FirstPlaces.{class_not_found_in_part, first_byte_found_is_lowest}
use Rattle.heap_region.proofs.region_classes.lowest_from.Goals as goal

pub returns-then-class-eq0-clause-value : goal.returns-then-class-eq0-clause-value
returns-then-class-eq0-clause-value c some = absurd (omega arith)

pub returns-in-Some-clause-value : goal.returns-in-Some-clause-value
returns-in-Some-clause-value c some = first_byte_found_is_lowest c.args.classes.now c.args.from c.args.class c.in-Some.behind c.in-Some.ensures

pub returns-in-Some-clause-limit : goal.returns-in-Some-clause-limit
returns-in-Some-clause-limit c = (first_byte_found_is_lowest c.args.classes.now c.args.from c.args.class c.in-Some.behind c.in-Some.ensures).high

pub returns-in-None-clause-value : goal.returns-in-None-clause-value
returns-in-None-clause-value c some = class_not_found_in_part c.args.classes.now c.args.from c.args.class c.requires c.in-None.ensures
