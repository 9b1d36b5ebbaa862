use Rattle.std.proofs.Common.{◌≡◌, true, sym, ap, ◌∙◌}
use Rattle.heap_history.specs.Kept.{is_short}
use Rattle.heap_history.proofs.LongDeeds.{array_class_kept, class_kept}
use Rattle.heap_history.proofs.long.long_definition.Goals as goal

pub returns-in_ok-definition-in-Class : goal.returns-in_ok-definition-in-Class
returns-in_ok-definition-in-Class c =
    let told = c.in_ok-definition-in-Class.ensures in
    let short : is_short c.in-Class.name c.in-Class.fields ≡ true = ap (is_short c.in-Class.name) (sym c.as_slice.ensures) ∙ told.0 in
    class_kept c.args.event.now c.in-Class.name c.in-Class.sup c.in-Class.fields _ c.in-Class.is short told.1 (told.2 ∙ c.as_slice.ensures)

pub returns-in_ok-definition-in-ArrayClass : goal.returns-in_ok-definition-in-ArrayClass
returns-in_ok-definition-in-ArrayClass c =
    let told = c.in_ok-definition-in-ArrayClass.ensures in
    array_class_kept c.args.event.now c.in-ArrayClass.name _ c.in-ArrayClass.is told.0 told.1
