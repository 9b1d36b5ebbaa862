use Rattle.std.proofs.Common.{◌<◌, ◌∙◌, ℕ, List, length, ap, arith}
use Rattle.std.specs.Prelude.{slice_set}
use Rattle.std.specs.Vec.{vec_capacity}
use Rattle.heap_pins.proofs.NumberPages.{number_is_written, numbers_are_as_many, same_numbers}
use Rattle.heap_pins.proofs.numbers.RegionNumbers.set.Goals as goal

pub page_start-start-requires-clause-page : goal.page_start-start-requires-clause-page
page_start-start-requires-clause-page c =
    omega (arith, c.requires, ap (λ (l : List ℕ). length l) c.self.view_is, numbers_are_as_many c.self.inside.pages.items c.self.inside.numbers.items c.self.inside.count, c.self.invariant.0)

pub returns : goal.returns
returns c =
    let pages = c.self.inside.pages.items in
    let numbers = c.self.inside.numbers.items in
    let count = c.self.inside.count in
    let n = c.page_start-start in
    let less : c.args.region < count = omega (arith, c.requires, ap (λ (l : List ℕ). length l) c.self.view_is, numbers_are_as_many pages numbers count) in
    number_is_written n.new.pages.items n.new.numbers.items (vec_capacity n.new.numbers) c.args.region n.result c.args.number n.ensures.table n.ensures.start count less
    ∙ ap (λ l. slice_set l c.args.region c.args.number) (same_numbers pages numbers n.new.pages.items n.new.numbers.items count n.ensures.same ∙ c.self.view_is)
