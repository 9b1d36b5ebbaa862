use Rattle.std.proofs.Common.{◌<◌, ◌+◌, ◌*◌, ◌-◌, ◌/◌, ◌%◌, ◌∙◌, ℕ, List, length, sym, ap, arith, slice_index_or}
use Rattle.std.proofs.lemmas.List.{get_or_read}
use Rattle.heap_pins.proofs.NumberPages.{number_is_read, number_on_no_page, number_on_page, numbers_are_as_many}
use Rattle.heap_pins.proofs.numbers.RegionNumbers.get.Goals as goal

pub index-requires : goal.index-requires
index-requires c = omega (arith, c.requires, ap (λ (l : List ℕ). length l) c.self.view_is, numbers_are_as_many c.self.inside.pages.items c.self.inside.numbers.items c.self.inside.count, c.self.invariant.0, c.self.inside.pages.ok.0)

pub index-requires-in_default : goal.index-requires-in_default
index-requires-in_default c =
    let pages = c.self.inside.pages.items in
    let below : c.args.region / 256 < length pages = omega (arith, c.requires, ap (λ (l : List ℕ). length l) c.self.view_is, numbers_are_as_many pages c.self.inside.numbers.items c.self.inside.count, c.self.invariant.0) in
    let number = get_or_read pages (c.args.region / 256) c.index.result.now below c.index.ensures 0 in
    omega (arith, number, c.in_default, c.self.invariant.1.within (c.args.region / 256), c.self.inside.numbers.ok.0)

pub returns-in-0 : goal.returns-in-0
returns-in-0 c =
    let pages = c.self.inside.pages.items in
    let numbers = c.self.inside.numbers.items in
    let less : c.args.region < c.self.inside.count = omega (arith, c.requires, ap (λ (l : List ℕ). length l) c.self.view_is, numbers_are_as_many pages numbers c.self.inside.count) in
    let below : c.args.region / 256 < length pages = omega (arith, less, c.self.invariant.0) in
    let number = get_or_read pages (c.args.region / 256) c.index.result.now below c.index.ensures 0 in
    sym (number_on_no_page numbers (slice_index_or pages (c.args.region / 256) 0) (c.args.region % 256) (omega (arith, number, c.in-0.is)))
    ∙ sym (number_is_read pages numbers c.self.inside.count c.args.region less)
    ∙ ap (λ l. slice_index_or l c.args.region 0) c.self.view_is

pub returns-in_default : goal.returns-in_default
returns-in_default c =
    let pages = c.self.inside.pages.items in
    let numbers = c.self.inside.numbers.items in
    let less : c.args.region < c.self.inside.count = omega (arith, c.requires, ap (λ (l : List ℕ). length l) c.self.view_is, numbers_are_as_many pages numbers c.self.inside.count) in
    let below : c.args.region / 256 < length pages = omega (arith, less, c.self.invariant.0) in
    let number = get_or_read pages (c.args.region / 256) c.index.result.now below c.index.ensures 0 in
    let start = (c.index.result.now - 1) * 256 in
    let there : start + c.args.region % 256 < length numbers = omega (arith, number, c.in_default, c.self.invariant.1.within (c.args.region / 256)) in
    get_or_read numbers (start + c.args.region % 256) c.index-in_default.result.now there c.index-in_default.ensures 0
    ∙ sym (number_on_page numbers (slice_index_or pages (c.args.region / 256) 0) (c.args.region % 256) start (omega (arith, number, c.in_default)))
    ∙ sym (number_is_read pages numbers c.self.inside.count c.args.region less)
    ∙ ap (λ l. slice_index_or l c.args.region 0) c.self.view_is
