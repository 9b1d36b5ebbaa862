use Rattle.std.proofs.Common.{◌≡◌, ◌+◌, ◌*◌, ◌/◌, ◌++◌, length, replicate, set, sym, subst, arith}
use Rattle.std.specs.Vec.{vec_capacity}
use Rattle.heap_pins.specs.Numbers.{ArePages, region_number}
use Rattle.heap_pins.proofs.NumberPages.{made_pages_are_pages, numbers_stay, page_number_is_small, page_numbers_follow, room_for_page}
use Rattle.heap_pins.proofs.numbers.add_page.Goals as goal

pub push_page-requires : goal.push_page-requires
push_page-requires c = room_for_page c.args.pages.now.items c.args.numbers.now.items (vec_capacity c.args.numbers.now) c.args.page c.requires.table c.requires.page c.requires.none

pub overflow_cast-start : goal.overflow_cast-start
overflow_cast-start c =
    omega (arith, page_number_is_small c.args.pages.now.items c.args.numbers.now.items (vec_capacity c.args.numbers.now) c.args.page c.requires.table c.requires.page c.requires.none, c.len-start.ensures, c.args.numbers.now.ok.0)

pub overflow_add-start : goal.overflow_add-start
overflow_add-start c =
    omega (arith, page_number_is_small c.args.pages.now.items c.args.numbers.now.items (vec_capacity c.args.numbers.now) c.args.page c.requires.table c.requires.page c.requires.none, c.len-start.ensures, c.args.numbers.now.ok.0)

pub returns-clause-table : goal.returns-clause-table
returns-clause-table c =
    let pages = c.args.pages.now.items in
    let numbers = c.args.numbers.now.items in
    let page_count : c.len-start.result ≡ length numbers = omega (arith, c.len-start.ensures, c.args.numbers.now.ok.0) in
    let follows : 256 * (c.len-start.result / 256 + 1) ≡ length numbers + 256 = omega (arith, page_count, page_numbers_follow pages numbers (vec_capacity c.args.numbers.now) c.requires.table) in
    subst (λ ns. ArePages (set pages c.args.page (c.len-start.result / 256 + 1)) ns (vec_capacity c.push_page.new.numbers)) (sym c.push_page.ensures.items)
    (subst (λ n. ArePages (set pages c.args.page (c.len-start.result / 256 + 1)) (numbers ++ replicate 256 0) n) (sym c.push_page.ensures.capacity)
    (made_pages_are_pages pages numbers (vec_capacity c.args.numbers.now) c.args.page c.requires.table c.requires.page c.requires.none (c.len-start.result / 256 + 1) follows))

pub returns-clause-same : goal.returns-clause-same
returns-clause-same c =
    let pages = c.args.pages.now.items in
    let numbers = c.args.numbers.now.items in
    let page_count : c.len-start.result ≡ length numbers = omega (arith, c.len-start.ensures, c.args.numbers.now.ok.0) in
    let follows : 256 * (c.len-start.result / 256 + 1) ≡ length numbers + 256 = omega (arith, page_count, page_numbers_follow pages numbers (vec_capacity c.args.numbers.now) c.requires.table) in
    λ r. subst (λ ns. region_number (set pages c.args.page (c.len-start.result / 256 + 1)) ns r ≡ region_number pages numbers r) (sym c.push_page.ensures.items)
    (numbers_stay pages numbers (vec_capacity c.args.numbers.now) c.args.page c.requires.table c.requires.page c.requires.none (c.len-start.result / 256 + 1) follows r)
