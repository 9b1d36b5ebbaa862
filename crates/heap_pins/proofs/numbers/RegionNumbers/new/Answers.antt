use Rattle.std.proofs.Common.{◌≡◌, ◌+◌, ◌/◌, ◌∙◌, ℕ, List, length, replicate, sym, ap, subst, arith}
use Rattle.std.specs.Vec.{vec_capacity}
use Rattle.std.proofs.lemmas.List.{length-replicate}
use Rattle.heap_pins.specs.Numbers.{ArePages, region_numbers}
use Rattle.heap_pins.proofs.NumberPages.{no_pages_are_pages, numbers_are_zeros_at_first}
use Rattle.heap_pins.proofs.numbers.RegionNumbers.new.Goals as goal

pub invariant_of-result : goal.invariant_of-result
invariant_of-result c =
    let n = c.args.count / 256 + 1 in
    let zeros : c.in_ok-pages.pages.items ≡ replicate n 0 = c.in_ok-pages.ensures.items_if_clones_equal (search) in
    let capacity = vec_capacity c.in_ok-numbers.numbers in (
      omega (arith, ap (λ (l : List ℕ). length l) zeros, length-replicate {A = ℕ} n 0),
      subst (λ l. ArePages l c.in_ok-numbers.numbers.items capacity) (sym zeros)
          (subst (λ l. ArePages (replicate n 0) l capacity) (sym c.in_ok-numbers.ensures.items)
          (no_pages_are_pages n capacity (omega (arith, c.requires)) (omega (arith, c.in_ok-numbers.ensures.capacity)))),
    )

pub returns : goal.returns
returns c =
    let n = c.args.count / 256 + 1 in
    let zeros : c.in_ok-pages.pages.items ≡ replicate n 0 = c.in_ok-pages.ensures.items_if_clones_equal (search) in
    (λ j. region_numbers (zeros j) (c.in_ok-numbers.ensures.items j) c.args.count) ∙ numbers_are_zeros_at_first n c.args.count
