use Rattle.std.proofs.Common.{◌≡◌, arith, ap, length, ◌∙◌}
use Rattle.heap_region.specs.Regions.{block_words}
use Rattle.heap_region.proofs.BlockSizes.{block_words_at_most_heap}
use Rattle.heap_region.proofs.storage.Storage.word_count.Goals as goal

pub returns-clause-value : goal.returns-clause-value
returns-clause-value c = rw (← c.self.view_is) (ap length c.words.ensures ∙ c.self.invariant.words)

pub returns-clause-limit : goal.returns-clause-limit
returns-clause-limit c =
    let words : length c.words.result.now ≡ block_words c.self.inside.cell_size = ap length c.words.ensures ∙ c.self.invariant.words in
    omega (arith, words, block_words_at_most_heap c.self.inside.cell_size c.self.invariant.sized)
