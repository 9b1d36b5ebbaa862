use Rattle.std.proofs.Common.{◌≡◌, ℕ, Option, Some, None, ap}
use Rattle.std.specs.Prelude.{option_and_then}
use Rattle.std.specs.Option.{option_map_or}
use Rattle.hprof_pair.specs.Pairs.{PairTold, fresh_number, heap_number, is_like, like_number, number_if, pair_told, second_shape, stayed}
use Rattle.hprof_pair.specs.declared.shapes.Shape.{Shape}
use Rattle.hprof_pair.proofs.pair.Pair.heap_number.Goals as goal

none_without_shape : (p : PairTold) (n : ℕ) → None ≡ second_shape p n → None ≡ heap_number p n
unfolding heap_number stayed
none_without_shape p n none =
    ap (λ (o : Option Shape). option_map_or (λ m. Some m) (option_and_then (λ shape. option_and_then (number_if (is_like p shape)) (like_number p n)) o) (option_and_then (λ shape. fresh_number p n) o)) none

pub returns-in-None : goal.returns-in-None
returns-in-None c = none_without_shape (pair_told c.args.self.now) c.args.n c.in-None.ensures
