use Rattle.std.proofs.Common.{◌*◌, ◌/◌, ◌%◌, ◌<◌, ◌≤◌, ◌^◌, refl, arith, ℕ}
use Rattle.std.proofs.lemmas.Nat.{div_below, mod_below, mul-le}
use Rattle.id_table.specs.Tables.{home}
use Rattle.id_table.proofs.probing.home.Goals as goal

high_half_is_small : (n : ℕ) → n % 2 ^ 64 / 2 ^ 32 < 2 ^ 32
high_half_is_small n = div_below (n % 2 ^ 64) (2 ^ 32) (2 ^ 32) (omega arith) (mod_below n (2 ^ 64) (omega arith))

part_is_below : (x size : ℕ) → x < 2 ^ 32 → 0 < size → x * size / 2 ^ 32 < size
part_is_below x size small some =
    let most : x * size ≤ 4294967295 * size = mul-le x size 4294967295 size (omega (arith, small)) (omega arith) in
    div_below (x * size) (2 ^ 32) size (omega arith) (omega (arith, most, some))

product_is_small : (n size : ℕ) → size < 2 ^ 32 → n % 2 ^ 64 / 2 ^ 32 * size < 2 ^ 64
product_is_small n size few =
    let most : n % 2 ^ 64 / 2 ^ 32 * size ≤ 4294967295 * size = mul-le (n % 2 ^ 64 / 2 ^ 32) size 4294967295 size (omega (arith, high_half_is_small n)) (omega arith) in
    omega (arith, most, few)

pub overflow_mul-result : goal.overflow_mul-result
overflow_mul-result c = omega (arith, product_is_small (c.args.id * 0x9e3779b97f4a7c15) c.args.size c.requires.few)

pub returns-clause-value : goal.returns-clause-value
unfolding home
returns-clause-value c = refl

pub returns-clause-within : goal.returns-clause-within
returns-clause-within c = part_is_below (c.args.id * 0x9e3779b97f4a7c15 % 2 ^ 64 / 2 ^ 32) c.args.size (high_half_is_small (c.args.id * 0x9e3779b97f4a7c15)) c.requires.some
