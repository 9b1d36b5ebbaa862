use Rattle.std.proofs.Common.{◌≡◌, ◌≢◌, ℕ, zero, suc, true, refl}
use Rattle.heap_region.specs.Waits.{wait_turned}
use Rattle.heap_region.proofs.waits.class_read.Goals as goal

-- a class of no region in use
other_class : (k : ℕ) → k ≢ 1 → k ≢ 2 → k ≡ wait_turned true k
other_class zero first second = refl
other_class (suc zero) first second = absurd (first refl)
other_class (suc (suc zero)) first second = absurd (second refl)
other_class (suc (suc (suc k))) first second = refl

pub returns-then-class-eq-WAITING-clause-value : goal.returns-then-class-eq-WAITING-clause-value
returns-then-class-eq-WAITING-clause-value c = rw (c.if-odd.true, c.if-class-eq-WAITING.true) refl

pub returns-then-class-eq-SETTLED-clause-value : goal.returns-then-class-eq-SETTLED-clause-value
returns-then-class-eq-SETTLED-clause-value c = rw (c.if-odd.true, c.if-class-eq-SETTLED.true) refl

pub returns-else-class-eq-SETTLED-clause-value : goal.returns-else-class-eq-SETTLED-clause-value
returns-else-class-eq-SETTLED-clause-value c = rw c.if-odd.true (other_class c.args.class c.if-class-eq-WAITING.false c.if-class-eq-SETTLED.false)

pub returns-else-odd-clause-value : goal.returns-else-odd-clause-value
returns-else-odd-clause-value c = rw c.if-odd.false refl
