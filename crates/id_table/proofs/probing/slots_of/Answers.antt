use Rattle.std.proofs.Common.{◌≡◌, ◌+◌, ◌++◌, ◌∙◌, zero, suc, ap, refl, subst, get_or, take, replicate, arith, ℕ, List, []}
use Rattle.std.proofs.Math.Seq.{take-nil}
use Rattle.std.proofs.lemmas.List.{length-set}
use Rattle.id_table.specs.Tables.{IsFree}
use Rattle.id_table.proofs.Probes.{none_placed, placed_and_one}
use Rattle.id_table.proofs.probing.slots_of.Goals as goal

zeros_are_zero : (n k : ℕ) → get_or {A = ℕ} (replicate n zero) k zero ≡ zero
zeros_are_zero zero k = refl
zeros_are_zero (suc n) zero = refl
zeros_are_zero (suc n) (suc k) = zeros_are_zero n k

-- a list that is made of zeros_are_zero has no other number
all_empty : (size n : ℕ) (old new : List ℕ) → old ≡ [] → new ≡ take size old ++ replicate n zero → (k : ℕ) → get_or new k zero ≡ zero
all_empty size n old new none are k =
    ap (λ (xs : List ℕ). get_or xs k zero) (are ∙ (ap (λ (xs : List ℕ). take size xs ++ replicate n zero) none ∙ ap (λ (xs : List ℕ). xs ++ replicate n zero) (take-nil size))) ∙ zeros_are_zero n k

pub loop-i-init : goal.loop-i-init
loop-i-init c = record {
  placed = none_placed c.resize.new.self.items c.args.ids.now (all_empty c.args.size _ c.new-slots.result.items c.resize.new.self.items c.new-slots.ensures.items c.in_ok-resize.ensures.items);
  size = omega (arith, c.if-size-gt-MOST.false, c.in_ok-resize.ensures.len, c.resize.new.self.ok);
}

pub loop-i-preserved : goal.loop-i-preserved
loop-i-preserved c =
    let slots = c.loop-i.slots.items in
    record {
      placed = placed_and_one slots c.args.ids.now c.loop-i.i c.in-Some.at c.loop-i.invariant.placed
          (subst (λ (xs : List ℕ). IsFree xs (get_or c.args.ids.now c.loop-i.i 0) c.in-Some.at) c.deref.ensures.value c.in-Some.ensures);
      size = omega (arith, c.loop-i.invariant.size, length-set slots c.in-Some.at (c.loop-i.i + 1));
    }
