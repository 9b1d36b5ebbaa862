use Rattle.std.proofs.Common.{◌≡◌, suc, ◌+◌, ◌∷◌, take, subst, arith}
use Rattle.heap_step.specs.Records.{undone}
use Rattle.heap_pins.specs.KeptCopies.{kept}
use Rattle.heap_pins.specs.Shows.{Holds}
use Rattle.heap_pins.proofs.HeldPins.{pin_stepped, held_image, pin_rewound}
use Rattle.heap_pins.proofs.pins_hold.Goals as goal

pub returns-clause-stepped : goal.returns-clause-stepped
returns-clause-stepped c left v p u n k past h =
    let e : suc n ≡ n + 1 = omega arith in
    subst (λ m. Holds (kept left v p) u m (v ∷ take k (undone left v ∷ past))) e (pin_stepped left v p u n k past h)

pub returns-clause-image : goal.returns-clause-image
returns-clause-image c w p u n past h = held_image p u n w past h

pub returns-clause-rewound : goal.returns-clause-rewound
returns-clause-rewound c p u n w v past h =
    let e : n + 1 ≡ suc n = omega arith in
    pin_rewound p u n w v past (subst (λ m. Holds p u m (w ∷ v ∷ past)) e h)
