use Rattle.std.proofs.Common.{◌≡◌, ◌++◌, ◌∷◌, [], ℕ, List, take, drop, length, refl, sym, ap, ◌∙◌, arith}
use Rattle.std.proofs.lemmas.List.{append-nil, take-append-drop, length-take-le, take_all}
use Rattle.dump_pump.specs.Pumps.{joined}
use Rattle.dump_pump.proofs.transfer.pump_part.Goals as goal

pub returns-then-put-size-clause-pumped : goal.returns-then-put-size-clause-pumped
returns-then-put-size-clause-pumped g c =
    let b = c.in-Part.piece.bytes in
    let k = c.put_all-put.result in
    let p = c.put_all-put.ensures in
    let a = ap (λ (l : List ℕ). length l) c.as_slice.ensures in
    let z = ap (λ (l : List ℕ). length l) c.as_slice-size.ensures in
    let n = length-take-le k b (omega (arith, p.0, a)) in (
      c.in-Part.piece ∷ [],
      take k b,
      c.in-Part.ensures.next.0,
      p.1 ∙ ap (λ l. (g.O.Outlet.seen c.args.outlet.now).out ++ take k l) c.as_slice.ensures,
      (drop k b, take-append-drop k b ∙ sym (append-nil b)),
      omega (arith, n),
      refl,
      p.3 (omega (arith, c.if-put-size.true, a, z)),
    )

pub returns-then-piece-clause-pumped : goal.returns-then-piece-clause-pumped
returns-then-piece-clause-pumped g c =
    let b = c.in-Part.piece.bytes in
    let p = c.put_all-put.ensures in
    let a = ap (λ (l : List ℕ). length l) c.as_slice.ensures in
    let z = ap (λ (l : List ℕ). length l) c.as_slice-size.ensures in
    let all : c.put_all-put.result ≡ length b = omega (arith, p.0, c.if-put-size.false, a, z) in
    let whole = ap (λ l. take c.put_all-put.result l) c.as_slice.ensures ∙ take_all c.put_all-put.result b (omega (arith, all)) ∙ sym (append-nil b) in (
      c.in-Part.piece ∷ [],
      joined (c.in-Part.piece ∷ []),
      c.in-Part.ensures.next.0,
      p.1 ∙ ap (λ l. (g.O.Outlet.seen c.args.outlet.now).out ++ l) whole,
      ([], append-nil (joined (c.in-Part.piece ∷ []))),
      omega (arith, all, ap (λ (l : List ℕ). length l) (append-nil b)),
      refl,
      (refl, c.if-piece.true, c.in-Part.ensures.next.4 c.if-piece.true, p.2 (all ∙ sym a)),
    )
