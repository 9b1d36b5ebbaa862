use Rattle.std.proofs.Common.{◌≡◌, ◌∙◌, ◌+◌, get_or, bit_or, bit_xor, arith, sym, subst, eq-eqb}
use Rattle.std.proofs.lemmas.Bool.{eqb-true}
use Rattle.secret_word.proofs.Differences.{IsDifference, difference_one_place_further, equal_word_has_no_difference, no_difference_means_word}
use Rattle.secret_word.proofs.secret.Secret.is_word.Goals as goal

pub loop-place-preserved : goal.loop-place-preserved
loop-place-preserved c =
    let size = c.self.inside.size in
    let room = c.self.inside.bytes in
    let d = c.loop-place.difference in
    subst (λ n. IsDifference (c.loop-place.place + 1) size c.args.line.now room (bit_or d (bit_xor n (get_or room c.loop-place.place 0)))) (sym c.byte_at.ensures)
    (difference_one_place_further c.loop-place.place size c.args.line.now room d c.loop-place.invariant)

pub returns : goal.returns
returns c =
    let size = c.self.inside.size in
    let room = c.self.inside.bytes in
    let d = c.loop-place.difference in
    let end : c.loop-place.place ≡ 64 = omega (arith, c.loop-place-test.false, c.loop-place.auto.place-end) in
    let all = subst (λ n. IsDifference n size c.args.line.now room d) end c.loop-place.invariant in (
      (λ t. no_difference_means_word size c.args.line.now room d c.self.invariant all (eqb-true d 0 t) ∙ c.self.view_is),
      (λ e. eq-eqb d 0 (equal_word_has_no_difference size c.args.line.now room d c.self.invariant all (e ∙ sym c.self.view_is))),
    )
