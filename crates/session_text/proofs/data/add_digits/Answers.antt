use Rattle.std.proofs.Common.{◌≡◌, ◌≤◌, ◌+◌, ◌*◌, ◌++◌, length, length-append, List, ℕ, ap, sym, ◌∙◌, append_assoc, arith}
use Rattle.hex.specs.Hex.{encode_lower}
use Rattle.session_text.specs.declared.page.TheConstants.{PAGE_LIMIT}
use Rattle.session_text.proofs.Sizes.{hex-append, length-hex}
use Rattle.session_text.proofs.data.add_digits.Goals as goal

-- the reply buffer has room for the other digits
digits_have_room : (page rest first bytes : List ℕ) → page ++ encode_lower rest ≡ first ++ encode_lower bytes → length first + 2 * length bytes ≤ PAGE_LIMIT → length page + 2 * length rest ≤ PAGE_LIMIT
digits_have_room page rest first bytes e h =
    omega (arith, h, ap (λ l. length l) e, length-append {A = ℕ}, length-hex rest, length-hex bytes)

pub add_hex-requires : goal.add_hex-requires
add_hex-requires c =
    let left = digits_have_room c.loop-rest.page c.loop-rest.rest.now c.args.page.now c.args.bytes.now c.loop-rest.invariant c.requires in
    let s = c.split_at.ensures in
    omega (arith, left, s.front_len, s.back_len)

pub loop-rest-preserved : goal.loop-rest-preserved
loop-rest-preserved c =
    let run = c.split_at.result.0.now in
    let others = c.split_at.result.1.now in
    ap (λ l. l ++ encode_lower others) c.add_hex.ensures
    ∙ append_assoc c.loop-rest.page (encode_lower run) (encode_lower others)
    ∙ ap (λ l. c.loop-rest.page ++ l) (sym (hex-append run others))
    ∙ ap (λ l. c.loop-rest.page ++ encode_lower l) (sym c.split_at.ensures.by_index.0)
    ∙ c.loop-rest.invariant

pub add_hex-requires-2 : goal.add_hex-requires-2
add_hex-requires-2 c =
    digits_have_room c.loop-rest.page c.loop-rest.rest.now c.args.page.now c.args.bytes.now c.loop-rest.invariant c.requires
