use Rattle.std.proofs.Common.{◌∙◌, ap, arith, length, length-append, append_assoc, ℕ, take, drop, ◌++◌}
use Rattle.std.specs.Prelude.{codes}
use Rattle.std.proofs.lemmas.List.{length-take-le, length-drop}
use Rattle.hex.specs.Hex.{encode_lower}
use Rattle.session_text.proofs.Sizes.{length-hex}
use Rattle.session_text.proofs.reply.add_object.Goals as goal

pub returns : goal.returns
returns c =
    let low = take 4 (drop 4 c.to_be_bytes.result) in
    record {
      text = c.add_hex.ensures ∙ ap (λ l. l ++ encode_lower low) c.add.ensures ∙ append_assoc c.args.page.now (codes "ok object 0x") (encode_lower low) ∙ ap (λ l. c.args.page.now ++ (codes "ok object 0x" ++ encode_lower (take 4 (drop 4 l)))) c.to_be_bytes.ensures;
      short = omega (arith, ap (λ l. length l) c.add.ensures, ap (λ l. length l) c.add_hex.ensures, ap (λ l. length l) c.to_be_bytes.ensures, length-append {A = ℕ}, length-hex low, length-take-le 4 (drop 4 c.to_be_bytes.result), length-drop 4 c.to_be_bytes.result);
    }
