use Rattle.std.proofs.Common.{[], ◌∷◌, ◌++◌, ap, sym, ◌∙◌, take, drop}
use Rattle.std.specs.Prelude.{codes}
use Rattle.std.proofs.lemmas.List.{append_assoc}
use Rattle.hex.specs.Hex.{encode_lower}
use Rattle.heap_step.specs.declared.Answer.TheVariants.{Object}
use Rattle.heap_trail.specs.declared.Reply.TheVariants.{Answered}
use Rattle.session_text.specs.Replies.{reply_text}
use Rattle.session_text.proofs.PageTexts.{added_then_here}
use Rattle.session_text.proofs.reply.write_object.Goals as goal

pub returns : goal.returns
returns g c =
    let low = take 4 (drop 4 c.to_be_bytes.result) in
    let page = c.make_room.new.page in
    added_then_here (reply_text (Answered (Object c.args.id))) _ _ page (g.O.Outlet.seen c.make_room.new.outlet) c.add_hex_line.new.self c.if-not-make_room.ensures.added
    (c.add_hex_line.ensures ∙ ap (λ l. page ++ l) (sym (append_assoc (codes "ok object 0x") (encode_lower low) (10 ∷ [])))
    ∙ ap (λ l. page ++ ((codes "ok object 0x" ++ encode_lower (take 4 (drop 4 l))) ++ 10 ∷ [])) c.to_be_bytes.ensures)
