use Rattle.std.proofs.Common.{[], ◌∷◌, ◌++◌, ap, ◌∙◌}
use Rattle.std.proofs.lemmas.List.{append_assoc}
use Rattle.heap_trail.specs.declared.Reply.TheVariants.{Answered}
use Rattle.session_text.specs.Replies.{answer_text, reply_text}
use Rattle.session_text.proofs.PageTexts.{cut_text_hides_later_text, added_then_here}
use Rattle.session_text.proofs.reply.write_answer.Goals as goal

pub returns-then-not-make_room : goal.returns-then-not-make_room
returns-then-not-make_room g c = cut_text_hides_later_text [] (reply_text (Answered c.args.answer)) c.args.page.now (g.O.Outlet.seen c.args.outlet.now) c.make_room.new.page (g.O.Outlet.seen c.make_room.new.outlet) c.make_room.new.page c.if-not-make_room.ensures.added

pub returns : goal.returns
returns g c = added_then_here (reply_text (Answered c.args.answer)) _ _ c.make_room.new.page (g.O.Outlet.seen c.make_room.new.outlet) c.add.new.self c.if-not-make_room.ensures.added
    (c.add.ensures ∙ ap (λ l. l ++ 10 ∷ []) c.add_answer.ensures.text ∙ append_assoc c.make_room.new.page (answer_text c.args.answer) (10 ∷ []))
