use Rattle.std.proofs.Common.{codes}
use Rattle.heap_trail.specs.declared.Action.TheVariants.{Rewind}
use Rattle.session_grammar.specs.Grammar.{one_number}
use Rattle.session_text.proofs.QuickLines.{numbers_ask_by_keyword_rule, done_action_is_quick, rewind_rule}
use Rattle.session_text.proofs.mutator.answer_rewind.Goals as goal

pub returns : goal.returns
returns g c =
    let l = c.in-Some.ensures.line in
    let asks = numbers_ask_by_keyword_rule c.args.text.now (codes "rewind") 7 one_number (λ n. Rewind n) c.in-Some.n c.in-Some.end rewind_rule c.requires l.0 l.1 c.in-Some.ensures.number in
    done_action_is_quick g.C.Commands.acts c.args.text.now c.in-Some.end (Rewind c.in-Some.n) c.args.commands.now c.args.page.now (g.O.Outlet.seen c.args.writer.now) c.answer_action.new.commands c.answer_action.new.page (g.O.Outlet.seen c.answer_action.new.writer) c.answer_action.result c.quick_of-quick.result l.0 asks c.answer_action.ensures c.quick_of-quick.ensures
