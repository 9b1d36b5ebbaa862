use Rattle.std.proofs.Common.{◌≡◌, ◌+◌, ◌++◌, ◌∷◌, [], take, List, sym, ap, subst, ◌∙◌, arith}
use Rattle.std.proofs.lemmas.List.{take_more}
use Rattle.heap_trail.specs.declared.Action.{Action}
use Rattle.heap_trail.specs.declared.Reply.{Reply}
use Rattle.heap_trail.specs.Machine.{MayDrive}
use Rattle.heap_trail.proofs.ActionLists.{driven_none, driven_more}
use Rattle.heap_trail.proofs.Machine.drive.Goals as goal

pub loop-action-init : goal.loop-action-init
loop-action-init c = (
  subst (λ (rs : List Reply). MayDrive c.args.self.now [] rs c.args.self.now) (sym c.in_ok-replies.ensures.items) (driven_none c.args.self.now),
  c.in_ok-replies.ensures.len,
  c.in_ok-replies.ensures.exact,
)

pub loop-action-preserved : goal.loop-action-preserved
loop-action-preserved c =
    let i = c.loop-action.action-index in
    let actions : take i c.args.actions.now ++ c.action-item.result ∷ [] ≡ take (i + 1) c.args.actions.now
    = ap (λ (a : Action). take i c.args.actions.now ++ a ∷ []) c.action-item.is ∙ sym (take_more c.args.actions.now i c.action-item.result c.loop-action-test.true) in (
      subst (λ (as' : List Action). MayDrive c.args.self.now as' c.push_reserved.new.self.items c.act.new.self) actions
          (subst (λ (rs : List Reply). MayDrive c.args.self.now (take i c.args.actions.now ++ c.action-item.result ∷ []) rs c.act.new.self) (sym c.push_reserved.ensures.items)
          (driven_more c.args.self.now (take i c.args.actions.now) c.loop-action.replies.items c.loop-action.self c.act.new.self c.action-item.result c.act.result c.loop-action.invariant.0 c.act.ensures.reply)),
      omega (arith, c.push_reserved.ensures.len, c.loop-action.invariant.1),
      c.push_reserved.ensures.capacity ∙ c.loop-action.invariant.2,
    )
