use Rattle.std.proofs.Common.{◌∙◌, ap}
use Rattle.session_text.specs.Machine.{Machine, opening_machine}
use Rattle.session_text.specs.declared.commands.Local.{Local}
use Rattle.private_tasks.proofs.SavedRuns.{first_pin_is_one}
use Rattle.private_tasks.proofs.opening.open_local.Goals as goal

pub returns-in-Ok-clause-opening : goal.returns-in-Ok-clause-opening
returns-in-Ok-clause-opening c =
    ap (λ (l : Local). l.machine) c.new-local.ensures ∙ c.in-Ok.ensures.opened ∙ ap (λ s. opening_machine s.limits s.ids s.regions s.mutators s.keep) c.config.ensures

pub returns-in-Ok-clause-first : goal.returns-in-Ok-clause-first
returns-in-Ok-clause-first c =
    ap (λ (l : Local). l.first_pin) c.new-local.ensures
    ∙ ap (λ (m : Machine). m.pins.next) (c.in-Ok.ensures.opened ∙ ap (λ s. opening_machine s.limits s.ids s.regions s.mutators s.keep) c.config.ensures)
    ∙ first_pin_is_one c.args.settings.now
