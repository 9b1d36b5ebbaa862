use Rattle.std.proofs.Common.{◌∙◌, ◌∷◌, [], ap, inl, inr, refl, rules, sym}
use Rattle.heapdbg.proofs.page_exploration.explore_opened.Goals as goal

pub returns-in-Ok : goal.returns-in-Ok
returns-in-Ok g c =
    inl (
      c.in-Ok.ended,
      c.in_ok-seat.seat,
      c.serve_beside_page-served.new.commands,
      (
        c.new-seat.result,
        record { made = c.args.blank; is = c.requires.made; only = sym c.open-shared.ensures ∙ c.only_seat.ensures.only ∙ ap (λ s. s ∷ []) (sym c.new-seat.ensures.seat); legal = c.new-seat.ensures.legal; unnamed = c.new-seat.ensures.unnamed },
        c.in_ok-seat.ensures.run,
      ),
      rw c.session_limits-limits.ensures at c.in-Ok.ensures.served,
      c.outcome.ensures,
    )

pub returns-in_err-seat : goal.returns-in_err-seat
returns-in_err-seat g c = inr (_, inl c.in_err-seat.ensures.hindrance, search rules, refl, refl)
