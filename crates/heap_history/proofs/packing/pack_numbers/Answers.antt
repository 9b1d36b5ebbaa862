use Rattle.std.proofs.Common.{sym, ◌∙◌}
use Rattle.heap_history.proofs.Spare.{tells_deed, tells_answer}
use Rattle.heap_history.proofs.packing.pack_numbers.Goals as goal

pub returns-then-not-has_second : goal.returns-then-not-has_second
returns-then-not-has_second c = tells_deed _ c.args.seat c.args.deed c.args.answer (sym c.has_second.ensures ∙ c.if-not-has_second.true) c.join_packs.ensures

pub returns : goal.returns
returns c = tells_answer _ c.args.seat c.args.deed c.args.answer (sym c.has_second.ensures ∙ c.if-not-has_second.false) c.if-deed-ne0.false c.join_packs-2.ensures
