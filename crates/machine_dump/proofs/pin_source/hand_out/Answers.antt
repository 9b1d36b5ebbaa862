use Rattle.std.proofs.Common.{refl, sym, ap, ◌∙◌, Some, if◌then◌else◌}
use Rattle.dump_pump.specs.declared.source.SourceEnd.TheVariants.{Whole}
use Rattle.heap_trail.specs.Pins.{pin_at}
use Rattle.machine_dump.specs.SourceEnds.{may_lose}
use Rattle.machine_dump.proofs.PieceGiving.{part_reply_gives_piece, more_pieces_stay_below_limit, refused_piece_may_lose}
use Rattle.machine_dump.proofs.pin_source.hand_out.Goals as goal
use Rattle.machine_dump.proofs.pin_source.hand_out.Goals.{then-piece, else-piece}

pub returns-after-piece : goal.returns-after-piece
returns-after-piece c =
    let g = part_reply_gives_piece c.args.pin c.args.time c.args.machine.now c.piece.new.self c.in-Ok.piece c.in-Ok.ensures.done in (
      g,
      c.in-Ok.ensures.small,
      refl,
      elim c.if-piece.branch [
        | then-piece w ↦ w.ended-is ∙ ap (λ b. if b then Some Whole else c.args.ended.now) (sym w.if-piece.true)
        | else-piece w ↦ w.ended-is ∙ ap (λ b. if b then Some Whole else c.args.ended.now) (sym w.if-piece.false)
      ],
      more_pieces_stay_below_limit c.args.pin c.args.time c.args.count.now c.args.machine.now c.piece.new.self c.in-Ok.piece c.next_pin.ensures.dumpable g c.requires.counted,
    )

pub returns-in-Err : goal.returns-in-Err
returns-in-Err c = (
  c.in-Err.ensures.unchanged,
  refl,
  refl,
  ap (may_lose (pin_at c.args.pin c.args.machine.now.pins)) c.cause_of-cause.ensures ∙ refused_piece_may_lose c.args.pin c.args.time c.args.machine.now c.piece.new.self c.in-Err.refusal c.in-Err.ensures.refused,
)
