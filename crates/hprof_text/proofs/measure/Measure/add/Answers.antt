use Rattle.std.proofs.Common.{◌≡◌, ◌+◌, ◌<◌, ap, arith}
use Rattle.hprof_text.proofs.AddedSizes.{size_after_empty_body_opens, size_joins_open_segment, size_closes_full_segment, sub_record_has_segment_room, size_over_segment_limit}
use Rattle.hprof_text.proofs.measure.Measure.add.Goals.{else-self-ne0-via-then-self-ne0+else-self-size-gt-SEGMENT_LIMIT, else-self-ne0-via-else-self-ne0}
use Rattle.hprof_text.proofs.measure.Measure.add.Goals as goal

pub returns-then-self-size-gt-SEGMENT_LIMIT-clause-added : goal.returns-then-self-size-gt-SEGMENT_LIMIT-clause-added
returns-then-self-size-gt-SEGMENT_LIMIT-clause-added c = λ more.
    let body = c.args.self.now.body in
    let size = c.args.size in
    let some : 0 < body = omega (arith, c.if-self-ne0.true) in
    let e = size_closes_full_segment body size more some c.requires.some (size_over_segment_limit (body + size) (omega (arith, c.if-self-size-gt-SEGMENT_LIMIT.true))) in
    omega (arith, e)

pub returns-else-self-ne0-clause-added : goal.returns-else-self-ne0-clause-added
returns-else-self-ne0-clause-added c = λ more.
    let body = c.args.self.now.body in
    let size = c.args.size in
    elim c.else-self-ne0.branch [
      | else-self-ne0-via-then-self-ne0+else-self-size-gt-SEGMENT_LIMIT w ↦
          let some : 0 < body = omega (arith, w.if-self-ne0.true) in
          ap (λ n. c.args.self.now.closed + n) (size_joins_open_segment body size more some (sub_record_has_segment_room (body + size) (omega (arith, w.if-self-size-gt-SEGMENT_LIMIT.false))))
      | else-self-ne0-via-else-self-ne0 w ↦
          let none : body ≡ 0 = omega (arith, w.if-self-ne0.false) in
          ap (λ n. c.args.self.now.closed + n) (size_after_empty_body_opens body size more none c.requires.some)
    ]
