use Rattle.std.proofs.Common.{◌∙◌, ◌++◌, ◌/◌, ◌%◌, ◌^◌, ap, [], ◌∷◌}
use Rattle.std.specs.Prelude.{codes}
use Rattle.hprof_text.specs.Text.{u4, header}
use Rattle.hprof_text.proofs.Appends.{four_appends_in_turn}
use Rattle.hprof_text.proofs.segment_bytes.SegmentBytes.header.Goals as goal

pub returns-clause-written : goal.returns-clause-written
unfolding header
returns-clause-written c =
    four_appends_in_turn c.args.self.now.written c.bytes.new.self.written c.u4.new.self.written c.u4-2.new.self.written c.u4-3.new.self.written (codes "JAVA PROFILE 1.0.2" ++ 0 ∷ []) (u4 c.bytes-2.result) (u4 (c.args.time / 2 ^ 32)) (u4 (c.args.time % 2 ^ 32)) c.bytes.ensures.written c.u4.ensures.written c.u4-2.ensures.written c.u4-3.ensures.written
    ∙ ap (λ n. c.args.self.now.written ++ (codes "JAVA PROFILE 1.0.2" ++ 0 ∷ [] ++ u4 n ++ u4 (c.args.time / 2 ^ 32) ++ u4 (c.args.time % 2 ^ 32))) c.bytes-2.ensures
