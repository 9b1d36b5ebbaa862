use Rattle.std.proofs.Common.{◌++◌, ◌∙◌, ap, sym}
use Rattle.hprof_text.specs.Records.{instance_head}
use Rattle.hprof_text.proofs.segment_bytes.SegmentBytes.instance_head.Goals as goal

pub returns-in-Eight-clause-written : goal.returns-in-Eight-clause-written
returns-in-Eight-clause-written c =
    c.bytes.ensures.written
    ∙ ap (λ h. c.args.self.now.written ++ h) c.head_of_eight.ensures
    ∙ ap (λ ids. c.args.self.now.written ++ instance_head ids c.args.object c.args.class c.args.size) (sym c.in-Eight.is)
