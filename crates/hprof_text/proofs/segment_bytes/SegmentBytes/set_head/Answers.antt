use Rattle.std.proofs.Common.{◌++◌, length, drop, refl, ap, ◌∙◌, arith}
use Rattle.hprof_text.specs.Records.{record_head}
use Rattle.hprof_text.specs.Text.{record_of}
use Rattle.hprof_text.proofs.RecordOffers.{nine_bytes_over_first_nine}
use Rattle.hprof_text.proofs.segment_bytes.SegmentBytes.set_head.Goals as goal

pub returns-clause-written : goal.returns-clause-written
unfolding record_of
returns-clause-written c =
    let e = ap (λ b. b.written) c.self.view_is in
    let n = length (drop 9 c.self.inside.bytes.items) in
    nine_bytes_over_first_nine c.self.inside.bytes.len (record_head c.args.tag n) c.self.inside.bytes.items c.args.self.now.written c.write_head.new.bytes
    (c.write_head.ensures ∙ ap (λ l. record_of c.args.tag (drop 9 l)) c.deref_mut.ensures.value)
    (omega (arith, c.deref_mut.ensures.len, ap length c.deref_mut.ensures.value)) e c.requires.room refl
    ∙ ap (λ l. record_head c.args.tag (length (drop 9 l)) ++ drop 9 c.args.self.now.written) e
