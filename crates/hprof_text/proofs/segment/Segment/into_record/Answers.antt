use Rattle.std.proofs.Common.{◌∙◌, ap, arith, length, drop}
use Rattle.std.proofs.lemmas.List.{length-drop}
use Rattle.hprof_text.specs.Text.{record_of}
use Rattle.hprof_text.proofs.Lengths.{length-record_of}
use Rattle.hprof_text.proofs.segment.Segment.into_record.Goals as goal

pub returns-clause-value : goal.returns-clause-value
returns-clause-value c = c.from_vec.ensures ∙ c.into_vec.ensures ∙ c.set_head.ensures.written ∙ ap (record_of c.args.tag) c.self.view_is

pub returns-clause-limit : goal.returns-clause-limit
returns-clause-limit c = omega (arith, ap (λ l. length l) (c.from_vec.ensures ∙ c.into_vec.ensures ∙ c.set_head.ensures.written), length-record_of c.args.tag (drop 9 c.self.inside.buffer.written), length-drop 9 c.self.inside.buffer.written, c.self.invariant.0, c.self.invariant.1)
