use Rattle.std.proofs.Common.{◌++◌, drop, ap, ◌∙◌, arith}
use Rattle.std.proofs.lemmas.List.{length-drop}
use Rattle.byteorder.specs.Endian.{big_bytes}
use Rattle.hprof_records.proofs.WrittenHeads.{head_and_body_make_record}
use Rattle.hprof_records.proofs.head.write_head.Goals as goal

pub returns : goal.returns
returns c = ap (λ a. a ++ drop 9 c.args.bytes.now) c.copy_from_slice.ensures.after ∙ head_and_body_make_record c.args.tag c.write_u32.new.buf (drop 9 c.args.bytes.now) c.ranges.tag.fits (c.write_u32.ensures ∙ ap (big_bytes 4) (omega (arith, length-drop 9 c.args.bytes.now, c.requires.room, c.requires.fits)))
