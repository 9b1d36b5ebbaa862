use Rattle.std.proofs.Common.{ap, subst, arith}
use Rattle.dump_pump.specs.Sources.{IsNextPart, more, parts_in}
use Rattle.dump_pipe.specs.Batches.{parts_left}
use Rattle.dump_pipe.specs.BatchedSources.{batched_supply}
use Rattle.dump_pipe.proofs.BatchStreams.{batch_given_is_next_part}
use Rattle.dump_pipe.proofs.batched_source.BatchedSourceSource.next.Goals as goal

pub next_batch-next-requires : goal.next_batch-next-requires
next_batch-next-requires g c =
    let i = c.self.invariant in
    (more g.B.PartsBefore.told i.parts, i.ahead, omega (arith, c.requires, ap (λ v. parts_left v.surplus (g.S.Source.seen v.source).left) c.self.view_is))

pub invariant_of-self : goal.invariant_of-self
invariant_of-self g c =
    let s = c.self.inside in
    let n = c.next_batch-next in
    let t = c.note-self-inside in
    (batch_given_is_next_part g.B.PartsBefore.told (g.S.Source.seen s.source) (g.S.Source.seen n.new.source) (parts_in s.given.items) _ s.ended _ s.surplus n.new.surplus n.result t.ensures.given t.ensures.ended c.self.invariant n.ensures.batch).0

pub returns-clause-next : goal.returns-clause-next
returns-clause-next g c =
    let s = c.self.inside in
    let n = c.next_batch-next in
    let t = c.note-self-inside in
    subst (λ v. IsNextPart (batched_supply v.given v.ended v.surplus (g.S.Source.seen v.source).left) (batched_supply (parts_in t.new.given.items) t.result n.new.surplus (g.S.Source.seen n.new.source).left) n.result) c.self.view_is
    (batch_given_is_next_part g.B.PartsBefore.told (g.S.Source.seen s.source) (g.S.Source.seen n.new.source) (parts_in s.given.items) _ s.ended _ s.surplus n.new.surplus n.result t.ensures.given t.ensures.ended c.self.invariant n.ensures.batch).1
