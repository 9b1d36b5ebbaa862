use Rattle.std.proofs.Common.{◌∙◌, ◌<◌, List, [], length, map, ap, subst, sym, arith}
use Rattle.std.specs.Prelude.{All, IfSome, Option}
use Rattle.std.proofs.lemmas.List.{length_push, map_push}
use Rattle.std.proofs.lemmas.List.Elements.{All-push}
use Rattle.heap_questions.specs.Distances.{AreNearest, distance_by}
use Rattle.heap_questions.specs.Hops.{TellsIds}
use Rattle.heap_questions.specs.PathsApart.{IsNextPath, route_of}
use Rattle.heap_questions.specs.Starts.{with_starts}
use Rattle.heap_questions.specs.declared.paths.Path.{Path}
use Rattle.heap_questions.proofs.PathStarts.{next_more}
use Rattle.heap_questions.proofs.apart.paths_apart.Goals as goal

pub next_path-requires-clause-near : goal.next_path-requires-clause-near
next_path-requires-clause-near g c =
    let d = distance_by c.in_ok-nodes.nodes c.as_slice-known.result.now in
    let registers = (with_starts (g.V.View.image c.args.view.now) []).registers in
    let few : length c.as_slice.result.now < c.args.most = omega (arith, ap length c.as_slice.ensures.value, c.loop-known-test.true) in
    (c.args.most, few, subst (AreNearest d registers (length registers) c.args.most) (sym c.as_slice-near.ensures.value) c.in_ok-starts.ensures)

pub loop-known-preserved : goal.loop-known-preserved
loop-known-preserved g c =
    let image = g.V.View.image c.args.view.now in
    let x = c.args.id in
    let old = c.loop-known.paths.items in
    let path = c.in-Some.path in
    let slice = c.as_slice.result.now in
    let added = c.in_ok-push-in-Some.ensures.items in
    let found = subst (λ (o : Option Path). IfSome o (λ p. IsNextPath image (map route_of slice) x (route_of p))) c.in-Some.is c.in_ok-path.ensures.next in
    let told = subst (λ (o : Option Path). IfSome o (TellsIds image)) c.in-Some.is c.in_ok-path.ensures.ids in
    let here = subst (λ (ps : List Path). IsNextPath image (map route_of ps) x (route_of path)) c.as_slice.ensures.value found in
    record {
      next = next_more image x (map route_of old) (map route_of c.push.new.self.items) (route_of path) (ap (map route_of) added ∙ map_push route_of old path) c.loop-known.invariant.next here;
      few = omega (arith, ap length added, length_push old path, c.loop-known-test.true);
      ids = subst (All (TellsIds image)) (sym added) (All-push (TellsIds image) old path c.loop-known.invariant.ids told);
    }
