use Rattle.std.proofs.Common.{◌<◌, length, map, get_or, sym, ap, ◌∙◌, arith, inl, inr}
use Rattle.std.specs.Prelude.{Some, ◌==◌}
use Rattle.std.specs.List.{list_any}
use Rattle.std.proofs.lemmas.Bool.{eq-eqb, eqb-true, true≢false}
use Rattle.std.proofs.lemmas.Option.{same_Some, slice_get-get_or, slice_get_within}
use Rattle.heap_questions.specs.PathsApart.{route_of}
use Rattle.heap_questions.specs.Starts.{starts_at}
use Rattle.heap_questions.proofs.PathStarts.{any_route, none_free_more}
use Rattle.heap_questions.proofs.StartSearch.{is_free, is_not_free}
use Rattle.heap_questions.proofs.apart.free_register.Goals as goal

pub returns-then-is_free-clause-some : goal.returns-then-is_free-clause-some
returns-then-is_free-clause-some c =
    let registers = c.args.registers.now in
    let paths = c.args.paths.now in
    let r = c.loop-r.r in
    let h : r < length registers = omega arith in
    let free = is_free (get_or registers r 0 == c.args.id) (list_any (λ p. starts_at r (route_of p)) paths) (sym c.is_free.ensures ∙ c.if-is_free.true) in
    record {
      names = slice_get-get_or registers r 0 h ∙ ap Some (eqb-true (get_or registers r 0) c.args.id free.0);
      free = sym (any_route (starts_at r) paths) ∙ free.1;
      first = c.loop-r.invariant;
    }

pub loop-r-preserved : goal.loop-r-preserved
loop-r-preserved c =
    let registers = c.args.registers.now in
    let paths = c.args.paths.now in
    let r = c.loop-r.r in
    let h : r < length registers = omega arith in
    none_free_more registers (map route_of paths) c.args.id r c.loop-r.invariant (λ e. elim (is_not_free (get_or registers r 0 == c.args.id) (list_any (λ p. starts_at r (route_of p)) paths) (sym c.is_free.ensures ∙ c.if-is_free.false)) [
      | inl other ↦ absurd (true≢false (sym (eq-eqb (get_or registers r 0) c.args.id (same_Some (get_or registers r 0) c.args.id (sym (slice_get-get_or registers r 0 h) ∙ e))) ∙ other))
      | inr used ↦ sym (any_route (starts_at r) paths) ∙ used
    ])

pub returns-clause-none : goal.returns-clause-none
returns-clause-none c q e = c.loop-r.invariant q (omega (arith, slice_get_within c.args.registers.now q c.args.id e)) e
